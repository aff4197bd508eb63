use Rattle.std.proofs.Common.{refl, ◌∙◌}
use Rattle.mw_term.specs.declared.side.Side.TheVariants.{Machine}
use Rattle.mw_rel.specs.Seen.{line_of}
use Rattle.mw_rel.specs.Views.{job_of}
use Rattle.mw_course.proofs.Boundaries.{own_later, ready, wide_set}
use Rattle.mw_course.proofs.StartListed.{line_listed}
use Rattle.mw_course.proofs.elements.relate_line.Goals as goal

pub expr_term-requires : goal.expr_term-requires
expr_term-requires c =
    ready (job_of c.args.job.now) _ _ _ _ (line_of c.args.line.now) c.args.job.now.is_job c.requires.own
    c.requires.line_of c.requires.few

pub returns-clause-own : goal.returns-clause-own
returns-clause-own c =
    own_later (job_of c.args.job.now) _ _ _ _ _ _ _ _ _ _ c.requires.own c.in_ok-term.ensures.made c.requires.few

pub returns-clause-wide : goal.returns-clause-wide
returns-clause-wide c =
    wide_set (job_of c.args.job.now) _ _ _ _ _ _ _ _ _ (line_of c.args.line.now) _ c.args.job.now.is_job
    c.requires.own c.requires.line_of c.in_ok-term.ensures.made c.requires.wide

pub returns-clause-related : goal.returns-clause-related
returns-clause-related c = record { term = c.in_ok-term.term; made = c.in_ok-term.ensures.made; terms = refl }

pub returns-clause-unwritten : goal.returns-clause-unwritten
returns-clause-unwritten c = c.in_ok-term.ensures.made.runs.writes.each Machine ∙ c.requires.unwritten

pub returns-clause-listed : goal.returns-clause-listed
returns-clause-listed c =
    let now = c.expr_term.new in
    line_listed (job_of c.args.job.now) _ now.terms _ now.words _ now.memory _ _ (line_of c.args.line.now) _
    c.args.job.now.is_job c.requires.own c.requires.unwritten c.in_ok-term.ensures.listed
