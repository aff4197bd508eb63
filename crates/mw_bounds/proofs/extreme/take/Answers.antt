use Rattle.std.proofs.Common.{sym, ◌∙◌}
use Rattle.mw_rel.specs.Views.{job_of}
use Rattle.mw_bounds.proofs.Taking.{has_length, stays, taken}
use Rattle.mw_bounds.proofs.extreme.take.Goals as goal

pub returns-then-not-goes_beyond_shown-clause-taken : goal.returns-then-not-goes_beyond_shown-clause-taken
returns-then-not-goes_beyond_shown-clause-taken g c = λ cases next is.
    (let job = job_of c.args.job.now in
    let case = c.args.case.now in
    stays job c.args.fork.now.boundary c.args.side c.in_case-length.result c.args.shown.now cases case.prefix
    (sym c.goes_beyond_shown.ensures ∙ c.if-not-goes_beyond_shown.true) is
    (rw c.in_case-length.ensures (has_length job c.args.fork.now.boundary case.prefix case.cycles case.late
    c.requires.at.ends)) next)

pub returns-clause-taken : goal.returns-clause-taken
returns-clause-taken g c = λ cases next is.
    (let job = job_of c.args.job.now in
    let case = c.args.case.now in
    let at = c.requires.at.at in
    taken job c.args.fork.now.boundary c.args.side c.in_case-length.result c.in_ok-begin.begin c.args.shown.now cases
    case.prefix (sym c.goes_beyond_shown.ensures ∙ c.if-not-goes_beyond_shown.false) is
    (rw c.in_case-length.ensures (has_length job c.args.fork.now.boundary case.prefix case.cycles case.late
    c.requires.at.ends)) (c.in_ok-begin.ensures.of_case case.prefix at) (c.in_ok-begin.ensures.first case.prefix at))
