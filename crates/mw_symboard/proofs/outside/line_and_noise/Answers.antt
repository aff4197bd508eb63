use Rattle.std.proofs.Common.{ap, sym, ◌∙◌}
use Rattle.mw_cycle.specs.SteadySeries.{Noise, kind_of}
use Rattle.mw_term.specs.WordList.{Ended, with_variable}
use Rattle.mw_symmem.proofs.Later.{goes_then}
use Rattle.mw_symboard.specs.Kinds.{IsCycleKind}
use Rattle.mw_symboard.proofs.outside.line_and_noise.Goals as goal

pub returns-clause-line_wide : goal.returns-clause-line_wide
returns-clause-line_wide c = c.in_ok-noise.ensures.stays 1 c.in_ok-line.line c.in_ok-line.ensures.wide

pub returns-clause-listed : goal.returns-clause-listed
returns-clause-listed c = λ reads. (
  sym (ap (λ (x : Ended). x.term) (c.in_ok-line.ensures.listed reads)),
  ap (λ (x : Ended). with_variable (kind_of c.args.side Noise c.args.cycle) 14 x.list)
      (sym (c.in_ok-line.ensures.listed reads))
      ∙ sym (c.in_ok-noise.ensures.listed reads),
)

pub returns-clause-goes : goal.returns-clause-goes
returns-clause-goes c = λ taken m workspace.
    (let first = c.in_ok-line.ensures.goes taken m workspace in
    goes_then (IsCycleKind c.args.side c.args.cycle taken c.args.there) c.args.terms.now c.line.new.terms c.noise.new.terms
    c.args.words.now c.line.new.words c.noise.new.words m m m first
    (c.in_ok-noise.ensures.goes taken c.args.there m first.workspace))

pub returns-clause-widths : goal.returns-clause-widths
returns-clause-widths c = λ board are. c.in_ok-noise.ensures.widths board (c.in_ok-line.ensures.widths board are)
