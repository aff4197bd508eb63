use Rattle.std.proofs.Common.{◌∙◌, ap, take}
use Rattle.mw_cycle.specs.Environment.{Environment}
use Rattle.mw_cycle.proofs.Lists.{fronts_are, environment_with}
use Rattle.mw_cycle.proofs.environment.Env.shorten.Goals as goal

pub returns : goal.returns
returns c =
    let line = c.kept-line.result in
    let noise = c.kept-noise.result in
    let wait = c.kept-wait.result in
    let inputs = c.kept-inputs.result in
    let fronts = λ (env : Environment).
    environment_with (take line env.line) (take noise env.noise) (take wait env.wait) (take inputs env.inputs) in
    rw (
      c.truncate.ensures.items,
      c.truncate-2.ensures.items,
      c.truncate-3.ensures.items,
      c.truncate-4.ensures.items,
    )
    (ap fronts c.self.view_is
    ∙ fronts_are c.args.self.now line noise wait inputs c.kept-line.ensures.exact c.kept-noise.ensures.exact
    c.kept-wait.ensures.exact c.kept-inputs.ensures.exact)
