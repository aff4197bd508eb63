use Rattle.std.proofs.Common.{rules, ◌<◌, ◌^◌}
use Rattle.mw_revise.proofs.Ranges.{few_elements}
use Rattle.mw_revise.proofs.element.known_element.Goals as goal

pub overflow_cast-result : goal.overflow_cast-result
overflow_cast-result c =
    let few : c.in-Some.number < 2 ^ 32 = few_elements c.args.board.now c.in-Some.number c.parts.ensures.valid
    c.in-Some.ensures.there in
    search rules
