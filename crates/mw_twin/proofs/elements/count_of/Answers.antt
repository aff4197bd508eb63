use Rattle.std.proofs.Common.{arith}
use Rattle.mw_twin.proofs.ElementLines.{few_elements}
use Rattle.mw_twin.proofs.elements.count_of.Goals as goal

pub overflow_cast-result : goal.overflow_cast-result
overflow_cast-result c = omega (arith, c.element_count.ensures, few_elements c.args.board.now c.parts.ensures.valid)

pub returns-clause-few : goal.returns-clause-few
returns-clause-few c = omega (arith, c.element_count.ensures, few_elements c.args.board.now c.parts.ensures.valid)
