use Rattle.std.proofs.Common.{◌≡◌, arith, rules}
use Rattle.mw_board.proofs.Elements.{count_of, words_few, words_least}
use Rattle.mw_cycle.proofs.elements.element_of.Goals as goal

pub overflow_cast-result-else-number-pc-3 : goal.overflow_cast-result-else-number-pc-3
overflow_cast-result-else-number-pc-3 c =
    let flipflops : c.as_slice.result.now ≡ c.args.board.now.flipflop = search rules in
    let count = count_of c.args.board.now in
    let few = words_few c.args.board.now in
    rw flipflops (omega arith)

pub returns-else-number-pc-3-clause-there : goal.returns-else-number-pc-3-clause-there
returns-else-number-pc-3-clause-there c =
    let flipflops : c.as_slice.result.now ≡ c.args.board.now.flipflop = search rules in
    let count = count_of c.args.board.now in
    let some = words_least c.args.board.now in
    rw flipflops (omega arith)
