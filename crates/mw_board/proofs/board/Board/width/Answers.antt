use Rattle.std.proofs.Common.{ap, arith}
use Rattle.mw_board.specs.declared.parts.BoardParts.{BoardParts}
use Rattle.mw_board.proofs.board.Board.width.Goals as goal

pub unwrap-requires : goal.unwrap-requires
unwrap-requires c =
    let same = ap (λ (p : BoardParts). p.width) c.parts.ensures.exact in
    c.new.ensures.some.1
    (omega (arith, same, c.parts.ensures.valid.sizes.least), omega (arith, same, c.parts.ensures.valid.sizes.most))
