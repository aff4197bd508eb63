use Rattle.std.proofs.Common.{◌≡◌, Ok}
use Rattle.mw_board.specs.Check.{check_of}
use Rattle.mw_board.proofs.Valid.{is_board}
use Rattle.mw_board.proofs.board.Board.parts.Goals as goal

pub returns-clause-valid : goal.returns-clause-valid
returns-clause-valid c =
    let kept : check_of c.args.self.now ≡ Ok tt = cc c.self.invariant.0 in
    is_board c.args.self.now kept
