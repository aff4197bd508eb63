use Rattle.std.proofs.Common.{◌≡◌, ◌∙◌, subst, sym, ap}
use Rattle.std.specs.Prelude.{Ok, Err}
use Rattle.mw_board.specs.declared.parts.BoardParts.{BoardParts}
use Rattle.mw_board.specs.Check.{check_of}
use Rattle.mw_board.specs.Order.{AreInOrder}
use Rattle.mw_cases.proofs.Accepted.{board_accepted, fields_in_order}
use Rattle.mw_cases.proofs.board.board.Goals as goal

pub new-requires : goal.new-requires
new-requires c =
    record {
      order =
          subst (λ (parts : BoardParts). AreInOrder parts.fields) (sym c.in_ok-parts.ensures) fields_in_order;
    }

pub unreachable-requires : goal.unreachable-requires
unreachable-requires c =
    let accepts : check_of c.in_ok-parts.field-0 ≡ Ok tt = ap check_of c.in_ok-parts.ensures ∙ board_accepted in
    let refuses : check_of c.in_ok-parts.field-0 ≡ Err c.in-Err.field-0 = c.in-Err.ensures.err in
    absurd cc
