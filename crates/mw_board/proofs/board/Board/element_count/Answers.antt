use Rattle.std.proofs.Common.{◌≡◌, ◌∙◌, ap, length, List, ℕ, sym, rules}
use Rattle.std.specs.Borrow.{Bor}
use Rattle.std.proofs.lemmas.List.{length-map}
use Rattle.mw_board.specs.Elements.{names_behind_of}
use Rattle.mw_board.proofs.Elements.{count_is}
use Rattle.mw_board.proofs.board.Board.element_count.Goals as goal

pub returns : goal.returns
returns c =
    let flipflops : c.as_slice.result.now ≡ c.args.self.now.flipflop = search rules in
    let behind : length c.names_behind.result.now ≡ length (names_behind_of c.args.self.now) =
    sym (length-map c.names_behind.result.now (λ (name : Bor (List ℕ)). name.now)) ∙ ap length c.names_behind.ensures in
    rw (flipflops, behind) (sym (count_is c.args.self.now))
