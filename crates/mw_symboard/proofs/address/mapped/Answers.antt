use Rattle.std.proofs.Common.{◌≡◌, ap, sym, ◌∙◌}
use Rattle.std.specs.Prelude.{◌==◌}
use Rattle.mw_board.specs.declared.parts.BoardParts.{BoardParts}
use Rattle.mw_cycle.specs.LeavingWords.{entry_words}
use Rattle.mw_symboard.proofs.Listing.{constant_lists}
use Rattle.mw_symboard.proofs.address.mapped.Goals as goal

pub returns-in-0-clause-listed : goal.returns-in-0-clause-listed
returns-in-0-clause-listed c =
    let board = c.args.board.now in
    let none : board.map_bits ≡ 0 = ap (λ (p : BoardParts). p.map_bits) (sym c.parts.ensures.exact) ∙ c.in-0.is in
    constant_lists c.constant.result 0 12 _ c.args.terms.now c.constant.new.terms c.args.words.now
    (λ l. sym (ap (λ n. entry_words (n == 0) board c.args.ir l) none)) c.constant.ensures.listed
