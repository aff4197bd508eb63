use Rattle.std.proofs.Common.{ℕ, ◌<◌, ◌≤◌, ◌^◌, List, subst}
use Rattle.mw_board.specs.declared.parts.BoardParts.{BoardParts}
use Rattle.mw_board.specs.Depth.{depth_of}
use Rattle.mw_revise.specs.Revision.{Revision}
use Rattle.mw_symboard.specs.Kinds.{HaveWidths}
use Rattle.mw_symboard.specs.Parts.{AreElements}
use Rattle.mw_symboard.specs.Turns.{AreNoLater, IsSymbolic, Symbolic}
use Rattle.mw_symmem.specs.Memory.{IsOfWidth, Memory}
use Rattle.mw_term.specs.declared.side.Side.TheVariants.{Machine}
use Rattle.mw_term.specs.declared.word.Word.{Word}
use Rattle.mw_term.specs.Table.{Table}
use Rattle.mw_twin.specs.RevisedBlocks.{RevisedBlock}
use Rattle.mw_twin.proofs.segments.board_beside.Goals as goal

-- it may go on where its address, its stack pointer and its terms are those of a board
abbrev MayGoOn : BoardParts → (at sp : ℕ) → (elements : List ℕ) → (line : ℕ) → Symbolic → Type 0
MayGoOn board at sp elements line o = (store : List ℕ) (t : Table) (words : List Word) (m : Memory) → at < 2 ^ 12
    → sp ≤ depth_of board → AreElements board t elements → IsOfWidth t 1 line → HaveWidths Machine board t words
    → AreNoLater Machine 0 words → IsSymbolic board store t words m o

pub returns-clause-symbolic : goal.returns-clause-symbolic
returns-clause-symbolic c =
    let elements = c.args.elements.now in
    let line = c.args.line in
    let o = c.in_ok-board.board in
    let block = c.revised.inside.block.now in
    subst (λ (s : RevisedBlock). MayGoOn s.revision.board s.block.after s.block.sp elements line o) c.revised.view_is
    (subst (λ (r : Revision). MayGoOn r.board block.after block.sp elements line o) c.revision.view_is
    (subst (λ (at : ℕ). MayGoOn c.revision.inside.board at block.sp elements line o) c.address_on-address.ensures
    c.in_ok-board.ensures.symbolic))
