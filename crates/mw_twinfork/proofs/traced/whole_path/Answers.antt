use Rattle.std.proofs.Common.{ap, sym, ◌∙◌}
use Rattle.mw_board.specs.declared.parts.BoardParts.{BoardParts}
use Rattle.mw_revise.specs.Revision.{Revision}
use Rattle.mw_twin.specs.RevisedBlocks.{RevisedBlock}
use Rattle.mw_twinfork.proofs.traced.whole_path.Goals as goal

pub returns-clause-paths : goal.returns-clause-paths
returns-clause-paths c = λ w is.
    c.in_ok-paths.ensures.paths w
    (is ∙ sym (ap (λ (s : RevisedBlock). s.revision.board.map_entries) c.revised.view_is)
    ∙ sym (ap (λ (r : Revision). r.board.map_entries) c.revision.view_is)
    ∙ ap (λ (b : BoardParts). b.map_entries) (sym c.parts.ensures.exact) ∙ sym c.as_slice.ensures)
