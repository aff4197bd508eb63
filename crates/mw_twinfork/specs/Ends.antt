-- How twin cases end.
use Rattle.std.specs.Prelude.{◌≡◌, Bool, true, false, List, Option, Some, None}
use Rattle.mw_revise.specs.declared.programs.Side.TheVariants.{New, Old}
use Rattle.mw_revise.specs.Revision.{Revision}
use Rattle.mw_revise.specs.TwinBudgets.{IsTwinStartAt}
use Rattle.mw_revise.specs.TwinCase.{end_on, twin_case}
use Rattle.mw_revise.specs.TwinStart.{TwinStart}
use Rattle.mw_symboard.specs.Turns.{Symbolic}
use Rattle.mw_term.specs.declared.decided.Decided.{Decided}
use Rattle.mw_twin.specs.RevisedBlocks.{RevisedBlock}
use Rattle.mw_twinfork.specs.declared.twins.TwinEnd.{TwinEnd}
use Rattle.mw_twinfork.specs.declared.twins.TwinEnd.TheVariants.{LateNew, LateOld, Reached}

-- a twin start's segments end so: each after so many cycles at a boundary, or late
abbrev pub EndsAs : Revision → TwinStart → TwinEnd → Type 0
EndsAs revision twins LateOld = end_on Old revision twins ≡ None
EndsAs revision twins (LateNew before) =
    (end_on Old revision twins ≡ Some before) × (end_on New revision twins ≡ None)
EndsAs revision twins (Reached before after) =
    (end_on Old revision twins ≡ Some before) × (end_on New revision twins ≡ Some after)

-- so do those of each twin start at the block with this case, with waits or without
abbrev pub EndsEach : RevisedBlock → (bits : List Decided) → TwinEnd → Type 0
EndsEach s bits end = (twins : TwinStart) → IsTwinStartAt s.revision s.block twins → twin_case s.revision twins ≡ bits
    → EndsAs s.revision twins end

-- the end of a case whose course has ended with these boards, late or not
abbrev pub end_in : (late : Bool) → (old_board : Symbolic) → (new_board : Option Symbolic) → TwinEnd
end_in late old_board None = LateOld
end_in true old_board (Some new_board) = LateNew old_board.place.cycle
end_in false old_board (Some new_board) = Reached old_board.place.cycle new_board.place.cycle
