-- When a twin start differs: by the first difference between the first segments of both programs.
use Rattle.std.specs.Prelude.{◌≡◌, ℕ, List, not, find, ◌==◌, ◌&&◌, if◌then◌else◌, Option, Some, None, option_map}
use Rattle.std.specs.Option.{option_or}
use Rattle.mw_base.specs.declared.event.Event.{Event}
use Rattle.mw_board.specs.declared.parts.BoardParts.{BoardParts}
use Rattle.mw_cycle.specs.State.{BoardState}
use Rattle.mw_cycle.specs.Boundary.{first_segment}
use Rattle.mw_cycle.specs.Run.{BoardRun}
use Rattle.mw_rel.specs.Differs.{first_unlike, same_event}
use Rattle.mw_revise.specs.declared.difference.TwinDifference.{TwinDifference}
use Rattle.mw_revise.specs.declared.difference.TwinDifference.TheVariants as differences
use Rattle.mw_revise.specs.declared.keep.Block.{Block}
use Rattle.mw_revise.specs.declared.programs.Side.{Side}
use Rattle.mw_revise.specs.declared.programs.Side.TheVariants.{Old, New}
use Rattle.mw_revise.specs.Elements.{element_in}
use Rattle.mw_revise.specs.Revision.{Revision, store_of, addresses_of, block_at}
use Rattle.mw_revise.specs.Together.{line_holds}
use Rattle.mw_revise.specs.TwinStart.{TwinStart, IsTwinStart, start_on}

-- the first event that differs
abbrev pub event_difference : (old_events new_events : List Event) → Option TwinDifference
event_difference old_events new_events =
    option_map (λ n. differences.Event n) (first_unlike same_event old_events new_events)

-- the boundary, where the new program isn't at the one that the old program has reached
abbrev pub boundary_difference : Block → (new_state : BoardState) → Option TwinDifference
boundary_difference reached new_state = if new_state.at == reached.after then None else Some differences.Boundary

-- the stack pointer, where one of both isn't the boundary's number
abbrev pub pointer_difference : Block → (old_state new_state : BoardState) → Option TwinDifference
pointer_difference reached old_state new_state =
    if (old_state.seq.sp == reached.sp) && (new_state.seq.sp == reached.sp) then None else Some differences.StackPointer

-- the element of the first line that fails
abbrev pub line_difference : BoardParts → Block → (old_state new_state : BoardState) → Option TwinDifference
line_difference board reached old_state new_state =
    option_map (λ line. differences.Element (element_in line))
    (find (λ line. not (line_holds board old_state new_state line)) reached.lines)

-- the least address with two contents
abbrev pub memory_difference : (old_memory new_memory : List ℕ) → Option TwinDifference
memory_difference old_memory new_memory =
    option_map (λ a. differences.Memory a) (first_unlike (λ x y. x == y) old_memory new_memory)

-- the first difference where the old program has reached a boundary: an event, the boundary, a stack pointer, a line,
-- a memory word
unfoldable pub difference_at : BoardParts → Block → (old_run new_run : BoardRun) → Option TwinDifference
difference_at board reached old_run new_run =
    option_or (event_difference old_run.events new_run.events)
    (option_or (boundary_difference reached new_run.state)
    (option_or (pointer_difference reached old_run.state new_run.state)
    (option_or (line_difference board reached old_run.state new_run.state)
    (memory_difference old_run.state.memory new_run.state.memory))))

-- the first segment of a program, where it keeps the bound of the boundary at which both begin; nothing where the
-- bound's number of cycles passes without a boundary
abbrev pub segment_on : Side → Revision → TwinStart → Option BoardRun
segment_on side revision twins =
    first_segment revision.board (store_of side revision) (start_on side twins).env (start_on side twins).state
    (addresses_of side revision) twins.block.bound

-- what both first segments show, where the old one ended at this boundary; a segment ends at one, so there is one
abbrev pub shown_at : Revision → Option Block → (old_run new_run : BoardRun) → Option TwinDifference
shown_at revision None old_run new_run = Some differences.LateOld
shown_at revision (Some reached) old_run new_run = difference_at revision.board reached old_run new_run

-- what first segments show: one that isn't there is late
abbrev pub shown_by : Revision → (old_segment new_segment : Option BoardRun) → Option TwinDifference
shown_by revision None new_segment = Some differences.LateOld
shown_by revision (Some old_run) None = Some differences.LateNew
shown_by revision (Some old_run) (Some new_run) =
    shown_at revision (block_at Old revision old_run.state.at) old_run new_run

-- the first difference that a twin start shows
unfoldable pub twin_difference : Revision → TwinStart → Option TwinDifference
twin_difference revision twins = shown_by revision (segment_on Old revision twins) (segment_on New revision twins)

-- a twin start differs: it shows this difference
pub record TwinDiffers (revision : Revision) (twins : TwinStart) (difference : TwinDifference) : Type 0 where
  pub begins : IsTwinStart revision twins
  pub shows : twin_difference revision twins ≡ Some difference
