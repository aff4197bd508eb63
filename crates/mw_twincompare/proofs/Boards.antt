-- Where a segment of one of both programs has ended: what the run of a twin start comes to has the values of the board's
-- terms.
use Rattle.std.proofs.Common.{◌≡◌, ℕ, List, true, Some, None, refl, ap, sym, subst, ◌∙◌, map}
use Rattle.std.specs.Prelude.{option_map}
use Rattle.mw_base.specs.declared.event.Event.{Event}
use Rattle.mw_cycle.specs.Boundary.{first_segment}
use Rattle.mw_cycle.specs.Elements.{element}
use Rattle.mw_cycle.specs.State.{BoardState, Fits}
use Rattle.mw_course.proofs.TakenInputs.{TakeFrom, run_takes}
use Rattle.mw_cycle.specs.SteadyRun.{BoardRun as SteadyRun}
use Rattle.mw_revise.specs.declared.keep.Block.{Block}
use Rattle.mw_revise.specs.declared.programs.Side.{Side}
use Rattle.mw_revise.specs.Revision.{Revision, store_of}
use Rattle.mw_revise.specs.TwinDiffers.{segment_on}
use Rattle.mw_revise.specs.TwinStart.{TwinStart, run_on, start_on}
use Rattle.mw_segment.specs.Segments.{HasEnded}
use Rattle.mw_space.specs.declared.space.Space.{Space}
use Rattle.mw_symboard.proofs.Runs.{elements_have_terms}
use Rattle.mw_symboard.specs.Laws.{run_in}
use Rattle.mw_symboard.specs.Turns as boards
use Rattle.mw_symboard.specs.Turns.{Symbolic}
use Rattle.mw_symmach.specs.Steps.{event_of}
use Rattle.mw_symmem.specs.Memory.{FitImage, IsImage, held_by}
use Rattle.mw_term.specs.Assigned.{Given}
use Rattle.mw_term.specs.declared.decided.Decided.{Decided}
use Rattle.mw_term.specs.declared.event.SymEvent.{SymEvent}
use Rattle.mw_term.specs.declared.event.SymEvent.TheVariants.{Out, Taken}
use Rattle.mw_term.specs.declared.side.Side.{Side as MemorySide}
use Rattle.mw_term.specs.Functions.{Function}
use Rattle.mw_term.specs.Table.{Table}
use Rattle.mw_twin.proofs.OneSide.{ended_in_segment}
use Rattle.mw_twin.proofs.SteadyTwins.{run_steady}
use Rattle.mw_twin.specs.Grounds.{StandsForTwins, course_on}
use Rattle.mw_twin.specs.Origins.{ground_in, origin_on}
use Rattle.mw_twin.specs.Programs.{program_on}
use Rattle.mw_twincompare.specs.Ended.{HasComeTo}

-- its memory at the start is one that the base reads fit
pub record HasImage (side : Side) (space : Space) (given : Given) (twins : TwinStart) : Type 0 where
  pub image : IsImage space.memory (start_on side twins).state.memory
  pub fit : FitImage space.terms given space.memory.reads (start_on side twins).state.memory

-- an event has one value on both sides of a comparison
one_event : (t : Table) (given : Given) (e : SymEvent) → boards.event_of t given e ≡ event_of t given e
one_event t given (Out term) = refl
one_event t given (Taken term) = refl

same_events : (t : Table) (given : Given) (es : List SymEvent)
    → map (boards.event_of t given) es ≡ map (event_of t given) es
same_events t given es = ap (λ (f : SymEvent → Event). map f es) (λ i e. one_event t given e i)

module _ (side : Side) (revision : Revision) (block : Block) (space : Space) (old_elements new_elements : List ℕ)
    (o : Symbolic) (bits : List Decided) (path : Function) (given : Given) (twins : TwinStart)
    (stands : StandsForTwins revision block (ground_in space old_elements new_elements) given twins)
    (holds : path given ≡ true) where
  -- the memory with which it begins
  pub has_image : HasImage side space given twins
  has_image = record { image = (stands.boards side).fits.image; fit = (stands.boards side).fits.fit }

  -- a segment that is late isn't there
  pub late_segment : HasEnded (program_on side revision) block.bound space
      (origin_on side block (ground_in space old_elements new_elements)) o bits path None
      → block.bound ≡ o.place.cycle → segment_on side revision twins ≡ None
  unfolding first_segment
  late_segment ended cycles =
      ap (option_map (run_on side revision twins))
      (ended_in_segment side revision block space old_elements new_elements o bits path None ended cycles given twins
      stands holds).0

  -- where it has ended at a boundary
  pub has_come_to : HasEnded (program_on side revision) block.bound space
      (origin_on side block (ground_in space old_elements new_elements)) o bits path (Some o.place.cycle)
      → HasComeTo side revision space given twins o
  unfolding first_segment
  has_come_to ended =
      let board = revision.board in
      let store = store_of side revision in
      let x = course_on side twins in
      let n = o.place.cycle in
      let in_run = ended.path_is.in_run given x (stands.boards side) holds in
      let same = run_steady side revision twins n (stands.unwaiting side) in
      let ends = ended_in_segment side revision block space old_elements new_elements o bits path (Some n) ended refl
      given twins stands holds in
      let state = ap (λ (r : SteadyRun). r.state) same in
      let elements = (elements_have_terms board store space.terms space.words space.memory o).2 given x bits in_run in
      record {
        segment = ap (option_map (run_on side revision twins)) ends.0;
        fits = subst (Fits board) (sym state) in_run.state.fits;
        at = ap (λ (s : BoardState). s.at) state ∙ in_run.state.at;
        sp = ap (λ (s : BoardState). s.seq.sp) state ∙ in_run.state.sp;
        events = ap (λ (r : SteadyRun). r.events) same ∙ in_run.events ∙ same_events space.terms given o.events;
        takes = subst (TakeFrom (start_on side twins).env.inputs 0) (sym (ap (λ (r : SteadyRun). r.events) same))
            (run_takes board store x.env x.start n);
        elements = λ k below. ap (λ (s : BoardState). element board s k) state ∙ elements k below;
        memory = ap (λ (s : BoardState). s.memory) state
            ∙ subst (λ (own : MemorySide). (run_in board store x n).state.memory
            ≡ held_by space.terms given space.memory own (start_on side twins).state.memory) ended.path_is.side
            in_run.state.memory;
      }
