-- What the first segment of one of both programs decides, for the twin starts on a path.
use Rattle.std.proofs.Common.{◌≡◌, inl, inr, ℕ, zero, suc, ◌+◌, ◌<◌, ◌≤◌, List, length, Bool, true, false, Option}
use Rattle.std.proofs.Common.{Some, None, refl, sym, ap, subst, ◌∙◌, arith}
use Rattle.std.specs.Prelude.{All, slice_get, ◌==◌}
use Rattle.std.specs.Option.{unwrap_or}
use Rattle.std.proofs.lemmas.Bool.{cases_lt}
use Rattle.std.proofs.lemmas.Option.{slice_get-get_or}
use Rattle.mw_cycle.specs.Boundary.{first_boundary, is_named}
use Rattle.mw_cycle.specs.Decided.{decided}
use Rattle.mw_cycle.proofs.Times.{next_boundary}
use Rattle.mw_revise.specs.declared.keep.Block.{Block}
use Rattle.mw_revise.specs.declared.programs.Side.{Side}
use Rattle.mw_revise.specs.Revision.{Revision, store_of}
use Rattle.mw_revise.specs.TwinCase.{bits_of_segment, cycles_on, end_on}
use Rattle.mw_revise.specs.TwinStart.{TwinStart}
use Rattle.mw_segment.specs.Segments.{HasEnded, IsOnSegment, first_end}
use Rattle.mw_space.specs.declared.space.Space.{Space}
use Rattle.mw_symboard.specs.Laws.{run_in}
use Rattle.mw_symboard.specs.Paths.{IsNextBit}
use Rattle.mw_symboard.specs.Turns.{Symbolic}
use Rattle.mw_term.specs.Assigned.{Given}
use Rattle.mw_term.specs.declared.decided.Decided.{Decided}
use Rattle.mw_term.specs.declared.decided.DecidedKind.{DecidedKind}
use Rattle.mw_term.specs.Functions.{Function}
use Rattle.mw_term.specs.Values.{term_value}
use Rattle.mw_twin.specs.Grounds.{StandsForTwins, course_on}
use Rattle.mw_twin.specs.Origins.{ground_in, origin_on}
use Rattle.mw_twin.specs.Programs.{program_on}
use Rattle.mw_twin.proofs.SteadyTwins.{end_steady, segment_steady}

-- a run that was at these addresses after its first cycles, none of which is a boundary's, has no first boundary up to
-- there
none_passed : (addresses : List ℕ) (at : ℕ → ℕ) (passed : List ℕ) (n : ℕ)
    → ((k address : ℕ) → slice_get passed k ≡ Some address → at (k + 1) ≡ address)
    → All (λ address. is_named addresses address ≡ false) passed → 0 < n → n ≤ length passed
    → is_named addresses (at n) ≡ false
none_passed addresses at passed zero are none some within = absurd (omega (arith, some))
none_passed addresses at passed (suc k) are none some within =
    let inside : k < length passed = omega (arith, within) in
    let next : k + 1 ≡ suc k = omega arith in
    ap (is_named addresses) (sym (ap at next) ∙ are k _ (slice_get-get_or passed k 0 inside)) ∙ none k 0 inside

false_true : (b : Bool) → b ≡ false → b ≡ true → ⊥
false_true b unlike like = let same : false ≡ true = sym unlike ∙ like in absurd cc

beyond : (addresses : List ℕ) (at : ℕ → ℕ) (passed : List ℕ) (bound : ℕ) (end : Option ℕ)
    → ((k address : ℕ) → slice_get passed k ≡ Some address → at (k + 1) ≡ address)
    → All (λ address. is_named addresses address ≡ false) passed → length passed < bound
    → first_boundary addresses at bound ≡ end → length passed < unwrap_or end bound
beyond addresses at passed bound None are none below is = below
beyond addresses at passed bound (Some n) are none below is =
    let next = (next_boundary addresses at bound n is).0 in
    elim (cases_lt (length passed) n) [
      | inl h ↦ h
      | inr h ↦ absurd (false_true (is_named addresses (at n))
          (none_passed addresses at passed n are none next.later (omega (arith, h))) next.named)
    ]

-- ---- a segment that goes on

module _ (side : Side) (revision : Revision) (block : Block) (space : Space) (before after : List ℕ) (o : Symbolic)
    (bits : List Decided) (path : Function) where
  -- it has more cycles than have ended
  pub more_cycles : IsOnSegment (program_on side revision) space (origin_on side block (ground_in space before after)) o
      bits path → o.place.cycle < block.bound → (given : Given) (twins : TwinStart)
      → StandsForTwins revision block (ground_in space before after) given twins → path given ≡ true
      → o.place.cycle < cycles_on side revision twins
  more_cycles on below given twins stands holds =
      let x = course_on side twins in
      let same : twins.block ≡ block = stands.starts.there in
      let inside : length on.passed < twins.block.bound =
      omega (arith, on.count, subst (λ (b : Block). o.place.cycle < b.bound) (sym same) below) in
      let end = end_steady side revision twins (stands.unwaiting side) in
      let more = beyond (program_on side revision).addresses
      (λ n. (run_in revision.board (store_of side revision) x n).state.at) on.passed twins.block.bound
      (end_on side revision twins)
      (λ k address there. on.at_them given x (stands.boards side) holds k address there) on.none inside (sym end) in
      subst (λ (n : ℕ). n < cycles_on side revision twins) on.count more

  -- the bit that it asks for is the next of its decided bits
  pub next_in_segment : IsOnSegment (program_on side revision) space
      (origin_on side block (ground_in space before after)) o bits path → o.place.cycle < block.bound
      → (kind : DecidedKind) (term : ℕ)
      → IsNextBit revision.board (store_of side revision) space.terms space.words space.memory
      (origin_on side block (ground_in space before after)) o bits path kind term
      → (given : Given) (twins : TwinStart)
      → StandsForTwins revision block (ground_in space before after) given twins → path given ≡ true
      → slice_get (bits_of_segment side revision twins) (length bits)
      ≡ Some (decided kind (term_value space.terms given term == 1))
  next_in_segment on below kind term next given twins stands holds =
      let n = cycles_on side revision twins in
      let more = more_cycles on below given twins stands holds in
      ap (λ (ds : List Decided). slice_get ds (length bits))
      (segment_steady side revision twins n (stands.unwaiting side) refl)
      ∙ next given (course_on side twins) (stands.boards side) holds n more

  -- where it has ended, it ends so, and these are its decided bits
  pub ended_in_segment : (end : Option ℕ) → HasEnded (program_on side revision) block.bound space
      (origin_on side block (ground_in space before after)) o bits path end → unwrap_or end block.bound ≡ o.place.cycle
      → (given : Given) (twins : TwinStart)
      → StandsForTwins revision block (ground_in space before after) given twins → path given ≡ true
      → (end_on side revision twins ≡ end) × (bits_of_segment side revision twins ≡ bits)
  ended_in_segment end ended cycles given twins stands holds =
      let x = course_on side twins in
      let one = stands.boards side in
      let same : twins.block ≡ block = stands.starts.there in
      let is : end_on side revision twins ≡ end =
      end_steady side revision twins (stands.unwaiting side)
      ∙ ap (λ (b : Block). first_end (program_on side revision) b.bound x) same ∙ ended.ends given x one holds in
      let count : cycles_on side revision twins ≡ o.place.cycle =
      ap (λ (e : Option ℕ). unwrap_or e twins.block.bound) is
      ∙ ap (λ (b : Block). unwrap_or end b.bound) same ∙ cycles in (
        is,
        segment_steady side revision twins o.place.cycle (stands.unwaiting side) count
            ∙ ended.all given x one holds,
      )
