-- What twin cases decide, by the segments of both programs.
use Rattle.std.proofs.Common.{◌≡◌, ℕ, ◌<◌, List, [], ◌++◌, append-nil, length, Bool, true, false}
use Rattle.std.proofs.Common.{Option, Some, None, refl, sym, ap, ap₂, ◌∙◌}
use Rattle.std.specs.Prelude.{slice_get, ◌==◌, ◌&&◌, if◌then◌else◌}
use Rattle.std.specs.Option.{is_none, unwrap_or}
use Rattle.mw_cycle.specs.Decided.{decided}
use Rattle.mw_revise.specs.declared.keep.Block.{Block}
use Rattle.mw_revise.specs.declared.programs.Side.TheVariants.{Old, New}
use Rattle.mw_revise.specs.Revision.{Revision}
use Rattle.mw_revise.specs.TwinCase.{bits_of_segment, end_on, twin_case}
use Rattle.mw_revise.specs.TwinStart.{TwinStart}
use Rattle.mw_segment.specs.Segments.{HasEnded, IsOnSegment}
use Rattle.mw_space.specs.declared.space.Space.{Space}
use Rattle.mw_symboard.specs.Paths.{IsNextBit}
use Rattle.mw_symboard.specs.Turns.{Symbolic}
use Rattle.mw_symboard.proofs.RunBits.{get_behind}
use Rattle.mw_symmem.proofs.Lists.{behind}
use Rattle.mw_term.specs.Assigned.{Given}
use Rattle.mw_term.specs.Cofactors.{Agree}
use Rattle.mw_term.specs.declared.decided.Decided.{Decided}
use Rattle.mw_term.specs.declared.decided.DecidedKind.{DecidedKind}
use Rattle.mw_term.specs.Functions.{Function}
use Rattle.mw_term.specs.Values.{term_value}
use Rattle.mw_twin.specs.Grounds.{StandsForTwins}
use Rattle.mw_twin.specs.Origins.{ground_in, origin_on}
use Rattle.mw_twin.specs.Programs.{program_on}
use Rattle.mw_twin.specs.TwinPaths.{HasTwinCase, IsNextOfTwins}
use Rattle.mw_twin.proofs.OneSide.{ended_in_segment, next_in_segment}

-- a case begins with the bits of the old segment
old_first : (revision : Revision) (twins : TwinStart)
    → (rest : List Decided) × (twin_case revision twins ≡ bits_of_segment Old revision twins ++ rest)
unfolding twin_case
old_first revision twins = (_, refl)

-- behind them are those of the new one, where the old one isn't late
old_late : (revision : Revision) (twins : TwinStart) → end_on Old revision twins ≡ None
    → twin_case revision twins ≡ bits_of_segment Old revision twins
unfolding twin_case
old_late revision twins late =
    ap (λ (e : Option ℕ). bits_of_segment Old revision twins
    ++ (if is_none e then [] else bits_of_segment New revision twins)) late
    ∙ append-nil (bits_of_segment Old revision twins)

old_ended : (revision : Revision) (twins : TwinStart) (n : ℕ) → end_on Old revision twins ≡ Some n
    → twin_case revision twins ≡ bits_of_segment Old revision twins ++ bits_of_segment New revision twins
unfolding twin_case
old_ended revision twins n ended =
    ap (λ (e : Option ℕ). bits_of_segment Old revision twins
    ++ (if is_none e then [] else bits_of_segment New revision twins)) ended

-- what is both is each
pub both_true : (a b : Bool) → (a && b) ≡ true → (a ≡ true) × (b ≡ true)
both_true true true is = (refl, refl)
both_true true false is = absurd cc
both_true false b is = absurd cc

module _ (revision : Revision) (block : Block) (space : Space) (before after : List ℕ) where
  -- a bit that the old segment asks for is the next of the case
  pub next_of_old : (o : Symbolic) (bits : List Decided) (path : Function)
      → IsOnSegment (program_on Old revision) space (origin_on Old block (ground_in space before after)) o bits path
      → o.place.cycle < block.bound → (kind : DecidedKind) (term : ℕ)
      → IsNextBit revision.board revision.before space.terms space.words space.memory
      (origin_on Old block (ground_in space before after)) o bits path kind term
      → IsNextOfTwins revision block (ground_in space before after) bits path kind term
  next_of_old o bits path on below kind term next given twins stands holds =
      let first = old_first revision twins in
      ap (λ (ds : List Decided). slice_get ds (length bits)) first.1
      ∙ behind (bits_of_segment Old revision twins) first.0 (length bits)
      (decided kind (term_value space.terms given term == 1))
      (next_in_segment Old revision block space before after o bits path on below kind term next given twins stands
      holds)

  -- the bits of an old segment that is late are all of the case
  pub late_case : (o : Symbolic) (bits : List Decided) (path : Function)
      → HasEnded (program_on Old revision) block.bound space (origin_on Old block (ground_in space before after)) o bits
      path None → block.bound ≡ o.place.cycle
      → HasTwinCase revision block (ground_in space before after) path bits
  late_case o bits path ended bound given twins stands holds =
      let is = ended_in_segment Old revision block space before after o bits path None ended bound given twins stands
      holds in
      old_late revision twins is.0 ∙ is.1

  -- and behind those of one that has ended at a boundary are those of the new segment
  behind_old : (o : Symbolic) (bits : List Decided) (path : Function)
      → HasEnded (program_on Old revision) block.bound space (origin_on Old block (ground_in space before after)) o bits
      path (Some o.place.cycle) → (given : Given) (twins : TwinStart)
      → StandsForTwins revision block (ground_in space before after) given twins → path given ≡ true
      → twin_case revision twins ≡ bits ++ bits_of_segment New revision twins
  behind_old o bits path ended given twins stands holds =
      let is = ended_in_segment Old revision block space before after o bits path (Some o.place.cycle) ended refl given
      twins stands holds in
      old_ended revision twins o.place.cycle is.0
      ∙ ap (λ (ds : List Decided). ds ++ bits_of_segment New revision twins) is.1

  -- a bit that the new segment asks for is the next of the case
  pub next_of_new : (old o : Symbolic) (old_bits own bits : List Decided) (old_path along path : Function)
      → HasEnded (program_on Old revision) block.bound space (origin_on Old block (ground_in space before after)) old
      old_bits old_path (Some old.place.cycle)
      → IsOnSegment (program_on New revision) space (origin_on New block (ground_in space before after)) o own along
      → bits ≡ old_bits ++ own → Agree path (λ given. old_path given && along given)
      → o.place.cycle < block.bound → (kind : DecidedKind) (term : ℕ)
      → IsNextBit revision.board revision.after space.terms space.words space.memory
      (origin_on New block (ground_in space before after)) o own along kind term
      → IsNextOfTwins revision block (ground_in space before after) bits path kind term
  next_of_new old o old_bits own bits old_path along path ended on met both below kind term next given twins stands
      holds =
      let each = both_true (old_path given) (along given) (sym (both given) ∙ holds) in
      let segment = bits_of_segment New revision twins in
      ap₂ (λ (ds : List Decided) (k : ℕ). slice_get ds k)
      (behind_old old old_bits old_path ended given twins stands each.0) (ap length met)
      ∙ get_behind old_bits own segment
      ∙ next_in_segment New revision block space before after o own along on below kind term next given twins stands
      each.1

  -- the bits of both segments are all of the case
  pub both_case : (old o : Symbolic) (old_bits own bits : List Decided) (old_path along path : Function)
      (end : Option ℕ)
      → HasEnded (program_on Old revision) block.bound space (origin_on Old block (ground_in space before after)) old
      old_bits old_path (Some old.place.cycle)
      → HasEnded (program_on New revision) block.bound space (origin_on New block (ground_in space before after)) o own
      along end → unwrap_or end block.bound ≡ o.place.cycle
      → bits ≡ old_bits ++ own → Agree path (λ given. old_path given && along given)
      → HasTwinCase revision block (ground_in space before after) path bits
  both_case old o old_bits own bits old_path along path end ended new_ended cycles met both given twins stands holds =
      let each = both_true (old_path given) (along given) (sym (both given) ∙ holds) in
      let is = ended_in_segment New revision block space before after o own along end new_ended cycles given twins
      stands each.1 in
      behind_old old old_bits old_path ended given twins stands each.0
      ∙ ap (λ (ds : List Decided). old_bits ++ ds) is.1 ∙ sym met
