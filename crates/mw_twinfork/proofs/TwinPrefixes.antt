-- Paths of decided bits of twin starts, and which bits are feasible.
use Rattle.std.proofs.Common.{◌≡◌, ℕ, List, [], ◌∷◌, ◌++◌, length, drop, ap, sym, subst, ◌∙◌, refl}
use Rattle.std.specs.Prelude.{Bool, true, ◌==◌, Some}
use Rattle.std.proofs.lemmas.Option.{same_Some}
use Rattle.mw_cycle.specs.Decided.{decided}
use Rattle.mw_revise.specs.declared.keep.Block.{Block}
use Rattle.mw_revise.specs.declared.programs.Side.{Side}
use Rattle.mw_revise.specs.declared.programs.Side.TheVariants.{New, Old}
use Rattle.mw_revise.specs.Revision.{Revision}
use Rattle.mw_revise.specs.TwinBudgets.{IsTwinPrefix, IsTwinStartAt}
use Rattle.mw_revise.specs.TwinCase.{twin_case}
use Rattle.mw_revise.specs.TwinStart.{TwinStart, start_on, twins_without_waits}
use Rattle.mw_revise.proofs.WithoutWaits.{thinned_are_twin_starts, twin_cases_are_thinned}
use Rattle.mw_symboard.proofs.RunBits.{and_rest, first_before, first_next, first_of}
use Rattle.mw_symboard.specs.Paths.{IsBy}
use Rattle.mw_symboard.specs.Seen.{AreFirst}
use Rattle.mw_term.specs.Assigned.{Given}
use Rattle.mw_term.specs.declared.decided.Decided.{Decided}
use Rattle.mw_term.specs.declared.decided.DecidedKind.{DecidedKind}
use Rattle.mw_term.specs.Functions.{Function}
use Rattle.mw_term.specs.Values.{term_value}
use Rattle.mw_twin.specs.Grounds.{HaveTwinStarts, StandsForTwins}
use Rattle.mw_twin.specs.Origins.{Ground}
use Rattle.mw_twin.specs.TwinPaths.{IsNextOfTwins, IsTwinPath}

-- ---- without waits

-- no clock of a twin start without waits waits
pub unwaiting : (revision : Revision) (twins : TwinStart) (side : Side)
    → (start_on side (twins_without_waits revision twins)).env.wait ≡ []
unwaiting revision twins Old = refl
unwaiting revision twins New = refl

-- without its waits a twin start at a block is one
pub start_without : (revision : Revision) (block : Block) (twins : TwinStart) → IsTwinStartAt revision block twins
    → IsTwinStartAt revision block (twins_without_waits revision twins)
start_without revision block twins starts =
    record { begins = thinned_are_twin_starts revision twins starts.begins; there = starts.there }

-- a twin start, with an assignment that is its own
pub record HasAssignment (revision : Revision) (block : Block) (g : Ground) (twins : TwinStart) : Type 0 where
  pub given : Given
  pub is : StandsForTwins revision block g given (twins_without_waits revision twins)
  pub bits : twin_case revision (twins_without_waits revision twins) ≡ twin_case revision twins

-- each twin start has one, without its waits
pub assignment_of : (revision : Revision) (block : Block) (g : Ground) (twins : TwinStart)
    → HaveTwinStarts revision block g → IsTwinStartAt revision block twins → HasAssignment revision block g twins
assignment_of revision block g twins have starts =
    let at = have.reached (twins_without_waits revision twins) (start_without revision block twins starts)
    (unwaiting revision twins) in
    record { given = at.0; is = at.1; bits = sym (twin_cases_are_thinned revision twins).bits }

-- its case begins with the bits with which that of the twin start does
first_without : (revision : Revision) (block : Block) (g : Ground) (bits : List Decided)
    → (feasible : IsTwinPrefix revision block bits) → HasAssignment revision block g feasible.twins
    → AreFirst bits (twin_case revision (twins_without_waits revision feasible.twins))
first_without revision block g bits feasible at =
    subst (AreFirst bits) (sym (at.bits ∙ feasible.bits_are)) (first_of bits feasible.rest)

-- ---- paths

-- the path by a value of the next bit is that of one bit more
pub path_by : (revision : Revision) (block : Block) (g : Ground) (bits : List Decided) (path next : Function)
    (kind : DecidedKind) (term : ℕ) (value : Bool) → IsTwinPath revision block g bits path
    → IsNextOfTwins revision block g bits path kind term → IsBy g.table term value path next
    → IsTwinPath revision block g (bits ++ decided kind value ∷ []) next
path_by revision block g bits path next kind term value cases asked by = record {
  first = λ given twins is holds.
      let so = by.so given holds in
      first_next bits (twin_case revision twins) (decided kind value) (cases.first given twins is so.0)
      (asked given twins is so.0 ∙ ap (λ (v : Bool). Some (decided kind v)) so.1);
  only = λ given twins is first.
      let split = first_before bits (twin_case revision twins) (decided kind value) first in
      let holds = cases.only given twins is split.0 in
      let same = same_Some (decided kind (term_value g.table given term == 1)) (decided kind value)
      (sym (asked given twins is holds) ∙ split.1) in
      by.only given holds (ap (λ (d : Decided). d.value) same);
}

-- where a path is true, its bits are feasible
pub feasible_there : (revision : Revision) (block : Block) (g : Ground) (bits : List Decided) (path : Function)
    (given : Given) → HaveTwinStarts revision block g → IsTwinPath revision block g bits path → path given ≡ true
    → IsTwinPrefix revision block bits
feasible_there revision block g bits path given have cases holds =
    let there = have.there given in
    record {
      twins = there.0;
      starts = there.1.starts;
      rest = drop (length bits) (twin_case revision there.0);
      bits_are = and_rest bits (twin_case revision there.0) (cases.first given there.0 there.1 holds);
    }

-- an assignment of a twin start whose case begins with some bits
pub record HasFirst (revision : Revision) (block : Block) (g : Ground) (bits : List Decided) : Type 0 where
  pub given : Given
  pub twins : TwinStart
  pub is : StandsForTwins revision block g given twins
  pub first : AreFirst bits (twin_case revision twins)

-- feasible bits have one
pub first_at : (revision : Revision) (block : Block) (g : Ground) (bits : List Decided)
    → HaveTwinStarts revision block g → IsTwinPrefix revision block bits → HasFirst revision block g bits
first_at revision block g bits have feasible =
    let at = assignment_of revision block g feasible.twins have feasible.starts in
    record {
      given = at.given;
      twins = twins_without_waits revision feasible.twins;
      is = at.is;
      first = first_without revision block g bits feasible at;
    }
