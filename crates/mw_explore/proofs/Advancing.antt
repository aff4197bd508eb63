-- How an explorer goes on.
use Rattle.std.proofs.Common.{◌≡◌, ◌<◌, List, length, [], ◌∷◌, ◌++◌, subst, sym, ◌∙◌}
use Rattle.std.specs.Prelude.{IsSome, OnOk, Option, Some, None, Result, Ok, Err}
use Rattle.std.specs.List.{AllZip}
use Rattle.std.specs.Option.{option_to_list}
use Rattle.mw_term.specs.declared.decided.Decided.{Decided}
use Rattle.mw_explore.specs.declared.stage.Stage.{Stage}
use Rattle.mw_explore.specs.declared.stage.Stage.TheVariants as stages
use Rattle.mw_explore.specs.declared.way.Kept.{Kept}
use Rattle.mw_explore.specs.Explorers.{AreWaiting, IsToBegin, Keeps, LeadsToNext, Stands, StandsAt, standing_of}
use Rattle.mw_explore.specs.Cases.{AreInOrder, Before, Leads, NoneIsToCome}
use Rattle.mw_explore.specs.KeptBits.{AreKeptBits}
use Rattle.mw_explore.specs.Ways.{all_turned, bits_of, turned_last}
use Rattle.mw_explore.proofs.Ordering.{leads_behind, leads_to_first, none_left}
use Rattle.mw_explore.proofs.Taking.{all_wait_on}
use Rattle.mw_explore.proofs.Waiting.{last_turned, some_last, zip_last}

module _ {Course Waiting : Type 0} (IsWaiting : Course → Waiting → List Decided → Type 0) where
  -- one waits
  pub one_waits : (stage : Stage Course) (course : Course) (way : List Kept) (waiting : List Waiting)
      (popped : Option Waiting) → stage ≡ stages.At course → IsToBegin IsWaiting stage way waiting → popped ≡ None
      → (0 < length waiting → IsSome popped) → ⊥
  one_waits stage course way waiting popped at begin none some =
      let all = subst (λ (s : Stage Course). IsToBegin IsWaiting s way waiting) at begin in
      let there : IsSome popped =
      some (some_last (λ turned w. IsWaiting course w (bits_of turned)) (all_turned [] way) way waiting all) in
      subst (λ (o : Option Waiting). IsSome o → ⊥) (sym none) (λ is. absurd cc) there

  -- it is the last that waits, and the others still do
  pub last_waits : (stage : Stage Course) (course : Course) (way : List Kept) (before after : List Waiting)
      (popped : Option Waiting) (next : Waiting) → stage ≡ stages.At course → IsToBegin IsWaiting stage way before
      → popped ≡ Some next → before ≡ after ++ option_to_list popped
      → AreWaiting (IsWaiting course) way after × IsWaiting course next (bits_of way)
  last_waits stage course way before after popped next at begin some is =
      let R = λ (turned : List Kept) (w : Waiting). IsWaiting course w (bits_of turned) in
      let all = subst (λ (s : Stage Course). IsToBegin IsWaiting s way before) at begin in
      zip_last R (all_turned [] way) way after next
      (subst (AllZip R (all_turned [] way ++ way ∷ [])) (is ∙ (λ i. after ++ option_to_list (some i))) all)

  -- the first course begins, and none waits
  pub begins_first : (IsCase : List Decided → Type 0) (HasCome : Course → List Decided → Type 0)
      (old new : Stage Course) (way : List Kept) (waiting : List Waiting) (course : Course) → old ≡ stages.Before
      → IsToBegin IsWaiting old way waiting → new ≡ stages.At course → HasCome course []
      → StandsAt IsCase HasCome IsWaiting new way waiting
  begins_first IsCase HasCome old new way waiting course is begin at come =
      let none = subst (λ (s : Stage Course). IsToBegin IsWaiting s way waiting) is begin in
      record {
        course = course;
        at = at;
        stands = subst (λ (kept : List Kept). Stands IsCase HasCome IsWaiting course kept waiting) (sym none.0)
            (subst (λ (ws : List Waiting). Stands IsCase HasCome IsWaiting course [] ws) (sym none.1)
            (record { has = come; kept = tt; waits = tt }));
      }

  -- ---- how the bits were turned

  -- those that wait at the turned bits, by what stands at a stage
  pub turned_waits : (IsCase : List Decided → Type 0) (HasGone : Course → List Decided → Type 0) (stage : Stage Course)
      (course : Course) (old new : List Kept) (waiting : List Waiting) → stage ≡ stages.At course
      → turned_last old ≡ Some new → Keeps IsCase HasGone IsWaiting stage old waiting
      → IsToBegin IsWaiting stage new waiting
  turned_waits IsCase HasGone stages.Before course old new waiting at turns keeps = absurd cc
  turned_waits IsCase HasGone (stages.At there) course old new waiting at turns keeps =
      subst (λ (bits : List (List Kept)). AllZip (λ turned w. IsWaiting there w (bits_of turned)) bits waiting)
      (last_turned old new turns) keeps.waits
  turned_waits IsCase HasGone stages.Behind course old new waiting at turns keeps = absurd cc

-- what an explorer keeps at its stage
pub kept_at : {Course Waiting : Type 0} (IsCase : List Decided → Type 0) (HasGone : Course → List Decided → Type 0)
    (IsWaiting : Course → Waiting → List Decided → Type 0) (stage : Stage Course) (course : Course) (way : List Kept)
    (waiting : List Waiting) → stage ≡ stages.At course → Keeps IsCase HasGone IsWaiting stage way waiting
    → Stands IsCase HasGone IsWaiting course way waiting
kept_at {Course} IsCase HasGone IsWaiting stage course way waiting at keeps =
    subst (λ (s : Stage Course). Keeps IsCase HasGone IsWaiting s way waiting) at keeps

-- ---- which case comes next

-- the first of all does
pub leads_first : {Course : Type 0} (IsCase : List Decided → Type 0) (stage : Stage Course) (way : List Kept)
    → AreInOrder IsCase → Leads IsCase [] → stage ≡ stages.Before → way ≡ []
    → LeadsToNext IsCase (standing_of stage way) way
leads_first {Course} IsCase stage way ordered some at none =
    subst (λ (s : Stage Course). LeadsToNext IsCase (standing_of s way) way) (sym at)
    (subst (LeadsToNext IsCase Before) (sym none) (leads_to_first IsCase ordered some))

-- turned bits lead to it
pub leads_turned : {Course : Type 0} (IsCase : List Decided → Type 0) (stage : Stage Course) (course : Course)
    (old new : List Kept) → AreInOrder IsCase → AreKeptBits IsCase [] old → stage ≡ stages.At course
    → turned_last old ≡ Some new → LeadsToNext IsCase (standing_of stage old) new
leads_turned {Course} IsCase stage course old new ordered kept at turns =
    subst (λ (s : Stage Course). LeadsToNext IsCase (standing_of s old) new) (sym at)
    (leads_behind IsCase old new ordered kept turns)

-- none does where none can be turned
pub leads_nowhere : {Course : Type 0} (IsCase : List Decided → Type 0) (stage : Stage Course) (course : Course)
    (old : List Kept) → AreKeptBits IsCase [] old → stage ≡ stages.At course → turned_last old ≡ None
    → NoneIsToCome IsCase (standing_of stage old)
leads_nowhere {Course} IsCase stage course old kept at none =
    subst (λ (s : Stage Course). NoneIsToCome IsCase (standing_of s old)) (sym at) (none_left IsCase old kept none)

-- before all cases no bit is kept
pub none_kept : {Course Waiting : Type 0} (IsCase : List Decided → Type 0) (HasGone : Course → List Decided → Type 0)
    (IsWaiting : Course → Waiting → List Decided → Type 0) (stage : Stage Course) (way : List Kept)
    (waiting : List Waiting) → stage ≡ stages.Before → Keeps IsCase HasGone IsWaiting stage way waiting → way ≡ []
none_kept {Course} IsCase HasGone IsWaiting stage way waiting at keeps =
    (subst (λ (s : Stage Course). Keeps IsCase HasGone IsWaiting s way waiting) at keeps).0

-- a course that was compared stands as it did
pub stands_still : {Course Waiting : Type 0} (IsCase : List Decided → Type 0)
    (HasGone : Course → List Decided → Type 0) (IsWaiting : Course → Waiting → List Decided → Type 0)
    (old new : Course) (way : List Kept) (waiting : List Waiting)
    → ((bits : List Decided) → HasGone old bits → HasGone new bits)
    → ((w : Waiting) (bits : List Decided) → IsWaiting old w bits → IsWaiting new w bits)
    → Stands IsCase HasGone IsWaiting old way waiting → Stands IsCase HasGone IsWaiting new way waiting
stands_still IsCase HasGone IsWaiting old new way waiting gone waits stands = record {
  has = gone (bits_of way) stands.has;
  kept = stands.kept;
  waits = all_wait_on (IsWaiting old) (IsWaiting new) way waiting waits stands.waits;
}

-- what follows from two facts about what was right
pub on_ok_both : {T E P Q R : Type 0} (r : Result T E) → (P → Q → R) → OnOk r P → OnOk r Q → OnOk r R
on_ok_both (Ok value) leads p q = leads p q
on_ok_both (Err fault) leads p q = tt
