-- A bit more on a way.
use Rattle.std.proofs.Common.{◌≡◌, List, [], ◌∷◌, ◌++◌, append_assoc, append-nil, ap, sym, subst, ◌∙◌, refl}
use Rattle.std.specs.Prelude.{Bool, true, false, Option, Some, None, IfSome}
use Rattle.std.specs.List.{AllZip}
use Rattle.std.specs.Option.{is_some, option_to_list}
use Rattle.std.proofs.lemmas.List.{map-append}
use Rattle.mw_term.specs.declared.decided.Decided.{Decided}
use Rattle.mw_term.specs.declared.decided.DecidedKind.{DecidedKind}
use Rattle.mw_cycle.specs.Decided.{decided}
use Rattle.mw_explore.specs.declared.way.Kept.{Kept}
use Rattle.mw_explore.specs.Cases.{Leads}
use Rattle.mw_explore.specs.Explorers.{AreWaiting, Stands}
use Rattle.mw_explore.specs.KeptBits.{AreKeptBits, AreLeast, IsChosen, IsKeptBit, IsLeast, IsWayFrom}
use Rattle.mw_explore.specs.Ways.{all_turned, bits_of, kept_of, turned_behind}
use Rattle.mw_explore.proofs.Ordering.{kept_feasible}
use Rattle.mw_explore.proofs.Waiting.{more_fixed, more_turned, zip_map, zip_more}

-- ---- bits that are kept

-- one bit more is kept
kept_one : (IsCase : List Decided → Type 0) (before : List Decided) (xs : List Kept) (k : Kept)
    → AreKeptBits IsCase before xs → IsKeptBit IsCase (before ++ bits_of xs) k → AreKeptBits IsCase before (xs ++ k ∷ [])
kept_one IsCase before [] k are is =
    (subst (λ (bits : List Decided). IsKeptBit IsCase bits k) (append-nil before) is, tt)
kept_one IsCase before (x ∷ xs) k are is = (
  are.0,
  kept_one IsCase (before ++ x.bit ∷ []) xs k are.1
      (subst (λ (bits : List Decided). IsKeptBit IsCase bits k) (sym (append_assoc before (x.bit ∷ []) (bits_of xs))) is),
)

-- one bit more is the least
least_one : (IsCase : List Decided → Type 0) (before : List Decided) (xs : List Kept) (k : Kept)
    → AreLeast IsCase before xs → IsLeast IsCase (before ++ bits_of xs) k → AreLeast IsCase before (xs ++ k ∷ [])
least_one IsCase before [] k are is =
    (subst (λ (bits : List Decided). IsLeast IsCase bits k) (append-nil before) is, tt)
least_one IsCase before (x ∷ xs) k are is = (
  are.0,
  least_one IsCase (before ++ x.bit ∷ []) xs k are.1
      (subst (λ (bits : List Decided). IsLeast IsCase bits k) (sym (append_assoc before (x.bit ∷ []) (bits_of xs))) is),
)

-- the bits behind which it is decided lead to a case
pub way_leads : (IsCase : List Decided → Type 0) (way : List Kept) → Leads IsCase [] → AreKeptBits IsCase [] way
    → Leads IsCase (bits_of way)
way_leads IsCase way some kept = kept_feasible IsCase way [] some kept

-- it goes on with the bit that was decided
way_goes_on : (IsCase : List Decided → Type 0) (from old : List Kept) (kind : DecidedKind) (value other : Bool)
    → IsChosen IsCase (bits_of old) kind value other → IsWayFrom IsCase from old
    → IsWayFrom IsCase from (old ++ kept_of kind value other ∷ [])
way_goes_on IsCase from old kind value other is bits =
    let k = kept_of kind value other in
    let split : bits_of old ≡ bits_of from ++ bits_of bits.more =
    ap (λ (xs : List Kept). bits_of xs) bits.way_is ∙ map-append (λ (x : Kept). x.bit) from bits.more in
    record {
      kept = kept_one IsCase [] old k bits.kept is.kept;
      more = bits.more ++ k ∷ [];
      way_is = ap (λ (xs : List Kept). xs ++ k ∷ []) bits.way_is ∙ append_assoc from bits.more (k ∷ []);
      least = least_one IsCase (bits_of from) bits.more k bits.least
          (subst (λ (ds : List Decided). IsLeast IsCase ds k) split is.least);
    }

-- the decided bits with one more
pub bits_next : (kept : List Kept) (k : Kept) → bits_of (kept ++ k ∷ []) ≡ bits_of kept ++ k.bit ∷ []
bits_next kept k = map-append (λ (x : Kept). x.bit) kept (k ∷ [])

-- ---- those that wait

-- those that wait with one bit more, and maybe another one that waits for that
more_wait : {Waiting : Type 0} (IsWaiting : Waiting → List Decided → Type 0) (way : List Kept) (kind : DecidedKind)
    (value : Bool) (waiting : List Waiting) (other : Option Waiting) → AreWaiting IsWaiting way waiting
    → IfSome other (λ w. IsWaiting w (bits_of way ++ decided kind true ∷ []))
    → AreWaiting IsWaiting (way ++ kept_of kind value (is_some other) ∷ []) (waiting ++ option_to_list other)
more_wait {Waiting} IsWaiting way kind value waiting None all waits =
    subst (λ (ws : List Waiting). AreWaiting IsWaiting (way ++ kept_of kind value false ∷ []) ws)
    (sym (append-nil waiting))
    (subst (λ (bits : List (List Kept)). AllZip (λ turned w. IsWaiting w (bits_of turned)) bits waiting)
    (sym (more_fixed way (kept_of kind value false) refl)) all)
more_wait {Waiting} IsWaiting way kind value waiting (Some w) all waits =
    let R = λ (turned : List Kept) (v : Waiting). IsWaiting v (bits_of turned) in
    subst (λ (bits : List (List Kept)). AllZip R bits (waiting ++ w ∷ []))
    (sym (more_turned way (kept_of kind value true) refl))
    (zip_more R (all_turned [] way) waiting (turned_behind way kind) w all
    (subst (IsWaiting w) (sym (bits_next way (kept_of kind true false))) waits))

-- all wait on
pub all_wait_on : {Waiting : Type 0} (Old New : Waiting → List Decided → Type 0) (way : List Kept)
    (waiting : List Waiting) → ((w : Waiting) (bits : List Decided) → Old w bits → New w bits)
    → AreWaiting Old way waiting → AreWaiting New way waiting
all_wait_on {Waiting} Old New way waiting leads all =
    zip_map (λ turned w. Old w (bits_of turned)) (λ turned w. New w (bits_of turned)) (all_turned [] way) waiting
    (λ turned w waits. leads w (bits_of turned) waits) all

-- a course that stands behind the bits of its way stands behind one more
pub takes : {Course Waiting : Type 0} (IsCase : List Decided → Type 0) (Has : Course → List Decided → Type 0)
    (IsWaiting : Course → Waiting → List Decided → Type 0) (from way : List Kept) (old new : Course)
    (waiting : List Waiting) (kind : DecidedKind) (value : Bool) (other : Option Waiting)
    → IsChosen IsCase (bits_of way) kind value (is_some other) → IsWayFrom IsCase from way
    → Has new (bits_of way ++ decided kind value ∷ [])
    → IfSome other (λ w. IsWaiting new w (bits_of way ++ decided kind true ∷ []))
    → ((w : Waiting) (bits : List Decided) → IsWaiting old w bits → IsWaiting new w bits)
    → AreWaiting (IsWaiting old) way waiting
    → Stands IsCase Has IsWaiting new (way ++ kept_of kind value (is_some other) ∷ []) (waiting ++ option_to_list other)
    × IsWayFrom IsCase from (way ++ kept_of kind value (is_some other) ∷ [])
takes {Course} {Waiting} IsCase Has IsWaiting from way old new waiting kind value other is bits has turns keeps all =
    let k = kept_of kind value (is_some other) in
    let next = way_goes_on IsCase from way kind value (is_some other) is bits in (
      record {
        has = subst (Has new) (sym (bits_next way k)) has;
        kept = next.kept;
        waits = more_wait (IsWaiting new) way kind value waiting other
            (all_wait_on (IsWaiting old) (IsWaiting new) way waiting keeps all) turns;
      },
      next,
    )
