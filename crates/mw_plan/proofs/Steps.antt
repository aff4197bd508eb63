-- The steps of a command along its plan.
use Rattle.std.specs.Prelude.{Contains, slice_get}
use Rattle.std.proofs.Common.{◌≡◌, ℕ, zero, suc, ◌<◌, suc-le-suc, length, List, [], ◌∷◌, Some, Result, Ok, Err, refl}
use Rattle.std.proofs.Common.{ap, subst, arith}
use Rattle.mw_outside.specs.Views.{ShelfView, IsLater}
use Rattle.mw_plan.specs.declared.fault.Stop.{Stop}
use Rattle.mw_plan.specs.Plan.{Plan, done, after}
use Rattle.mw_plan.specs.Files.{FilesRead, IsLeft}
use Rattle.mw_plan.specs.Steps.{Follows, Ends}

-- a view is as late as itself
pub at_first : (first : ShelfView) → IsLater first first
at_first first = record { kept = λ name. refl; later = λ name. omega arith }

-- before the first file the whole plan is left
pub all_left : {F A : Type 0} (plan : Plan F A) (first : ShelfView) (files : FilesRead) → files.contents ≡ []
    → IsLeft plan first files plan
all_left {F} {A} plan first files none = record { read = rw none tt; left_is = ap (after plan) none }

-- a file stops the plan, whatever was to follow
pub stops : {F A X : Type 0} (rest : X → Plan F A) (plan : Plan F A) (first now : ShelfView) (files : FilesRead)
    (stop : Stop F) (result : Result A (Stop F))
    → result ≡ Err stop → Follows rest plan first now files (Err stop) → Ends plan first now files result
stops rest plan first now files stop result is follows = rw is follows

-- the last file was read, and the plan is done
pub ends : {F A X : Type 0} (rest : X → Plan F A) (plan : Plan F A) (first now : ShelfView) (files : FilesRead)
    (x : X) (y : A)
    → rest x ≡ done y → Follows rest plan first now files (Ok x) → Ends plan first now files (Ok y)
ends {F} {A} rest plan first now files x y is follows =
    subst (λ (left : Plan F A). IsLeft plan first files left) is follows

-- the next file is one of the files
pub next_is_among : (names : List (List ℕ)) (n : ℕ) (name : List ℕ) → slice_get names n ≡ Some name
    → Contains names name
next_is_among [] n name is = absurd cc
next_is_among (first ∷ names) zero name is =
    let same : first ≡ name = cc in
    (0, omega arith, same)
next_is_among (first ∷ names) (suc n) name is =
    let rest = next_is_among names n name is in
    (suc rest.0, suc-le-suc rest.1, rest.2)

-- where there is a next file, there are fewer contents than files
pub next_is_within : (names : List (List ℕ)) (n : ℕ) (name : List ℕ) → slice_get names n ≡ Some name → n < length names
next_is_within [] n name is = absurd cc
next_is_within (first ∷ names) zero name is = omega arith
next_is_within (first ∷ names) (suc n) name is = suc-le-suc (next_is_within names n name is)
