-- Laws of plans.
use Rattle.std.proofs.Common.{◌≡◌, ℕ, ◌<◌, ◌≤◌, nat_lt, true, false, List, [], ◌∷◌, ◌++◌, length, Some, Result, Ok, Err}
use Rattle.std.proofs.Common.{refl, sym, ap, ◌∙◌, arith}
use Rattle.std.proofs.lemmas.Bool.Decides.{nat_tests}
use Rattle.mw_outside.specs.declared.read.TheConstants.{MOST_BYTES}
use Rattle.mw_plan.specs.declared.fault.FileFault.TheVariants.{TooLong, At}
use Rattle.mw_plan.specs.Plan.{Plan, done, refused, file, IsOver, ◌>>=◌, read_by, after}

-- what is left after some files, and then after more
pub after_more : {F A : Type 0} (plan left : Plan F A) (front rest : List (List ℕ)) → after plan front ≡ Some left
    → after plan (front ++ rest) ≡ after left rest
after_more {F} {A} plan left [] rest is = let same : plan ≡ left = cc in ap (λ (p : Plan F A). after p rest) same
after_more (done x) left (bytes ∷ front) rest is = absurd cc
after_more (refused fault) left (bytes ∷ front) rest is = absurd cc
after_more (file next) left (bytes ∷ front) rest is = after_more (next bytes) left front rest is

-- a plan that is over takes no more files
over_stays : {F A : Type 0} (one other : Plan F A) (rest : List (List ℕ)) → IsOver one → after one rest ≡ Some other
    → one ≡ other
over_stays one other [] over is = cc
over_stays (done x) other (bytes ∷ rest) over is = absurd cc
over_stays (refused fault) other (bytes ∷ rest) over is = absurd cc
over_stays (file next) other (bytes ∷ rest) over is = absurd over

-- an end that some files bring a plan to, and what more files leave of it
pub over_once : {F A : Type 0} (plan one other : Plan F A) (front rest : List (List ℕ)) → IsOver one
    → after plan front ≡ Some one → after plan (front ++ rest) ≡ Some other → one ≡ other
over_once plan one other front rest over is also =
    over_stays one other rest over (sym (after_more plan one front rest is) ∙ also)

-- ---- what the contents of one file come to

-- contents that are too long
pub long_is_refused : {F G X A : Type 0} (kind : G → F) (reader : List ℕ → Result X G) (rest : X → Plan F A)
    (bytes : List ℕ)
    → MOST_BYTES < length bytes → (read_by kind reader bytes >>= rest) ≡ refused TooLong
long_is_refused kind reader rest bytes many =
    let test : nat_lt MOST_BYTES (length bytes) ≡ true = grind (arith, nat_tests) in
    rw test refl

-- contents that a reader accepts
pub accepted_goes_on : {F G X A : Type 0} (kind : G → F) (reader : List ℕ → Result X G) (rest : X → Plan F A)
    (bytes : List ℕ) (x : X)
    → length bytes ≤ MOST_BYTES → reader bytes ≡ Ok x → (read_by kind reader bytes >>= rest) ≡ rest x
accepted_goes_on kind reader rest bytes x few is =
    let test : nat_lt MOST_BYTES (length bytes) ≡ false = grind (arith, nat_tests) in
    rw (test, is) refl

-- contents that a reader refuses
pub faulty_is_refused : {F G X A : Type 0} (kind : G → F) (reader : List ℕ → Result X G) (rest : X → Plan F A)
    (bytes : List ℕ) (fault : G) (seen : F)
    → length bytes ≤ MOST_BYTES → reader bytes ≡ Err fault → seen ≡ kind fault
    → (read_by kind reader bytes >>= rest) ≡ refused (At seen)
faulty_is_refused kind reader rest bytes fault seen few is sees =
    let test : nat_lt MOST_BYTES (length bytes) ≡ false = grind (arith, nat_tests) in
    rw (test, is, sees) refl
