-- What a reader's steps say where none failed.
use Rattle.std.proofs.Common.{◌≡◌, Bool, true, false, Option, Some, None, Result, Ok, Err, IfSome, refl, subst}
use Rattle.std.specs.Prelude.{if◌then◌else◌, ok_or}
use Rattle.mw_base.specs.Reading.{◌>>=◌}

-- a result that is a value
abbrev pub ok_of : {A F : Type 0} → A → Result A F
ok_of x = Ok x

-- one result has one value
pub ok_is : {A F : Type 0} (x y : A) → ok_of {F = F} x ≡ Ok y → x ≡ y
ok_is x y is = cc

-- the value of a step that did not fail, and of what follows it
pub bind_ok : {A B F : Type 0} (r : Result A F) (f : A → Result B F) (y : B)
    → (r >>= f) ≡ Ok y → (x : A) × (r ≡ Ok x) × (f x ≡ Ok y)
bind_ok (Ok x) f y is = (x, refl, is)
bind_ok (Err fault) f y is = absurd cc

-- the same, with what follows from it
pub step : {A B F Q : Type 0} (r : Result A F) (f : A → Result B F) (y : B)
    → (r >>= f) ≡ Ok y → ((x : A) → r ≡ Ok x → f x ≡ Ok y → Q) → Q
step r f y is goes_on = let b = bind_ok r f y is in goes_on b.0 b.1 b.2

-- of two answers, one a fault, the value is the other
pub if_ok : {A F : Type 0} (b : Bool) (x y : A) (fault : F)
    → (if b then ok_of {F = F} x else Err fault) ≡ Ok y → (b ≡ true) × (x ≡ y)
if_ok {F = F} true x y fault is = (refl, ok_is {F = F} x y is)
if_ok false x y fault is = absurd cc

-- what there was, where it had to be
pub found : {A F : Type 0} (P : A → Type 0) (fault : F) (there : Option A) (x : A)
    → ok_or there fault ≡ Ok x → IfSome there P → P x
found P fault (Some y) x is holds = let e : y ≡ x = cc in subst P e holds
found P fault None x is holds = absurd cc
