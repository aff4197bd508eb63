-- A value that is there, or isn't.
use Rattle.std.proofs.Common.{◌≡◌, subst, ℕ}
use Rattle.std.specs.Prelude.{IfSome, None, Option, Some}

-- the value that there is
pub some_at : {X : Type 0} (P : X → Type 0) (o : Option X) (x : X) → o ≡ Some x → IfSome o P → P x
some_at P o x is holds = subst (λ y. IfSome y P) is holds

-- it isn't both
pub none_or_some : (o : Option ℕ) (a : ℕ) → o ≡ None → o ≡ Some a → ⊥
none_or_some o a none some = absurd cc
