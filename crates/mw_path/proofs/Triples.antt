-- Triples of functions that are one.
use Rattle.std.proofs.Common.{ℕ, ap, ◌∙◌}
use Rattle.std.specs.Prelude.{Bool, if◌then◌else◌}
use Rattle.mw_term.specs.Cofactors.{Agree, AreSame, HasAtMostCofactors}
use Rattle.mw_term.specs.Functions.{Triple, made}
use Rattle.mw_dd.proofs.Cofactors.{cofactor-same, same_back}

-- triples that are one make one function
pub made_same : (t u : Triple) → AreSame t u → Agree (made t) (made u)
made_same t u same given =
    ap (λ (b : Bool). if b then t.g given else t.h given) (same.f given)
    ∙ ap (λ (y : Bool). if u.f given then y else t.h given) (same.g given)
    ∙ ap (λ (z : Bool). if u.f given then u.g given else z) (same.h given)

-- and have as many joint cofactors
pub at_most_same : (t u : Triple) (n : ℕ) → AreSame t u → HasAtMostCofactors t n → HasAtMostCofactors u n
at_most_same t u n same most us are =
    most us (record {
      each = λ i d below. cofactor-same u t _ (same_back t u same) (are.each i d below);
      different = are.different;
    })
