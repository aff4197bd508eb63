-- A path that a constant bit splits.
use Rattle.std.proofs.Common.{◌≡◌, ◌≤◌, ℕ, List, length, ap, sym, ◌∙◌, arith}
use Rattle.std.specs.Prelude.{Bool, true, false, if◌then◌else◌}
use Rattle.mw_term.specs.Cofactors.{Agree, HasAtMostCofactors}
use Rattle.mw_term.specs.Functions.{Function, Triple}
use Rattle.mw_term.specs.Laws.{TerminalCasesHaveNone}
use Rattle.mw_dd.specs.Nodes.{Node, function_of, IsDd}
use Rattle.mw_blast.specs.Bits.{StandsFor}
use Rattle.mw_blast.specs.Splits.{IsSplit}
use Rattle.mw_term.specs.PathWords.{path_zero, path_one}

within : (t : Triple) (budget : ℕ) → HasAtMostCofactors t 0 → HasAtMostCofactors t budget
within t budget none us are = let few : length us ≤ 0 = none us are in omega arith

-- by a bit that is 0
pub split_zero : (nodes : List Node) (path bit constant : ℕ) (P b : Function) (budget : ℕ) → TerminalCasesHaveNone
    → StandsFor nodes path P → IsDd nodes constant
    → Agree (function_of nodes constant) (λ given. false) → bit ≡ constant
    → StandsFor nodes bit b → IsSplit nodes P b budget (record { zero = path; one = constant })
split_zero nodes path bit constant P b budget law there here is same stands =
    let none : Agree b (λ given. false) = λ given.
    sym (stands.exact given) ∙ ap (λ (x : ℕ). function_of nodes x given) same ∙ is given in
    record {
      zero = record {
        there = there.there;
        exact = λ given. there.exact given ∙ sym (ap (λ (x : Bool). if x then false else P given) (none given));
      };
      one = record {
        there = here;
        exact = λ given. is given ∙ sym (ap (λ (x : Bool). if x then P given else false) (none given));
      };
      zero_within = within (path_zero P b) budget (law.choice (path_zero P b) false none);
      one_within = within (path_one P b) budget (law.choice (path_one P b) false none);
    }

-- by a bit that is 1
pub split_one : (nodes : List Node) (path bit constant none : ℕ) (P b : Function) (budget : ℕ) → TerminalCasesHaveNone
    → StandsFor nodes path P → IsDd nodes none → Agree (function_of nodes none) (λ given. false)
    → Agree (function_of nodes constant) (λ given. true) → bit ≡ constant
    → StandsFor nodes bit b → IsSplit nodes P b budget (record { zero = none; one = path })
split_one nodes path bit constant none P b budget law there here empty is same stands =
    let all : Agree b (λ given. true) = λ given.
    sym (stands.exact given) ∙ ap (λ (x : ℕ). function_of nodes x given) same ∙ is given in
    record {
      zero = record {
        there = here;
        exact = λ given. empty given ∙ sym (ap (λ (x : Bool). if x then false else P given) (all given));
      };
      one = record {
        there = there.there;
        exact = λ given. there.exact given ∙ sym (ap (λ (x : Bool). if x then P given else false) (all given));
      };
      zero_within = within (path_zero P b) budget (law.choice (path_zero P b) true all);
      one_within = within (path_one P b) budget (law.choice (path_one P b) true all);
    }
