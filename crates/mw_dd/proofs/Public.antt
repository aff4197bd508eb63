-- What the public calls say, from what the steps leave.
use Rattle.std.proofs.Common.{◌≡◌, ℕ, List, [], arith, ap, ◌∙◌, sym}
use Rattle.std.specs.Prelude.{Bool, true, false, if◌then◌else◌, Result, Ok, Err, OnOk, OnErr, ◌↔◌, ◌==◌, IsTrue}
use Rattle.std.proofs.lemmas.Bool.Decides.{nat_tests}
use Rattle.mw_term.specs.Assigned.{Given}
use Rattle.mw_term.specs.Cofactors.{Agree}
use Rattle.mw_term.specs.Functions.{never}
use Rattle.mw_dd.specs.declared.nodes.Node.{Node}
use Rattle.mw_dd.specs.Nodes.{value_at, function_of, IsDd, IsReduced}
use Rattle.mw_dd.proofs.Values.{value-zero, value-one}
use Rattle.mw_dd.proofs.Unique.{canonical}

pub on_ok_from : {T E : Type 0} (r : Result T E) (P Q : Type 0) → (P → Q) → OnOk r P → OnOk r Q
on_ok_from (Ok x) P Q f p = f p
on_ok_from (Err e) P Q f p = tt

-- what holds in both cases
pub in_both : {A E : Type 0} {P : Type 0} (r : Result A E) → OnOk r P → OnErr r P → P
in_both (Ok x) ok err = ok
in_both (Err e) ok err = err

-- and what holds anyway, where there is an error
pub on_err_anyway : {A E : Type 0} {P : Type 0} (r : Result A E) → P → OnErr r P
on_err_anyway (Ok x) p = tt
on_err_anyway (Err e) p = p

pub reduced_none : IsReduced []
reduced_none = record { inner = λ k n at. absurd (cc); once = λ j k n at of. absurd (cc) }

-- a node over the constants is its variable
pub variable_value : (nodes : List Node) (given : Given) (low high : ℕ) (b : Bool) → low ≡ 0 → high ≡ 1
    → (if b then value_at given nodes high else value_at given nodes low) ≡ b
variable_value nodes given low high true zero one = ap (value_at given nodes) one ∙ value-one given nodes
variable_value nodes given low high false zero one = ap (value_at given nodes) zero ∙ value-zero given nodes

-- a node is 0 exactly where its function is never
pub false_exact : (nodes : List Node) → IsReduced nodes → (x position : ℕ) → IsDd nodes x → position ≡ x
    → IsTrue (position == 0) ↔ Agree (function_of nodes x) never
false_exact nodes r x position there same = (
  (λ zero given.
      let none : x ≡ 0 = grind (arith, nat_tests) in
      ap (value_at given nodes) none ∙ value-zero given nodes),
  (λ agree.
      let none : x ≡ 0 =
      canonical nodes r x 0 there (omega arith) (λ given. agree given ∙ sym (value-zero given nodes)) in
      let at : position ≡ 0 = same ∙ none in
      grind (arith, nat_tests)),
)
