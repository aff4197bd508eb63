-- What rows make at one bit, and where they are over.
use Rattle.std.proofs.Common.{◌≡◌, ℕ, zero, suc, ◌+◌, ◌<◌, List, [], ◌∷◌, ◌++◌, length, refl, ap, sym, ◌∙◌, arith}
use Rattle.std.proofs.Common.{length-append, subst}
use Rattle.std.specs.Prelude.{slice_index_or, Bool, if◌then◌else◌, Result, Ok, Err, IfOk, IsErrOf, IsErrAnd}
use Rattle.std.specs.Prelude.{MatchResult}
use Rattle.std.proofs.lemmas.List.{get_or_append_left, get_or-append-add}
use Rattle.mw_term.specs.Cofactors.{Agree, HasMoreCofactors, AreSame}
use Rattle.mw_term.specs.Functions.{Function, Triple, ite, made}
use Rattle.mw_dd.specs.declared.dd.DdFault.{DdFault}
use Rattle.mw_dd.specs.declared.dd.DdFault.TheVariants.{OverBudget, NoMemory}
use Rattle.mw_dd.specs.Nodes.{Node, function_of, IsDd}
use Rattle.mw_dd.specs.Diagrams.{functions_of}
use Rattle.mw_dd.proofs.Cofactors.{more-same}
use Rattle.mw_blast.specs.Bits.{StandsFor}
use Rattle.mw_blast.specs.Causes.{IsOneOver}
use Rattle.mw_blast.specs.declared.rows.Row.{Row}
use Rattle.mw_blast.specs.declared.rows.Step.{Step}
use Rattle.mw_blast.specs.Rows.{row_operations, row_bit, row_carry, IsStep, IsRefused}

-- one that is over is over behind others, and before others
pub over_behind : (front row : List Triple) (budget : ℕ) → IsOneOver row budget → IsOneOver (front ++ row) budget
over_behind front row budget over = (
  length front + over.0,
  over.1,
  omega (arith, over.2, length-append front row),
  get_or-append-add front row over.0 over.1 ∙ over.3,
  over.4,
)

pub over_before : (row back : List Triple) (budget : ℕ) → IsOneOver row budget → IsOneOver (row ++ back) budget
over_before row back budget over = (
  over.0,
  over.1,
  omega (arith, over.2, length-append row back),
  get_or_append_left row back over.1 over.0 over.2 ∙ over.3,
  over.4,
)

-- where there is one operation alone it is that one
pub alone_over : (o : Triple) (budget : ℕ) → IsOneOver (o ∷ []) budget → HasMoreCofactors o budget
alone_over o budget over = at over.0 over.1 over.2 over.3 over.4 where
  at : (k : ℕ) (u : Triple) → k < 1 → slice_index_or (o ∷ []) k u ≡ u → HasMoreCofactors u budget
      → HasMoreCofactors o budget
  at zero u inside is more = subst (λ (t : Triple). HasMoreCofactors t budget) (sym is) more
  at (suc k) u inside is more = absurd (omega arith)

pub refused_among : (front row back : List Triple) (budget : ℕ) (e : DdFault) → IsRefused row budget e
    → IsRefused (front ++ (row ++ back)) budget e
refused_among front row back budget OverBudget over =
    over_behind front (row ++ back) budget (over_before row back budget over)
refused_among front row back budget NoMemory over = tt

-- nodes that stand for functions have a triple that is theirs
pub same_functions : (nodes : List Node) (f g h : ℕ) (F G H : Function) → StandsFor nodes f F → StandsFor nodes g G
    → StandsFor nodes h H → AreSame (functions_of nodes f g h) (ite F G H)
same_functions nodes f g h F G H first second third = record { f = first.exact; g = second.exact; h = third.exact }

pub made_same : (t u : Triple) → AreSame t u → Agree (made t) (made u)
made_same t u same given =
    ap (λ (b : Bool). if b then t.g given else t.h given) (same.f given)
    ∙ ap (λ (b : Bool). if u.f given then b else t.h given) (same.g given)
    ∙ ap (λ (b : Bool). if u.f given then u.g given else b) (same.h given)

-- an operation on nodes makes that on the functions for which they stand
pub operated : (old new : List Node) (f g h budget : ℕ) (result : Result ℕ DdFault) → IfOk result (IsDd new)
    → IfOk result (λ x. Agree (function_of new x) (made (functions_of old f g h)))
    → (IsErrOf result OverBudget → HasMoreCofactors (functions_of old f g h) budget)
    → (F G H : Function) → StandsFor old f F → StandsFor old g G → StandsFor old h H
    → MatchResult result (λ x. StandsFor new x (made (ite F G H))) (IsRefused (ite F G H ∷ []) budget)
operated old new f g h budget (Ok x) there exact over F G H first second third = record {
  there = there;
  exact = λ given. exact given
      ∙ made_same (functions_of old f g h) (ite F G H) (same_functions old f g h F G H first second third) given;
}
operated old new f g h budget (Err OverBudget) there exact over F G H first second third = (
  0,
  ite F G H,
  omega arith,
  refl,
  more-same (functions_of old f g h) (ite F G H) budget (same_functions old f g h F G H first second third) (over refl),
)
operated old new f g h budget (Err NoMemory) there exact over F G H first second third = tt

-- an operation behind others, which are made
pub behind : (nodes : List Node) (front : List Triple) (o : Triple) (budget : ℕ) (result : Result ℕ DdFault)
    → MatchResult result (λ x. StandsFor nodes x (made o)) (IsRefused (o ∷ []) budget)
    → MatchResult result (λ x. StandsFor nodes x (made o)) (IsRefused (front ++ o ∷ []) budget)
behind nodes front o budget (Ok x) made = made
behind nodes front o budget (Err e) refused = refused_among front (o ∷ []) [] budget e refused

-- a refusal that is handed on
pub handed_on : {T E : Type 0} (result : Result T E) (e : E) (P : T → Type 0) (Q : E → Type 0)
    → IsErrAnd result (λ x. x ≡ e) → Q e → MatchResult result P Q
handed_on (Ok x) e P Q is q = absurd is
handed_on (Err d) e P Q is q = subst Q (sym is) q

-- of operations some of which come first
pub refused_first : {T : Type 0} (result : Result T DdFault) (e : DdFault) (P : T → Type 0)
    (front row back : List Triple) (budget : ℕ)
    → IsErrAnd result (λ x. x ≡ e) → IsRefused row budget e
    → MatchResult result P (IsRefused (front ++ (row ++ back)) budget)
refused_first result e P front row back budget is refused =
    handed_on result e P (IsRefused (front ++ (row ++ back)) budget) is (refused_among front row back budget e refused)

-- a step of a row that hands on what was carried into the bit
pub alone_step : (nodes : List Node) (row : Row) (A B K : Function) (budget carried : ℕ) (bit : Result ℕ DdFault)
    (result : Result Step DdFault)
    → MatchResult bit (λ x. result ≡ Ok (record { bit = x; carried = carried })) (λ e. result ≡ Err e)
    → MatchResult bit (λ x. StandsFor nodes x (row_bit row A B K)) (IsRefused (row_operations row A B K) budget)
    → StandsFor nodes carried (row_carry row A B K)
    → MatchResult result (IsStep nodes row A B K) (IsRefused (row_operations row A B K) budget)
alone_step nodes row A B K budget carried (Ok x) result is made stays = rw is (record { bit = made; carried = stays })
alone_step nodes row A B K budget carried (Err e) result is refused stays = rw is refused

-- a step of a row that hands on its bit
pub along_step : (nodes : List Node) (row : Row) (A B K : Function) (budget : ℕ) (bit : Result ℕ DdFault)
    (result : Result Step DdFault)
    → MatchResult bit (λ x. result ≡ Ok (record { bit = x; carried = x })) (λ e. result ≡ Err e)
    → MatchResult bit (λ x. StandsFor nodes x (row_bit row A B K)) (IsRefused (row_operations row A B K) budget)
    → ((x : ℕ) → StandsFor nodes x (row_bit row A B K) → StandsFor nodes x (row_carry row A B K))
    → MatchResult result (IsStep nodes row A B K) (IsRefused (row_operations row A B K) budget)
along_step nodes row A B K budget (Ok x) result is made on = rw is (record { bit = made; carried = on x made })
along_step nodes row A B K budget (Err e) result is refused on = rw is refused
