-- What is kept of the lines of a boundary, as they grow.
use Rattle.std.proofs.Common.{◌≡◌, ℕ, ◌<◌, ◌^◌, List, [], ◌∷◌, ◌++◌, length, cond, append-nil}
use Rattle.std.proofs.Common.{append_assoc, refl, sym, ap, ap₂, subst}
use Rattle.std.proofs.Common.{◌∙◌, arith}
use Rattle.std.specs.Prelude.{Bool, true, false, not, ◌==◌, ◌&&◌, ◌||◌, nat_lt, if◌then◌else◌, Ok, Err}
use Rattle.std.specs.HashSet.{HashSet, contains, Updates, IsEmpty}
use Rattle.std.specs.List.{list_any}
use Rattle.std.proofs.lemmas.Bool.{and_parts, and_from}
use Rattle.std.proofs.lemmas.Bool.Decides.{nat_tests}
use Rattle.std.proofs.lemmas.List.Folds.{list_any-append}
use Rattle.mw_base.specs.declared.cause.Cause.TheVariants.{BadFact}
use Rattle.mw_base.specs.TokenLines.{fault_on}
use Rattle.mw_base.proofs.Results.{ok_of, ok_is, if_ok}
use Rattle.mw_recheck.specs.declared.entry.FactEntry.{FactEntry}
use Rattle.mw_recheck.specs.declared.entry.NodeEntry.{NodeEntry}
use Rattle.mw_recheck.specs.declared.facts as kept
use Rattle.mw_recheck.specs.declared.line.LogLine.{LogLine}
use Rattle.mw_recheck.specs.declared.line.Node.{Node}
use Rattle.mw_recheck.specs.declared.line.Triple.{Triple}
use Rattle.mw_recheck.specs.Facts.{Facts, triple, fact_line, no_facts, facts_of, facts_seen, with_fact}
use Rattle.mw_recheck.specs.Facts.{is_new_fact, are_there}
use Rattle.mw_recheck.specs.Kept.{AreOf}
use Rattle.mw_recheck.specs.LogText.{node_in, new_node, new_fact}
use Rattle.mw_recheck.specs.Nodes.{nodes_of, line_of, is_node, is_among, is_new_node, branches_fit}
use Rattle.mw_recheck.specs.Rules.{keeps, keep_behind}
use Rattle.mw_recheck.proofs.Follows.{there}
use Rattle.mw_recheck.proofs.Reduced.{fits_there}
use Rattle.mw_recheck.proofs.Truths.{nodes-node, nodes-fact, facts-node, facts-fact}

-- ---- the rules

kept_more : (before lines : List LogLine) (line : LogLine) → keep_behind before lines ≡ true
    → keeps (before ++ lines) line ≡ true → keep_behind before (lines ++ line ∷ []) ≡ true
unfolding keep_behind
kept_more before [] line kept one =
    and_from (keeps before line) true (ap (λ ls. keeps ls line) (sym (append-nil before)) ∙ one) refl
kept_more before (first ∷ rest) line kept one =
    let parts = and_parts (keeps before first) (keep_behind (before ++ first ∷ []) rest) kept in
    and_from (keeps before first) (keep_behind (before ++ first ∷ []) (rest ++ line ∷ [])) parts.0
    (kept_more (before ++ first ∷ []) rest line parts.1
    (ap (λ ls. keeps ls line) (append_assoc before (first ∷ []) rest) ∙ one))

-- ---- no line

pub of_none : {S : Type 0} (listed : HashSet Node S) (facts : kept.Facts.Facts) → IsEmpty listed
    → facts_seen facts ≡ no_facts → AreOf [] [] listed facts
unfolding keep_behind nodes_of facts_of
of_none listed facts empty none = record {
  rules = refl;
  nodes_are = refl;
  listed_are = λ n. ap (list_any (is_node n)) empty;
  facts_are = none;
}

-- ---- one line more

turned : (a b c d e f g h : ℕ) → ((a == b) && ((c == d) && ((e == f) && (g == h))))
    ≡ ((b == a) && ((d == c) && ((f == e) && (h == g))))
turned a b c d e f g h =
    let one : (a b : ℕ) → (a == b) ≡ (b == a) = λ a b. grind (arith, nat_tests) in
    ap₂ ◌&&◌ (one a b) (ap₂ ◌&&◌ (one c d) (ap₂ ◌&&◌ (one e f) (one g h)))

pushed : (own there : Bool) → cond own true there ≡ (there || (own || false))
pushed true true = refl
pushed true false = refl
pushed false true = refl
pushed false false = refl

pub of_node : {S : Type 0} (lines : List LogLine) (nodes : List Node) (listed more : HashSet Node S)
    (facts : kept.Facts.Facts) (n : Node) → AreOf lines nodes listed facts → is_new_node (nodes_of lines) n ≡ true
    → Updates is_node listed more n true → AreOf (lines ++ line_of n ∷ []) (nodes ++ n ∷ []) more facts
unfolding keeps
of_node lines nodes listed more facts n are new updates = record {
  rules = kept_more [] lines (line_of n) are.rules new;
  nodes_are = ap (λ (ns : List Node). ns ++ n ∷ []) are.nodes_are ∙ sym (nodes-node lines n);
  listed_are = λ m.
      updates.0 m ∙ pushed (is_node n m) (contains is_node listed m)
      ∙ ap₂ (λ there own. there || (own || false)) (are.listed_are m)
      (turned n.word m.word n.bit m.bit n.high m.high n.low m.low)
      ∙ sym (list_any-append (is_node m) (nodes_of lines) (n ∷ []))
      ∙ ap (λ (ns : List Node). is_among ns m) (sym (nodes-node lines n));
  facts_are = are.facts_are ∙ sym (facts-node lines n);
}

pub of_fact : {S : Type 0} (lines : List LogLine) (nodes : List Node) (listed : HashSet Node S)
    (facts more : kept.Facts.Facts) (t : Triple) (r : ℕ) → AreOf lines nodes listed facts
    → is_new_fact (nodes_of lines) (facts_of lines) t r ≡ true → facts_seen more ≡ with_fact (facts_seen facts) t r
    → AreOf (lines ++ fact_line t r ∷ []) nodes listed more
unfolding keeps
of_fact lines nodes listed facts more t r are new updates = record {
  rules = kept_more [] lines (fact_line t r) are.rules new;
  nodes_are = are.nodes_are ∙ sym (nodes-fact lines t r);
  listed_are = λ m. are.listed_are m ∙ ap (λ (ns : List Node). is_among ns m) (sym (nodes-fact lines t r));
  facts_are = updates ∙ ap (λ facts. with_fact facts t r) are.facts_are ∙ sym (facts-fact lines t r);
}

-- ---- what lines that keep the rules add

chain : {A F : Type 0} (fits word bit among : Bool) (broken wide far : F) (m n : A)
    → (if not fits then Err broken else (if not word then Err wide else (if not bit then Err far
    else (if among then Err broken else ok_of {F = F} m)))) ≡ Ok n
    → (fits ≡ true) × (bit ≡ true) × (among ≡ false) × (m ≡ n)
chain false word bit among broken wide far m n is = absurd cc
chain true false bit among broken wide far m n is = absurd cc
chain true true false among broken wide far m n is = absurd cc
chain true true true true broken wide far m n is = absurd cc
chain {F = F} true true true false broken wide far m n is = (refl, refl, refl, ok_is {F = F} m n is)

pub new_node_keeps : (nodes : List Node) (entry : NodeEntry) (n : Node) → new_node nodes entry ≡ Ok n
    → is_new_node nodes n ≡ true
unfolding new_node
new_node_keeps nodes entry n is =
    let own = node_in entry in
    let all = chain (branches_fit nodes own) (nat_lt entry.word.value (2 ^ 64)) (nat_lt entry.bit.value 32)
    (is_among nodes own) _ _ _ own n is in
    let none : not (is_among nodes own) ≡ true = ap not all.2 in
    subst (λ (m : Node). is_new_node nodes m ≡ true) all.3
    (and_from (nat_lt own.bit 32) _ all.1 (and_from (branches_fit nodes own) (not (is_among nodes own)) all.0 none))

pub new_fact_keeps : (nodes : List Node) (facts : Facts) (entry : FactEntry) (fact : Triple × ℕ)
    → new_fact nodes facts entry ≡ Ok fact → is_new_fact nodes facts fact.0 fact.1 ≡ true
unfolding new_fact
new_fact_keeps nodes facts entry fact is =
    let own : Triple × ℕ = (triple entry.f entry.g entry.h, entry.r) in
    let both = if_ok (is_new_fact nodes facts own.0 own.1) own fact (fault_on entry.first BadFact) is in
    subst (λ (fact : Triple × ℕ). is_new_fact nodes facts fact.0 fact.1 ≡ true) both.1 both.0

-- ---- the numbers of nodes are few

pub fits_few : (seen nodes : List Node) (n : Node) (fits : Bool) → length nodes < 2 ^ 63 → seen ≡ nodes
    → fits ≡ branches_fit seen n → fits ≡ true → (n.high < 2 ^ 64) × (n.low < 2 ^ 64)
fits_few seen nodes n fits few same is fit =
    let there = fits_there seen n (sym is ∙ fit) in
    let size : length seen ≡ length nodes = ap length same in
    (omega (arith, there.0, size, few), omega (arith, there.1, size, few))

pub there_few : (seen nodes : List Node) (t : Triple) (r : ℕ) (is_there : Bool) → length nodes < 2 ^ 63
    → seen ≡ nodes → is_there ≡ are_there seen t r → is_there ≡ true
    → (t.f < 2 ^ 64) × (t.g < 2 ^ 64) × (t.h < 2 ^ 64) × (r < 2 ^ 64)
there_few seen nodes t r is_there few same is so =
    let all = there seen t r (sym is ∙ so) in
    let size : length seen ≡ length nodes = ap length same in (
      omega (arith, all.0, size, few),
      omega (arith, all.1, size, few),
      omega (arith, all.2, size, few),
      omega (arith, all.3, size, few),
    )
