-- What lines that keep the rules say is so.
use Rattle.std.proofs.Common.{◌≡◌, inl, inr, ℕ, List, [], ◌∷◌, ◌++◌, append-nil, append_assoc, refl, ap, sym, ◌∙◌}
use Rattle.std.proofs.Common.{subst}
use Rattle.std.specs.Prelude.{Bool, true, false, not, ◌&&◌, ◌==◌, nat_lt, cond, slice_get, Some}
use Rattle.std.specs.List.{flat_map}
use Rattle.std.proofs.lemmas.Bool.{eqb-true, and_parts, not-true}
use Rattle.std.proofs.lemmas.Grind.{flat_map-append}
use Rattle.std.proofs.lemmas.List.Sums.{fold-append}
use Rattle.mw_recheck.specs.declared.line.LogLine.{LogLine}
use Rattle.mw_recheck.specs.declared.line.LogLine.TheVariants as says
use Rattle.mw_recheck.specs.declared.line.Node.{Node}
use Rattle.mw_recheck.specs.declared.line.Triple.{Triple}
use Rattle.mw_recheck.specs.Facts.{Facts, triple, is_triple, fact_line, no_facts, with_line, with_fact, facts_of}
use Rattle.mw_recheck.specs.Facts.{is_new_fact}
use Rattle.mw_recheck.specs.Laws.{LinesSayTrue}
use Rattle.mw_recheck.specs.Nodes.{nodes_of, line_of, added_by, branches_fit, is_among, is_new_node}
use Rattle.mw_recheck.specs.Rules.{keeps, keep_behind}
use Rattle.mw_recheck.proofs.Follows.{IsTrueFact, AreTrue, true_fact-push, new_fact_is_true}
use Rattle.mw_recheck.proofs.Places.{get-push}
use Rattle.mw_recheck.proofs.Reduced.{IsReduced, reduced-none, reduced-push}
use Rattle.mw_recheck.proofs.Unique.{canonical}
use Rattle.mw_recheck.proofs.Values.{value-node, value-zero, value-one}

-- ---- one line more

pub nodes-node : (lines : List LogLine) (n : Node) → nodes_of (lines ++ line_of n ∷ []) ≡ nodes_of lines ++ n ∷ []
unfolding nodes_of
nodes-node lines n = flat_map-append added_by lines (line_of n ∷ [])

pub nodes-fact : (lines : List LogLine) (t : Triple) (r : ℕ) → nodes_of (lines ++ fact_line t r ∷ []) ≡ nodes_of lines
unfolding nodes_of
nodes-fact lines t r = flat_map-append added_by lines (fact_line t r ∷ []) ∙ append-nil (flat_map added_by lines)

pub facts-node : (lines : List LogLine) (n : Node) → facts_of (lines ++ line_of n ∷ []) ≡ facts_of lines
unfolding facts_of
facts-node lines n = fold-append with_line no_facts lines (line_of n ∷ [])

pub facts-fact : (lines : List LogLine) (t : Triple) (r : ℕ)
    → facts_of (lines ++ fact_line t r ∷ []) ≡ with_fact (facts_of lines) t r
unfolding facts_of
facts-fact lines t r = fold-append with_line no_facts lines (fact_line t r ∷ [])

-- ---- what holds after each line

pub record AreRight (lines : List LogLine) : Type 0 where
  pub reduced : IsReduced (nodes_of lines)
  pub facts : AreTrue (nodes_of lines) (facts_of lines)
  pub stated : (k : ℕ) (t : Triple) (r : ℕ) → slice_get lines k ≡ Some (fact_line t r)
      → IsTrueFact (nodes_of lines) t r

right-node : (lines : List LogLine) (n : Node) → AreRight lines → is_new_node (nodes_of lines) n ≡ true
    → AreRight (lines ++ line_of n ∷ [])
right-node lines n are new =
    let nodes = nodes_of lines in
    let parts = and_parts (nat_lt n.bit 32) (branches_fit nodes n && not (is_among nodes n)) new in
    let rest = and_parts (branches_fit nodes n) (not (is_among nodes n)) parts.1 in
    let more = nodes-node lines n in
    record {
      reduced = subst IsReduced (sym more)
          (reduced-push nodes n are.reduced rest.0 (not-true (is_among nodes n) rest.1));
      facts = λ t r is. subst (λ (ns : List Node). IsTrueFact ns t r) (sym more)
          (true_fact-push nodes n t r
          (are.facts t r (sym (ap (λ (facts : Facts). facts t) (facts-node lines n)) ∙ is)));
      stated = λ k t r at. elim (get-push lines (line_of n) k (fact_line t r) at) [
        | inl old ↦ subst (λ (ns : List Node). IsTrueFact ns t r) (sym more)
            (true_fact-push nodes n t r (are.stated k t r old))
        | inr last ↦ absurd (let e = last.1 in cc)
      ];
    }

-- a triple by its parts
triple_is : (t u : Triple) → is_triple t u ≡ true → t ≡ u
triple_is t u is =
    let first = and_parts (t.f == u.f) ((t.g == u.g) && (t.h == u.h)) is in
    let rest = and_parts (t.g == u.g) (t.h == u.h) first.1 in
    let made : ℕ × ℕ × ℕ → Triple = λ p. triple p.0 p.1 p.2 in
    let parts : ◌≡◌ {A = ℕ × ℕ × ℕ} (t.f, t.g, t.h) (u.f, u.g, u.h) =
    rw (eqb-true t.f u.f first.0, eqb-true t.g u.g rest.0, eqb-true t.h u.h rest.1) refl in
    ap made parts

some_same : (a b : ℕ) → Some a ≡ Some b → a ≡ b
some_same a b e = cc

same_fact : (t u : Triple) (r s : ℕ) → fact_line t r ≡ fact_line u s → (t ≡ u) × (r ≡ s)
same_fact t u r s e =
    let f : t.f ≡ u.f = cc in
    let g : t.g ≡ u.g = cc in
    let h : t.h ≡ u.h = cc in
    let made : ℕ × ℕ × ℕ → Triple = λ p. triple p.0 p.1 p.2 in
    let parts : ◌≡◌ {A = ℕ × ℕ × ℕ} (t.f, t.g, t.h) (u.f, u.g, u.h) = rw (f, g, h) refl in
    (ap made parts, (cc))

updated : (nodes : List Node) (facts : Facts) (t : Triple) (r : ℕ) → AreTrue nodes facts → IsTrueFact nodes t r
    → (u : Triple) (s : ℕ) (own : Bool) → is_triple t u ≡ own → cond own (Some r) (facts u) ≡ Some s
    → IsTrueFact nodes u s
updated nodes facts t r are true_fact u s true same is =
    let e : r ≡ s = some_same r s is in
    subst (λ (x : ℕ). IsTrueFact nodes u x) e
    (subst (λ (x : Triple). IsTrueFact nodes x r) (triple_is t u same) true_fact)
updated nodes facts t r are true_fact u s false same is = are u s is

right-fact : (lines : List LogLine) (t : Triple) (r : ℕ) → AreRight lines
    → is_new_fact (nodes_of lines) (facts_of lines) t r ≡ true → AreRight (lines ++ fact_line t r ∷ [])
right-fact lines t r are new =
    let nodes = nodes_of lines in
    let own = new_fact_is_true nodes are.reduced (facts_of lines) are.facts t r new in
    let same = nodes-fact lines t r in
    record {
      reduced = subst IsReduced (sym same) are.reduced;
      facts = λ u s is. subst (λ (ns : List Node). IsTrueFact ns u s) (sym same)
          (updated nodes (facts_of lines) t r are.facts own u s (is_triple t u) refl
          (sym (ap (λ (facts : Facts). facts u) (facts-fact lines t r)) ∙ is));
      stated = λ k u s at. subst (λ (ns : List Node). IsTrueFact ns u s) (sym same)
          (elim (get-push lines (fact_line t r) k (fact_line u s) at) [
            | inl old ↦ are.stated k u s old
            | inr last ↦
                let both = same_fact t u r s last.1 in
                subst (λ (x : ℕ). IsTrueFact nodes u x) both.1
                (subst (λ (x : Triple). IsTrueFact nodes x r) both.0 own)
          ]);
    }

right-line : (lines : List LogLine) (line : LogLine) → AreRight lines → keeps lines line ≡ true
    → AreRight (lines ++ line ∷ [])
unfolding keeps
right-line lines (says.Node word bit high low) are kept =
    right-node lines (record { word = word; bit = bit; high = high; low = low }) are kept
right-line lines (says.Fact f g h r) are kept = right-fact lines (triple f g h) r are kept

right-lines : (before lines : List LogLine) → AreRight before → keep_behind before lines ≡ true
    → AreRight (before ++ lines)
unfolding keep_behind
right-lines before [] are kept = subst AreRight (sym (append-nil before)) are
right-lines before (line ∷ rest) are kept =
    let parts = and_parts (keeps before line) (keep_behind (before ++ line ∷ []) rest) kept in
    subst AreRight (append_assoc before (line ∷ []) rest)
    (right-lines (before ++ line ∷ []) rest (right-line before line are parts.0) parts.1)

right-none : AreRight []
unfolding nodes_of facts_of
right-none = record {
  reduced = reduced-none;
  facts = λ t r is. absurd cc;
  stated = λ k t r at. absurd cc;
}

pub lines_say_true : LinesSayTrue
lines_say_true lines kept =
    let nodes = nodes_of lines in
    let are = right-lines [] lines right-none kept in
    record {
      zero = λ given. value-zero given nodes;
      one = λ given. value-one given nodes;
      nodes = λ k n at given.
          let i = are.reduced.inner k n at in
          value-node given nodes k n at i.low i.high;
      canonical = canonical nodes are.reduced;
      facts = λ k f g h r at. (are.stated k (triple f g h) r at).value;
    }
