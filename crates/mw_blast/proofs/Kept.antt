-- What was made, along terms and diagrams that grow, and with more made.
use Rattle.std.proofs.Common.{◌≡◌, inl, inr, ℕ, zero, suc, ◌+◌, ◌<◌, ◌≤◌, List, [], ◌∷◌, ◌++◌, length, drop}
use Rattle.std.proofs.Common.{slice_index, refl, ap, sym, ◌∙◌, arith, subst, length-append}
use Rattle.std.specs.Prelude.{Bool, true, false, Option, Some, None, slice_index_or, slice_set, not, find, cond}
use Rattle.std.specs.Prelude.{is_some, Contains, All}
use Rattle.std.proofs.lemmas.Bool.{cases_eq}
use Rattle.std.proofs.lemmas.List.{get_or_append_left, get_or-append-add, get_or-set_same, get_or-set_other}
use Rattle.std.proofs.lemmas.List.{take-append-drop}
use Rattle.mw_base.specs.Words.{bit_of}
use Rattle.mw_term.specs.Assigned.{Given}
use Rattle.mw_term.specs.Rows.{bit}
use Rattle.mw_term.specs.Table.{Table, Extends, widths_of, term_width}
use Rattle.mw_term.specs.Values.{values_of, term_value}
use Rattle.mw_term.proofs.Tables.{widths_append, widths_begin, values_append, values_begin, widths_count, values_count}
use Rattle.mw_dd.specs.Nodes.{Node}
use Rattle.mw_blast.specs.Bits.{StandsFor, AreBits}
use Rattle.mw_blast.specs.Kept.{Made, made_of, start_of, is_made, AreMade, AreKept, IsOf, StaysWithTerms}
use Rattle.mw_blast.specs.Kept.{StaysWithDiagrams, unmade}
use Rattle.mw_blast.proofs.Bits.{stays}

-- ---- laws

pub stays_with_diagrams : StaysWithDiagrams
stays_with_diagrams t old new made keeps of = record {
  kept = λ term start at.
      let are = of.kept term start at in
      record {
        there = are.there;
        within = are.within;
        each = λ j inside. stays old new (slice_index made.bits (start + j)) (bit t term j) keeps (are.each j inside);
      };
}

-- a term of a table has the width and the value that it has with more terms
pub record IsSame (old new : Table) (term : ℕ) : Type 0 where
  pub width : term_width new term ≡ term_width old term
  pub value : (given : Given) → term_value new given term ≡ term_value old given term

same_term : (old new : Table) (term : ℕ) → Extends old new → term < length old.ops → IsSame old new term
same_term old new term extends inside =
    let n = length old.ops in
    let rest = drop n new.ops in
    let parted : new.ops ≡ old.ops ++ rest = sym (take-append-drop n new.ops) ∙ ap (λ ops. ops ++ rest) extends.ops in
    let ws = widths_of old.ops in
    let wider = widths_begin ws rest in
    let widths : widths_of new.ops ≡ ws ++ wider.0 = ap widths_of parted ∙ widths_append [] old.ops rest ∙ wider.1 in
    record {
      width = ap (λ xs. slice_index xs term) widths
          ∙ get_or_append_left ws wider.0 0 term (omega (arith, inside, widths_count old.ops));
      value = λ given.
          let vs = values_of old.map given old.ops in
          let further = values_begin old.map given ws vs rest in
          ap (λ map. slice_index (values_of map given new.ops) term) extends.map
          ∙ ap (λ ops. slice_index (values_of old.map given ops) term) parted
          ∙ ap (λ xs. slice_index xs term) (values_append old.map given [] [] old.ops rest ∙ further.1)
          ∙ get_or_append_left vs further.0 0 term (omega (arith, inside, values_count old.map given old.ops));
    }

pub stays_with_terms : StaysWithTerms
stays_with_terms old new nodes made extends of = record {
  kept = λ term start at.
      let are = of.kept term start at in
      let same = same_term old new term extends are.there in
      record {
        there = omega (arith, are.there, extends.more);
        within = omega (arith, are.within, same.width);
        each = λ j inside.
            let stands = are.each j (omega (arith, inside, same.width)) in
            record {
              there = stands.there;
              exact = λ given. stands.exact given ∙ ap (λ v. bit_of v j) (sym (same.value given));
            };
      };
}

-- ---- what was made of one term

-- with one more made
pub made_more : (t : Table) (nodes : List Node) (made : Made) (term : ℕ) (xs : List ℕ) → IsOf t nodes made
    → term < length t.ops → term < length made.starts → AreBits t nodes term xs
    → IsOf t nodes (made_of (slice_set made.starts term (Some (length made.bits))) (made.bits ++ xs))
made_more t nodes made term xs of there room are = record {
  kept = λ other start at. elim (cases_eq other term) [
    | inl same ↦
        let here : Some (length made.bits) ≡ Some start =
        sym (ap (λ (k : ℕ). slice_index_or (slice_set made.starts term (Some (length made.bits))) k None) same
        ∙ get_or-set_same made.starts term (Some (length made.bits)) None room) ∙ at in
        let begins : start ≡ length made.bits = cc in
        record {
          there = omega (arith, there, same);
          within = subst (λ (k : ℕ). start + term_width t k ≤ length (made.bits ++ xs)) (sym same)
              (omega (arith, begins, are.count, length-append made.bits xs));
          each = λ j inside.
              let wide : j < length xs = omega (arith, are.count, ap (λ (k : ℕ). term_width t k) same, inside) in
              let at_xs : slice_index (made.bits ++ xs) (start + j) ≡ slice_index xs j =
              ap (λ (k : ℕ). slice_index (made.bits ++ xs) (k + j)) begins ∙ get_or-append-add made.bits xs j 0 in
              subst (λ x. StandsFor nodes x (bit t other j)) (sym at_xs)
              (subst (λ (k : ℕ). StandsFor nodes (slice_index xs j) (bit t k j)) (sym same) (are.each j wide));
        }
    | inr differ ↦
        let before : start_of made other ≡ Some start =
        sym (get_or-set_other made.starts term other (Some (length made.bits)) None differ) ∙ at in
        let kept = of.kept other start before in
        record {
          there = kept.there;
          within = omega (arith, kept.within, length-append made.bits xs);
          each = λ j inside. subst (λ x. StandsFor nodes x (bit t other j))
              (sym (get_or_append_left made.bits xs 0 (start + j) (omega (arith, kept.within, inside))))
              (kept.each j inside);
        }
  ];
}

-- ---- whether a term was made

pub made_same : (made : Made) (term start : ℕ) → term < length made.starts → (bits : List ℕ)
    → is_made (made_of (slice_set made.starts term (Some start)) bits) term ≡ true
made_same made term start room bits = ap is_some (get_or-set_same made.starts term (Some start) None room)

pub made_other : (made : Made) (term other start : ℕ) → (other ≡ term → ⊥) → (bits : List ℕ)
    → is_made (made_of (slice_set made.starts term (Some start)) bits) other ≡ is_made made other
made_other made term other start differ bits =
    ap is_some (get_or-set_other made.starts term other (Some start) None differ)

not_made : (o : Option ℕ) → is_some o ≡ false → o ≡ None
not_made None is = refl
not_made (Some x) is = absurd cc

-- one term fewer is unmade where it was made
unmade_set : (starts : List (Option ℕ)) (term start : ℕ) → term < length starts
    → slice_index_or starts term None ≡ None
    → unmade (slice_set starts term (Some start)) + 1 ≡ unmade starts
unmade_set [] term start room none = absurd (omega arith)
unmade_set (None ∷ rest) zero start room none = refl
unmade_set (Some x ∷ rest) zero start room none = absurd cc
unmade_set (None ∷ rest) (suc term) start room none = omega (arith, unmade_set rest term start (omega arith) none)
unmade_set (Some x ∷ rest) (suc term) start room none = unmade_set rest term start (omega arith) none

pub unmade_fewer : (made : Made) (term start : ℕ) → term < length made.starts → is_made made term ≡ false
    → unmade (slice_set made.starts term (Some start)) + 1 ≡ unmade made.starts
unmade_fewer made term start room missing =
    unmade_set made.starts term start room (not_made (start_of made term) missing)

-- ---- the first operand that wasn't made

not_true : (b : Bool) → not b ≡ false → b ≡ true
not_true true is = refl
not_true false is = absurd cc

not_false : (b : Bool) → not b ≡ true → b ≡ false
not_false true is = absurd cc
not_false false is = refl

-- the first that passes a test is among the list, and passes it
pub record IsFound (p : ℕ → Bool) (xs : List ℕ) (x : ℕ) : Type 0 where
  pub among : Contains xs x
  pub passes : p x ≡ true

found_in : (p : ℕ → Bool) (y : ℕ) (xs : List ℕ) (x : ℕ) (b : Bool) → p y ≡ b → cond b (Some y) (find p xs) ≡ Some x
    → (find p xs ≡ Some x → IsFound p xs x) → IsFound p (y ∷ xs) x
found_in p y xs x true passes is later =
    let same : y ≡ x = cc in
    record { among = (0, omega arith, same); passes = subst (λ (z : ℕ). p z ≡ true) same passes }
found_in p y xs x false passes is later =
    let found = later is in
    record { among = (suc found.among.0, omega (arith, found.among.1), found.among.2); passes = found.passes }

pub found_is : (p : ℕ → Bool) (xs : List ℕ) (x : ℕ) → find p xs ≡ Some x → IsFound p xs x
found_is p [] x is = absurd cc
found_is p (y ∷ xs) x is = found_in p y xs x (p y) refl is (found_is p xs x)

-- where none passes it each fails
none_in : (p : ℕ → Bool) (y : ℕ) (xs : List ℕ) (b : Bool) → p y ≡ b → cond b (Some y) (find p xs) ≡ None
    → (find p xs ≡ None → All (λ z. p z ≡ false) xs) → All (λ z. p z ≡ false) (y ∷ xs)
none_in p y xs true passes is later k d inside = absurd cc
none_in p y xs false passes is later zero d inside = passes
none_in p y xs false passes is later (suc k) d inside = later is k d (omega arith)

none_is : (p : ℕ → Bool) (xs : List ℕ) → find p xs ≡ None → All (λ z. p z ≡ false) xs
none_is p [] is k d inside = absurd (omega arith)
none_is p (y ∷ xs) is k d inside = none_in p y xs (p y) refl is (none_is p xs) k d inside

pub all_made : (made : Made) (xs : List ℕ) → find (λ a. not (is_made made a)) xs ≡ None → AreMade made xs
all_made made xs is k d inside =
    not_true (is_made made (slice_index_or xs k d)) (none_is (λ a. not (is_made made a)) xs is k d inside)

pub first_missing : (made : Made) (xs : List ℕ) (x : ℕ) → find (λ a. not (is_made made a)) xs ≡ Some x
    → Contains xs x × (is_made made x ≡ false)
first_missing made xs x is =
    let found = found_is (λ a. not (is_made made a)) xs x is in
    (found.among, not_false (is_made made x) found.passes)

-- what begins where it began and has the same bits is as right
pub same_of : (t : Table) (nodes : List Node) (old new : Made)
    → ((other : ℕ) → start_of new other ≡ start_of old other)
    → new.bits ≡ old.bits → IsOf t nodes old → IsOf t nodes new
same_of t nodes old new starts bits of = record {
  kept = λ term start at. subst (λ (xs : List ℕ). AreKept t nodes xs term start) (sym bits)
      (of.kept term start (sym (starts term) ∙ at));
}
