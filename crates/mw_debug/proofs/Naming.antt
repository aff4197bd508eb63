-- Labels, one by one.
use Rattle.std.proofs.Common.{◌≡◌, ℕ, List, [], ◌∷◌, ◌++◌, Bool, true, false, cond, Option, Some, None, option_map}
use Rattle.std.proofs.Common.{refl, sym, ap, ◌∙◌}
use Rattle.std.specs.Bool.{Decides}
use Rattle.std.specs.Str.{bytes_eq}
use Rattle.std.proofs.lemmas.Slice.Eq.{bytes_eq-Decides}
use Rattle.mw_asm.specs.declared.assembled.Label.{Label}
use Rattle.mw_asm.specs.Labels.{label_named}
use Rattle.mw_debug.specs.Labels.{with_label}

-- the first of two that is there
abbrev first_of : Option ℕ → Option ℕ → Option ℕ
first_of (Some n) other = Some n
first_of None other = other

first_alone : (n : Option ℕ) → first_of n None ≡ n
first_alone (Some n) = refl
first_alone None = refl

-- the address of a label, if it has the name
abbrev address_if : Bool → Label → Option ℕ
address_if b label = cond b (Some label.address) None

one_named : (b : Bool) (label : Label)
    → option_map (λ (l : Label). l.address) (cond b (Some label) None) ≡ address_if b label
one_named true label = refl
one_named false label = refl

before_more : (b : Bool) (first : Label) (found more : Option Label) (last : Option ℕ)
    → option_map (λ (l : Label). l.address) more ≡ first_of (option_map (λ (l : Label). l.address) found) last
    → option_map (λ (l : Label). l.address) (cond b (Some first) more)
    ≡ first_of (option_map (λ (l : Label). l.address) (cond b (Some first) found)) last
before_more true first found more last is = refl
before_more false first found more last is = is

-- what a name stands for with a label more
named_more : (labels : List Label) (label : Label) (name : List ℕ)
    → label_named (labels ++ label ∷ []) name
    ≡ first_of (label_named labels name) (address_if (bytes_eq name label.name) label)
named_more [] label name = one_named (bytes_eq name label.name) label
named_more (first ∷ rest) label name =
    before_more (bytes_eq name first.name) first _ _ _ (named_more rest label name)

-- two texts are one or they aren't, whichever is asked for first
both_ways : (a b : List ℕ) (x y : Bool) → Decides x (a ≡ b) → Decides y (b ≡ a) → x ≡ y
both_ways a b true true same again = refl
both_ways a b false false same again = refl
both_ways a b true false same other = absurd (let no : false ≡ true = other.1 (sym (same.0 refl)) in cc)
both_ways a b false true other same = absurd (let no : false ≡ true = other.1 (sym (same.0 refl)) in cc)

turned : (a b : List ℕ) → bytes_eq a b ≡ bytes_eq b a
turned a b = both_ways a b (bytes_eq a b) (bytes_eq b a) (bytes_eq-Decides a b) (bytes_eq-Decides b a)

-- a label whose name has an address already changes nothing
kept_at : (names : List ℕ → Option ℕ) (label : Label) (n : ℕ) (other : List ℕ) (b : Bool) → names label.name ≡ Some n
    → Decides b (other ≡ label.name) → names other ≡ first_of (names other) (address_if b label)
kept_at names label n other true is same =
    let there : names other ≡ Some n = ap names (same.0 refl) ∙ is in
    rw there refl
kept_at names label n other false is apart = sym (first_alone (names other))

-- one whose name has none adds it
added_at : (names : List ℕ → Option ℕ) (label : Label) (other : List ℕ) (b : Bool) → names label.name ≡ None
    → Decides b (other ≡ label.name)
    → cond b (Some label.address) (names other) ≡ first_of (names other) (address_if b label)
added_at names label other true is same =
    let none : names other ≡ None = ap names (same.0 refl) ∙ is in
    rw none refl
added_at names label other false is apart = sym (first_alone (names other))

with_at : (names : List ℕ → Option ℕ) (label : Label) (known : Option ℕ) (other : List ℕ) → names label.name ≡ known
    → with_label names label other ≡ first_of (names other) (address_if (bytes_eq other label.name) label)
with_at names label (Some n) other is =
    rw is (kept_at names label n other (bytes_eq other label.name) is (bytes_eq-Decides other label.name))
with_at names label None other is =
    rw (is, turned label.name other)
    (added_at names label other (bytes_eq other label.name) is (bytes_eq-Decides other label.name))

-- the names of labels, with one label more
pub one_more : (labels : List Label) (label : Label) (names after : List ℕ → Option ℕ) → names ≡ label_named labels
    → after ≡ with_label names label → after ≡ label_named (labels ++ label ∷ [])
one_more labels label names after was is =
    is ∙ ap (λ (old : List ℕ → Option ℕ). with_label old label) was
    ∙ (λ i other. (with_at (label_named labels) label (label_named labels label.name) other refl
    ∙ sym (named_more labels label other)) i)
