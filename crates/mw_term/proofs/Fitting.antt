-- An op that fits some terms: what it is over these, and over more of them.
use Rattle.std.proofs.Common.{◌≡◌, ℕ, ◌+◌, ◌<◌, ◌^◌, List, ◌++◌, length, slice_index, refl, ap₂, arith, sym, ◌∙◌}
use Rattle.std.proofs.Common.{length-append}
use Rattle.std.specs.Prelude.{Bool, true, false, ◌-◌, ◌%◌, ◌==◌, nat_lt, bit_and, bit_or, bit_xor, if◌then◌else◌}
use Rattle.mw_base.specs.Carries.{carry_at}
use Rattle.mw_base.specs.Words.{num, differ}
use Rattle.std.proofs.lemmas.List.{get_or_append_left}
use Rattle.std.proofs.lemmas.Nat.{pow_pos, mod_below, or_lt, xor_lt, and_le_l}
use Rattle.mw_base.proofs.Carries.{num_small}
use Rattle.mw_base.proofs.Widths.{joined_below}
use Rattle.mw_term.specs.declared.op.Op.{Op}
use Rattle.mw_term.specs.declared.op.Op.TheVariants.{Con, Var, Not, And, Or, Xor, Sum, Cout, Ovf, Eq, Lt, Ite, Part}
use Rattle.mw_term.specs.declared.op.Op.TheVariants.{Join, Tab}
use Rattle.mw_term.specs.Assigned.{Given}
use Rattle.mw_term.specs.Table.{op_width, IsWidth, AreWidths, ArePair, IsBit, OpFits, IsMap}
use Rattle.mw_term.specs.Values.{op_value, AreWords}

-- ---- more terms behind those there are

-- a term's number stays
pub stays : (xs more : List ℕ) (a : ℕ) → a < length xs → slice_index (xs ++ more) a ≡ slice_index xs a
stays xs more a inside = get_or_append_left xs more 0 a inside

inside_more : (xs more : List ℕ) (a : ℕ) → a < length xs → a < length (xs ++ more)
inside_more xs more a inside = omega (arith, length-append xs more)

pair_more : (ws more : List ℕ) (a b : ℕ) → ArePair ws a b → ArePair (ws ++ more) a b
pair_more ws more a b h =
    (inside_more ws more a h.0, inside_more ws more b h.1, stays ws more a h.0 ∙ h.2 ∙ sym (stays ws more b h.1))

bit_more : (ws more : List ℕ) (c : ℕ) → IsBit ws c → IsBit (ws ++ more) c
bit_more ws more c h = (inside_more ws more c h.0, stays ws more c h.0 ∙ h.1)

pub fits_more : (map ws more : List ℕ) (op : Op) → OpFits map ws op → OpFits map (ws ++ more) op
fits_more map ws more (Con number w) h = h
fits_more map ws more (Var word w) h = h
fits_more map ws more (Not a) h = inside_more ws more a h
fits_more map ws more (And a b) h = pair_more ws more a b h
fits_more map ws more (Or a b) h = pair_more ws more a b h
fits_more map ws more (Xor a b) h = pair_more ws more a b h
fits_more map ws more (Sum a b c) h = (pair_more ws more a b h.0, bit_more ws more c h.1)
fits_more map ws more (Cout a b c) h = (pair_more ws more a b h.0, bit_more ws more c h.1)
fits_more map ws more (Ovf a b c) h = (pair_more ws more a b h.0, bit_more ws more c h.1)
fits_more map ws more (Eq a b) h = pair_more ws more a b h
fits_more map ws more (Lt a b) h = pair_more ws more a b h
fits_more map ws more (Ite c a b) h = (bit_more ws more c h.0, pair_more ws more a b h.1)
fits_more map ws more (Part a low w) h = (inside_more ws more a h.0, h.1, rw (stays ws more a h.0) h.2)
fits_more map ws more (Join high low) h =
    (inside_more ws more high h.0, inside_more ws more low h.1, rw (stays ws more high h.0, stays ws more low h.1) h.2)
fits_more map ws more (Tab i) h = (inside_more ws more i h.0, rw (stays ws more i h.0) h.1)

-- and so does an op's width
pub width_more : (map ws more : List ℕ) (op : Op) → OpFits map ws op → op_width (ws ++ more) op ≡ op_width ws op
unfolding op_width
width_more map ws more (Con number w) h = refl
width_more map ws more (Var word w) h = refl
width_more map ws more (Not a) h = stays ws more a h
width_more map ws more (And a b) h = stays ws more a h.0
width_more map ws more (Or a b) h = stays ws more a h.0
width_more map ws more (Xor a b) h = stays ws more a h.0
width_more map ws more (Sum a b c) h = stays ws more a h.0.0
width_more map ws more (Cout a b c) h = refl
width_more map ws more (Ovf a b c) h = refl
width_more map ws more (Eq a b) h = refl
width_more map ws more (Lt a b) h = refl
width_more map ws more (Ite c a b) h = stays ws more a h.1.0
width_more map ws more (Part a low w) h = refl
width_more map ws more (Join high low) h = ap₂ (λ (m n : ℕ). m + n) (stays ws more high h.0) (stays ws more low h.1)
width_more map ws more (Tab i) h = refl

-- what is made of two terms' values stays
pair_stays : (ws vs further : List ℕ) (a b : ℕ) → ArePair ws a b → length vs ≡ length ws → (made : ℕ → ℕ → ℕ)
    → made (slice_index (vs ++ further) a) (slice_index (vs ++ further) b) ≡ made (slice_index vs a) (slice_index vs b)
pair_stays ws vs further a b h same made =
    ap₂ made (stays vs further a (omega (arith, same, h.0))) (stays vs further b (omega (arith, same, h.1)))

-- and so does what is made of the width and the values of a sum
sum_stays : (ws vs wider further : List ℕ) (a b c : ℕ) → ArePair ws a b × IsBit ws c → length vs ≡ length ws
    → (made : (w r s k : ℕ) → ℕ)
    → made (slice_index (ws ++ wider) a) (slice_index (vs ++ further) a) (slice_index (vs ++ further) b)
    (slice_index (vs ++ further) c)
    ≡ made (slice_index ws a) (slice_index vs a) (slice_index vs b) (slice_index vs c)
sum_stays ws vs wider further a b c h same made =
    rw (
      stays ws wider a h.0.0,
      stays vs further a (omega (arith, same, h.0.0)),
      stays vs further b (omega (arith, same, h.0.1)),
      stays vs further c (omega (arith, same, h.1.0)),
    ) refl

-- and its value
pub value_more : (map : List ℕ) (given : Given) (ws vs wider further : List ℕ) (op : Op) → OpFits map ws op
    → length vs ≡ length ws
    → op_value map given (ws ++ wider) (vs ++ further) op ≡ op_value map given ws vs op
unfolding op_value
value_more map given ws vs wider further (Con number w) h same = refl
value_more map given ws vs wider further (Var word w) h same = refl
value_more map given ws vs wider further (Not a) h same =
    rw (stays ws wider a h, stays vs further a (omega (arith, same))) refl
value_more map given ws vs wider further (And a b) h same = pair_stays ws vs further a b h same bit_and
value_more map given ws vs wider further (Or a b) h same = pair_stays ws vs further a b h same bit_or
value_more map given ws vs wider further (Xor a b) h same = pair_stays ws vs further a b h same bit_xor
value_more map given ws vs wider further (Sum a b c) h same =
    sum_stays ws vs wider further a b c h same (λ w r s k. (r + s + k) % 2 ^ w)
value_more map given ws vs wider further (Cout a b c) h same =
    sum_stays ws vs wider further a b c h same (λ w r s k. num (carry_at r s (k == 1) w))
value_more map given ws vs wider further (Ovf a b c) h same =
    sum_stays ws vs wider further a b c h same
    (λ w r s k. num (differ (carry_at r s (k == 1) (w - 1)) (carry_at r s (k == 1) w)))
value_more map given ws vs wider further (Eq a b) h same = pair_stays ws vs further a b h same (λ r s. num (r == s))
value_more map given ws vs wider further (Lt a b) h same = pair_stays ws vs further a b h same (λ r s. num (nat_lt r s))
value_more map given ws vs wider further (Ite c a b) h same =
    rw (
      stays vs further c (omega (arith, same, h.0.0)),
      stays vs further a (omega (arith, same, h.1.0)),
      stays vs further b (omega (arith, same, h.1.1)),
    ) refl
value_more map given ws vs wider further (Part a low w) h same = rw (stays vs further a (omega (arith, same, h.0))) refl
value_more map given ws vs wider further (Join high low) h same =
    rw (
      stays ws wider low h.1,
      stays vs further high (omega (arith, same, h.0)),
      stays vs further low (omega (arith, same, h.1)),
    ) refl
value_more map given ws vs wider further (Tab i) h same = rw (stays vs further i (omega (arith, same, h.0))) refl

-- ---- what an op is over terms

-- an op has 1 to 32 bits
pub width_range : (map ws : List ℕ) (op : Op) → AreWidths ws
    → OpFits map ws op
    → IsWidth (op_width ws op)
unfolding op_width
width_range map ws (Con number w) each h = h.0
width_range map ws (Var word w) each h = h
width_range map ws (Not a) each h = each a h
width_range map ws (And a b) each h = each a h.0
width_range map ws (Or a b) each h = each a h.0
width_range map ws (Xor a b) each h = each a h.0
width_range map ws (Sum a b c) each h = each a h.0.0
width_range map ws (Cout a b c) each h = (omega arith, omega arith)
width_range map ws (Ovf a b c) each h = (omega arith, omega arith)
width_range map ws (Eq a b) each h = (omega arith, omega arith)
width_range map ws (Lt a b) each h = (omega arith, omega arith)
width_range map ws (Ite c a b) each h = each a h.1.0
width_range map ws (Part a low w) each h = h.1
width_range map ws (Join high low) each h = (omega (arith, (each high h.0).0), h.2)
width_range map ws (Tab i) each h = (omega arith, omega arith)

either_below : (b : Bool) (x y most : ℕ) → x < most → y < most → (if b then x else y) < most
either_below true x y most first second = first
either_below false x y most first second = second

-- its value has no more
pub value_below : (map : List ℕ) (given : Given) (ws vs : List ℕ) (op : Op) → IsMap map → AreWords ws vs
    → OpFits map ws op
    → op_value map given ws vs op < 2 ^ op_width ws op
unfolding op_value op_width
value_below map given ws vs (Con number w) right words h = h.1
value_below map given ws vs (Var word w) right words h = mod_below (given word) (2 ^ w) (pow_pos w)
value_below map given ws vs (Not a) right words h = omega (arith, pow_pos (slice_index ws a))
value_below map given ws vs (And a b) right words h =
    omega (arith, words.words a h.0, and_le_l (slice_index vs a) (slice_index vs b))
value_below map given ws vs (Or a b) right words h =
    or_lt (slice_index ws a) (slice_index vs a) (slice_index vs b) (words.words a h.0) (rw h.2 (words.words b h.1))
value_below map given ws vs (Xor a b) right words h =
    xor_lt (slice_index ws a) (slice_index vs a) (slice_index vs b) (words.words a h.0) (rw h.2 (words.words b h.1))
value_below map given ws vs (Sum a b c) right words h =
    mod_below (slice_index vs a + slice_index vs b + slice_index vs c) (2 ^ slice_index ws a)
    (pow_pos (slice_index ws a))
value_below map given ws vs (Cout a b c) right words h = num_small _
value_below map given ws vs (Ovf a b c) right words h = num_small _
value_below map given ws vs (Eq a b) right words h = num_small _
value_below map given ws vs (Lt a b) right words h = num_small _
value_below map given ws vs (Ite c a b) right words h =
    either_below (slice_index vs c == 1) (slice_index vs a) (slice_index vs b) (2 ^ slice_index ws a)
    (words.words a h.1.0) (rw h.1.2 (words.words b h.1.1))
value_below map given ws vs (Part a low w) right words h = mod_below _ (2 ^ w) (pow_pos w)
value_below map given ws vs (Join high low) right words h =
    joined_below (slice_index vs high) (slice_index vs low) (slice_index ws high) (slice_index ws low)
    (words.words high h.0) (words.words low h.1)
value_below map given ws vs (Tab i) right words h = right.entries (slice_index vs i) (rw h.1 (words.words i h.0))
