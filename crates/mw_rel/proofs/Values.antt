-- The value of an expression that has a width is a word of that width.
use Rattle.std.proofs.Common.{◌≡◌, ℕ, zero, suc, ◌+◌, ◌-◌, ◌/◌, ◌^◌, ◌<◌, ◌≤◌, List, [], ◌∷◌, length, Bool, true, false}
use Rattle.std.proofs.Common.{not, ◌==◌, refl, sym, ap, ◌∙◌, subst, arith}
use Rattle.std.specs.Prelude.{Option, Some, None, nat_le, nat_lt, ◌&&◌, if◌then◌else◌, slice_get, slice_index}
use Rattle.std.proofs.lemmas.Bool.Decides.{nat_tests}
use Rattle.std.proofs.lemmas.Bool.{and_parts, ltb-true, leb-true, eqb-true}
use Rattle.std.proofs.lemmas.Nat.{pow_pos, or_lt, xor_lt, and_le_l, mod_below}
use Rattle.mw_base.specs.Words as words
use Rattle.mw_expr.specs.declared.expr.Pair2.{Pair2}
use Rattle.mw_expr.specs.declared.expr.Pair2.TheVariants.{And, Or, Xor, Add, Sub, Same, Differ, Less}
use Rattle.mw_expr.specs.declared.shape.Shape.{Shape}
use Rattle.mw_expr.specs.Tree.{Tree, element, constant, complement, pair, choice, part, join, widened, memory, Trees}
use Rattle.mw_expr.specs.Tree.{none, more}
use Rattle.mw_expr.specs.Values.{pair_value, value, joined, AreWords, IsImage}
use Rattle.mw_expr.specs.Widths.{width_if, element_width, width_after, pair_width, choice_width, part_width, added}
use Rattle.mw_expr.specs.Widths.{count, join_width, widened_width, memory_width, width, total_width}
use Rattle.mw_base.proofs.Widths.{below_wider, joined_below}

-- ---- what it takes to have a width

-- a rule that holds
if_some : (rule : Bool) (v w : ℕ) → width_if rule v ≡ Some w → (rule ≡ true) × (v ≡ w)
if_some true v w is = grind (arith, nat_tests)
if_some false v w is = grind (arith, nat_tests)

pair_some : (sign : Pair2) (a b : Option ℕ) (w : ℕ) → pair_width sign a b ≡ Some w
    → (x : ℕ) × (a ≡ Some x) × (b ≡ Some x) × (width_after sign x ≡ w)
pair_some sign (Some x) (Some y) w is =
    let h = if_some (x == y) (width_after sign x) w is in
    let same : y ≡ x = sym (eqb-true x y h.0) in
    (x, refl, ap Some same, h.1)
pair_some sign None b w is = absurd cc
pair_some sign (Some x) None w is = absurd cc

choice_some : (c a b : Option ℕ) (w : ℕ) → choice_width c a b ≡ Some w → (a ≡ Some w) × (b ≡ Some w)
choice_some (Some c) (Some x) (Some y) w is =
    let h = if_some ((c == 1) && (x == y)) x w is in
    let same : y ≡ x = sym (eqb-true x y (and_parts _ _ h.0).1) in
    (ap Some h.1, ap Some (same ∙ h.1))
choice_some None a b w is = absurd cc
choice_some (Some c) None b w is = absurd cc
choice_some (Some c) (Some x) None w is = absurd cc

part_some : (high low : ℕ) (e : Option ℕ) (w : ℕ) → part_width high low e ≡ Some w → high - low + 1 ≡ w
part_some high low (Some v) w is = (if_some _ (high - low + 1) w is).1
part_some high low None w is = absurd cc

join_some : (n : ℕ) (whole : Option ℕ) (w : ℕ) → join_width n whole ≡ Some w → whole ≡ Some w
join_some n (Some v) w is = ap Some (if_some _ v w is).1
join_some n None w is = absurd cc

widened_some : (to : ℕ) (e : Option ℕ) (w : ℕ) → widened_width to e ≡ Some w
    → (v : ℕ) × (e ≡ Some v) × (v ≤ to) × (to ≡ w)
widened_some to (Some v) w is = let h = if_some (nat_le v to) to w is in (v, refl, leb-true v to h.0, h.1)
widened_some to None w is = absurd cc

memory_some : (address word : ℕ) (e : Option ℕ) (w : ℕ) → memory_width address word e ≡ Some w → word ≡ w
memory_some address word (Some v) w is = (if_some (v == address) word w is).1
memory_some address word None w is = absurd cc

added_some : (a b : Option ℕ) (w : ℕ) → added a b ≡ Some w
    → (x : ℕ) × (y : ℕ) × (a ≡ Some x) × (b ≡ Some y) × (x + y ≡ w)
added_some (Some x) (Some y) w is = (x, y, refl, refl, (let h : x + y ≡ w = cc in h))
added_some None b w is = absurd cc
added_some (Some x) None w is = absurd cc

-- an element's value
element_below : (widths values : List ℕ) (n w : ℕ)
    → ((i : ℕ) → i < length widths → slice_index values i < 2 ^ slice_index widths i)
    → element_width (slice_get widths n) ≡ Some w → slice_index values n < 2 ^ w
element_below [] values n w each is = absurd cc
element_below (v ∷ rest) values zero w each is = let h = if_some true v w is in subst
    (λ x. slice_index values 0 < 2 ^ x) h.1 (each 0 (omega arith))
element_below (v ∷ rest) [] (suc n) w each is = pow_pos w
element_below (v ∷ rest) (x ∷ values) (suc n) w each is = element_below rest values n w
    (λ i below. each (suc i) (omega arith)) is

-- ---- values

-- a bit
num_below : (b : Bool) → words.num b < 2 ^ 1
num_below true = omega arith
num_below false = omega arith

-- what a sign makes
pair_below : (sign : Pair2) (w a b : ℕ) → a < 2 ^ w → b < 2 ^ w → pair_value sign w a b < 2 ^ width_after sign w
pair_below And w a b one other = omega (arith, and_le_l a b)
pair_below Or w a b one other = or_lt w a b one other
pair_below Xor w a b one other = xor_lt w a b one other
pair_below Add w a b one other = mod_below (a + b) (2 ^ w) (pow_pos w)
pair_below Sub w a b one other = mod_below (a + (2 ^ w - b)) (2 ^ w) (pow_pos w)
pair_below Same w a b one other = num_below (a == b)
pair_below Differ w a b one other = num_below (not (a == b))
pair_below Less w a b one other = num_below (nat_lt a b)

either_below : (test : Bool) (a b most : ℕ) → a < most → b < most → (if test then a else b) < most
either_below true a b most one other = one
either_below false a b most one other = other

mutual
  pub value_below : (s : Shape) (values image : List ℕ) (tree : Tree) (w : ℕ) → AreWords s.widths values
      → IsImage s image
      → width s tree ≡ Some w → value s values image tree < 2 ^ w
  value_below s values image (element n) w words_fit image_fits is = element_below s.widths values n w words_fit.each is
  value_below s values image (constant number v) w words_fit image_fits is =
      let h = if_some (nat_lt number (2 ^ v)) v w is in
      subst (λ x. number < 2 ^ x) h.1 (ltb-true number (2 ^ v) h.0)
  value_below s values image (complement e) w words_fit image_fits is = rw is (omega (arith, pow_pos w))
  value_below s values image (pair sign a b) w words_fit image_fits is =
      let h = pair_some sign (width s a) (width s b) w is in
      let one = value_below s values image a h.0 words_fit image_fits h.1 in
      let other = value_below s values image b h.0 words_fit image_fits h.2 in
      rw h.1 (subst (λ x. pair_value sign h.0 (value s values image a) (value s values image b) < 2 ^ x) h.3
      (pair_below sign h.0 _ _ one other))
  value_below s values image (choice c a b) w words_fit image_fits is =
      let h = choice_some (width s c) (width s a) (width s b) w is in
      either_below (value s values image c == 1) _ _ (2 ^ w)
      (value_below s values image a w words_fit image_fits h.0)
      (value_below s values image b w words_fit image_fits h.1)
  value_below s values image (part e high low) w words_fit image_fits is =
      let h = part_some high low (width s e) w is in
      subst (λ x. words.part low (high - low + 1) (value s values image e) < 2 ^ x) h
      (mod_below (value s values image e / 2 ^ low) (2 ^ (high - low + 1)) (pow_pos (high - low + 1)))
  value_below s values image (join parts) w words_fit image_fits is =
      joined_words s values image parts w words_fit image_fits (join_some (count parts) (total_width s parts) w is)
  value_below s values image (widened e to) w words_fit image_fits is =
      let h = widened_some to (width s e) w is in
      below_wider (value s values image e) h.0 w (value_below s values image e h.0 words_fit image_fits h.1)
      (omega (arith, h.2, h.3))
  value_below s values image (memory address) w words_fit image_fits is =
      subst (λ x. slice_index image (value s values image address) < 2 ^ x)
      (memory_some s.address s.word (width s address) w is)
      (image_fits.words (value s values image address))

  pub joined_words : (s : Shape) (values image : List ℕ) (parts : Trees) (w : ℕ) → AreWords s.widths values
      → IsImage s image
      → total_width s parts ≡ Some w → joined s values image parts < 2 ^ w
  joined_words s values image none w words_fit image_fits is = pow_pos w
  joined_words s values image (more tree rest) w words_fit image_fits is =
      let h = added_some (width s tree) (total_width s rest) w is in
      let one = value_below s values image tree h.0 words_fit image_fits h.2 in
      let others = joined_words s values image rest h.1 words_fit image_fits h.3 in
      rw h.3 (subst (λ x. words.join h.1 (value s values image tree) (joined s values image rest) < 2 ^ x) h.4
      (joined_below _ _ h.0 h.1 one others))
