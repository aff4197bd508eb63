-- Where nothing is at fault, the numbers of a tree fit an expression.
use Rattle.std.proofs.Common.{◌≡◌, ℕ, ◌+◌, ◌-◌, ◌<◌, ◌≤◌, ◌^◌, List, [], ◌∷◌, ◌++◌, Bool, true, false, refl, arith}
use Rattle.std.specs.Prelude.{Option, Some, None, nat_le, nat_lt, ◌&&◌, ◌||◌, if◌then◌else◌, slice_get}
use Rattle.std.proofs.lemmas.Bool.{and_from, ltb-true}
use Rattle.std.proofs.lemmas.Bool.Decides.{nat_tests}
use Rattle.std.proofs.lemmas.Option.{slice_get_within, get_or_from_slice_get}
use Rattle.mw_base.specs.declared.cursor.Numeral.{Numeral}
use Rattle.mw_base.specs.declared.token.Token.{Token}
use Rattle.mw_expr.specs.declared.expr.Pair2.TheVariants.{And, Or, Xor, Add, Sub, Same, Differ, Less}
use Rattle.mw_expr.specs.declared.shape.Shape.{Shape}
use Rattle.mw_expr.specs.Placed.{Placed, named, constant, complement, pair, choice, part, join, widened, memory, group}
use Rattle.mw_expr.specs.Placed.{Parts, none, more}
use Rattle.mw_expr.specs.Plain.{is_small_number, is_small, are_small}
use Rattle.mw_base.specs.declared.cause.Cause.TheVariants.{TooWide}
use Rattle.mw_base.specs.TokenLines.{fault_on}
use Rattle.mw_expr.specs.Text.{IsShape}
use Rattle.mw_expr.specs.Widths.{width_if, part_width}
use Rattle.mw_base.proofs.Widths.{below_wider}
use Rattle.mw_expr.specs.Faults.{named_width, same_width, seen_choice, within_32, seen_width, seen_total, pair_breaks}
use Rattle.mw_expr.specs.Faults.{is_other, part_breaks, is_past, deep, below, broken, unknown, is_improper, too_wide}
use Rattle.mw_expr.specs.Faults.{faults, faults_in, first_fault}
use Rattle.mw_base.proofs.FirstFaults.{no_first}

-- ---- lists of faults

pub nil_front : {A : Type 0} (xs ys : List A) → xs ++ ys ≡ [] → xs ≡ []
nil_front [] ys is = refl
nil_front (x ∷ xs) ys is = cc

pub nil_back : {A : Type 0} (xs ys : List A) → xs ++ ys ≡ [] → ys ≡ []
nil_back [] ys is = is
nil_back (x ∷ xs) ys is = cc

-- what has no fault breaks no rule
pub not_broken : (b : Bool) (token : Token) → broken b token ≡ [] → b ≡ false
not_broken true token is = cc
not_broken false token is = refl

-- ---- widths that are seen

pub width_if-most : (rule : Bool) (w v : ℕ) → width_if rule w ≡ Some v → (v ≤ 32) × (1 ≤ v)
width_if-most true w v is = grind (arith, nat_tests)
width_if-most false w v is = cc

pub named-most : (s : Shape) (number : Option ℕ) (w : ℕ) → IsShape s → named_width s number ≡ Some w
    → (w ≤ 32) × (1 ≤ w)
named-most s None w shape is = cc
named-most s (Some n) w shape is =
    let h = rw (get_or_from_slice_get s.widths n w w is) at (shape.widths n w (slice_get_within s.widths n w is)) in
    (h.1, h.0)

same-most : (a b : Option ℕ) (w : ℕ) → same_width a b ≡ Some w → a ≡ Some w
same-most (Some a) (Some b) w is = grind (arith, nat_tests)
same-most None b w is = cc
same-most (Some a) None w is = cc

-- ---- numbers that fit

small_number : (s : Shape) (number : Option ℕ) (token : Token) → IsShape s → unknown (named_width s number) token ≡ []
    → is_small_number number ≡ true
small_number s None token shape is = cc
small_number s (Some n) token shape is = found (slice_get s.widths n) refl is
  where
    found : (w : Option ℕ) → slice_get s.widths n ≡ w → unknown w token ≡ [] → nat_lt n (2 ^ 32) ≡ true
    found None e fault = cc
    found (Some w) e fault = let within = slice_get_within s.widths n w e in let few = shape.few in grind
        (arith, nat_tests)

pub value_fits : (b : Bool) (number : Numeral) (w : ℕ) → nat_lt number.value (2 ^ w) ≡ b
    → (if b then [] else fault_on number.token TooWide ∷ []) ≡ []
    → number.value < 2 ^ w
value_fits true number w e is = ltb-true number.value (2 ^ w) e
value_fits false number w e is = cc

small_constant : (number : Numeral) (hash : Token) (w : ℕ) → too_wide number w ++ broken (is_improper w) hash ≡ []
    → (nat_lt number.value (2 ^ 32) && nat_lt w (2 ^ 8)) ≡ true
small_constant number hash w is =
    let fits = value_fits (nat_lt number.value (2 ^ w)) number w refl
    (nil_front (too_wide number w) (broken (is_improper w) hash) is) in
    let proper = not_broken (is_improper w) hash (nil_back (too_wide number w) (broken (is_improper w) hash) is) in
    let most : w ≤ 32 = grind (arith, nat_tests) in
    let below = below_wider number.value w 32 fits most in
    grind (arith, nat_tests)

small_part : (high low : ℕ) (e : Option ℕ) (token : Token) → ((w : ℕ) → e ≡ Some w → w ≤ 32)
    → broken (part_breaks high low e) token ≡ []
    → (nat_lt high (2 ^ 8) && nat_lt low (2 ^ 8)) ≡ true
small_part high low (Some w) token most is = let no = not_broken _ token is in let at_most = most w refl in grind
    (arith, nat_tests)
small_part high low None token most is = let no = not_broken _ token is in grind (arith, nat_tests)

small_width : (w : ℕ) (past : Bool) (token : Token) → broken (is_improper w || past) token ≡ []
    → nat_lt w (2 ^ 8) ≡ true
small_width w past token is = let no = not_broken _ token is in grind (arith, nat_tests)

-- ---- the width that a part has is 1 to 32

within-most : (w : Option ℕ) (v : ℕ) → within_32 w ≡ Some v → v ≤ 32
within-most (Some w) v is = grind (arith, nat_tests)
within-most None v is = cc

part-most : (high low : ℕ) (e : Option ℕ) (w : ℕ) → part_width high low e ≡ Some w → w ≤ 32
part-most high low (Some v) w is = (width_if-most (nat_le low high && nat_lt high v) (high - low + 1) w is).0
part-most high low None w is = cc

choice-same : (c a b : Option ℕ) (w : ℕ) → seen_choice c a b ≡ Some w → same_width a b ≡ Some w
choice-same (Some c) a b w is = grind (arith, nat_tests)
choice-same None a b w is = cc

pub seen-most : (s : Shape) (tree : Placed) (w : ℕ) → IsShape s → seen_width s tree ≡ Some w → w ≤ 32
seen-most s (named token number) w shape is = (named-most s number w shape is).0
seen-most s (constant number hash bits) w shape is = (width_if-most true bits w is).0
seen-most s (complement token e) w shape is = seen-most s e w shape is
seen-most s (pair And token a b) w shape is = seen-most s a w shape (same-most _ _ w is)
seen-most s (pair Or token a b) w shape is = seen-most s a w shape (same-most _ _ w is)
seen-most s (pair Xor token a b) w shape is = seen-most s a w shape (same-most _ _ w is)
seen-most s (pair Add token a b) w shape is = seen-most s a w shape (same-most _ _ w is)
seen-most s (pair Sub token a b) w shape is = seen-most s a w shape (same-most _ _ w is)
seen-most s (pair Same token a b) w shape is = grind arith
seen-most s (pair Differ token a b) w shape is = grind arith
seen-most s (pair Less token a b) w shape is = grind arith
seen-most s (choice token c a b) w shape is = seen-most s a w shape
    (same-most (seen_width s a) (seen_width s b) w
    (choice-same (seen_width s c) (seen_width s a) (seen_width s b) w is))
seen-most s (part token high low e) w shape is = part-most high low (seen_width s e) w is
seen-most s (join token parts) w shape is = within-most (seen_total s (Some 0) parts) w is
seen-most s (widened token to e) w shape is = (width_if-most true to w is).0
seen-most s (memory token e) w shape is = let most = shape.word in grind arith
seen-most s (group token e) w shape is = seen-most s e w shape is

mutual
  pub small : (s : Shape) (levels : Option ℕ) (tree : Placed) → IsShape s → faults s levels tree ≡ []
      → is_small tree ≡ true
  small s levels (named token number) shape is = small_number s number token shape
      (nil_back (deep levels token) (unknown (named_width s number) token) is)
  small s levels (constant number hash w) shape is = small_constant number hash w
      (nil_back (deep levels number.token) (too_wide number w ++ broken (is_improper w) hash) is)
  small s levels (complement token e) shape is = small s (below levels) e shape
      (nil_back (deep levels token) (faults s (below levels) e) is)
  small s levels (pair op token a b) shape is =
      let fa = faults s (below levels) a in
      let fb = faults s (below levels) b in
      let breaks = broken (pair_breaks (seen_width s a) (seen_width s b)) token in
      let parts = nil_back (deep levels token) (fa ++ (fb ++ breaks)) is in
      let after = nil_back fa (fb ++ breaks) parts in
      and_from _ _ (small s (below levels) a shape (nil_front fa (fb ++ breaks) parts))
      (small s (below levels) b shape (nil_front fb breaks after))
  small s levels (choice token c a b) shape is =
      let fc = faults s (below levels) c in
      let fa = faults s (below levels) a in
      let fb = faults s (below levels) b in
      let breaks = broken (is_other 1 (seen_width s c) || pair_breaks (seen_width s a) (seen_width s b)) token in
      let parts = nil_back (deep levels token) (fc ++ (fa ++ (fb ++ breaks))) is in
      let both = nil_back fc (fa ++ (fb ++ breaks)) parts in
      let after = nil_back fa (fb ++ breaks) both in
      and_from _ _ (small s (below levels) c shape (nil_front fc (fa ++ (fb ++ breaks)) parts))
      (and_from _ _ (small s (below levels) a shape (nil_front fa (fb ++ breaks) both))
      (small s (below levels) b shape (nil_front fb breaks after)))
  small s levels (part token high low e) shape is =
      let fe = faults s (below levels) e in
      let breaks = broken (part_breaks high low (seen_width s e)) token in
      let parts = nil_back (deep levels token) (fe ++ breaks) is in
      and_from _ _ (small s (below levels) e shape (nil_front fe breaks parts))
      (small_part high low (seen_width s e) token (λ w. seen-most s e w shape) (nil_back fe breaks parts))
  small s levels (join token parts) shape is =
      let all = faults_in s (below levels) parts in
      let breaks = broken (is_past 32 (seen_total s (Some 0) parts)) token in
      small_parts s (below levels) parts shape (nil_front all breaks (nil_back (deep levels token) (all ++ breaks) is))
  small s levels (widened token w e) shape is =
      let fe = faults s (below levels) e in
      let breaks = broken (is_improper w || is_past w (seen_width s e)) token in
      let parts = nil_back (deep levels token) (fe ++ breaks) is in
      and_from _ _ (small s (below levels) e shape (nil_front fe breaks parts))
      (small_width w _ token (nil_back fe breaks parts))
  small s levels (memory token e) shape is =
      let fe = faults s (below levels) e in
      let breaks = broken (is_other s.address (seen_width s e)) token in
      small s (below levels) e shape (nil_front fe breaks (nil_back (deep levels token) (fe ++ breaks) is))
  small s levels (group token e) shape is = small s (below levels) e shape
      (nil_back (deep levels token) (faults s (below levels) e) is)

  small_parts : (s : Shape) (levels : Option ℕ) (parts : Parts) → IsShape s → faults_in s levels parts ≡ []
      → are_small parts ≡ true
  small_parts s levels none shape is = refl
  small_parts s levels (more tree rest) shape is =
      and_from _ _ (small s levels tree shape (nil_front (faults s levels tree) (faults_in s levels rest) is))
      (small_parts s levels rest shape (nil_back (faults s levels tree) (faults_in s levels rest) is))

-- where nothing is at fault first, the numbers of a whole expression fit
pub small_whole : (s : Shape) (tree : Placed) → IsShape s → first_fault s tree ≡ None → is_small tree ≡ true
small_whole s tree shape is = small s (Some 64) tree shape (no_first (faults s (Some 64) tree) is)
