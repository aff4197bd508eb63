-- A whole expression at which nothing is at fault has a width.
use Rattle.std.proofs.Common.{◌≡◌, ℕ, zero, suc, ◌+◌, ◌-◌, ◌≤◌, ◌^◌, List, [], ◌∷◌, ◌++◌, length, Bool, true, false}
use Rattle.std.proofs.Common.{refl, ap, ◌∙◌, sym, max, arith}
use Rattle.std.specs.Prelude.{Option, Some, None, min, nat_lt, ◌||◌, slice_get, Ok, IsOk}
use Rattle.std.proofs.lemmas.Bool.{and_from}
use Rattle.std.proofs.lemmas.Bool.Decides.{nat_tests}
use Rattle.std.proofs.lemmas.Option.{slice_get_within}
use Rattle.mw_base.specs.declared.cursor.Numeral.{Numeral}
use Rattle.mw_base.specs.declared.token.Token.{Token}
use Rattle.mw_base.specs.Cursors.{Cursor}
use Rattle.mw_expr.specs.declared.expr.Pair2.{Pair2}
use Rattle.mw_expr.specs.declared.expr.Pair2.TheVariants.{And, Or, Xor, Add, Sub, Same, Differ, Less}
use Rattle.mw_expr.specs.declared.shape.Shape.{Shape}
use Rattle.mw_expr.specs.Faults.{named_width, seen_pair, seen_choice, within_32, seen_width, seen_total, pair_breaks}
use Rattle.mw_expr.specs.Faults.{is_other, part_breaks, is_past, broken, unknown, is_improper, too_wide, faults}
use Rattle.mw_expr.specs.Faults.{faults_in, first_fault}
use Rattle.mw_expr.specs.Grammar.{Meaning, tree_of}
use Rattle.mw_expr.specs.Placed.{Placed, named, constant, complement, pair, choice, part, join, widened, memory, group}
use Rattle.mw_expr.specs.Placed.{Parts, none, more, parts_of}
use Rattle.mw_expr.specs.Plain.{plain, plain_parts}
use Rattle.mw_expr.specs.Syntax.{Begin, BeginParts, by_choice, by_pair, by_complement, by_part, by_bit, by_constant}
use Rattle.mw_expr.specs.Syntax.{by_name, by_dotted_name, by_memory, by_group, by_join, by_widening, first_part}
use Rattle.mw_expr.specs.Syntax.{next_part}
use Rattle.mw_expr.specs.Text.{IsShape}
use Rattle.mw_expr.specs.Widths.{width_if, width_after, pair_width, choice_width, part_width, join_width, widened_width}
use Rattle.mw_expr.specs.Widths.{memory_width, count, width, total_width, is_known, are_known, depth, deepest, width_of}
use Rattle.mw_expr.proofs.Accepted.{of_width}
use Rattle.mw_base.proofs.FirstFaults.{no_first}
use Rattle.mw_expr.proofs.Small.{nil_front, nil_back, not_broken, value_fits, named-most}
use Rattle.mw_expr.proofs.Sound.{is_read_by_rule}

-- ---- each join has two parts or more

abbrev mutual
  pub Paired : Placed → Type 0
  Paired (named token number) = Unit {0}
  Paired (constant number hash w) = Unit {0}
  Paired (complement token e) = Paired e
  Paired (pair op token a b) = Paired a × Paired b
  Paired (choice token c a b) = Paired c × Paired a × Paired b
  Paired (part token high low e) = Paired e
  Paired (join token parts) = (2 ≤ count (plain_parts parts)) × ArePaired parts
  Paired (widened token w e) = Paired e
  Paired (memory token e) = Paired e
  Paired (group token e) = Paired e

  pub ArePaired : Parts → Type 0
  ArePaired none = Unit {0}
  ArePaired (more tree rest) = Paired tree × ArePaired rest

counted : (parts : List Placed) → count (plain_parts (parts_of parts)) ≡ length parts
counted [] = refl
counted (e ∷ rest) = omega (arith, counted rest)

one_more : (parts : List Placed) (e : Placed) → ArePaired (parts_of parts) → Paired e
    → ArePaired (parts_of (parts ++ e ∷ []))
one_more [] e all last = (last, tt)
one_more (first ∷ rest) e all last = (all.0, one_more rest e all.1 last)

mutual
  paired : {m : Meaning} {n : ℕ} {from rest : List Token} {tree : Placed} → Begin m n from tree rest → Paired tree
  paired (by_choice c is_q a is_colon b) = (paired c, paired a, paired b)
  paired (by_pair low a is_sign is_pair b) = (paired a, paired b)
  paired (by_complement low is_not e) = paired e
  paired (by_part low e bracket high colon low_bit close) = paired e
  paired (by_bit low e bracket place close) = paired e
  paired (by_constant low number hash bits) = tt
  paired (by_name low plain name) = tt
  paired (by_dotted_name low dotted owner dot name) = tt
  paired (by_memory low there word bracket e close) = paired e
  paired (by_group low is_open e close) = paired e
  paired (by_join {parts = parts} low brace all two close) = (rw (counted parts) two, are_paired all)
  paired (by_widening low word is_open e comma bits close) = paired e

  are_paired : {m : Meaning} {from rest : List Token} {parts : List Placed} → BeginParts m from parts rest
      → ArePaired (parts_of parts)
  are_paired (first_part e) = (paired e, tt)
  are_paired (next_part {parts = parts} {e = e} all comma last) = one_more parts e (are_paired all) (paired last)

-- ---- widths

-- an expression has the width that is seen of it, and at most so many levels
record Sees (s : Shape) (n : ℕ) (tree : Placed) : Type 0 where
  w : ℕ
  known : is_known (length s.widths) (plain tree) ≡ true
  wide : width s (plain tree) ≡ Some w
  seen : seen_width s tree ≡ Some w
  least : 1 ≤ w
  most : w ≤ 32
  shallow : depth (plain tree) ≤ n

record SeesParts (s : Shape) (n : ℕ) (parts : Parts) : Type 0 where
  w : ℕ
  known : are_known (length s.widths) (plain_parts parts) ≡ true
  wide : total_width s (plain_parts parts) ≡ Some w
  seen : (before : ℕ) → before ≤ 33 → seen_total s (Some before) parts ≡ Some (min (before + w) 33)
  least : count (plain_parts parts) ≤ w
  shallow : deepest (plain_parts parts) ≤ n

width_if-in : (rule : Bool) (w : ℕ) → rule ≡ true → 1 ≤ w → w ≤ 32 → width_if rule w ≡ Some w
width_if-in rule w is least most = rw is (grind (arith, nat_tests))

-- no token stands at level 65
none_past : (s : Shape) (tree : Placed) → faults s (Some zero) tree ≡ [] → ⊥
none_past s (named token number) is = cc
none_past s (constant number hash w) is = cc
none_past s (complement token e) is = cc
none_past s (pair op token a b) is = cc
none_past s (choice token c a b) is = cc
none_past s (part token high low e) is = cc
none_past s (join token parts) is = cc
none_past s (widened token w e) is = cc
none_past s (memory token e) is = cc
none_past s (group token e) is = cc

sees_element : (s : Shape) (k : ℕ) (token : Token) (number : Option ℕ) → IsShape s
    → unknown (named_width s number) token ≡ [] → Sees s (suc k) (named token number)
sees_element s k token None shape is = cc
sees_element s k token (Some n) shape is = found (slice_get s.widths n) refl is
  where
    found : (w : Option ℕ) → slice_get s.widths n ≡ w → unknown w token ≡ [] → Sees s (suc k) (named token (Some n))
    found None e fault = cc
    found (Some w) e fault =
        let bits = named-most s (Some n) w shape e in
        let within = slice_get_within s.widths n w e in
        record {
          w = w;
          known = grind (arith, nat_tests);
          wide = rw e (width_if-in true w refl bits.1 bits.0);
          seen = e;
          least = bits.1;
          most = bits.0;
          shallow = omega arith;
        }

sees_constant : (s : Shape) (k : ℕ) (number : Numeral) (hash : Token) (w : ℕ)
    → too_wide number w ++ broken (is_improper w) hash ≡ []
    → Sees s (suc k) (constant number hash w)
sees_constant s k number hash w is =
    let fits = value_fits (nat_lt number.value (2 ^ w)) number w refl
    (nil_front (too_wide number w) (broken (is_improper w) hash) is) in
    let proper = not_broken (is_improper w) hash (nil_back (too_wide number w) (broken (is_improper w) hash) is) in
    record {
      w = w;
      known = refl;
      wide = grind (arith, nat_tests);
      seen = grind (arith, nat_tests);
      least = grind (arith, nat_tests);
      most = grind (arith, nat_tests);
      shallow = omega arith;
    }

-- operands of a sign, of one width
pair_sees : (op : Pair2) (a b : ℕ) → 1 ≤ a → a ≤ 32 → pair_breaks (Some a) (Some b) ≡ false
    → (pair_width op (Some a) (Some b) ≡ Some (width_after op a)) ×
    (seen_pair op (Some a) (Some b) ≡ Some (width_after op a))
    × (1 ≤ width_after op a) × (width_after op a ≤ 32)
pair_sees And a b least most same = (grind (arith, nat_tests), grind (arith, nat_tests), least, most)
pair_sees Or a b least most same = (grind (arith, nat_tests), grind (arith, nat_tests), least, most)
pair_sees Xor a b least most same = (grind (arith, nat_tests), grind (arith, nat_tests), least, most)
pair_sees Add a b least most same = (grind (arith, nat_tests), grind (arith, nat_tests), least, most)
pair_sees Sub a b least most same = (grind (arith, nat_tests), grind (arith, nat_tests), least, most)
pair_sees Same a b least most same = (grind (arith, nat_tests), refl, omega arith, omega arith)
pair_sees Differ a b least most same = (grind (arith, nat_tests), refl, omega arith, omega arith)
pair_sees Less a b least most same = (grind (arith, nat_tests), refl, omega arith, omega arith)

choice_sees : (c a b : ℕ) → 1 ≤ a → a ≤ 32 → (is_other 1 (Some c) || pair_breaks (Some a) (Some b)) ≡ false
    → (choice_width (Some c) (Some a) (Some b) ≡ Some a) × (seen_choice (Some c) (Some a) (Some b) ≡ Some a)
choice_sees c a b least most same = (grind (arith, nat_tests), grind (arith, nat_tests))

part_sees : (high low w : ℕ) → w ≤ 32 → part_breaks high low (Some w) ≡ false
    → (part_width high low (Some w) ≡ Some (high - low + 1)) × (1 ≤ high - low + 1) × (high - low + 1 ≤ 32)
part_sees high low w most inside = (grind (arith, nat_tests), omega arith, grind (arith, nat_tests))

widened_sees : (w v : ℕ) → (is_improper w || is_past w (Some v)) ≡ false
    → (widened_width w (Some v) ≡ Some w) × (width_if true w ≡ Some w) × (1 ≤ w) × (w ≤ 32)
widened_sees w v holds =
    (grind (arith, nat_tests), grind (arith, nat_tests), grind (arith, nat_tests), grind (arith, nat_tests))

memory_sees : (s : Shape) (w : ℕ) → IsShape s → 1 ≤ w → is_other s.address (Some w) ≡ false
    → (memory_width s.address s.word (Some w) ≡ Some s.word) × (1 ≤ s.word) × (s.word ≤ 32)
memory_sees s w shape least same =
    let bits : w ≡ s.address = grind (arith, nat_tests) in
    let some = shape.memory (omega arith) in
    let most = shape.word in
    (grind (arith, nat_tests), some, most)

join_sees : (n t : ℕ) → 2 ≤ n → n ≤ t → is_past 32 (Some (min (0 + t) 33)) ≡ false
    → (join_width n (Some t) ≡ Some t) × (within_32 (Some (min (0 + t) 33)) ≡ Some t) × (t ≤ 32)
join_sees n t two least past = (grind (arith, nat_tests), grind (arith, nat_tests), grind (arith, nat_tests))

max_most : (a b n : ℕ) → a ≤ n → b ≤ n → max a b ≤ n
max_most a b n one other = omega arith

min_low : (a : ℕ) → min a 33 ≤ 33
min_low a = omega arith

sum_low : (a : ℕ) → a ≤ 33 → min (a + 0) 33 ≡ a
sum_low a low = omega arith

add_min : (before w t : ℕ) → min (min (before + w) 33 + t) 33 ≡ min (before + (w + t)) 33
add_min before w t = omega arith

-- an operation whose parts have widths
sees_pair : (s : Shape) (k : ℕ) (op : Pair2) (token : Token) (a b : Placed) → Sees s k a → Sees s k b
    → broken (pair_breaks (seen_width s a) (seen_width s b)) token ≡ [] → Sees s (suc k) (pair op token a b)
sees_pair s k op token a b ha hb is =
    let same = rw (ha.seen, hb.seen) at (not_broken _ token is) in
    let h = pair_sees op ha.w hb.w ha.least ha.most same in
    record {
      w = width_after op ha.w;
      known = and_from _ _ ha.known hb.known;
      wide = rw (ha.wide, hb.wide) h.0;
      seen = rw (ha.seen, hb.seen) h.1;
      least = h.2;
      most = h.3;
      shallow = omega (arith, max_most (depth (plain a)) (depth (plain b)) k ha.shallow hb.shallow);
    }

sees_choice : (s : Shape) (k : ℕ) (token : Token) (c a b : Placed) → Sees s k c → Sees s k a → Sees s k b
    → broken (is_other 1 (seen_width s c) || pair_breaks (seen_width s a) (seen_width s b)) token ≡ []
    → Sees s (suc k) (choice token c a b)
sees_choice s k token c a b hc ha hb is =
    let same = rw (hc.seen, ha.seen, hb.seen) at (not_broken _ token is) in
    let h = choice_sees hc.w ha.w hb.w ha.least ha.most same in
    let deeper = max_most (depth (plain a)) (depth (plain b)) k ha.shallow hb.shallow in
    record {
      w = ha.w;
      known = and_from _ _ hc.known (and_from _ _ ha.known hb.known);
      wide = rw (hc.wide, ha.wide, hb.wide) h.0;
      seen = rw (hc.seen, ha.seen, hb.seen) h.1;
      least = ha.least;
      most = ha.most;
      shallow = omega (arith, max_most (depth (plain c)) (max (depth (plain a)) (depth (plain b))) k hc.shallow deeper);
    }

sees_part : (s : Shape) (k : ℕ) (token : Token) (high low : ℕ) (e : Placed) → Sees s k e
    → broken (part_breaks high low (seen_width s e)) token ≡ []
    → Sees s (suc k) (part token high low e)
sees_part s k token high low e he is =
    let inside = rw he.seen at (not_broken _ token is) in
    let h = part_sees high low he.w he.most inside in
    record {
      w = high - low + 1;
      known = he.known;
      wide = rw he.wide h.0;
      seen = rw he.seen h.0;
      least = h.1;
      most = h.2;
      shallow = omega (arith, he.shallow);
    }

sees_join : (s : Shape) (k : ℕ) (token : Token) (parts : Parts) → SeesParts s k parts → 2 ≤ count (plain_parts parts)
    → broken (is_past 32 (seen_total s (Some 0) parts)) token ≡ [] → Sees s (suc k) (join token parts)
sees_join s k token parts hs two is =
    let past = rw (hs.seen 0 (omega arith)) at (not_broken _ token is) in
    let h = join_sees (count (plain_parts parts)) hs.w two hs.least past in
    record {
      w = hs.w;
      known = hs.known;
      wide = rw hs.wide h.0;
      seen = rw (hs.seen 0 (omega arith)) h.1;
      least = omega (arith, two, hs.least);
      most = h.2;
      shallow = omega (arith, hs.shallow);
    }

sees_widened : (s : Shape) (k : ℕ) (token : Token) (w : ℕ) (e : Placed) → Sees s k e
    → broken (is_improper w || is_past w (seen_width s e)) token ≡ [] → Sees s (suc k) (widened token w e)
sees_widened s k token w e he is =
    let holds = rw he.seen at (not_broken _ token is) in
    let h = widened_sees w he.w holds in
    record {
      w = w;
      known = he.known;
      wide = rw he.wide h.0;
      seen = h.1;
      least = h.2;
      most = h.3;
      shallow = omega
          (arith, he.shallow);
    }

sees_memory : (s : Shape) (k : ℕ) (token : Token) (e : Placed) → IsShape s → Sees s k e
    → broken (is_other s.address (seen_width s e)) token ≡ []
    → Sees s (suc k) (memory token e)
sees_memory s k token e shape he is =
    let same = rw he.seen at (not_broken _ token is) in
    let h = memory_sees s he.w shape he.least same in
    record {
      w = s.word;
      known = he.known;
      wide = rw he.wide h.0;
      seen = refl;
      least = h.1;
      most = h.2;
      shallow = omega (arith, he.shallow);
    }

mutual
  sees : (s : Shape) (n : ℕ) (tree : Placed) → IsShape s → faults s (Some n) tree ≡ [] → Paired tree → Sees s n tree
  sees s zero tree shape is two = absurd (none_past s tree is)
  sees s (suc k) (named token number) shape is two = sees_element s k token number shape is
  sees s (suc k) (constant number hash w) shape is two = sees_constant s k number hash w is
  sees s (suc k) (complement token e) shape is two =
      let h = sees s k e shape is two in
      record {
        w = h.w;
        known = h.known;
        wide = h.wide;
        seen = h.seen;
        least = h.least;
        most = h.most;
        shallow = omega
            (arith, h.shallow);
      }
  sees s (suc k) (pair op token a b) shape is two =
      let fa = faults s (Some k) a in
      let fb = faults s (Some k) b in
      let breaks = broken (pair_breaks (seen_width s a) (seen_width s b)) token in
      let after = nil_back fa (fb ++ breaks) is in
      sees_pair s k op token a b (sees s k a shape (nil_front fa (fb ++ breaks) is) two.0)
      (sees s k b shape (nil_front fb breaks after) two.1)
      (nil_back fb breaks after)
  sees s (suc k) (choice token c a b) shape is two =
      let fc = faults s (Some k) c in
      let fa = faults s (Some k) a in
      let fb = faults s (Some k) b in
      let breaks = broken (is_other 1 (seen_width s c) || pair_breaks (seen_width s a) (seen_width s b)) token in
      let both = nil_back fc (fa ++ (fb ++ breaks)) is in
      let after = nil_back fa (fb ++ breaks) both in
      sees_choice s k token c a b (sees s k c shape (nil_front fc (fa ++ (fb ++ breaks)) is) two.0)
      (sees s k a shape (nil_front fa (fb ++ breaks) both) two.1) (sees s k b shape (nil_front fb breaks after) two.2)
      (nil_back fb breaks after)
  sees s (suc k) (part token high low e) shape is two =
      let fe = faults s (Some k) e in
      let breaks = broken (part_breaks high low (seen_width s e)) token in
      sees_part s k token high low e (sees s k e shape (nil_front fe breaks is) two) (nil_back fe breaks is)
  sees s (suc k) (join token parts) shape is two =
      let all = faults_in s (Some k) parts in
      let breaks = broken (is_past 32 (seen_total s (Some 0) parts)) token in
      sees_join s k token parts (sees_parts s k parts shape (nil_front all breaks is) two.1) two.0
      (nil_back all breaks is)
  sees s (suc k) (widened token w e) shape is two =
      let fe = faults s (Some k) e in
      let breaks = broken (is_improper w || is_past w (seen_width s e)) token in
      sees_widened s k token w e (sees s k e shape (nil_front fe breaks is) two) (nil_back fe breaks is)
  sees s (suc k) (memory token e) shape is two =
      let fe = faults s (Some k) e in
      let breaks = broken (is_other s.address (seen_width s e)) token in
      sees_memory s k token e shape (sees s k e shape (nil_front fe breaks is) two) (nil_back fe breaks is)
  sees s (suc k) (group token e) shape is two =
      let h = sees s k e shape is two in
      record {
        w = h.w;
        known = h.known;
        wide = h.wide;
        seen = h.seen;
        least = h.least;
        most = h.most;
        shallow = omega
            (arith, h.shallow);
      }

  sees_parts : (s : Shape) (n : ℕ) (parts : Parts) → IsShape s → faults_in s (Some n) parts ≡ [] → ArePaired parts
      → SeesParts s n parts
  sees_parts s n none shape is two = record {
    w = 0;
    known = refl;
    wide = refl;
    seen = λ before low. ap Some (sym (sum_low before low));
    least = omega arith;
    shallow = omega arith;
  }
  sees_parts s n (more tree rest) shape is two =
      let h = sees s n tree shape (nil_front (faults s (Some n) tree) (faults_in s (Some n) rest) is) two.0 in
      let hs = sees_parts s n rest shape (nil_back (faults s (Some n) tree) (faults_in s (Some n) rest) is) two.1 in
      record {
        w = h.w + hs.w;
        known = and_from _ _ h.known hs.known;
        wide = rw (h.wide, hs.wide) refl;
        seen = λ before low. rw h.seen (hs.seen (min (before + h.w) 33) (min_low (before + h.w))
            ∙ ap Some (add_min before h.w hs.w));
        least = omega (arith, h.least, hs.least);
        shallow = max_most (depth (plain tree)) (deepest (plain_parts rest)) n h.shallow hs.shallow;
      }

-- what is read and has no fault has a width
pub wide_whole : (m : Meaning) (cursor : Cursor) (s : Shape) (tree : Placed) → IsShape s → tree_of m cursor ≡ Ok tree
    → first_fault s tree ≡ None
    → IsOk (width_of s (plain tree))
wide_whole m cursor s tree shape read no_fault =
    let h = sees s 64 tree shape (no_first (faults s (Some 64) tree) no_fault)
    (paired (is_read_by_rule m cursor tree read)) in
    of_width s (plain tree) (record { known = h.known; wide = rw h.wide refl; shallow = h.shallow })

-- the width that is seen of it is its width
pub record HasSeenWidth (s : Shape) (tree : Placed) : Type 0 where
  pub w : ℕ
  pub seen : seen_width s tree ≡ Some w
  pub known : is_known (length s.widths) (plain tree) ≡ true
  pub wide : width s (plain tree) ≡ Some w
  pub shallow : depth (plain tree) ≤ 64

pub seen_whole : (m : Meaning) (cursor : Cursor) (s : Shape) (tree : Placed)
    → IsShape s → tree_of m cursor ≡ Ok tree → faults s (Some 64) tree ≡ [] → HasSeenWidth s tree
seen_whole m cursor s tree shape read no_fault =
    let h = sees s 64 tree shape no_fault (paired (is_read_by_rule m cursor tree read)) in
    record { w = h.w; seen = h.seen; known = h.known; wide = h.wide; shallow = h.shallow }
