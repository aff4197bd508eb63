-- Where a tree has a width, so have its parts.
use Rattle.std.proofs.Common.{◌≡◌, ℕ, ◌≤◌, max, [], ◌∷◌, length, Bool, true, false, refl, ap, arith}
use Rattle.std.specs.Prelude.{Option, Some, None, IsSome, Ok, is_ok, IsOk, All}
use Rattle.std.proofs.Math.Nat.{le-max_left, le-max_right}
use Rattle.std.proofs.lemmas.Bool.{and_parts}
use Rattle.std.proofs.lemmas.Bool.Decides.{nat_tests}
use Rattle.std.proofs.lemmas.List.Elements.{All-nil, All-cons}
use Rattle.mw_expr.specs.declared.expr.Pair2.{Pair2}
use Rattle.mw_expr.specs.declared.shape.Shape.{Shape}
use Rattle.mw_expr.specs.Tree.{Tree, element, constant, complement, pair, choice, part, join, widened, memory, Trees}
use Rattle.mw_expr.specs.Tree.{none, more}
use Rattle.mw_expr.specs.Parts.{listed, parts_of, PartsHaveWidths, WidthsAreByRule}
use Rattle.mw_expr.specs.Widths.{width, total_width, pair_width, choice_width, part_width, join_width, widened_width}
use Rattle.mw_expr.specs.Widths.{memory_width, added, is_known, are_known, depth, deepest, width_at, width_of}

-- a tree has a width
abbrev Accepts : Shape → Tree → Type 0
Accepts s tree = IsOk (width_of s tree)

-- a tree has a width: its elements are known, the rules of widths are kept, and it isn't too deep
pub record HasWidth (s : Shape) (tree : Tree) : Type 0 where
  pub known : is_known (length s.widths) tree ≡ true
  pub wide : IsSome (width s tree)
  pub shallow : depth tree ≤ 64

-- a width within the depth
width_at-ok : (deep : ℕ) (w : Option ℕ) → IsOk (width_at deep w) → IsSome w × (deep ≤ 64)
width_at-ok deep None ok = grind arith
width_at-ok deep (Some w) ok = grind (arith, nat_tests)

ok-width_at : (deep : ℕ) (w : Option ℕ) → IsSome w → deep ≤ 64 → IsOk (width_at deep w)
ok-width_at deep None some shallow = grind arith
ok-width_at deep (Some w) some shallow = grind (arith, nat_tests)

pub has_width : (s : Shape) (tree : Tree) → IsOk (width_of s tree) → HasWidth s tree
unfolding width_of
has_width s tree ok = from (is_known (length s.widths) tree) refl ok
  where
    from : (known : Bool) → is_known (length s.widths) tree ≡ known → IsOk (width_of s tree) → HasWidth s tree
    from true e ok = let h = width_at-ok (depth tree) (width s tree)
        (rw e at ok) in record { known = e; wide = h.0; shallow = h.1 }
    from false e ok = let refused = rw e at ok in grind arith

pub of_width : (s : Shape) (tree : Tree) → HasWidth s tree → IsOk (width_of s tree)
unfolding width_of
of_width s tree h = rw h.known (ok-width_at (depth tree) (width s tree) h.wide h.shallow)

-- what has a width where a rule on these widths gives one
pair-some : (sign : Pair2) (a b : Option ℕ) → IsSome (pair_width sign a b) → IsSome a × IsSome b
pair-some sign (Some a) (Some b) some = (refl, refl)
pair-some sign None b some = grind arith
pair-some sign (Some a) None some = grind arith

choice-some : (c a b : Option ℕ) → IsSome (choice_width c a b) → IsSome c × IsSome a × IsSome b
choice-some (Some c) (Some a) (Some b) some = (refl, refl, refl)
choice-some None a b some = grind arith
choice-some (Some c) None b some = grind arith
choice-some (Some c) (Some a) None some = grind arith

part-some : (high low : ℕ) (e : Option ℕ) → IsSome (part_width high low e) → IsSome e
part-some high low (Some w) some = refl
part-some high low None some = grind arith

join-some : (n : ℕ) (e : Option ℕ) → IsSome (join_width n e) → IsSome e
join-some n (Some w) some = refl
join-some n None some = grind arith

added-some : (a b : Option ℕ) → IsSome (added a b) → IsSome a × IsSome b
added-some (Some a) (Some b) some = (refl, refl)
added-some None b some = grind arith
added-some (Some a) None some = grind arith

widened-some : (w : ℕ) (e : Option ℕ) → IsSome (widened_width w e) → IsSome e
widened-some w (Some v) some = refl
widened-some w None some = grind arith

memory-some : (address word : ℕ) (e : Option ℕ) → IsSome (memory_width address word e) → IsSome e
memory-some address word (Some v) some = refl
memory-some address word None some = grind arith

-- the parts of a join
listed_widths : (s : Shape) (parts : Trees) → are_known (length s.widths) parts ≡ true → IsSome (total_width s parts)
    → deepest parts ≤ 64
    → All (Accepts s) (listed parts)
listed_widths s none known wide shallow = All-nil (Accepts s)
listed_widths s (more tree rest) known wide shallow =
    let each = and_parts _ _ known in
    let widths = added-some _ _ wide in
    All-cons (Accepts s) tree (listed rest)
    (of_width s tree (record {
      known = each.0;
      wide = widths.0;
      shallow = omega
          (arith, le-max_left (depth tree) (deepest rest));
    }))
    (listed_widths s rest each.1 widths.1 (omega (arith, le-max_right (depth tree) (deepest rest))))

-- one part, two and three
one : (s : Shape) (a : Tree) → HasWidth s a → All (Accepts s) (a ∷ [])
one s a first = All-cons (Accepts s) a [] (of_width s a first) (All-nil (Accepts s))

two : (s : Shape) (a b : Tree) → HasWidth s a → HasWidth s b → All (Accepts s) (a ∷ b ∷ [])
two s a b first second = All-cons (Accepts s) a (b ∷ []) (of_width s a first) (one s b second)

parts_have : (s : Shape) (tree : Tree) → HasWidth s tree → All (Accepts s) (parts_of tree)
parts_have s (element n) h = All-nil (Accepts s)
parts_have s (constant number w) h = All-nil (Accepts s)
parts_have s (complement e) h = one s e (record { known = h.known; wide = h.wide; shallow = omega arith })
parts_have s (pair sign a b) h =
    let known = and_parts _ _ h.known in
    let wide = pair-some sign _ _ h.wide in
    two s a b
    (record { known = known.0; wide = wide.0; shallow = omega (arith, h.shallow, le-max_left (depth a) (depth b)) })
    (record { known = known.1; wide = wide.1; shallow = omega (arith, h.shallow, le-max_right (depth a) (depth b)) })
parts_have s (choice c a b) h =
    let known = and_parts _ _ h.known in
    let both = and_parts _ _ known.1 in
    let wide = choice-some _ _ _ h.wide in
    let left = le-max_left (depth c) (max (depth a) (depth b)) in
    let right = le-max_right (depth c) (max (depth a) (depth b)) in
    All-cons (Accepts s) c (a ∷ b ∷ [])
    (of_width s c (record { known = known.0; wide = wide.0; shallow = omega (arith, h.shallow, left) }))
    (two s a b
    (record {
      known = both.0;
      wide = wide.1;
      shallow = omega
          (arith, h.shallow, right, le-max_left (depth a) (depth b));
    })
    (record {
      known = both.1;
      wide = wide.2;
      shallow = omega
          (arith, h.shallow, right, le-max_right (depth a) (depth b));
    }))
parts_have s (part e high low) h = one s e
    (record { known = h.known; wide = part-some high low _ h.wide; shallow = omega (arith, h.shallow) })
parts_have s (join parts) h = listed_widths s parts h.known (join-some _ _ h.wide) (omega (arith, h.shallow))
parts_have s (widened e w) h = one s e
    (record { known = h.known; wide = widened-some w _ h.wide; shallow = omega (arith, h.shallow) })
parts_have s (memory address) h = one s address
    (record { known = h.known; wide = memory-some s.address s.word _ h.wide; shallow = omega (arith, h.shallow) })

pub parts_have_widths : PartsHaveWidths
parts_have_widths s tree ok = parts_have s tree (has_width s tree ok)

-- the width within the depth is the one by rule
width_at-is : (deep w : ℕ) (wide : Option ℕ) → width_at deep wide ≡ Ok w → wide ≡ Some w
width_at-is deep w None ok = cc
width_at-is deep w (Some v) ok = grind (arith, nat_tests)

pub widths_are_by_rule : WidthsAreByRule
unfolding width_of
widths_are_by_rule s tree w ok =
    let known = (has_width s tree (ap is_ok ok)).known in
    width_at-is (depth tree) w (width s tree) (rw known at ok)
