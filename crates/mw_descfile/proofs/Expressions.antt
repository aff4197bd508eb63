-- What an expression has that was read.
use Rattle.std.proofs.Common.{◌≡◌, ℕ, ◌+◌, ◌-◌, ◌≤◌, List, [], ◌∷◌, ◌++◌, length, Bool, true, false, refl, ◌∙◌, sym, ap}
use Rattle.std.proofs.Common.{arith, subst, inl, inr}
use Rattle.std.specs.Prelude.{Option, Some, None, not, ◌==◌, if◌then◌else◌, Ok, Err, slice_get}
use Rattle.std.proofs.lemmas.Bool.Decides.{nat_tests}
use Rattle.std.proofs.lemmas.Option.{slice_get_cases}
use Rattle.mw_base.specs.declared.refusal.TextFault.{TextFault}
use Rattle.mw_base.specs.declared.token.Token.{Token}
use Rattle.mw_base.specs.declared.cause.Cause.TheVariants.{WidthsDiffer}
use Rattle.mw_base.specs.Cursors.{Cursor}
use Rattle.mw_base.specs.FirstFaults.{first_in}
use Rattle.mw_base.specs.TokenLines.{fault_on}
use Rattle.mw_base.proofs.FirstFaults.{no_first, after_two}
use Rattle.mw_base.proofs.Results.{ok_of, ok_is, bind_ok}
use Rattle.mw_expr.specs.declared.shape.Shape.{Shape}
use Rattle.mw_expr.specs.Faults.{faults, first_fault, seen_width}
use Rattle.mw_expr.specs.Grammar.{Meaning, tree_of}
use Rattle.mw_expr.specs.Mems.{mems, mems_in}
use Rattle.mw_expr.specs.Placed.{Placed, named, constant, complement, pair, choice, part, join, widened, memory, group}
use Rattle.mw_expr.specs.Placed.{Parts, none, more}
use Rattle.mw_expr.specs.Plain.{plain, plain_parts, is_small}
use Rattle.mw_expr.specs.Text.{IsShape}
use Rattle.mw_expr.specs.Widths.{width}
use Rattle.mw_expr.proofs.Small.{nil_front, nil_back, small_whole}
use Rattle.mw_expr.proofs.Wide.{HasSeenWidth, seen_whole}
use Rattle.mw_macro.specs.declared.rules.Fault.{Fault}
use Rattle.mw_macro.specs.declared.rules.Fault.TheVariants.{NoElement, OtherWidth, TooNested}
use Rattle.mw_macro.specs.Counts.{reads, reads_in}
use Rattle.mw_macro.specs.Rules.{is_fault}
use Rattle.mw_descfile.specs.Expressions.{asked, surplus, first_of_whole, Whole, unless, whole_of, asked_whole}

-- ---- how often it reads the memory

pub length_both : {A : Type 0} (xs ys : List A) → length (xs ++ ys) ≡ length xs + length ys
length_both [] ys = omega arith
length_both (x ∷ xs) ys = let both = length_both xs ys in omega (arith, both)

mutual
  mems_are_reads : (tree : Placed) → length (mems tree) ≡ reads (plain tree)
  mems_are_reads (named token number) = refl
  mems_are_reads (constant number hash w) = refl
  mems_are_reads (complement token e) = mems_are_reads e
  mems_are_reads (pair op token a b) = let both = length_both (mems a) (mems b) in
      omega (arith, both, mems_are_reads a, mems_are_reads b)
  mems_are_reads (choice token c a b) =
      let both = length_both (mems a) (mems b) in
      let all = length_both (mems c) (mems a ++ mems b) in
      omega (arith, both, all, mems_are_reads c, mems_are_reads a, mems_are_reads b)
  mems_are_reads (part token high low e) = mems_are_reads e
  mems_are_reads (join token parts) = mems_in_are_reads parts
  mems_are_reads (widened token w e) = mems_are_reads e
  mems_are_reads (memory token e) = let inner = mems_are_reads e in omega (arith, inner)
  mems_are_reads (group token e) = mems_are_reads e

  mems_in_are_reads : (parts : Parts) → length (mems_in parts) ≡ reads_in (plain_parts parts)
  mems_in_are_reads none = refl
  mems_in_are_reads (more tree rest) =
      let both = length_both (mems tree) (mems_in rest) in
      omega (arith, both, mems_are_reads tree, mems_in_are_reads rest)

-- ---- an expression that was accepted

-- tokens were read as this tree
pub record WasRead (tree : Placed) : Type 0 where
  pub m : Meaning
  pub cursor : Cursor
  pub is : tree_of m cursor ≡ Ok tree

-- of its width and with its memory reads among those that were left
pub record HasWidth (s : Shape) (width left : ℕ) (whole : Whole) : Type 0 where
  pub free : (f : Fault) → is_fault f s width whole.tree ≡ false
  pub reads : reads whole.tree + whole.left ≡ left

-- no fault, where there is a value
unless_ok : {A : Type 0} (first : Option TextFault) (x y : A) → unless first x ≡ Ok y → (first ≡ None) × (x ≡ y)
unless_ok None x y is = (refl, ok_is {F = TextFault} x y is)
unless_ok (Some fault) x y is = absurd cc

some_is_none : {A : Type 0} (xs : List A) (n : ℕ) (x : A) → slice_get xs n ≡ Some x → slice_get xs n ≡ None → ⊥
some_is_none xs n x is not = absurd cc

-- there are no more than can be had
few_left : {A : Type 0} (xs : List A) (n : ℕ) → slice_get xs n ≡ None → length xs ≤ n
few_left xs n is = elim ((slice_get_cases xs n).1) [
  | inl found ↦ absurd (some_is_none xs n found.0 found.2 is)
  | inr past ↦ past.0
]

no_surplus : (mem : Option Token) → surplus mem ≡ [] → mem ≡ None
no_surplus None is = refl
no_surplus (Some mem) is = absurd cc

-- where a test gives no fault
pub no_test : (b : Bool) (fault : TextFault) (done : Unit {0})
    → (if b then Err fault else ok_of {F = TextFault} tt) ≡ Ok done → b ≡ false
no_test true fault done is = absurd cc
no_test false fault done is = refl

-- the first fault, where it is known of the expression itself
pub first_with : (s : Shape) (left : ℕ) (tree : Placed) (own now : Option TextFault) (mem : Option Token)
    → own ≡ first_in None (faults s (Some 64) tree) → now ≡ first_in own (surplus mem)
    → mem ≡ slice_get (mems tree) left
    → now ≡ first_of_whole s left tree
first_with s left tree own now mem is next read =
    after_two None own now (faults s (Some 64) tree) (surplus (slice_get (mems tree) left)) is
    (next ∙ ap (λ m. first_in own (surplus m)) read)

pub whole_fails : (s : Shape) (left : ℕ) (tree : Placed) (fault : TextFault)
    → Some fault ≡ first_of_whole s left tree → whole_of s left tree ≡ Err fault
unfolding whole_of
whole_fails s left tree fault is = rw (sym is) refl

pub whole_goes : (s : Shape) (left : ℕ) (tree : Placed) → None ≡ first_of_whole s left tree
    → whole_of s left tree ≡ Ok (record { tree = plain tree; left = left - length (mems tree) })
unfolding whole_of
whole_goes s left tree is = rw (sym is) refl

pub own_none : (s : Shape) (left : ℕ) (tree : Placed) → None ≡ first_of_whole s left tree → first_fault s tree ≡ None
own_none s left tree is =
    let all = no_first (faults s (Some 64) tree ++ surplus (slice_get (mems tree) left)) (sym is) in
    let own = nil_front (faults s (Some 64) tree) (surplus (slice_get (mems tree) left)) all in
    rw own refl

-- a width that isn't other than the one asked for
pub asked_same : (width w : ℕ) (token : Token) (seen : Option ℕ) (done : Unit {0}) → asked width token seen ≡ Ok done
    → seen ≡ Some w
    → not (w == width) ≡ false
asked_same width w token seen done is has = no_test (not (w == width)) (fault_on token WidthsDiffer) done (rw has at is)

pub whole_has : (s : Shape) (left : ℕ) (tree : Placed) (whole : Whole) → IsShape s → WasRead tree
    → whole_of s left tree ≡ Ok whole
    → HasSeenWidth s tree × (whole.tree ≡ plain tree) × (reads whole.tree + whole.left ≡ left)
unfolding whole_of
whole_has s left tree whole shape read is =
    let made = unless_ok (first_of_whole s left tree)
    (record { tree = plain tree; left = left - length (mems tree) }) whole is in
    let all = no_first (faults s (Some 64) tree ++ surplus (slice_get (mems tree) left)) made.0 in
    let own = nil_front (faults s (Some 64) tree) (surplus (slice_get (mems tree) left)) all in
    let few = few_left (mems tree) left (no_surplus _
    (nil_back (faults s (Some 64) tree) (surplus (slice_get (mems tree) left)) all)) in
    let same = mems_are_reads tree in
    let sum : reads (plain tree) + (left - length (mems tree)) ≡ left = omega (arith, few, same) in (
      seen_whole read.m read.cursor s tree shape read.is own,
      sym (ap (λ (w : Whole). w.tree) made.1),
      subst (λ (w : Whole). reads w.tree + w.left ≡ left) made.1 sum,
    )

-- an expression without a fault has numbers that fit
pub whole_small : (s : Shape) (left : ℕ) (tree : Placed) (whole : Whole) → IsShape s
    → whole_of s left tree ≡ Ok whole → is_small tree ≡ true
unfolding whole_of
whole_small s left tree whole shape is =
    let made = unless_ok (first_of_whole s left tree)
    (record { tree = plain tree; left = left - length (mems tree) }) whole is in
    small_whole s tree shape (own_none s left tree (sym made.0))

-- one with a width has none of the faults
pub no_fault : (s : Shape) (tree : Placed) (width : ℕ) (h : HasSeenWidth s tree) → not (h.w == width) ≡ false
    → (f : Fault) → is_fault f s width (plain tree) ≡ false
no_fault s tree width h same NoElement = rw h.known refl
no_fault s tree width h same OtherWidth = rw h.wide same
no_fault s tree width h same TooNested = let shallow = h.shallow in grind (arith, nat_tests, shallow)

-- an expression of the width asked for
pub asked_has : (s : Shape) (left width : ℕ) (token : Token) (tree : Placed) (whole : Whole) → IsShape s → WasRead tree
    → asked_whole s left width token tree ≡ Ok whole → HasWidth s width left whole
unfolding asked_whole
asked_has s left width token tree whole shape read is =
    let one = bind_ok (asked width token (seen_width s tree)) (λ same. whole_of s left tree) whole is in
    let h = whole_has s left tree whole shape read one.2 in
    let same = asked_same width h.0.w token (seen_width s tree) one.0 one.1 h.0.seen in
    record { free = λ f. rw h.1 (no_fault s tree width h.0 same f); reads = h.2 }
