-- The sides of a question's text.
use Rattle.std.proofs.Common.{◌≡◌, ℕ, ◌≤◌, List, [], ◌∷◌, ◌++◌, length, Bool, true, false, refl, ◌∙◌, sym, arith, subst}
use Rattle.std.specs.Prelude.{Option, Some, None, nat_le, not, ◌==◌, ◌||◌, Ok, Err, IsOk, All}
use Rattle.std.proofs.lemmas.Bool.{or_from}
use Rattle.std.proofs.lemmas.List.Elements.{All-head, All-tail}
use Rattle.std.proofs.lemmas.Bool.Decides.{nat_tests}
use Rattle.mw_base.specs.declared.refusal.TextFault.{TextFault}
use Rattle.mw_base.specs.declared.token.Token.{Token}
use Rattle.mw_base.specs.Cursors.{Cursor}
use Rattle.mw_base.specs.FirstFaults.{first_in}
use Rattle.mw_base.proofs.FirstFaults.{no_first, after_two}
use Rattle.mw_base.proofs.Results.{ok_is, bind_ok}
use Rattle.mw_expr.specs.declared.shape.Shape.{Shape}
use Rattle.mw_expr.specs.Faults.{faults, first_fault, seen_width}
use Rattle.mw_expr.specs.Grammar.{meaning_of, tree_of}
use Rattle.mw_expr.specs.Parts.{listed}
use Rattle.mw_expr.specs.Placed.{Placed}
use Rattle.mw_expr.specs.Plain.{plain}
use Rattle.mw_expr.specs.Text.{IsShape}
use Rattle.mw_expr.specs.Tree.{Tree, element, constant, complement, pair, choice, part, join, widened, memory, Trees}
use Rattle.mw_expr.specs.Tree.{none, more}
use Rattle.mw_expr.specs.Values.{reads_memory, read_memory}
use Rattle.mw_expr.specs.Widths.{width_if, memory_width, width, is_known, depth, width_of}
use Rattle.mw_expr.proofs.Accepted.{has_width, parts_have_widths}
use Rattle.mw_expr.proofs.Small.{nil_front, nil_back, not_broken}
use Rattle.mw_expr.proofs.Strengths.{some_same}
use Rattle.mw_expr.proofs.Wide.{seen_whole}
use Rattle.mw_check.specs.QuestionKept.{AreVariables, IsWide}
use Rattle.mw_check.specs.QuestionText.{Side, uneven, first_of_side, side_unless, side_of}

-- variables are what expressions can be over
pub proper : (names : List (List ℕ)) (s : Shape) → AreVariables names s → IsShape s
proper names s are =
    let few = are.few in
    let counted = are.counted in
    let word = are.word in
    let address = are.address in
    record {
      few = omega (arith, few, counted);
      widths = are.widths;
      word = omega (arith, word);
      memory = λ some. omega (arith, some, address);
    }

-- ---- what has a width without a memory reads none

-- a word of no bits is no word
no_word : (rule : Bool) → width_if rule 0 ≡ None
no_word true = refl
no_word false = refl

no_memory : (address word : ℕ) (w : Option ℕ) → word ≡ 0 → memory_width address word w ≡ None
no_memory address word (Some w) is = rw is (no_word (w == address))
no_memory address word None is = refl

-- trees that have widths
abbrev AreSized : Shape → List Tree → Type 0
AreSized s trees = All (λ tree. IsOk (width_of s tree)) trees

first_sized : (s : Shape) (tree : Tree) (rest : List Tree) → AreSized s (tree ∷ rest) → IsOk (width_of s tree)
first_sized s tree rest all = All-head (λ tree. IsOk (width_of s tree)) tree rest all

rest_sized : (s : Shape) (tree : Tree) (rest : List Tree) → AreSized s (tree ∷ rest) → AreSized s rest
rest_sized s tree rest all = All-tail (λ tree. IsOk (width_of s tree)) tree rest all

mutual
  reads_none : (s : Shape) (tree : Tree) → s.word ≡ 0 → IsOk (width_of s tree) → reads_memory tree ≡ false
  reads_none s (element n) word ok = refl
  reads_none s (constant number w) word ok = refl
  reads_none s (complement e) word ok =
      reads_none s e word (first_sized s e [] (parts_have_widths s (complement e) ok))
  reads_none s (pair sign a b) word ok =
      let all = parts_have_widths s (pair sign a b) ok in
      let rest = rest_sized s a (b ∷ []) all in
      or_from (reads_memory a) (reads_memory b) (reads_none s a word (first_sized s a (b ∷ []) all))
      (reads_none s b word (first_sized s b [] rest))
  reads_none s (choice c a b) word ok =
      let all = parts_have_widths s (choice c a b) ok in
      let rest = rest_sized s c (a ∷ b ∷ []) all in
      let last = rest_sized s a (b ∷ []) rest in
      or_from (reads_memory c) (reads_memory a || reads_memory b)
      (reads_none s c word (first_sized s c (a ∷ b ∷ []) all))
      (or_from (reads_memory a) (reads_memory b) (reads_none s a word (first_sized s a (b ∷ []) rest))
      (reads_none s b word (first_sized s b [] last)))
  reads_none s (part e high low) word ok =
      reads_none s e word (first_sized s e [] (parts_have_widths s (part e high low) ok))
  reads_none s (join parts) word ok = read_none s parts word (parts_have_widths s (join parts) ok)
  reads_none s (widened e w) word ok =
      reads_none s e word (first_sized s e [] (parts_have_widths s (widened e w) ok))
  reads_none s (memory address) word ok =
      let wide = (has_width s (memory address) ok).wide in
      let never = rw (no_memory s.address s.word (width s address) word) at wide in
      grind arith

  read_none : (s : Shape) (trees : Trees) → s.word ≡ 0 → AreSized s (listed trees) → read_memory trees ≡ false
  read_none s none word all = refl
  read_none s (more tree rest) word all =
      or_from (reads_memory tree) (read_memory rest)
      (reads_none s tree word (first_sized s tree (listed rest) all))
      (read_none s rest word (rest_sized s tree (listed rest) all))

-- ---- a side that was read

-- the width of a tree by the rules, where its elements are known and it isn't too deep
width_is : (s : Shape) (tree : Tree) (w : ℕ) → is_known (length s.widths) tree ≡ true → width s tree ≡ Some w
    → depth tree ≤ 64
    → width_of s tree ≡ Ok w
unfolding width_of
width_is s tree w known wide shallow =
    let fits : nat_le (depth tree) 64 ≡ true = grind (arith, nat_tests, shallow) in rw (known, wide, fits) refl

-- the side as it was made, which had no fault
unless_ok : (first : Option TextFault) (s : Shape) (tree : Placed) (side : Side) → side_unless first s tree ≡ Ok side
    → (first ≡ None) × (record { tree = plain tree; width = seen_width s tree } ≡ side)
unless_ok None s tree side is = (
  refl,
  ok_is {F = TextFault}
      (record { tree = plain tree; width = seen_width s tree }) side is,
)
unless_ok (Some fault) s tree side is = absurd cc

-- the width is the one before
even_with : (before : Option ℕ) (word : Token) (w : ℕ) → uneven before word (Some w) ≡ []
    → (b : ℕ) → before ≡ Some b → w ≡ b
even_with (Some a) word w is b same =
    let no = not_broken (not (w == a)) word is in
    let alike : w ≡ a = grind (arith, nat_tests, no) in alike ∙ some_same a b same
even_with None word w is b same = absurd cc

-- a side that was read has a width, the one before, and reads no memory
pub record WasRead (s : Shape) (before : Option ℕ) (side : Side) : Type 0 where
  pub wide : IsWide s side
  pub even : (b : ℕ) → before ≡ Some b → wide.bits ≡ b

pub side_read : (names : List (List ℕ)) (s : Shape) (before : Option ℕ) (word : Token) (rest : Cursor) (side : Side)
    → AreVariables names s → side_of names s before word rest ≡ Ok side
    → WasRead s before side
unfolding side_of
side_read names s before word rest side are is =
    let m = meaning_of rest.text names s.address in
    let one = bind_ok (tree_of m rest) (λ tree. side_unless (first_of_side s before word tree) s tree) side is in
    let made = unless_ok (first_of_side s before word one.0) s one.0 side one.2 in
    let faults = faults s (Some 64) one.0 in
    let other = uneven before word (seen_width s one.0) in
    let all = no_first (faults ++ other) made.0 in
    let h = seen_whole m rest s one.0 (proper names s are) one.1 (nil_front faults other all) in
    let wide = width_is s (plain one.0) h.w h.known h.wide h.shallow in
    let even = rw h.seen at (nil_back faults other all) in
    subst (WasRead s before) made.1 (record {
      wide = record {
        bits = h.w;
        told = h.seen;
        wide = wide;
        free = reads_none s (plain one.0) are.word (rw wide refl);
      };
      even = even_with before word h.w even;
    })

-- ---- a side in the code

-- the first fault of a side, where that of the side alone is known
pub first_with : (s : Shape) (before : Option ℕ) (word : Token) (tree : Placed) (own now : Option TextFault)
    → own ≡ first_in None (faults s (Some 64) tree)
    → now ≡ first_in own (uneven before word (seen_width s tree))
    → now ≡ first_of_side s before word tree
first_with s before word tree own now is next =
    after_two None own now (faults s (Some 64) tree) (uneven before word (seen_width s tree)) is next

-- without one the side alone has none
pub own_none : (s : Shape) (before : Option ℕ) (word : Token) (tree : Placed) → None ≡ first_of_side s before word tree
    → first_fault s tree ≡ None
own_none s before word tree is =
    let faults = faults s (Some 64) tree in
    let other = uneven before word (seen_width s tree) in
    let own = nil_front faults other (no_first (faults ++ other) (sym is)) in
    rw own refl

pub side_fails : (s : Shape) (before : Option ℕ) (word : Token) (tree : Placed) (fault : TextFault)
    → Some fault ≡ first_of_side s before word tree
    → side_unless (first_of_side s before word tree) s tree ≡ Err fault
side_fails s before word tree fault is = rw (sym is) refl
