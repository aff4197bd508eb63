-- What the lines of a boundary keep, and what it has where it ends.
use Rattle.std.proofs.Common.{◌≡◌, ℕ, ◌+◌, ◌<◌, ◌≤◌, List, [], ◌∷◌, ◌++◌, length, map, take, drop, get_or, Bool, true}
use Rattle.std.proofs.Common.{false, refl, sym, ap, ◌∙◌, arith, subst, append_assoc, length-append}
use Rattle.std.specs.Prelude.{Option, Some, None, IfSome, ok_or, not, nat_le, nat_lt, ◌==◌, is_none, if◌then◌else◌}
use Rattle.std.specs.Prelude.{slice_index, Ok}
use Rattle.std.specs.List.{All, flat_map, list_all, list_any, position}
use Rattle.std.proofs.lemmas.Bool.{and_from, eqb-true, eq-eqb}
use Rattle.std.proofs.lemmas.Bool.Decides.{nat_tests}
use Rattle.std.proofs.lemmas.List.Elements.{All-nil, All-cons, All-head, All-tail, All-append}
use Rattle.std.proofs.lemmas.List.{get_or-map, length-map, take-map, take_more}
use Rattle.std.proofs.lemmas.List.Folds.{list_any-append}
use Rattle.std.proofs.lemmas.List.Quantifiers.{position-Some}
use Rattle.mw_base.specs.declared.cause.Cause.TheVariants.{TooMany, Twice, UnknownElement, LeftTwice, LeftUsedOnRight}
use Rattle.mw_base.specs.declared.cause.Cause.TheVariants.{NoStackPointer}
use Rattle.mw_base.specs.declared.cursor.Dotted.{Dotted}
use Rattle.mw_base.specs.declared.cursor.Numeral.{Numeral}
use Rattle.mw_base.specs.declared.refusal.TextFault.{TextFault}
use Rattle.mw_base.specs.declared.token.Token.{Token}
use Rattle.mw_base.specs.FirstFaults.{first_in}
use Rattle.mw_base.specs.TokenLines.{fault_on}
use Rattle.mw_base.proofs.FirstFaults.{no_first, first_in_append}
use Rattle.mw_base.proofs.Lists.{next as item_next}
use Rattle.mw_base.proofs.Results.{ok_is, bind_ok, found}
use Rattle.mw_expr.specs.declared.shape.Shape.{Shape}
use Rattle.mw_expr.specs.Faults.{seen_width}
use Rattle.mw_expr.specs.Grammar.{meaning_of, tree_of}
use Rattle.mw_expr.specs.Placed.{Placed}
use Rattle.mw_expr.specs.Plain.{plain}
use Rattle.mw_expr.specs.Tree.{Tree}
use Rattle.mw_expr.specs.Widths.{width, is_known, depth, width_of}
use Rattle.mw_expr.proofs.Small.{nil_front, nil_back}
use Rattle.mw_expr.proofs.Sound.{is_read_by_rule}
use Rattle.mw_macro.specs.Counts.{reads}
use Rattle.mw_rel.specs.Lines.{Line, stands_in, reads_of}
use Rattle.mw_rel.specs.Relation.{Boundary, IsFormedLine, IsFormedBoundary}
use Rattle.mw_rel.specs.Rules.{are_once, is_even, reads_no_left}
use Rattle.mw_descfile.specs.declared.scope.Scope.{Scope}
use Rattle.mw_descfile.specs.declared.block.PlacedLine.{PlacedLine as KeptPlacedLine}
use Rattle.mw_descfile.specs.declared.uses.Use.{Use}
use Rattle.mw_descfile.specs.Boundaries.{PlacedLine, Block, with_stack_pointer, with_equation, is_left, twice_left}
use Rattle.mw_descfile.specs.Boundaries.{used_left, line_faults, unsolved, solved_unless, closed_block}
use Rattle.mw_descfile.specs.Declarations.{ranged}
use Rattle.mw_descfile.specs.Expressions.{asked, whole_of, asked_whole}
use Rattle.mw_descfile.specs.KeptRelation.{IsScope, is_among, IsPlacedLine, lines_in, IsEnded, IsOpen}
use Rattle.mw_descfile.specs.RelationLines.{dotted_number, uses_of}
use Rattle.mw_descfile.specs.RelationViews.{given_seen}
use Rattle.mw_descfile.specs.Statements.{allowed}
use Rattle.mw_descfile.proofs.Expressions.{WasRead, asked_same, whole_has, whole_small}
use Rattle.mw_descfile.proofs.SaidLines.{allowed_only}
use Rattle.mw_descfile.proofs.Standing.{first_is, second_is, stands_in_tokens}

-- ---- tests

turned : (b : Bool) → b ≡ false → not b ≡ true
turned true is = absurd cc
turned false is = refl

not_false : (b : Bool) → not b ≡ false → b ≡ true
not_false true is = refl
not_false false is = absurd cc

apart : (b : Bool) → b ≡ true → b ≡ false → ⊥
apart true is other = cc
apart false is other = cc

not_true : (b : Bool) → (b ≡ true → ⊥) → b ≡ false
not_true true never = absurd (never refl)
not_true false never = refl

-- ---- one more line

-- the tree of a line was read from its tokens
abbrev pub WasWritten : (text : List ℕ) → Scope → List Token → Placed → Type 0
WasWritten text scope tokens value =
    (end : TextFault) × (tree_of (meaning_of text scope.names scope.shape.address)
    (record { text = text; tokens = tokens; end = end }) ≡ Ok value)

reads_both : (xs ys : List Line) → reads_of (xs ++ ys) ≡ reads_of xs + reads_of ys
reads_both [] ys = omega arith
reads_both (x ∷ xs) ys = let both = reads_both xs ys in omega (arith, both)

lines_both : (xs ys : List PlacedLine) → lines_in (xs ++ ys) ≡ lines_in xs ++ lines_in ys
lines_both [] ys = refl
lines_both (x ∷ xs) ys = ap (λ (rest : List Line). x.line ∷ rest) (lines_both xs ys)

-- the width of a tree that has one
width_is : (s : Shape) (tree : Tree) (w : ℕ) → is_known (length s.widths) tree ≡ true → width s tree ≡ Some w
    → nat_le (depth tree) 64 ≡ true → width_of s tree ≡ Ok w
unfolding width_of
width_is s tree w known wide shallow = rw (known, wide, shallow) refl

-- an element that is found is one of the shape
position_below : (test : List ℕ → Bool) (names : List (List ℕ)) (found : Option ℕ) → position test names ≡ found
    → IfSome found (λ n. n < length names)
position_below test names (Some n) is = (position-Some test names n [] is).0
position_below test names None is = tt

number_below : (text : List ℕ) (scope : Scope) (element : Dotted) (left : ℕ) → IsScope scope
    → ok_or (dotted_number text scope.names element.owner element.name)
    (fault_on element.owner UnknownElement) ≡ Ok left
    → left < length scope.shape.widths
number_below text scope element left kept is =
    let below = found (λ n. n < length scope.names) (fault_on element.owner UnknownElement)
    (dotted_number text scope.names element.owner element.name) left is
    (position_below _ scope.names (dotted_number text scope.names element.owner element.name) refl) in
    subst (λ n. left < n) kept.named below

pub equation_kept : (text : List ℕ) (scope : Scope) (element : Dotted) (sign : Token) (value : Placed)
    (tokens : List Token) (before : List Boundary) (block next : Block)
    → IsScope scope → WasWritten text scope tokens value → IsOpen scope.shape before block
    → with_equation text scope element sign value (uses_of text scope.names tokens) block ≡ Ok next
    → IsOpen scope.shape before next
unfolding with_equation asked_whole
equation_kept text scope element sign value tokens before block next kept read is_open is =
    let s = scope.shape in
    let one = bind_ok (allowed (nat_lt (length block.lines) 256) (fault_on element.owner TooMany)) _ next is in
    let two = bind_ok (ok_or (dotted_number text scope.names element.owner element.name)
    (fault_on element.owner UnknownElement)) _ next one.2 in
    let left = two.0 in
    let wanted = slice_index s.widths left in
    let three = bind_ok (asked_whole s block.reads_left wanted sign value) _ next two.2 in
    let whole = three.0 in
    let four =
    bind_ok (asked wanted sign (seen_width s value)) (λ same. whole_of s block.reads_left value) whole three.1
    in
    let m = meaning_of text scope.names s.address in
    let read_it : WasRead value = record { m = m; cursor = _; is = read.1 } in
    let h = whole_has s block.reads_left value whole kept.shape read_it four.2 in
    let small = whole_small s block.reads_left value whole kept.shape four.2 in
    let room = allowed_only (nat_lt (length block.lines) 256) (fault_on element.owner TooMany) one.0 one.1 in
    let same = not_false (h.0.w == wanted) (asked_same wanted h.0.w sign (seen_width s value) four.0 four.1 h.0.seen) in
    let shallow = h.0.shallow in
    let level : nat_le (depth (plain value)) 64 ≡ true = grind (arith, nat_tests, shallow) in
    let wide = width_is s (plain value) h.0.w h.0.known h.0.wide level in
    let inside = number_below text scope element left kept two.1 in
    let g : PlacedLine = record {
      line = record { left = left; right = whole.tree };
      name = element.owner;
      uses = uses_of text scope.names tokens;
    } in
    let formed : IsFormedLine s g.line = record {
      left = inside;
      known = rw h.1 h.0.known;
      depth = rw h.1 shallow;
    } in
    let even : is_even s g.line ≡ true = rw (h.1, wide) same in
    let stands_there = λ (e : ℕ) (stands : stands_in e g.line.right ≡ true).
    stands_in_tokens m e tokens value kept.dotted (is_read_by_rule m _ value read.1) small (rw h.1 at stands) in
    let given : IsPlacedLine s g = record { formed = formed; even = even; found = stands_there } in
    let sum = h.2 in
    let before_reads = is_open.reads in
    let more_reads : reads_of (lines_in (block.lines ++ g ∷ [])) ≡ reads_of (lines_in block.lines) + reads whole.tree =
    ap reads_of (lines_both block.lines (g ∷ [])) ∙ reads_both (lines_in block.lines) (lines_in (g ∷ []))
    ∙ omega arith in
    let few : length (block.lines ++ g ∷ []) ≤ 256 =
    let count = length-append block.lines (g ∷ []) in grind (arith, nat_tests, room, count) in
    subst (IsOpen s before)
    (ok_is {F = TextFault} (record block { reads_left = whole.left; lines = block.lines ++ g ∷ [] })
    next three.2) (record {
      room = is_open.room;
      address = is_open.address;
      apart = is_open.apart;
      some = is_open.some;
      most = is_open.most;
      few = few;
      reads = omega (arith, sum, before_reads, more_reads);
      lines = All-append (IsPlacedLine s) block.lines (g ∷ []) is_open.lines (All-cons (IsPlacedLine s) g [] given
          (All-nil (IsPlacedLine s)));
    })

pub stack_pointer_kept : (s : Shape) (depth : ℕ) (word : Token) (value : Numeral) (before : List Boundary)
    (block next : Block) → IsOpen s before block → with_stack_pointer depth word value block ≡ Ok next
    → IsOpen s before next
unfolding with_stack_pointer
stack_pointer_kept s depth word value before block next is_open is =
    let one = bind_ok (allowed (is_none block.sp) (fault_on word Twice)) _ next is in
    let two = bind_ok (ranged 0 depth value) _ next one.2 in
    subst (IsOpen s before) (ok_is {F = TextFault} (record block { sp = Some two.0 }) next two.2) (record {
      room = is_open.room;
      address = is_open.address;
      apart = is_open.apart;
      some = is_open.some;
      most = is_open.most;
      few = is_open.few;
      reads = is_open.reads;
      lines = is_open.lines;
    })

-- ---- its end

-- no element is left of two lines

left_more : (before : List PlacedLine) (g : PlacedLine) (n : ℕ)
    → is_left before n ≡ true → is_left (before ++ g ∷ []) n ≡ true
left_more before g n is = list_any-append (λ (h : PlacedLine). h.line.left == n) before (g ∷ [])
    ∙ first_is (is_left before n) (is_left (g ∷ []) n) is

left_last : (before : List PlacedLine) (g : PlacedLine) → is_left (before ++ g ∷ []) g.line.left ≡ true
left_last before g = list_any-append (λ (h : PlacedLine). h.line.left == g.line.left) before (g ∷ [])
    ∙ second_is (is_left before g.line.left) (is_left (g ∷ []) g.line.left)
    (first_is (g.line.left == g.line.left) false (eq-eqb g.line.left g.line.left refl))

no_fault_if : (b : Bool) (fault : TextFault) → (if b then fault ∷ [] else []) ≡ [] → b ≡ false
no_fault_if true fault is = absurd cc
no_fault_if false fault is = refl

-- the lefts of some lines
abbrev lefts : List PlacedLine → List ℕ
lefts lines = map (λ (line : Line). line.left) (lines_in lines)

-- an element that is left of a line before is left of none behind
none_behind : (all before rest : List PlacedLine) (n : ℕ) → unsolved all before rest ≡ [] → is_left before n ≡ true
    → list_any (λ other. other == n) (lefts rest) ≡ false
none_behind all before [] n is left = refl
none_behind all before (g ∷ rest) n is left =
    let one = nil_front (twice_left before g) _ (nil_front (line_faults all before g) _ is) in
    let later = nil_back (line_faults all before g) _ is in
    let not_left = no_fault_if (is_left before g.line.left) (fault_on g.name LeftTwice) one in
    let differs : (g.line.left == n) ≡ false = not_true (g.line.left == n) (λ same.
    apart (is_left before g.line.left) (subst (λ k. is_left before k ≡ true)
    (sym (eqb-true g.line.left n same)) left) not_left) in
    rw differs (none_behind all (before ++ g ∷ []) rest n later (left_more before g n left))

once : (all before rest : List PlacedLine) → unsolved all before rest ≡ [] → are_once (lefts rest) ≡ true
once all before [] is = refl
once all before (g ∷ rest) is =
    let later = nil_back (line_faults all before g) _ is in
    and_from (not (list_any (λ other. other == g.line.left) (lefts rest))) (are_once (lefts rest))
    (turned _ (none_behind all (before ++ g ∷ []) rest g.line.left later (left_last before g)))
    (once all (before ++ g ∷ []) rest later)

-- no left element stands on the right of a line

no_use : (all : List PlacedLine) (uses : List Use) (n : ℕ) → flat_map (used_left all) uses ≡ [] → is_left all n ≡ true
    → is_among uses n ≡ false
no_use all [] n is left = refl
no_use all (u ∷ rest) n is left =
    let one = nil_front (used_left all u) _ is in
    let later = nil_back (used_left all u) _ is in
    let not_left = no_fault_if (is_left all u.number) (fault_on u.name LeftUsedOnRight) one in
    let differs : (u.number == n) ≡ false = not_true (u.number == n) (λ same.
    apart (is_left all u.number) (subst (λ k. is_left all k ≡ true) (sym (eqb-true u.number n same)) left) not_left) in
    rw differs (no_use all rest n later left)

reads_none : (s : Shape) (all front others : List PlacedLine) (g : PlacedLine)
    → all ≡ front ++ others → IsPlacedLine s g → flat_map (used_left all) g.uses ≡ []
    → list_all (λ (other : Line). not (stands_in other.left g.line.right)) (lines_in others) ≡ true
reads_none s all front [] g is given free = refl
reads_none s all front (o ∷ rest) g is given free =
    let at : is_left all o.line.left ≡ true =
    rw is (list_any-append (λ (h : PlacedLine). h.line.left == o.line.left) front (o ∷ rest)
    ∙ second_is (is_left front o.line.left) (is_left (o ∷ rest) o.line.left)
    (first_is (o.line.left == o.line.left) (is_left rest o.line.left) (eq-eqb o.line.left o.line.left refl))) in
    let none = no_use all g.uses o.line.left free at in
    let unread = not_true (stands_in o.line.left g.line.right) (λ stands. apart (is_among g.uses o.line.left)
    (given.found o.line.left stands) none) in
    and_from (not (stands_in o.line.left g.line.right)) _ (turned _ unread)
    (reads_none s all (front ++ o ∷ []) rest g (is ∙ sym (append_assoc front (o ∷ []) rest)) given free)

free : (s : Shape) (all before rest : List PlacedLine) → All (IsPlacedLine s) rest → unsolved all before rest ≡ []
    → list_all (reads_no_left (lines_in all)) (lines_in rest) ≡ true
free s all before [] given is = refl
free s all before (g ∷ rest) given is =
    let uses = nil_back (twice_left before g) _ (nil_front (line_faults all before g) _ is) in
    let later = nil_back (line_faults all before g) _ is in
    and_from (reads_no_left (lines_in all) g.line) _
    (reads_none s all [] all g refl (All-head (IsPlacedLine s) g rest given) uses)
    (free s all (before ++ g ∷ []) rest (All-tail (IsPlacedLine s) g rest given) later)

-- ---- the first fault, line by line

pub use_more : (all : List PlacedLine) (uses : List Use) (first next total : Option TextFault) (n : ℕ) (u : Use)
    → drop n uses ≡ u ∷ drop (n + 1) uses → next ≡ first_in first (used_left all u)
    → first_in first (flat_map (used_left all) (drop n uses)) ≡ total
    → first_in next (flat_map (used_left all) (drop (n + 1) uses)) ≡ total
use_more all uses first next total n u at is so_far =
    rw is (sym (first_in_append first (used_left all u) (flat_map (used_left all) (drop (n + 1) uses)))
    ∙ rw at at so_far)

pub line_more : (all ys : List PlacedLine) (first next total : Option TextFault) (n : ℕ) (g : PlacedLine)
    → drop n ys ≡ g ∷ drop (n + 1) ys → take (n + 1) ys ≡ take n ys ++ g ∷ []
    → next ≡ first_in first (line_faults all (take n ys) g)
    → first_in first (unsolved all (take n ys) (drop n ys)) ≡ total
    → first_in next (unsolved all (take (n + 1) ys) (drop (n + 1) ys)) ≡ total
line_more all ys first next total n g at taken is so_far =
    rw (is, taken) (sym (first_in_append first (line_faults all (take n ys) g)
    (unsolved all (take n ys ++ g ∷ []) (drop (n + 1) ys))) ∙ rw at at so_far)

-- the same for lines that the code keeps
pub line_at : (lines : List KeptPlacedLine) (first next total : Option TextFault) (n : ℕ) (x : KeptPlacedLine)
    → n < length lines → x ≡ get_or lines n x
    → next ≡ first_in first (line_faults (map given_seen lines) (map given_seen (take n lines)) (given_seen x))
    → first_in first (unsolved (map given_seen lines) (take n (map given_seen lines)) (drop n (map given_seen lines)))
    ≡ total
    → first_in next (unsolved (map given_seen lines) (take (n + 1) (map given_seen lines))
    (drop (n + 1) (map given_seen lines))) ≡ total
line_at lines first next total n x within at is so_far =
    let ys = map given_seen lines in
    let size = length-map lines given_seen in
    let inside : n < length ys = omega (arith, size, within) in
    let same : get_or ys n (given_seen x) ≡ given_seen x = get_or-map given_seen lines n x (given_seen x) within
    ∙ ap given_seen (sym at) in
    line_more ys ys first next total n (given_seen x) (item_next ys n (given_seen x) inside (sym same))
    (take_more ys n (given_seen x) inside ∙ ap (λ (y : PlacedLine). take n ys ++ y ∷ []) same)
    (rw (take-map given_seen n lines) is) so_far

-- its lines

all_even : (s : Shape) (lines : List PlacedLine)
    → All (IsPlacedLine s) lines → list_all (is_even s) (lines_in lines) ≡ true
all_even s [] given = refl
all_even s (g ∷ rest) given = and_from (is_even s g.line) _ (All-head (IsPlacedLine s) g rest given).even
    (all_even s rest (All-tail (IsPlacedLine s) g rest given))

all_formed : (s : Shape) (lines : List PlacedLine) → All (IsPlacedLine s) lines → All (IsFormedLine s) (lines_in lines)
all_formed s [] given = All-nil (IsFormedLine s)
all_formed s (g ∷ rest) given = All-cons (IsFormedLine s) g.line (lines_in rest)
    (All-head (IsPlacedLine s) g rest given).formed (all_formed s rest (All-tail (IsPlacedLine s) g rest given))

count : (lines : List PlacedLine) → length (lines_in lines) ≡ length lines
count [] = refl
count (g ∷ rest) = let same = count rest in omega (arith, same)

unless_none : (first : Option TextFault) (done : Unit {0}) → solved_unless first ≡ Ok done → first ≡ None
unless_none None done is = refl
unless_none (Some fault) done is = absurd cc

pub closed_kept : (s : Shape) (before : List Boundary) (block : Block) (word : Token) (boundary : Boundary)
    → IsOpen s before block → closed_block block word ≡ Ok boundary
    → IsEnded s boundary × (boundary.address ≡ block.address)
unfolding closed_block
closed_kept s before block word boundary is_open is =
    let one = bind_ok (solved_unless (first_in None (unsolved block.lines [] block.lines))) _ boundary is in
    let two = bind_ok (ok_or block.sp (fault_on word NoStackPointer)) _ boundary one.2 in
    let none = no_first (unsolved block.lines [] block.lines) (unless_none _ one.0 one.1) in
    let made : Boundary = record {
      address = block.address;
      bound = block.bound;
      sp = two.0;
      lines = lines_in block.lines;
    } in
    let same : made ≡ boundary = ok_is {F = TextFault} made boundary two.2 in
    let few = is_open.few in
    let some = is_open.some in
    let most = is_open.most in
    let all_reads = is_open.reads in
    let size = count block.lines in
    let formed : IsFormedBoundary s made = record {
      address = is_open.address;
      few = omega (arith, few, size);
      reads = omega (arith, all_reads);
      lines = all_formed s block.lines is_open.lines;
    } in
    let ended : IsEnded s made = record {
      formed = formed;
      even = all_even s block.lines is_open.lines;
      once = once block.lines [] block.lines none;
      free = free s block.lines [] block.lines is_open.lines none;
      bound = and_from (nat_le 1 block.bound) (nat_le block.bound 500) (grind (arith, nat_tests, some))
          (grind (arith, nat_tests, most));
    } in
    (subst (IsEnded s) same ended, ap (λ (b : Boundary). b.address) (sym same))
