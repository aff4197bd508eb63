-- What an accepted relation has: each address is that of one boundary.
use Rattle.std.proofs.Common.{◌≡◌, ℕ, zero, suc, List, [], ◌∷◌, map, length, Bool, true, false, not, ◌&&◌, ◌||◌, ◌==◌}
use Rattle.std.proofs.Common.{nat_lt, ◌<◌, ◌≤◌, cond, find, Option, Some, None, refl, sym, ap, ◌∙◌, arith}
use Rattle.std.specs.Prelude.{All, Result, Ok, Err, nat_le, slice_get, slice_index, if◌then◌else◌}
use Rattle.std.specs.List.{list_all, list_any, position_or_len}
use Rattle.std.proofs.lemmas.Bool.{and_parts, eqb-true, eq-eqb, leb-true, ltb-true}
use Rattle.std.proofs.lemmas.Bool.Decides.{nat_tests}
use Rattle.std.proofs.lemmas.List.Elements.{All-nil, All-cons, All-head, All-tail, All-weaker}
use Rattle.std.proofs.lemmas.List.Folds.{find_at}
use Rattle.std.proofs.lemmas.List.Sums.{list_all-from_AllPass}
use Rattle.mw_base.specs.declared.cause.Cause.{Cause}
use Rattle.mw_base.specs.declared.cause.Cause.TheVariants.{Twice, WidthsDiffer, LeftTwice, LeftUsedOnRight, NoBoundary}
use Rattle.mw_base.specs.declared.cause.Cause.TheVariants.{BadBound}
use Rattle.mw_expr.specs.declared.shape.Shape.{Shape}
use Rattle.mw_expr.specs.Widths.{width_of}
use Rattle.mw_macro.specs.Right.{is_asked}
use Rattle.mw_rel.specs.Free.{numbered, no_boundary}
use Rattle.mw_rel.specs.Certified.{boundary_at}
use Rattle.mw_rel.specs.Job.{Job, IsJob}
use Rattle.mw_rel.specs.Lines.{Line}
use Rattle.mw_rel.specs.Relation.{Boundary, Relation, IsFormed, IsFormedLine, IsFormedBoundary}
use Rattle.mw_rel.specs.Rules.{are_once, addresses_are_once, is_even, are_even, lefts_are_once, rights_are_free}
use Rattle.mw_rel.specs.Rules.{is_bounded, refusal_of, IsLineOf, IsSolved, IsSolvedRelation, AcceptedAreSolved}

-- a rule before others, where none is broken
kept : (k : Bool) (cause : Cause) (rest : Option Cause) → (if k then rest else Some cause) ≡ None
    → (k ≡ true) × (rest ≡ None)
kept true cause rest none = (refl, none)
kept false cause rest none = cc

-- an expression that has the width asked for
asked_is : (asked : ℕ) (r : Result ℕ Cause) → is_asked asked r ≡ true → r ≡ Ok asked
asked_is asked (Ok w) is = ap Ok (eqb-true w asked is)
asked_is asked (Err cause) is = absurd cc

lines_are : (s : Shape) (lines : List Line) → All (IsFormedLine s) lines → list_all (is_even s) lines ≡ true
    → All (IsLineOf s) lines
lines_are s [] formed even = All-nil (IsLineOf s)
lines_are s (line ∷ rest) formed even =
    let evens = and_parts _ _ even in
    let one : IsLineOf s line = record {
      left = (All-head (IsFormedLine s) line rest formed).left;
      right = asked_is (slice_index s.widths line.left) (width_of s line.right) evens.0;
    } in
    All-cons (IsLineOf s) line rest one (lines_are s rest (All-tail (IsFormedLine s) line rest formed) evens.1)

-- what the rules give of each boundary
each_boundary : (s : Shape) (boundaries : List Boundary) → All (IsFormedBoundary s) boundaries
    → list_all (are_even s) boundaries ≡ true → list_all lefts_are_once boundaries ≡ true
    → list_all rights_are_free boundaries ≡ true
    → list_all is_bounded boundaries ≡ true → All (IsSolved s) boundaries
each_boundary s [] formed even once free bounded = All-nil (IsSolved s)
each_boundary s (b ∷ rest) formed even once free bounded =
    let evens = and_parts _ _ even in
    let lefts = and_parts _ _ once in
    let rights = and_parts _ _ free in
    let bounds = and_parts _ _ bounded in
    let bound = and_parts _ _ bounds.0 in
    let here = All-head (IsFormedBoundary s) b rest formed in
    let one : IsSolved s b = record {
      lines = lines_are s b.lines here.lines evens.0;
      once = lefts.0;
      free = rights.0;
      some = leb-true 1 b.bound bound.0;
      most = leb-true b.bound 500 bound.1;
    } in
    All-cons (IsSolved s) b rest one
    (each_boundary s rest (All-tail (IsFormedBoundary s) b rest formed) evens.1 lefts.1 rights.1 bounds.1)

-- neither of two
pub neither : (test rest : Bool) → not (test || rest) ≡ true → (test ≡ false) × (not rest ≡ true)
neither true rest none = cc
neither false rest none = (refl, none)

pub turned : (a b : ℕ) → (a == b) ≡ false → (b == a) ≡ false
turned a b other = grind (arith, nat_tests)

-- an address that stands nowhere behind is none of those behind
not_behind : (boundaries : List Boundary) (n : ℕ) (b : Boundary) (address : ℕ)
    → not (list_any (λ other. other == address) (map (λ (boundary : Boundary). boundary.address) boundaries)) ≡ true
    → slice_get boundaries n ≡ Some b → (address == b.address) ≡ false
not_behind [] n b address none at = cc
not_behind (x ∷ rest) zero b address none at =
    let same : b ≡ x = cc in
    rw same (turned x.address address (neither _ _ none).0)
not_behind (x ∷ rest) (suc n) b address none at = not_behind rest n b address (neither _ _ none).1 at

-- where no address is that of two boundaries, one address is at one place
once_at : (boundaries : List Boundary) (i j : ℕ) (a b : Boundary)
    → are_once (map (λ (boundary : Boundary). boundary.address) boundaries) ≡ true
    → slice_get boundaries i ≡ Some a → slice_get boundaries j ≡ Some b → a.address ≡ b.address → i ≡ j
once_at [] i j a b once one other same = cc
once_at (x ∷ rest) zero zero a b once one other same = refl
once_at (x ∷ rest) zero (suc j) a b once one other same =
    let is : x ≡ a = cc in
    let apart = not_behind rest j b x.address (and_parts _ _ once).0 other in
    let equal : (x.address == b.address) ≡ true = eq-eqb x.address b.address
    (ap (λ (boundary : Boundary). boundary.address) is ∙ same) in
    absurd cc
once_at (x ∷ rest) (suc i) zero a b once one other same =
    let is : x ≡ b = cc in
    let apart = not_behind rest i a x.address (and_parts _ _ once).0 one in
    let equal : (x.address == a.address) ≡ true = eq-eqb x.address a.address
    (ap (λ (boundary : Boundary). boundary.address) is ∙ sym same) in
    absurd cc
once_at (x ∷ rest) (suc i) (suc j) a b once one other same =
    ap suc (once_at rest i j a b (and_parts _ _ once).1 one other same)

solved_if : (r : Relation) → IsFormed r → refusal_of r ≡ None → IsSolvedRelation r
unfolding refusal_of
solved_if r formed none =
    let one = kept (addresses_are_once r.boundaries) Twice _ none in
    let two = kept (list_all (are_even r.shape) r.boundaries) WidthsDiffer _ one.1 in
    let three = kept (list_all lefts_are_once r.boundaries) LeftTwice _ two.1 in
    let four = kept (list_all rights_are_free r.boundaries) LeftUsedOnRight _ three.1 in
    let five = kept (nat_lt 0 (length r.boundaries)) NoBoundary _ four.1 in
    let six = kept (list_all is_bounded r.boundaries) BadBound _ five.1 in
    record {
      some = ltb-true 0 (length r.boundaries) five.0;
      addresses = λ i j a b at other same. once_at r.boundaries i j a b one.0 at other same;
      each = each_boundary r.shape r.boundaries formed.boundaries two.0 three.0 four.0 six.0;
    }

-- ---- and the other way

-- an address that no boundary has
none_has : (boundaries : List Boundary) (address : ℕ)
    → ((j : ℕ) (b : Boundary) → slice_get boundaries j ≡ Some b → (b.address == address) ≡ false)
    → not (list_any (λ other. other == address) (map (λ (boundary : Boundary). boundary.address) boundaries)) ≡ true
none_has [] address none = refl
none_has (x ∷ rest) address none = rw (none 0 x refl) (none_has rest address (λ j b at. none (suc j) b at))

unless_same : (a b : ℕ) (test : Bool) → (a == b) ≡ test → (a ≡ b → ⊥) → (a == b) ≡ false
unless_same a b true is other = absurd (other (eqb-true a b is))
unless_same a b false is other = is

both : (a b : Bool) → a ≡ true → b ≡ true → (a && b) ≡ true
both true b one other = other
both false b one other = cc

once_if : (boundaries : List Boundary)
    → ((i j : ℕ) (a b : Boundary) → slice_get boundaries i ≡ Some a → slice_get boundaries j ≡ Some b
    → a.address ≡ b.address → i ≡ j)
    → are_once (map (λ (boundary : Boundary). boundary.address) boundaries) ≡ true
once_if [] places = refl
once_if (x ∷ rest) places =
    both _ _
    (none_has rest x.address (λ j b at. unless_same b.address x.address (b.address == x.address) refl (λ same.
    let wrong : suc j ≡ 0 = places (suc j) 0 b x at refl same in absurd (omega arith))))
    (once_if rest (λ i j a b one other same.
    let next : suc i ≡ suc j = places (suc i) (suc j) a b one other same in omega arith))

even_if : (s : Shape) (line : Line) → IsLineOf s line → is_even s line ≡ true
even_if s line is = rw is.right (eq-eqb (slice_index s.widths line.left) (slice_index s.widths line.left) refl)

bounded_if : (n : ℕ) → 1 ≤ n → n ≤ 500 → (nat_le 1 n && nat_le n 500) ≡ true
bounded_if n some most =
    let least : nat_le 1 n ≡ true = grind (arith, nat_tests) in
    let limit : nat_le n 500 ≡ true = grind (arith, nat_tests) in
    both (nat_le 1 n) (nat_le n 500) least limit

lt_if : (n : ℕ) → 1 ≤ n → nat_lt 0 n ≡ true
lt_if n some = grind (arith, nat_tests)

evens_if : (s : Shape) (b : Boundary) → IsSolved s b → are_even s b ≡ true
evens_if s b solved = list_all-from_AllPass (is_even s) b.lines
    (All-weaker (IsLineOf s) (λ (line : Line). is_even s line ≡ true)
    (λ line is. even_if s line is) b.lines solved.lines)

-- a test that each solved boundary passes
all_pass : (s : Shape) (test : Boundary → Bool) (boundaries : List Boundary) → All (IsSolved s) boundaries
    → ((b : Boundary) → IsSolved s b → test b ≡ true) → list_all test boundaries ≡ true
all_pass s test boundaries each passes = list_all-from_AllPass test boundaries
    (All-weaker (IsSolved s) (λ (b : Boundary). test b ≡ true) (λ b solved. passes b solved) boundaries each)

accepted_if : (r : Relation) → IsSolvedRelation r → refusal_of r ≡ None
unfolding refusal_of
accepted_if r is =
    let once = once_if r.boundaries is.addresses in
    let even = all_pass r.shape (are_even r.shape) r.boundaries is.each (λ b solved. evens_if r.shape b solved) in
    let lefts = all_pass r.shape lefts_are_once r.boundaries is.each (λ b solved. solved.once) in
    let rights = all_pass r.shape rights_are_free r.boundaries is.each (λ b solved. solved.free) in
    let bounds = all_pass r.shape is_bounded r.boundaries is.each
    (λ b solved. bounded_if b.bound solved.some solved.most) in
    let some : nat_lt 0 (length r.boundaries) ≡ true = lt_if (length r.boundaries) is.some in
    rw (once, even, lefts, rights, some, bounds) refl

pub accepted_are_solved : AcceptedAreSolved
accepted_are_solved r formed = (solved_if r formed, accepted_if r)

addresses_once : (r : Relation) → refusal_of r ≡ None
    → are_once (map (λ (boundary : Boundary). boundary.address) r.boundaries) ≡ true
unfolding refusal_of
addresses_once r none = (kept (are_once (map (λ (boundary : Boundary). boundary.address) r.boundaries)) Twice _ none).0

-- the boundary that stands at a place is the one at its address
found_once : (boundaries : List Boundary) (n : ℕ) (b : Boundary)
    → are_once (map (λ (boundary : Boundary). boundary.address) boundaries) ≡ true → slice_get boundaries n ≡ Some b
    → find (λ boundary. boundary.address == b.address) boundaries ≡ Some b
found_once [] n b once at = cc
found_once (x ∷ rest) zero b once at =
    let same : x ≡ b = cc in
    rw (same, eq-eqb b.address b.address refl) refl
found_once (x ∷ rest) (suc n) b once at =
    let parts = and_parts _ _ once in
    rw (not_behind rest n b x.address parts.0 at) (found_once rest n b parts.1 at)

pub there_is : (job : Job) (n : ℕ) (b : Boundary) → IsJob job → slice_get job.relation.boundaries n ≡ Some b
    → boundary_at job b.address ≡ Some b
there_is job n b is at = found_once job.relation.boundaries n b
    (addresses_once job.relation is.matched.relation.accepted) at

-- the boundary at an address stands at some place
pub is_there : (job : Job) (at : ℕ) (b : Boundary) → boundary_at job at ≡ Some b
    → (n : ℕ) × (slice_get job.relation.boundaries n ≡ Some b)
is_there job at b found =
    let place = position_or_len (λ (boundary : Boundary). boundary.address == at) job.relation.boundaries in
    (place, sym (find_at (λ (boundary : Boundary). boundary.address == at) job.relation.boundaries) ∙ found)

passes_at : (test : Boundary → Bool) (x : Boundary) (rest : List Boundary) (b : Boundary) (here : Bool) → test x ≡ here
    → cond here (Some x) (find test rest) ≡ Some b → (find test rest ≡ Some b → test b ≡ true) → test b ≡ true
passes_at test x rest b true is found later = let same : x ≡ b = cc in ap test (sym same) ∙ is
passes_at test x rest b false is found later = later found

-- and has this address
found_passes : (test : Boundary → Bool) (boundaries : List Boundary) (b : Boundary) → find test boundaries ≡ Some b
    → test b ≡ true
found_passes test [] b found = cc
found_passes test (x ∷ rest) b found = passes_at test x rest b (test x) refl found (found_passes test rest b)

pub is_at : (job : Job) (at : ℕ) (b : Boundary) → boundary_at job at ≡ Some b → at ≡ b.address
is_at job at b found = sym
    (eqb-true b.address at
    (found_passes (λ (boundary : Boundary). boundary.address == at) job.relation.boundaries b found))

-- a boundary by its number is solved
pub solved_at : (job : Job) (n : ℕ) → IsJob job → n < length job.relation.boundaries
    → IsSolved job.relation.shape (numbered job n)
solved_at job n is below =
    let relation = is.matched.relation in
    (solved_if job.relation relation.formed relation.accepted).each n no_boundary below
