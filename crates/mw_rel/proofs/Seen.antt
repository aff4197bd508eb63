-- What is kept and what it is seen as.
use Rattle.std.proofs.Common.{◌≡◌, ℕ, zero, suc, ◌+◌, ◌<◌, List, [], ◌∷◌, ◌++◌, map, take, length, get_or, refl, sym}
use Rattle.std.proofs.Common.{ap, ◌∙◌, subst, arith}
use Rattle.std.specs.Prelude.{slice_index_or, unwrap_or}
use Rattle.std.specs.List.{All}
use Rattle.std.proofs.lemmas.List.{length-map, take_more}
use Rattle.std.proofs.lemmas.List.Elements.{All-head, All-tail}
use Rattle.std.proofs.lemmas.Option.{slice_get-map, unwrap_or-slice_get}
use Rattle.mw_board.specs.declared.parts.BoardParts.{BoardParts}
use Rattle.mw_board.specs.Elements.{Element, elements_of, element_width}
use Rattle.mw_rel.specs.declared.boundary.Boundary.{Boundary as KeptBoundary}
use Rattle.mw_rel.specs.declared.line.Line.{Line as KeptLine}
use Rattle.mw_rel.specs.Lines.{Line}
use Rattle.mw_rel.specs.Relation.{Boundary}
use Rattle.mw_rel.specs.Seen.{lines_of, boundary_of, boundaries_of}

-- the left sides of lines
pub lefts_seen : (lines : List KeptLine)
    → map (λ (line : KeptLine). line.left) lines ≡ map (λ (line : Line). line.left) (lines_of lines)
lefts_seen [] = refl
lefts_seen (x ∷ rest) = ap (λ ns. x.left ∷ ns) (lefts_seen rest)

-- the addresses of boundaries
pub addresses_seen : (boundaries : List KeptBoundary)
    → map (λ (b : KeptBoundary). b.address) boundaries ≡ map (λ (b : Boundary). b.address) (boundaries_of boundaries)
addresses_seen [] = refl
addresses_seen (x ∷ rest) = ap (λ ns. x.address ∷ ns) (addresses_seen rest)

-- what holds of each that is seen holds of what this one is seen as
pub each_seen : {A B : Type 0} (P : B → Type 0) (f : A → B) (xs : List A) (n : ℕ) (x : A) → All P (map f xs)
    → n < length xs
    → x ≡ get_or xs n x → P (f x)
each_seen P f [] n x all within is = absurd (omega arith)
each_seen P f (y ∷ rest) zero x all within is = subst (λ z. P (f z)) (sym is) (All-head P (f y) (map f rest) all)
each_seen P f (y ∷ rest) (suc n) x all within is =
    each_seen P f rest n x (All-tail P (f y) (map f rest) all) (omega arith) is

-- one width more of a board's elements
pub width_more : (board : BoardParts) (n : ℕ) (widths : List ℕ)
    → n < length (map (λ (e : Element). e.width) (elements_of board))
    → widths ≡ take n (map (λ (e : Element). e.width) (elements_of board))
    → widths ++ unwrap_or (element_width board n) 0 ∷ [] ≡ take (n + 1)
    (map (λ (e : Element). e.width) (elements_of board))
width_more board n widths within so_far =
    let all = map (λ (e : Element). e.width) (elements_of board) in
    let here : unwrap_or (element_width board n) 0 ≡ get_or all n 0 =
    ap (λ x. unwrap_or x 0) (sym (slice_get-map (λ (e : Element). e.width) (elements_of board) n))
    ∙ unwrap_or-slice_get all n 0 in
    rw (so_far, here) (sym (take_more all n 0 within))

-- the boundary of a number is what the boundary kept there is seen as
pub seen_at : (boundaries : List KeptBoundary) (n : ℕ) (b : KeptBoundary) (none : Boundary) → n < length boundaries
    → b ≡ get_or boundaries n b
    → boundary_of b ≡ slice_index_or (boundaries_of boundaries) n none
seen_at [] n b none below is = absurd (omega arith)
seen_at (x ∷ rest) zero b none below is = ap boundary_of is
seen_at (x ∷ rest) (suc n) b none below is = seen_at rest n b none (omega arith) is

-- the same, of what the kept boundaries are seen as
pub kept_at : (boundaries : List KeptBoundary) (seen : List Boundary) (n : ℕ) (b : KeptBoundary) (none : Boundary)
    → boundaries_of boundaries ≡ seen
    → n < length seen → b ≡ get_or boundaries n b → boundary_of b ≡ slice_index_or seen n none
kept_at boundaries seen n b none same below is =
    let size : length (boundaries_of boundaries) ≡ length boundaries = length-map boundaries boundary_of in
    let within : n < length boundaries = omega (arith, ap length same) in
    seen_at boundaries n b none within is ∙ ap (λ xs. slice_index_or xs n none) same
