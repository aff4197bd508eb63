-- What an environment may set, and what is made of it.
use Rattle.std.proofs.Common.{◌≡◌, ℕ, zero, suc, ◌+◌, ◌^◌, ◌<◌, ◌≤◌, List, [], ◌∷◌, ◌++◌, length, map, get_or, take}
use Rattle.std.proofs.Common.{slice_get, inl, inr, Option, Some, None, IfSome, option_map, lit≤, refl, ap, ◌∙◌, subst}
use Rattle.std.proofs.Common.{arith}
use Rattle.std.specs.List.{All}
use Rattle.std.specs.Option.{option_to_list}
use Rattle.std.proofs.Math.Pow.{pow_mono}
use Rattle.std.proofs.lemmas.Bool.{cases_lt}
use Rattle.std.proofs.lemmas.List.{length-append, length-map, take_all}
use Rattle.std.proofs.lemmas.List.Elements.{All-nil, All-cons, All-map, All-push}
use Rattle.std.proofs.lemmas.Nat.{pow_pos}
use Rattle.mw_board.specs.declared.parts.BoardParts.{BoardParts}
use Rattle.mw_board.specs.Depth.{depth_of}
use Rattle.mw_board.specs.Elements.{Element, elements_of, element_count, element_width}
use Rattle.mw_board.specs.Valid.{IsBoard}
use Rattle.mw_board.proofs.Elements.{no_width, words_few}
use Rattle.mw_cycle.specs.declared.elements.Element.{Element as Kind}
use Rattle.mw_cycle.specs.declared.elements.Element.TheVariants.{Register, Q, Mar, Ir, FlipFlop, Pc, R, StackWord}
use Rattle.mw_cycle.specs.Elements.{IsValueOf, bits_of, element_of}
use Rattle.mw_cycle.proofs.Values.{width_is}
use Rattle.mw_sim.specs.declared.settings.Settable.{Settable}
use Rattle.mw_sim.specs.Settings.{AreBounded, bound_of}
use Rattle.mw_sim.specs.Start.{settable, stack_pointer, settables_of}

-- ---- the elements of a board

-- no element has over 32 bits
bits_few : (board : BoardParts) (e : Kind) → IsBoard board → bits_of board e ≤ 32
bits_few board (Register n) is = is.sizes.most
bits_few board Q is = is.sizes.most
bits_few board Mar is = omega (arith, is.sizes.address_most)
bits_few board Ir is = is.sizes.most
bits_few board (FlipFlop n) is = lit≤ tt
bits_few board Pc is = lit≤ tt
bits_few board R is = lit≤ tt
bits_few board (StackWord n) is = lit≤ tt

-- one width is one number
one_width : (a b : ℕ) (width : Option ℕ) → width ≡ Some a → width ≡ Some b → a ≡ b
one_width a b width first second = cc

pub width_few : (board : BoardParts) (n w : ℕ) → IsBoard board → element_width board n ≡ Some w → w ≤ 32
width_few board n w is width = elim (cases_lt n (element_count board)) [
  | inl there ↦ subst (λ v. v ≤ 32) (one_width _ w (element_width board n) (width_is board n there) width)
      (bits_few board (element_of board n) is)
  | inr past ↦ absurd (let none = no_width board n past in cc)
]

-- nothing is taken of nothing
take-nil : {A : Type 0} (n : ℕ) → take {A = A} n [] ≡ []
take-nil zero = refl
take-nil (suc n) = refl

-- the elements up to one more
taken_more : {A B : Type 0} (f : A → B) (xs : List A) (n : ℕ)
    → map f (take n xs) ++ map f (option_to_list (slice_get xs n)) ≡ map f (take (n + 1) xs)
taken_more f [] zero = refl
taken_more f [] (suc n) = rw (take-nil (suc n + 1)) refl
taken_more f (x ∷ xs) zero = refl
taken_more f (x ∷ xs) (suc n) =
    let e : suc n + 1 ≡ suc (n + 1) = omega arith in
    rw e (ap (λ rest. f x ∷ rest) (taken_more f xs n))

pub settables_more : (board : BoardParts) (n : ℕ) (old new : List Settable)
    → old ≡ map settable (take n (elements_of board))
    → new ≡ old ++ map settable (option_to_list (slice_get (elements_of board) n)) → new
    ≡ map settable (take (n + 1) (elements_of board))
settables_more board n old new was more = more ∙ rw was (taken_more settable (elements_of board) n)

pub settables_all : (board : BoardParts) (n : ℕ) (old new : List Settable)
    → old ≡ map settable (take n (elements_of board)) → element_count board ≤ n
    → new ≡ old ++ (stack_pointer board ∷ []) → new ≡ settables_of board
settables_all board n old new was past more = more ∙ rw (was, take_all n (elements_of board) past) refl

-- what is so of each element of a board, by number, is so of what lines may set
all_by_number : (P : Element → Type 0) (xs : List Element) → ((n : ℕ) → IfSome (slice_get xs n) P)
    → All (λ (element : Element). P element) xs
all_by_number P [] each = All-nil P
all_by_number P (x ∷ xs) each = All-cons P x xs (each zero) (all_by_number P xs (λ n. each (suc n)))

some_width : (n : ℕ) (found : Option Element)
    → ((w : ℕ) → option_map (λ (element : Element). element.width) found ≡ Some w → w ≤ 32)
    → IfSome found (λ element. element.width ≤ 32)
some_width n (Some element) few = few element.width refl
some_width n None few = tt

pub settables_bounded : (board : BoardParts) → IsBoard board → AreBounded (settables_of board)
settables_bounded board is =
    let fits = λ (element : Settable). (0 < element.bound) × (element.bound ≤ 2 ^ 32) in
    let deep = words_few board in
    let short : 10 ≤ 2 ^ 32 = lit≤ tt in
    let few = all_by_number (λ (element : Element). element.width ≤ 32) (elements_of board)
    (λ n. some_width n (slice_get (elements_of board) n) (λ w width. width_few board n w is width)) in
    All-push fits (map settable (elements_of board)) (stack_pointer board)
    (All-map fits settable (elements_of board) (λ n d within.
    (pow_pos (get_or (elements_of board) n d).width, pow_mono (few n d within))))
    (omega arith, omega (arith, deep, short))

-- the bound of an element, and of the stack pointer
bound_is : (xs : List Element) (rest : List Settable) (n v : ℕ) → n < length xs
    → v < bound_of (slice_get (map settable xs ++ rest) n)
    → IfSome (option_map (λ (element : Element). element.width) (slice_get xs n)) (λ w. v < 2 ^ w)
bound_is [] rest n v within small = absurd (omega arith)
bound_is (x ∷ xs) rest zero v within small = small
bound_is (x ∷ xs) rest (suc n) v within small = bound_is xs rest n v (omega arith) small

pub value_in : (board : BoardParts) (n v : ℕ) → n < element_count board
    → v < bound_of (slice_get (settables_of board) n) → IsValueOf board n v
value_in board n v within small = bound_is (elements_of board) (stack_pointer board ∷ []) n v within small

pointer_bound : (board : BoardParts) (xs : List Element) (v : ℕ)
    → v < bound_of (slice_get (map settable xs ++ (stack_pointer board ∷ [])) (length xs)) → v < depth_of board + 1
pointer_bound board [] v small = small
pointer_bound board (x ∷ xs) v small = pointer_bound board xs v small

pub pointer_in : (board : BoardParts) (v : ℕ) → v < bound_of (slice_get (settables_of board) (element_count board))
    → v < depth_of board + 1
pointer_in board v small = pointer_bound board (elements_of board) v small

pub settable_count : (board : BoardParts) → length (settables_of board) ≡ element_count board + 1
settable_count board = length-append (map settable (elements_of board)) (stack_pointer board ∷ [])
    ∙ ap (λ n. n + 1) (length-map (elements_of board) settable)
