-- What a memory read means.
use Rattle.std.proofs.Common.{◌≡◌, inl, inr, ℕ, suc, ◌<◌, List, [], ◌∷◌, length, slice_index, map, refl, ap, arith, sym}
use Rattle.std.proofs.Common.{◌∙◌}
use Rattle.std.specs.Prelude.{Bool, true, false, Some, ◌==◌, if◌then◌else◌, slice_get, slice_set}
use Rattle.std.proofs.lemmas.Bool.Decides.{eqb_tells}
use Rattle.std.proofs.lemmas.List.{get_or-set_same, get_or-set_other, length-set}
use Rattle.mw_base.specs.Words.{num}
use Rattle.mw_term.specs.declared.op.Op.TheVariants.{Eq, Ite}
use Rattle.mw_term.specs.Assigned.{Given}
use Rattle.mw_term.specs.MemoryRead.{Held}
use Rattle.mw_term.specs.Table.{Table}
use Rattle.mw_term.specs.Values.{term_value, op_value}
use Rattle.mw_symmem.specs.Memory.{Has, valued, first_at, after}
use Rattle.mw_symmem.specs.Steps.{AreSame, IsBaseValue, IsSideValue}

pub same_value : (t : Table) (given : Given) (a b s : ℕ) → Has t (Eq a b) s
    → term_value t given s ≡ num (term_value t given a == term_value t given b)
unfolding op_value
same_value t given a b s has = has.is.value given

pub choice_value : (t : Table) (given : Given) (c a b v : ℕ) → Has t (Ite c a b) v
    → term_value t given v ≡ (if term_value t given c == 1 then term_value t given a else term_value t given b)
unfolding op_value
choice_value t given c a b v has = has.is.value given

by_bit : (b : Bool) (x y : ℕ) → (if num b == 1 then x else y) ≡ (if b then x else y)
by_bit true x y = refl
by_bit false x y = refl

-- a word is chosen where an address is its address
chosen : (t : Table) (given : Given) (a b s w v next : ℕ) → Has t (Eq a b) s → Has t (Ite s w v) next
    → term_value t given next
    ≡ (if term_value t given a == term_value t given b then term_value t given w else term_value t given v)
chosen t given a b s w v next same has =
    choice_value t given s w v next has
    ∙ ap (λ n. if n == 1 then term_value t given w else term_value t given v) (same_value t given a b s same)
    ∙ by_bit (term_value t given a == term_value t given b) (term_value t given w) (term_value t given v)

-- the value over the base reads
pub base_meaning : (t : Table) (given : Given) (address : ℕ) (reads : List Held) (same : List ℕ) (base : ℕ)
    (made : List ℕ) (value : ℕ) → AreSame t address reads same → IsBaseValue t reads same base made value
    → term_value t given value
    ≡ first_at (map (valued t given) reads) (term_value t given address) (term_value t given base)
base_meaning t given address [] [] base made value are is = ap (term_value t given) is.1
base_meaning t given address [] (s ∷ same) base made value are is = absurd is
base_meaning t given address (read ∷ newer) [] base made value are is = absurd is
base_meaning t given address (read ∷ newer) (s ∷ same) base made value are is =
    chosen t given address read.address s read.word is.1 value are.0 is.4
    ∙ ap
    (λ n. if term_value t given address == term_value t given read.address then term_value t given read.word else n)
    (base_meaning t given address newer same base is.0 is.1 are.1 is.3)

-- a place of a list that was written
pub set_at : (xs : List ℕ) (i v j : ℕ) → i < length xs
    → slice_index (slice_set xs i v) j ≡ (if j == i then v else slice_index xs j)
set_at xs i v j inside = elim (eqb_tells j i) [
  | inl h ↦ ap (slice_index (slice_set xs i v)) h.1 ∙ get_or-set_same xs i v 0 inside
      ∙ ap (λ (b : Bool). if b then v else slice_index xs j) (sym h.0)
  | inr h ↦ get_or-set_other xs i j v 0 h.1 ∙ ap (λ (b : Bool). if b then v else slice_index xs j) (sym h.0)
]

-- the value over the writes of a side
pub side_meaning : (t : Table) (given : Given) (address : ℕ) (writes : List Held) (base : ℕ) (made : List ℕ) (value : ℕ)
    (image : List ℕ) → IsSideValue t address writes base made value
    → ((k : ℕ) (write : Held) → slice_get writes k ≡ Some write → term_value t given write.address < length image)
    → term_value t given base ≡ slice_index image (term_value t given address)
    → term_value t given value
    ≡ slice_index (after image (map (valued t given) writes)) (term_value t given address)
side_meaning t given address [] base [] value image is inside begun = ap (term_value t given) is ∙ begun
side_meaning t given address [] base (s ∷ made) value image is inside begun = absurd is
side_meaning t given address (write ∷ newer) base [] value image is inside begun = absurd is
side_meaning t given address (write ∷ newer) base (s ∷ []) value image is inside begun = absurd is
side_meaning t given address (write ∷ newer) base (s ∷ next ∷ made) value image is inside begun =
    let place : ℕ = term_value t given write.address in
    let word : ℕ = term_value t given write.word in
    let there : place < length image = inside 0 write refl in
    side_meaning t given address newer next made value (slice_set image place word) is.2
    (λ k other at. omega (arith, inside (suc k) other at, length-set image place word))
    (chosen t given address write.address s write.word base next is.0 is.1
    ∙ ap (λ n. if term_value t given address == place then word else n) begun
    ∙ sym (set_at image place word (term_value t given address) there))
