-- For every assignment there is an image that the base reads fit.
use Rattle.std.proofs.Common.{◌≡◌, ℕ, zero, suc, ◌≤◌, ◌^◌, List, [], ◌∷◌, length, map, slice_index, refl, arith, ap}
use Rattle.std.proofs.Common.{sym, ◌∙◌}
use Rattle.mw_term.specs.Assigned.{Given}
use Rattle.mw_term.specs.MemoryRead.{Held}
use Rattle.mw_term.specs.Table.{Table, IsTable}
use Rattle.mw_term.specs.Values.{term_value}
use Rattle.mw_symmem.specs.Memory.{Memory, valued, first_at, base_word, AreHeld, ImagesAreThere}
use Rattle.mw_symmem.proofs.Images.{value_within, image_fits, image_is}
use Rattle.mw_symmem.proofs.Reached.{by_other}

-- what a function gives at the first n numbers
abbrev listed : (ℕ → ℕ) → (n : ℕ) → List ℕ
listed f zero = []
listed f (suc n) = f 0 ∷ listed (λ k. f (suc k)) n

length_listed : (f : ℕ → ℕ) (n : ℕ) → length (listed f n) ≡ n
length_listed f zero = refl
length_listed f (suc n) = ap suc (length_listed (λ k. f (suc k)) n)

listed_at : (f : ℕ → ℕ) (n k : ℕ) → ((beyond : ℕ) → n ≤ beyond → f beyond ≡ 0) → slice_index (listed f n) k ≡ f k
listed_at f zero k none = sym (none k (omega arith))
listed_at f (suc n) zero none = refl
listed_at f (suc n) (suc k) none =
    listed_at (λ i. f (suc i)) n k (λ beyond past. none (suc beyond) (omega (arith, past)))

-- no read is at an address of more bits
none_beyond : (t : Table) (given : Given) (a w : ℕ) (reads : List Held) (address : ℕ) → IsTable t → AreHeld t a w reads
    → 2 ^ a ≤ address → base_word t given reads address ≡ 0
none_beyond t given a w [] address table held past = refl
none_beyond t given a w (read ∷ rest) address table held past =
    let below = value_within t given a read.address table (held 0 read refl).address in
    by_other address (term_value t given read.address) (term_value t given read.word)
    (first_at (map (valued t given) rest) address 0) (λ same. omega (arith, same, past, below))
    ∙ none_beyond t given a w rest address table (λ k h is. held (suc k) h is) past

pub images_are_there : ImagesAreThere
images_are_there t words m given table memory =
    let f : ℕ → ℕ = base_word t given m.reads in
    let image : List ℕ = listed f (2 ^ m.address) in
    let at : (address : ℕ) → slice_index image address ≡ base_word t given m.reads address =
    λ address. listed_at f (2 ^ m.address) address
    (λ beyond past. none_beyond t given m.address m.word m.reads beyond table memory.reads past) in (
      image,
      image_is t given m image table memory.reads at (length_listed f (2 ^ m.address)),
      image_fits t given m.reads image at,
    )
