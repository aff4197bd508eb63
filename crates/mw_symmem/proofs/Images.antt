-- The image of base reads.
use Rattle.std.proofs.Common.{◌≡◌, ℕ, zero, suc, ◌+◌, ◌<◌, ◌^◌, List, [], ◌∷◌, ◌++◌, length, take, drop, get_or}
use Rattle.std.proofs.Common.{slice_index, map, replicate, refl, ap, arith, sym, ◌∙◌}
use Rattle.std.specs.Prelude.{Bool, true, false, ◌==◌, if◌then◌else◌, slice_set}
use Rattle.mw_term.specs.Assigned.{Given}
use Rattle.mw_term.specs.MemoryRead.{Held}
use Rattle.mw_term.specs.Table.{Table, IsTable, widths_of}
use Rattle.mw_term.specs.Values.{term_value}
use Rattle.mw_term.proofs.Tables.{widths_count, words_of}
use Rattle.mw_symmem.specs.Memory.{Memory, valued, first_at, base_word, FitImage, IsImage, IsOfWidth, AreHeld}
use Rattle.mw_symmem.proofs.Choices.{dropped}
use Rattle.mw_symmem.proofs.Meaning.{set_at}
use Rattle.mw_symmem.proofs.Reached.{first_take}
use Rattle.std.proofs.lemmas.List.{take-append-le, take_all}
use Rattle.std.proofs.lemmas.Nat.{pow_pos}

pub zeros : (n place : ℕ) → slice_index (replicate n 0) place ≡ 0
zeros zero place = refl
zeros (suc n) zero = refl
zeros (suc n) (suc place) = zeros n place

-- the value of a term has no more bits than the term
pub value_within : (t : Table) (given : Given) (w term : ℕ) → IsTable t → IsOfWidth t w term
    → term_value t given term < 2 ^ w
value_within t given w term table is =
    let inside : term < length (widths_of t.ops) = omega (arith, is.there, widths_count t.ops) in
    rw (← is.width_is) ((words_of t given table).words term inside)

-- a list of this length that is written whole is what was written
pub written : (n : ℕ) (old new is : List ℕ) → length old ≡ n → length is ≡ length old → new ≡ is
    → take n (new ++ drop (length new) old) ≡ is
written n old new is all same whole =
    rw whole
    (take-append-le n is (drop (length is) old) (omega (arith, all, same)) ∙ take_all n is (omega (arith, all, same)))

-- one read more, from the newest to the oldest
pub image_next : (t : Table) (given : Given) (reads : List Held) (place : ℕ) (read : Held) (image : List ℕ)
    → place < length reads → read ≡ get_or reads place read
    → ((address : ℕ) → slice_index image address ≡ base_word t given (drop (place + 1) reads) address)
    → term_value t given read.address < length image → (address : ℕ)
    → slice_index (slice_set image (term_value t given read.address) (term_value t given read.word)) address
    ≡ base_word t given (drop place reads) address
image_next t given reads place read image inside is before within address =
    let at : ℕ = term_value t given read.address in
    let word : ℕ = term_value t given read.word in
    set_at image at word address within
    ∙ ap (λ n. if address == at then word else n) (before address)
    ∙ ap (λ hs. base_word t given hs address) (sym (dropped reads place read inside is))

either : (b : Bool) (x y most : ℕ) → x < most → y < most → (if b then x else y) < most
either true x y most first second = first
either false x y most first second = second

first_below : (t : Table) (given : Given) (a w : ℕ) (reads : List Held) (address : ℕ) → IsTable t → AreHeld t a w reads
    → first_at (map (valued t given) reads) address 0 < 2 ^ w
first_below t given a w [] address table held = pow_pos w
first_below t given a w (read ∷ rest) address table held =
    either (address == term_value t given read.address) (term_value t given read.word)
    (first_at (map (valued t given) rest) address 0) (2 ^ w)
    (value_within t given w read.word table (held 0 read refl).word)
    (first_below t given a w rest address table (λ k h is. held (suc k) h is))

-- what has these words is an image that the base reads fit
pub image_fits : (t : Table) (given : Given) (reads : List Held) (image : List ℕ)
    → ((address : ℕ) → slice_index image address ≡ base_word t given reads address) → FitImage t given reads image
image_fits t given reads image words k read is =
    first_take t given reads k read is ∙ sym (words (term_value t given read.address))

pub image_is : (t : Table) (given : Given) (m : Memory) (image : List ℕ) → IsTable t
    → AreHeld t m.address m.word m.reads
    → ((address : ℕ) → slice_index image address ≡ base_word t given m.reads address) → length image ≡ 2 ^ m.address
    → IsImage m image
image_is t given m image table held words size = record {
  size = size;
  words = λ address. rw (words address) (first_below t given m.address m.word m.reads address table held);
}
