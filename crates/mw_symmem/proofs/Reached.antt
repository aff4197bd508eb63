-- Every image is reached.
use Rattle.std.proofs.Common.{◌≡◌, ◌≢◌, inl, inr, ℕ, zero, suc, ◌<◌, ◌%◌, ◌^◌, List, [], ◌∷◌, take, slice_index, map}
use Rattle.std.proofs.Common.{refl, ap, arith, sym, ◌∙◌}
use Rattle.std.specs.Prelude.{Bool, Some, ◌==◌, if◌then◌else◌, slice_get}
use Rattle.std.proofs.lemmas.Bool.Decides.{eqb_tells}
use Rattle.std.proofs.lemmas.Option.{same_Some}
use Rattle.std.proofs.Math.Nat.{mod-eq_of_lt}
use Rattle.mw_term.specs.declared.op.Op.TheVariants.{Var}
use Rattle.mw_term.specs.Assigned.{Given}
use Rattle.mw_term.specs.MemoryRead.{Held}
use Rattle.mw_term.specs.Table.{Table, IsTable}
use Rattle.mw_term.specs.Values.{term_value, op_value}
use Rattle.mw_term.proofs.Tables.{terms_have_ops}
use Rattle.mw_symmem.specs.Memory.{valued, first_at, variable_number, DependsBefore}
use Rattle.mw_symmem.specs.Memory.{ImagesAreReached}
use Rattle.mw_symmem.proofs.Made.{base_number}

by_same : (m n x y : ℕ) → m ≡ n → (if m == n then x else y) ≡ x
by_same m n x y is = elim (eqb_tells m n) [
  | inl h ↦ ap (λ (b : Bool). if b then x else y) h.0
  | inr h ↦ absurd (h.1 is)
]

pub by_other : (m n x y : ℕ) → m ≢ n → (if m == n then x else y) ≡ y
by_other m n x y other = elim (eqb_tells m n) [
  | inl h ↦ absurd (other h.1)
  | inr h ↦ ap (λ (b : Bool). if b then x else y) h.0
]

-- an assignment with another value for one number
abbrev set_to : Given → (n v : ℕ) → Given
set_to given n v word = if word == n then v else given word

-- each base variable, from the oldest on, gets the image's word at the value that its address has then
abbrev with_image_words : Table → (image : List ℕ) → Given → List Held → Given
with_image_words t image given [] = given
with_image_words t image given (read ∷ newer) =
    with_image_words t image
    (set_to given (variable_number t read.word) (slice_index image (term_value t given read.address))) newer

-- a number that isn't one of these variables' keeps its value
second_keeps : (t : Table) (image : List ℕ) (given : Given) (reads : List Held) (n : ℕ)
    → ((k : ℕ) (read : Held) → slice_get reads k ≡ Some read → n ≢ variable_number t read.word)
    → with_image_words t image given reads n ≡ given n
second_keeps t image given [] n others = refl
second_keeps t image given (read ∷ newer) n others =
    let x : ℕ = slice_index image (term_value t given read.address) in
    second_keeps t image (set_to given (variable_number t read.word) x) newer n
    (λ k other is. others (suc k) other is)
    ∙ by_other n (variable_number t read.word) x (given n) (others 0 read refl)

-- what is asked of each base read, and of one behind another
record IsGood (t : Table) (w : ℕ) (read : Held) : Type 0 where
  op : slice_get t.ops read.word ≡ Some (Var (variable_number t read.word) w)
  depends : DependsBefore t (variable_number t read.word) read.address

abbrev AreGood : Table → ℕ → List Held → Type 0
AreGood t w reads = (k : ℕ) (read : Held) → slice_get reads k ≡ Some read → IsGood t w read

abbrev AreRising : Table → List Held → Type 0
AreRising t reads = (i k : ℕ) (first later : Held) → slice_get reads i ≡ Some first → slice_get reads k ≡ Some later
    → i < k → variable_number t first.word < variable_number t later.word

variable_value : (t : Table) (given : Given) (term n w : ℕ) → IsTable t → slice_get t.ops term ≡ Some (Var n w)
    → term_value t given term ≡ given n % 2 ^ w
unfolding op_value
variable_value t given term n w table is = (terms_have_ops t term (Var n w) table is).is.value given

-- under the with_image_words assignment the first base variable has the image's word at its address
first_holds : (t : Table) (w : ℕ) (image : List ℕ) (given : Given) (read : Held) (newer : List Held) → IsTable t
    → ((address : ℕ) → slice_index image address < 2 ^ w) → AreGood t w (read ∷ newer) → AreRising t (read ∷ newer)
    → term_value t (with_image_words t image given (read ∷ newer)) read.word
    ≡ slice_index image (term_value t (with_image_words t image given (read ∷ newer)) read.address)
first_holds t w image given read newer table below good rising =
    let n : ℕ = variable_number t read.word in
    let x : ℕ = slice_index image (term_value t given read.address) in
    let next : Given = set_to given n x in
    let last : Given = with_image_words t image next newer in
    let own = good 0 read refl in
    let later = λ (k : ℕ) (other : Held) (is : slice_get newer k ≡ Some other).
    rising 0 (suc k) read other refl is (omega arith) in
    let at_own : last n ≡ x =
    second_keeps t image next newer n (λ k other is same. omega (arith, later k other is, same))
    ∙ by_same n n x (given n) refl in
    let before : (number : ℕ) → number < n → last number ≡ given number = λ number less.
    second_keeps t image next newer number (λ k other is same. omega (arith, later k other is, same, less))
    ∙ by_other number n x (given number) (λ same. omega (arith, same, less)) in
    let address : term_value t last read.address ≡ term_value t given read.address = own.depends last given before in
    variable_value t last read.word n w table own.op
    ∙ ap (λ v. v % 2 ^ w) at_own
    ∙ mod-eq_of_lt (below (term_value t given read.address))
    ∙ ap (slice_index image) (sym address)

-- and so have all
all_hold : (t : Table) (w : ℕ) (image : List ℕ) (given : Given) (reads : List Held) → IsTable t
    → ((address : ℕ) → slice_index image address < 2 ^ w) → AreGood t w reads → AreRising t reads
    → (k : ℕ) (read : Held) → slice_get reads k ≡ Some read
    → term_value t (with_image_words t image given reads) read.word
    ≡ slice_index image (term_value t (with_image_words t image given reads) read.address)
all_hold t w image given [] table below good rising k read is = absurd cc
all_hold t w image given (first ∷ newer) table below good rising zero read is =
    let same = same_Some first read is in
    rw (← same) (first_holds t w image given first newer table below good rising)
all_hold t w image given (first ∷ newer) table below good rising (suc k) read is =
    all_hold t w image
    (set_to given (variable_number t first.word) (slice_index image (term_value t given first.address)))
    newer table below (λ i other at. good (suc i) other at)
    (λ i j one two at_one at_two before. rising (suc i) (suc j) one two at_one at_two (omega (arith, before)))
    k read is

-- then the first at an address has the image's word there
first_fits : (t : Table) (given : Given) (image : List ℕ) (hs : List Held) (address otherwise : ℕ)
    → ((k : ℕ) (h : Held) → slice_get hs k ≡ Some h
    → term_value t given h.word ≡ slice_index image (term_value t given h.address))
    → otherwise ≡ slice_index image address
    → first_at (map (valued t given) hs) address otherwise ≡ slice_index image address
first_fits t given image [] address otherwise hold is = is
first_fits t given image (h ∷ rest) address otherwise hold is =
    let rest_is = first_fits t given image rest address otherwise (λ k other at. hold (suc k) other at) is in
    elim (eqb_tells address (term_value t given h.address)) [
      | inl e ↦ by_same address (term_value t given h.address) (term_value t given h.word)
          (first_at (map (valued t given) rest) address otherwise) e.1
          ∙ hold 0 h refl ∙ ap (slice_index image) (sym e.1)
      | inr e ↦ by_other address (term_value t given h.address) (term_value t given h.word)
          (first_at (map (valued t given) rest) address otherwise) e.1
          ∙ rest_is
    ]

pub held_in_front : (hs : List Held) (n k : ℕ) (h : Held) → slice_get (take n hs) k ≡ Some h → slice_get hs k ≡ Some h
held_in_front [] zero k h is = is
held_in_front [] (suc n) k h is = is
held_in_front (x ∷ hs) zero k h is = absurd cc
held_in_front (x ∷ hs) (suc n) zero h is = is
held_in_front (x ∷ hs) (suc n) (suc k) h is = held_in_front hs n k h is

pub images_are_reached : ImagesAreReached
images_are_reached t words m image given table memory is_image =
    let good : AreGood t m.word m.reads = λ k read is.
    (let base = memory.bases k read is in
    let number = base_number t words m.word k read base in
    record { op = rw number base.op; depends = rw number base.depends }) in
    let hold = all_hold t m.word image given m.reads table is_image.words good memory.rising in
    let other : Given = with_image_words t image given m.reads in (
      other,
      λ k read is. first_fits t other image (take k m.reads) (term_value t other read.address)
          (term_value t other read.word) (λ i h at. hold i h (held_in_front m.reads k i h at)) (hold k read is),
      λ n none. second_keeps t image given m.reads n (λ k read is same.
          (let base = memory.bases k read is in
          none (record {
            place = base.place;
            term = read.word;
            k = k;
            number = same ∙ base_number t words m.word k read base;
            is = base.is;
          }))),
    )

-- ---- the image of base reads

-- the word of the oldest read at an address is that read's value
pub first_take : (t : Table) (given : Given) (reads : List Held) (k : ℕ) (read : Held) → slice_get reads k ≡ Some read
    → first_at (map (valued t given) (take k reads)) (term_value t given read.address) (term_value t given read.word)
    ≡ first_at (map (valued t given) reads) (term_value t given read.address) 0
first_take t given [] k read is = absurd cc
first_take t given (r ∷ rest) zero read is =
    let same = same_Some r read is in
    rw (← same) (sym (by_same (term_value t given r.address) (term_value t given r.address) (term_value t given r.word)
    (first_at (map (valued t given) rest) (term_value t given r.address) 0) refl))
first_take t given (r ∷ rest) (suc k) read is =
    ap (λ n. if term_value t given read.address == term_value t given r.address then term_value t given r.word else n)
    (first_take t given rest k read is)
