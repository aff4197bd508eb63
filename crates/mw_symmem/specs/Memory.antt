-- One base image under the writes of two sides.
use Rattle.std.specs.Prelude.{◌≡◌, ℕ, ◌+◌, ◌<◌, ◌≤◌, ◌^◌, List, [], ◌∷◌, ◌++◌, length, map, take, Some, slice_get}
use Rattle.std.specs.Prelude.{slice_index}
use Rattle.std.specs.Prelude.{slice_set, Option, ◌==◌, if◌then◌else◌}
use Rattle.mw_term.specs.declared.kinds.WordKind.TheVariants.{Base}
use Rattle.mw_term.specs.declared.op.Op.{Op}
use Rattle.mw_term.specs.declared.op.Op.TheVariants.{Var}
use Rattle.mw_term.specs.Assigned.{Given}
use Rattle.mw_term.specs.MemoryRead.{Held, held}
use Rattle.mw_term.specs.Table.{Table, Extends, IsTable, IsWidth, Fits, term_width}
use Rattle.mw_term.specs.Values.{IsTermOf, Keeps, term_value}
use Rattle.mw_term.specs.declared.side.Side.{Side}
use Rattle.mw_term.specs.declared.side.Side.TheVariants.{Board, Machine}
use Rattle.mw_term.specs.declared.word.Word.{Word}
use Rattle.mw_term.specs.WordList.{plain, variable}
use Rattle.mw_symmem.specs.Words.{IsVariable}

-- The widths of an address and of a word; the base reads, oldest first, each with its address and its variable; and
-- the writes of each side, oldest first, each with its address and its value. All of these are terms.
pub record Memory : Type 0 where
  pub address : ℕ
  pub word : ℕ
  pub reads : List Held
  pub board : List Held
  pub machine : List Held

-- the memory of these
abbrev pub memory_of : (address word : ℕ) → (reads board machine : List Held) → Memory
memory_of address word reads board machine =
    record { address = address; word = word; reads = reads; board = board; machine = machine }

-- the writes of a side
abbrev pub writes_of : Memory → Side → List Held
writes_of m Board = m.board
writes_of m Machine = m.machine

-- with one base read more
abbrev pub with_read : Memory → Held → Memory
with_read m read = memory_of m.address m.word (m.reads ++ read ∷ []) m.board m.machine

-- with one write more
abbrev pub with_write : Memory → Side → Held → Memory
with_write m Board write = memory_of m.address m.word m.reads (m.board ++ write ∷ []) m.machine
with_write m Machine write = memory_of m.address m.word m.reads m.board (m.machine ++ write ∷ [])

-- ---- what it stands for

-- an address and a word, with the values of their terms
abbrev pub valued : Table → Given → Held → Held
valued t given h = held (term_value t given h.address) (term_value t given h.word)

-- the word at the first of some addresses that is this one, and `otherwise` where none is
abbrev pub first_at : List Held → (address otherwise : ℕ) → ℕ
first_at [] address otherwise = otherwise
first_at (h ∷ rest) address otherwise = if address == h.address then h.word else first_at rest address otherwise

-- The value of a base read behind earlier ones: that of its variable, or, where an earlier one has its address, that
-- of the variable of the oldest such.
abbrev pub read_value : Table → Given → (earlier : List Held) → Held → ℕ
read_value t given earlier read =
    first_at (map (valued t given) earlier) (term_value t given read.address) (term_value t given read.word)

-- an image has each word of the address, and no word has more bits than the memory's
pub record IsImage (m : Memory) (image : List ℕ) : Type 0 where
  pub size : length image ≡ 2 ^ m.address
  pub words : (address : ℕ) → slice_index image address < 2 ^ m.word

-- base reads fit an image where each has, as its value, the image's word at the value of its address
abbrev pub FitImage : Table → Given → (reads : List Held) → (image : List ℕ) → Type 0
FitImage t given reads image =
    (k : ℕ) (read : Held) → slice_get reads k ≡ Some read
    → read_value t given (take k reads) read ≡ slice_index image (term_value t given read.address)

-- an image after some writes, oldest first
abbrev pub after : (image : List ℕ) → List Held → List ℕ
after image [] = image
after image (write ∷ newer) = after (slice_set image write.address write.word) newer

-- what a side's memory holds after its writes
abbrev pub held_by : Table → Given → Memory → Side → (image : List ℕ) → List ℕ
held_by t given m side image = after image (map (valued t given) (writes_of m side))

-- A term has, for every assignment and every image that the base reads fit, the word at an address of what the side's
-- memory holds after its writes.
abbrev pub IsRead : Table → Memory → Side → (address term : ℕ) → Type 0
IsRead t m side address term =
    (given : Given) (image : List ℕ) → IsImage m image → FitImage t given m.reads image
    → term_value t given term ≡ slice_index (held_by t given m side image) (term_value t given address)

-- an image that base reads fit: at each address the word of the oldest read there, and 0 elsewhere
abbrev pub base_word : Table → Given → (reads : List Held) → (address : ℕ) → ℕ
base_word t given reads address = first_at (map (valued t given) reads) address 0

-- ---- what is kept

-- a term of a table with so many bits
pub record IsOfWidth (t : Table) (width term : ℕ) : Type 0 where
  pub there : term < length t.ops
  pub width_is : term_width t term ≡ width

-- an address and a word of these widths
pub record IsHeld (t : Table) (address_width word_width : ℕ) (h : Held) : Type 0 where
  pub address : IsOfWidth t address_width h.address
  pub word : IsOfWidth t word_width h.word

-- these are all so
abbrev pub AreHeld : Table → (address_width word_width : ℕ) → List Held → Type 0
AreHeld t address_width word_width hs =
    (k : ℕ) (h : Held) → slice_get hs k ≡ Some h → IsHeld t address_width word_width h

-- the number of a variable's op
abbrev pub op_number : Option Op → ℕ
op_number (Some (Var number width)) = number
op_number other = 0

-- the number of a variable of a table
abbrev pub variable_number : Table → (term : ℕ) → ℕ
variable_number t term = op_number (slice_get t.ops term)

-- a term has one value under assignments that agree on the numbers before this one
abbrev pub DependsBefore : Table → (number term : ℕ) → Type 0
DependsBefore t number term =
    (given other : Given)
    → ((n : ℕ) → n < number → given n ≡ other n) → term_value t given term ≡ term_value t other term

-- A base read of this number: its word is the list's variable of that kind, and its address depends only on
-- variables before it.
pub record IsBaseRead (t : Table) (words : List Word) (word_width k : ℕ) (read : Held) : Type 0 where
  pub place : ℕ
  pub is : IsVariable words place read.word (Base k)
  pub op : slice_get t.ops read.word ≡ Some (Var (place + 1) word_width)
  pub depends : DependsBefore t (place + 1) read.address

-- What holds between a table, the words of its terms, and a memory over them.
pub record IsMemory (t : Table) (words : List Word) (m : Memory) : Type 0 where
  pub address : (1 ≤ m.address) × (m.address ≤ 16)
  pub word : IsWidth m.word
  pub reads : AreHeld t m.address m.word m.reads
  pub board : AreHeld t m.address m.word m.board
  pub machine : AreHeld t m.address m.word m.machine
  pub bases : (k : ℕ) (read : Held) → slice_get m.reads k ≡ Some read → IsBaseRead t words m.word k read
  pub rising : (i k : ℕ) (first later : Held) → slice_get m.reads i ≡ Some first → slice_get m.reads k ≡ Some later
      → i < k → variable_number t first.word < variable_number t later.word
  pub all : (k place term : ℕ) → IsVariable words place term (Base k) → k < length m.reads

-- ---- the words of a read

-- a term is that of an op that fits the table, and has the op's width and, under every assignment, its value
pub record Has (t : Table) (op : Op) (term : ℕ) : Type 0 where
  pub fits : Fits t op
  pub is : IsTermOf t t op term
  pub op_is : slice_get t.ops term ≡ Some op

-- The words that a memory read adds to a list: some that are no variables, the variable of the next base read, and
-- others that are none.
pub record AddsRead (old new : List Word) (m : Memory) : Type 0 where
  pub same : List ℕ
  pub base : ℕ
  pub rest : List ℕ
  pub words : new ≡ (old ++ map plain same) ++ variable base (Base (length m.reads)) ∷ map plain rest

-- ---- every image is reached, and there is one

-- a number of a list is that of a base read's variable
pub record IsBaseNumber (words : List Word) (n : ℕ) : Type 0 where
  pub place : ℕ
  pub term : ℕ
  pub k : ℕ
  pub number : n ≡ place + 1
  pub is : IsVariable words place term (Base k)

-- For every assignment and every image there is a second assignment under which the base reads fit that image, and
-- which differs from the first in the variables of base reads alone.
abbrev pub ImagesAreReached : Type 0
ImagesAreReached =
    (t : Table) (words : List Word) (m : Memory) (image : List ℕ) (given : Given) → IsTable t → IsMemory t words m
    → IsImage m image
    → (other : Given) × FitImage t other m.reads image
    × ((n : ℕ) → ¬ IsBaseNumber words n → other n ≡ given n)

-- For every assignment there is an image that the base reads fit.
abbrev pub ImagesAreThere : Type 0
ImagesAreThere =
    (t : Table) (words : List Word) (m : Memory) (given : Given) → IsTable t → IsMemory t words m
    → (image : List ℕ) × IsImage m image × FitImage t given m.reads image

-- ---- what is kept stays

-- A memory is one over a table that has grown and a list with more words, of which none is a base read's variable.
abbrev pub StaysWithWords : Type 0
StaysWithWords =
    (told tnew : Table) (words more : List Word) (m : Memory) → Extends told tnew → Keeps told tnew
    → ((place term k : ℕ) → ¬ IsVariable more place term (Base k)) → IsMemory told words m
    → IsMemory tnew (words ++ more) m

-- A memory with one write more is one still, where the address and the value have its widths.
abbrev pub StaysWithWrites : Type 0
StaysWithWrites =
    (t : Table) (words : List Word) (m : Memory) (side : Side) (write : Held) → IsMemory t words m
    → IsHeld t m.address m.word write → IsMemory t words (with_write m side write)

-- A memory that wasn't read or written is one over each table and each list without base variables.
abbrev pub IsMemoryAtFirst : Type 0
IsMemoryAtFirst =
    (t : Table) (words : List Word) (address word : ℕ) → (1 ≤ address) × (address ≤ 16) → IsWidth word
    → ((place term k : ℕ) → ¬ IsVariable words place term (Base k))
    → IsMemory t words (memory_of address word [] [] [])
