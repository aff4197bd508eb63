-- What calls add to a list of words, by the word table.
use Rattle.std.specs.Prelude.{◌≡◌, ℕ, List}
use Rattle.mw_term.specs.declared.word.Word.{Word}
use Rattle.mw_term.specs.MemoryRead.{Held}
use Rattle.mw_term.specs.Table.{Table}
use Rattle.mw_term.specs.WordList.{WordList, Ended, AllEnded, ended, list_of}
use Rattle.mw_symmem.specs.Memory.{Memory}

-- the list that a run works on
abbrev pub list_in : Table → List Word → Memory → WordList
list_in t words m = list_of t.ops words m.reads

-- What is added ends at a term, and is what the table says, whatever base reads there are.
abbrev pub Lists : (said : WordList → Ended) → (told tnew : Table) → (wold wnew : List Word) → (term : ℕ) → Type 0
Lists said told tnew wold wnew term =
    (reads : List Held) → ended term (list_of tnew.ops wnew reads) ≡ said (list_of told.ops wold reads)

-- the same of several terms
abbrev pub ListsAll : (said : WordList → AllEnded)
    → (told tnew : Table) → (wold wnew : List Word) → (terms : List ℕ) → Type 0
ListsAll said told tnew wold wnew terms =
    (reads : List Held)
    → ((said (list_of told.ops wold reads)).list ≡ list_of tnew.ops wnew reads)
    × ((said (list_of told.ops wold reads)).terms ≡ terms)

-- the same where the memory may be read
abbrev pub ListsOver : (said : WordList → Ended) → (told tnew : Table) → (wold wnew : List Word) → (mold mnew : Memory)
    → (term : ℕ) → Type 0
ListsOver said told tnew wold wnew mold mnew term = ended term (list_in tnew wnew mnew) ≡ said (list_in told wold mold)

-- and of several terms
abbrev pub ListsAllOver : (said : WordList → AllEnded)
    → (told tnew : Table) → (wold wnew : List Word) → (mold mnew : Memory) → (terms : List ℕ) → Type 0
ListsAllOver said told tnew wold wnew mold mnew terms =
    ((said (list_in told wold mold)).list ≡ list_in tnew wnew mnew)
    × ((said (list_in told wold mold)).terms ≡ terms)
