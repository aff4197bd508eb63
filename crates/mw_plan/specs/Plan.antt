-- What a command makes of its files, which it reads one after another.
use Rattle.std.specs.Prelude.{ℕ, nat_lt, List, [], ◌∷◌, length, Option, Some, None, Result, Ok, Err, if◌then◌else◌}
use Rattle.mw_plan.specs.declared.fault.FileFault.{FileFault}
use Rattle.mw_plan.specs.declared.fault.FileFault.TheVariants.{TooLong, At}

-- what comes of the files so far: a value, the fault of the last of them, or one file more
pub data Plan (F A : Type 0) : Type 0 where
  done : A → Plan F A
  refused : FileFault F → Plan F A
  file : (List ℕ → Plan F A) → Plan F A

-- it asks for no more files: it is done, or refuses one
abbrev pub IsOver : {F A : Type 0} → Plan F A → Type 0
IsOver (file next) = ⊥
IsOver other = Unit {0}

-- goes on with what was made
infixl 10 ◌>>=◌
abbrev pub ◌>>=◌ : {F A B : Type 0} → Plan F A → (A → Plan F B) → Plan F B
(done x) >>= f = f x
(refused fault) >>= f = refused fault
(file next) >>= f = file (λ bytes. next bytes >>= f)

-- what comes of a file that was read to this, its reader's faults seen as those of a kind
abbrev pub read_as : {F G A : Type 0} → (G → F) → Result A G → Plan F A
read_as kind (Ok x) = done x
read_as kind (Err fault) = refused (At (kind fault))

-- what the contents of a file come to: those of more than 1,048,576 bytes are too long, and others are given to a
-- reader
abbrev pub read_by : {F G A : Type 0} → (G → F) → (List ℕ → Result A G) → List ℕ → Plan F A
read_by kind reader bytes = if nat_lt 1048576 (length bytes) then refused TooLong else read_as kind (reader bytes)

-- the next file, by a reader whose faults are of a kind
abbrev pub next_by : {F G A : Type 0} → (G → F) → (List ℕ → Result A G) → Plan F A
next_by kind reader = file (read_by kind reader)

-- the next file by a reader, and then the rest
abbrev pub first_by : {F G X A : Type 0} → (G → F) → (List ℕ → Result X G) → (X → Plan F A) → Plan F A
first_by kind reader rest = next_by kind reader >>= rest

-- what is left of a plan after files of these contents; nothing where they are more than it takes
abbrev pub after : {F A : Type 0} → Plan F A → List (List ℕ) → Option (Plan F A)
after plan [] = Some plan
after (file next) (bytes ∷ rest) = after (next bytes) rest
after other (bytes ∷ rest) = None
