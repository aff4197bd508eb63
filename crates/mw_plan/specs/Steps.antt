-- What a call that reads the files of a plan gives.
use Rattle.std.specs.Prelude.{◌≡◌, ℕ, ◌≤◌, List, length, Result, Ok, Err}
use Rattle.std.specs.Borrow.{Bor}
use Rattle.mw_base.specs.declared.refusal.Refused.{Refused}
use Rattle.mw_base.specs.Reading.{Gives}
use Rattle.mw_outside.specs.declared.read.ReadRefusal.{ReadRefusal}
use Rattle.mw_outside.specs.declared.read.ReadRefusal.TheVariants as refusals
use Rattle.mw_outside.specs.Causes.{Rose}
use Rattle.mw_outside.specs.Views.{ShelfView}
use Rattle.mw_plan.specs.declared.fault.FileFault.TheVariants.{TooLong}
use Rattle.mw_plan.specs.declared.fault.Stop.{Stop}
use Rattle.mw_plan.specs.declared.fault.Stop.TheVariants as stops
use Rattle.mw_plan.specs.Files.{FilesRead, IsLeft, IsNext, IsRefusedAt}
use Rattle.mw_plan.specs.Plan.{Plan, done}

-- how a file that can't be read whole stops a plan
abbrev pub stop_of : {F : Type 0} → ReadRefusal → Stop F
stop_of refusals.Fault = stops.ReadFault
stop_of refusals.TooLong = stops.Refused TooLong
stop_of refusals.NoMemory = stops.NoMemory

-- how the next file stops a plan: its count of faults rose, or it is refused, unless memory ran out
abbrev pub Stops : {F A : Type 0} → Plan F A → ShelfView → ShelfView → FilesRead → Stop F → Type 0
Stops plan first now files stops.ReadFault =
    (name : List ℕ) × IsNext plan first files name × Rose (first.faults name) (now.faults name)
Stops plan first now files (stops.Refused fault) = (name : List ℕ) × IsRefusedAt plan first files name fault
Stops plan first now files stops.NoMemory = Unit {0}

-- what a plan has come to since a first view of the shelf: a value was made with which it goes on by `rest`, or the
-- next file stops it
abbrev pub Follows : {F A X : Type 0} → (X → Plan F A) → Plan F A → ShelfView → ShelfView → FilesRead
    → Result X (Stop F) → Type 0
Follows rest plan first now files (Ok x) = IsLeft plan first files (rest x)
Follows rest plan first now files (Err stop) = Stops plan first now files stop

-- what a plan ends with: the value that it is done with, or what stops it
abbrev pub Ends : {F A : Type 0} → Plan F A → ShelfView → ShelfView → FilesRead → Result A (Stop F) → Type 0
Ends plan first now files result = Follows done plan first now files result

-- each call of a closure that returns gives what the reader gives
abbrev pub Reads : {G X : Type 0} → (Bor (List ℕ) → Result X (Refused G) → Type 0) → (List ℕ → Result X G) → Type 0
Reads {G} {X} returns reader =
    (bytes : Bor (List ℕ)) (result : Result X (Refused G)) → returns bytes result
    → Gives (λ x. x) result (reader bytes.now)

-- a closure returned this for some bytes, of which a file has at most 1,048,576
abbrev pub WasReturned : {G X : Type 0} → (Bor (List ℕ) → Result X (Refused G) → Type 0) → X → Type 0
WasReturned returns x = (bytes : Bor (List ℕ)) × (length bytes.now ≤ 1048576) × returns bytes (Ok x)

-- each fault that is converted is seen as one of this kind
abbrev pub Converts : {F G : Type 0} → (G → F → Type 0) → (G → F) → Type 0
Converts {F} {G} converts kind = (fault : G) (seen : F) → converts fault seen → seen ≡ kind fault
