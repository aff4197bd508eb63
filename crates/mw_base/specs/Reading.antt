-- What readers give: a value, or the first fault of what they read.
use Rattle.std.specs.Prelude.{◌≡◌, List, ◌++◌, Result, Ok, Err}
use Rattle.mw_base.specs.declared.refusal.Refused.{Refused}
use Rattle.mw_base.specs.declared.refusal.Refused.TheVariants.{At, NoMemory}

-- reads on with what was read, or stays with the fault
infixl 10 ◌>>=◌
abbrev pub ◌>>=◌ : {A B F : Type 0} → Result A F → (A → Result B F) → Result B F
(Ok x) >>= f = f x
(Err fault) >>= f = Err fault

-- some items before those that are read
abbrev pub with_front : {A F : Type 0} → List A → Result (List A) F → Result (List A) F
with_front front read = read >>= λ rest. Ok (front ++ rest)

-- the refusal of a call is the fault that reading gives, unless memory ran out
abbrev pub Fails : {Y F : Type 0} → Refused F → Result Y F → Type 0
Fails NoMemory read = Unit {0}
Fails (At fault) read = read ≡ Err fault

-- what a call returned, seen by view, is what reading gives, unless memory ran out
abbrev pub Gives : {X Y F : Type 0} → (X → Y) → Result X (Refused F) → Result Y F → Type 0
Gives view (Ok x) read = read ≡ Ok (view x)
Gives view (Err e) read = Fails e read

-- a refusal is this fault, unless memory ran out
abbrev pub Refuses : {F : Type 0} → Refused F → F → Type 0
Refuses NoMemory fault = Unit {0}
Refuses (At first) fault = first ≡ fault
