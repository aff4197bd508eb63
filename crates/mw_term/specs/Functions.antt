-- Boolean functions of an assignment, and operations on them.
use Rattle.std.specs.Prelude.{Bool, true, false, if◌then◌else◌}
use Rattle.mw_term.specs.Assigned.{Given}

-- a bit that depends on an assignment
abbrev pub Function : Type 0
Function = Given → Bool

-- the function that holds never
abbrev pub never : Function
never = λ given. false

-- the function that holds always
abbrev pub always : Function
always = λ given. true

-- an operation: what to choose by, what to choose where that holds, and what where it doesn't
pub record Triple : Type 0 where
  pub f : Function
  pub g : Function
  pub h : Function

-- the operation on these three
abbrev pub ite : (f g h : Function) → Triple
ite f g h = record { f = f; g = g; h = h }

-- the function that an operation makes: g where f holds, else h
abbrev pub made : Triple → Function
made t = λ given. if t.f given then t.g given else t.h given
