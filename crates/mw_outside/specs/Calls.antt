-- The calls of an implementation in memory, some of which fail by their number.
use Rattle.std.specs.Prelude.{ℕ, List, Contains}
use Rattle.mw_outside.specs.Causes.{one_more}

-- the most bytes that one call moves, the numbers of the calls that fail, how many were made, and how
-- many of them failed
pub record Account : Type 0 where
  pub most : ℕ
  pub fails : List ℕ
  pub made : ℕ
  pub faults : ℕ

-- before the first call
abbrev pub no_calls : ℕ → List ℕ → Account
no_calls limit numbers = record { most = limit; fails = numbers; made = 0; faults = 0 }

-- the next call is one of those that fail; the first has the number 1
abbrev pub FailsNext : Account → Type 0
FailsNext account = Contains account.fails (one_more account.made)

-- one more call was made
abbrev pub after_call : Account → Account
after_call account = record account { made = one_more account.made }

-- a call failed
abbrev pub with_fault : Account → Account
with_fault account = record account { faults = one_more account.faults }
