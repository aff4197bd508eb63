-- Word lists along decided bits: at each list of bits the words so far.
use Rattle.std.specs.Prelude.{ℕ, List}
use Rattle.mw_term.specs.declared.decided.Decided.{Decided}
use Rattle.mw_rel.specs.CaseWords.{CaseWords}

-- the entries of the map that the terms are over, and the words along each list of decided bits
pub record WordTree : Type 0 where
  pub map : List ℕ
  pub words : List Decided → CaseWords
