-- What is so of everything that is known of a machine's text, so that a machine is made of it.
use Rattle.std.specs.Prelude.{◌≡◌, ℕ, ◌+◌, ◌-◌, ◌<◌, ◌≤◌, IsSome, IfSome, List, [], ◌∷◌, ◌++◌, length, take}
use Rattle.std.specs.Prelude.{slice_index, All, true, false}
use Rattle.std.specs.List.{list_all}
use Rattle.mw_base.specs.declared.token.Token.{Token}
use Rattle.mw_base.specs.Names.{is_spelled_as_name}
use Rattle.mw_base.specs.Pieces.{Spells}
use Rattle.mw_base.specs.Symbols.{spelled}
use Rattle.mw_macro.specs.declared.counts.Counted.TheVariants.{Statements, Reads}
use Rattle.mw_macro.specs.declared.rules.Fault.{Fault}
use Rattle.mw_macro.specs.Counts.{total}
use Rattle.mw_macro.specs.Right.{IsBetween}
use Rattle.mw_macro.specs.Rules.{is_within, are_free, are_short, have_fault}
use Rattle.mw_macro.specs.Statements.{Act, acts_of}
use Rattle.mw_descfile.specs.declared.element.Element.{Element}
use Rattle.mw_descfile.specs.Declarations.{Elements, Declared, of_kind}
use Rattle.mw_descfile.specs.Machine.{Known, nothing, declaring, stating}
use Rattle.mw_descfile.specs.Stating.{Over, OpenIf, Stated, number_in, closed_if}

-- each of these tokens of a text is spelled as its kind says
abbrev pub AreSpelled : List ℕ → List Token → Type 0
AreSpelled text tokens = All (λ token. Spells (spelled text token) token.kind) tokens

-- names that elements can have: spelled as names, not reserved, each once, and short
pub record AreNames (names : List (List ℕ)) : Type 0 where
  pub spelled : list_all is_spelled_as_name names ≡ true
  pub free : are_free names ≡ true
  pub short : are_short names ≡ true

-- elements of a kind: at most 128, with a width each, of 1 to 32 bits
pub record AreElements (all : Elements) : Type 0 where
  pub few : length all.names ≤ 128
  pub sized : length all.widths ≡ length all.names
  pub wide : list_all (λ w. is_within 1 w 32) all.widths ≡ true

-- what is declared: a memory in its ranges, and elements, for which their names stand
pub record IsDeclared (d : Declared) : Type 0 where
  pub address : IsBetween 1 d.address 16
  pub word : IsBetween 4 d.word 32
  pub registers : AreElements d.registers
  pub temporaries : AreElements d.temporaries
  pub names : AreNames (d.registers.names ++ d.temporaries.names)
  pub found : All (λ name. IsSome (d.names name)) (d.registers.names ++ d.temporaries.names)
  pub placed : (name : List ℕ) → IfSome (d.names name) (λ (e : Element). e.place < length (of_kind e.kind d).names)

-- what statements are over: the same, with the request as the last element
pub record IsOver (over : Over) : Type 0 where
  pub registers : over.registers ≤ 128
  pub temporaries : over.elements - over.registers ≤ 128
  pub together : over.registers ≤ over.elements
  pub named : length over.scope.names ≡ over.elements + 1
  pub names : AreNames (take over.elements over.scope.names)
  pub sized : length over.scope.shape.widths ≡ over.elements + 1
  pub wide : list_all (λ w. is_within 1 w 32) over.scope.shape.widths ≡ true
  pub request : slice_index over.scope.shape.widths over.elements ≡ 1
  pub address : IsBetween 1 over.scope.shape.address 16
  pub word : IsBetween 4 over.scope.shape.word 32
  pub placed : (name : List ℕ) → IfSome (over.names name)
      (λ (e : Element). number_in over.registers e.kind e.place < over.elements)

-- the statements of a machine that would end here
abbrev pub closed : List Act → List OpenIf → List Act
closed acts [] = acts
closed acts (top ∷ rest) = closed (top.before ++ closed_if top.condition top.first acts ∷ []) rest

-- what is stated: as many statements and memory reads as were left at first are there or left still, and no statement
-- has a fault
pub record IsStated (s : Stated) : Type 0 where
  pub over : IsOver s.over
  pub statements : total Statements (acts_of (closed s.acts s.open_ifs)) + s.statements_left ≡ 4096
  pub reads : total Reads (acts_of (closed s.acts s.open_ifs)) + s.reads_left ≡ 256
  pub right : (fault : Fault) → have_fault fault s.over.scope.shape 64 (acts_of (closed s.acts s.open_ifs)) ≡ false

-- what is known
abbrev pub IsKnownMachine : Known → Type 0
IsKnownMachine nothing = Unit {0}
IsKnownMachine (declaring d) = IsDeclared d
IsKnownMachine (stating s) = IsStated s
