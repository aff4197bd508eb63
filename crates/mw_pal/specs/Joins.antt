-- Which words can stand in one statement, and the code that they make.
use Rattle.std.specs.Prelude.{ℕ, List, [], ◌∷◌, ◌++◌, Bool, true, false, if◌then◌else◌, bit_or, Result, Ok, Err}
use Rattle.std.specs.List.{fold, list_all}
use Rattle.mw_base.specs.declared.cause.Cause.TheVariants.{MixedWords}
use Rattle.mw_base.specs.declared.refusal.TextFault.{TextFault}
use Rattle.mw_base.specs.TokenLines.{fault_on}
use Rattle.mw_pal.specs.declared.joins.Spelled.{Spelled}
use Rattle.mw_pal.specs.declared.operation.Kind.{Kind}
use Rattle.mw_pal.specs.declared.operation.Kind.TheVariants.{Clear, First, Rotate, Second, AnyTest, AllTest, Third}
use Rattle.mw_pal.specs.declared.operation.Kind.TheVariants.{Alone}
use Rattle.mw_pal.specs.Operations.{kind_of, added, is_clear}

-- whether words of two kinds can stand in one statement: what stands alone with nothing, cla with words of every group,
-- and other words with those of their own group, but for two rotates and for tests of both kinds
abbrev pub joins : Kind → Kind → Bool
joins Alone other = false
joins kind Alone = false
joins Clear other = true
joins kind Clear = true
joins First First = true
joins First Rotate = true
joins Rotate First = true
joins Second Second = true
joins Second AnyTest = true
joins Second AllTest = true
joins AnyTest Second = true
joins AnyTest AnyTest = true
joins AllTest Second = true
joins AllTest AllTest = true
joins Third Third = true
joins kind other = false

-- a word joins each of those before it
abbrev pub joins_all : List Spelled → Spelled → Bool
joins_all before word =
    list_all (λ (other : Spelled). joins (kind_of other.operation) (kind_of word.operation)) before

-- each of further words joins all those before it; the first that doesn't is at fault
abbrev pub all_join_behind : (before further : List Spelled) → Result (Unit {0}) TextFault
all_join_behind before [] = Ok tt
all_join_behind before (word ∷ rest) =
    if joins_all before word then all_join_behind (before ++ word ∷ []) rest else Err (fault_on word.token MixedWords)

-- each word joins all those before it
abbrev pub all_join : List Spelled → Result (Unit {0}) TextFault
all_join words = all_join_behind [] words

-- whether they are cla alone
abbrev pub are_clear : List Spelled → Bool
are_clear words = list_all (λ (word : Spelled). is_clear word.operation) words

-- what they add together
abbrev pub ored : List Spelled → ℕ
ored words = fold (λ code (word : Spelled). bit_or code (added word.operation)) 0 words

-- the code of a statement of these words: their codes ored, where cla adds its bit, and of cla alone 7200
abbrev pub joined_code : List Spelled → ℕ
joined_code words = if are_clear words then 0o7200 else ored words
