-- What names stand for.
use Rattle.std.specs.Prelude.{ℕ, List, Option, Some, None}
use Rattle.mw_asm.specs.declared.bits.SetBits.{SetBits}
use Rattle.mw_asm.specs.declared.names.Meaning.{Meaning}
use Rattle.mw_asm.specs.declared.names.Meaning.TheVariants.{Number, Bits, Label}
use Rattle.mw_asm.specs.declared.names.Scope.{Scope}
use Rattle.mw_asm.specs.declared.names.Scope.TheVariants as scopes

-- what each name stands for, if for anything
abbrev pub Names : Type 0
Names = List ℕ → Option Meaning

-- the number that a name stands for as a value: that of an equ, and in the items of a word a label's address
abbrev pub number_named : Scope → Option Meaning → Option ℕ
number_named scope (Some (Number value)) = Some value
number_named scopes.Word (Some (Label address)) = Some address
number_named scope other = None

-- the bits that a name alone sets: those of a def
abbrev pub bits_named : Option Meaning → Option SetBits
bits_named (Some (Bits bits)) = Some bits
bits_named other = None
