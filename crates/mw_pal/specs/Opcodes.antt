-- The instructions that refer to memory.
use Rattle.std.specs.Prelude.{ℕ, List, [], ◌∷◌, codes, Option}
use Rattle.std.specs.List.{find}
use Rattle.std.specs.Str.{bytes_eq}
use Rattle.mw_pal.specs.declared.opcode.Opcode.{Opcode}
use Rattle.mw_pal.specs.declared.opcode.Opcode.TheVariants.{And, Tad, Isz, Dca, Jms, Jmp}

-- how one is spelled
abbrev pub spelling : Opcode → List ℕ
spelling And = codes "and"
spelling Tad = codes "tad"
spelling Isz = codes "isz"
spelling Dca = codes "dca"
spelling Jms = codes "jms"
spelling Jmp = codes "jmp"

-- the three highest bits of its code
abbrev pub number_of : Opcode → ℕ
number_of And = 0
number_of Tad = 1
number_of Isz = 2
number_of Dca = 3
number_of Jms = 4
number_of Jmp = 5

-- all of them
abbrev pub opcodes : List Opcode
opcodes = And ∷ Tad ∷ Isz ∷ Dca ∷ Jms ∷ Jmp ∷ []

-- the one that is spelled so
unfoldable pub opcode_named : List ℕ → Option Opcode
opcode_named bytes = find (λ opcode. bytes_eq (spelling opcode) bytes) opcodes
