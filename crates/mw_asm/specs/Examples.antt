-- A small microprogram, on which the definitions compute.
use Rattle.std.specs.Prelude.{ℕ, List, [], ◌∷◌, ◌++◌, codes, Result}
use Rattle.mw_base.specs.declared.refusal.TextFault.{TextFault}
use Rattle.mw_board.specs.declared.parts.BoardParts.{BoardParts}
use Rattle.mw_board.specs.Examples.{small_fields}
use Rattle.mw_asm.specs.declared.assembled.Assembled.{Assembled}
use Rattle.mw_asm.specs.Microprogram.{store_of}

-- adds register 1 to register 0, again and again
abbrev pub small_text : List ℕ
small_text =
    codes "def CONT = seq=14" ++ 10 ∷ []
    ++ codes "def JUMP = seq=3, off=1" ++ 10 ∷ []
    ++ codes "LOOP: src=1, fun=0, dst=3, a=1, b=0, CONT" ++ 10 ∷ []
    ++ codes "dst=1, JUMP, br=LOOP" ++ 10 ∷ []

-- what a text spells on a board with the fields of the small one, whose fill and unset words are 0
abbrev pub spelled_on : BoardParts → List ℕ → Result Assembled TextFault
spelled_on board text = store_of (record board { fields = small_fields; fill = 0; unset = 0 }) text
