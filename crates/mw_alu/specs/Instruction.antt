-- The Am2901's nine-bit instruction, as three tables by code (AMD Am2900 Family Data Book, Am2901).
use Rattle.std.specs.Prelude.{ℕ, ◌/◌, ◌%◌, if◌then◌else◌, ◌==◌}
use Rattle.mw_alu.specs.declared.instruction.Source.{Source}
use Rattle.mw_alu.specs.declared.instruction.Source.TheVariants.{Aq, Ab, Zq, Zb, Za, Da, Dq, Dz}
use Rattle.mw_alu.specs.declared.instruction.Function.{Function}
use Rattle.mw_alu.specs.declared.instruction.Function.TheVariants.{Add, Subr, Subs, Or, And, Notrs, Exor, Exnor}
use Rattle.mw_alu.specs.declared.instruction.Destination.{Destination}
use Rattle.mw_alu.specs.declared.instruction.Destination.TheVariants.{Qreg, Nop, Rama, Ramf, Ramqd, Ramd, Ramqu, Ramu}

-- bits 2 to 0 choose the sources
unfoldable pub source_of : ℕ → Source
source_of ins =
    if ins % 8 == 0 then Aq
    else (if ins % 8 == 1 then Ab
    else (if ins % 8 == 2 then Zq
    else (if ins % 8 == 3 then Zb
    else (if ins % 8 == 4 then Za
    else (if ins % 8 == 5 then Da
    else (if ins % 8 == 6 then Dq
    else Dz))))))

-- bits 5 to 3 choose the function
unfoldable pub function_of : ℕ → Function
function_of ins =
    if ins / 8 % 8 == 0 then Add
    else (if ins / 8 % 8 == 1 then Subr
    else (if ins / 8 % 8 == 2 then Subs
    else (if ins / 8 % 8 == 3 then Or
    else (if ins / 8 % 8 == 4 then And
    else (if ins / 8 % 8 == 5 then Notrs
    else (if ins / 8 % 8 == 6 then Exor
    else Exnor))))))

-- bits 8 to 6 choose the destination
unfoldable pub destination_of : ℕ → Destination
destination_of ins =
    if ins / 64 % 8 == 0 then Qreg
    else (if ins / 64 % 8 == 1 then Nop
    else (if ins / 64 % 8 == 2 then Rama
    else (if ins / 64 % 8 == 3 then Ramf
    else (if ins / 64 % 8 == 4 then Ramqd
    else (if ins / 64 % 8 == 5 then Ramd
    else (if ins / 64 % 8 == 6 then Ramqu
    else Ramu))))))
