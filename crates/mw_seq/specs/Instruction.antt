-- The sixteen instructions of the Am2910 (AMD Am2900 Family Data Book, Am2910, table of instructions).
use Rattle.std.specs.Prelude.{ℕ, Bool, true, false, if◌then◌else◌, ◌==◌}
use Rattle.mw_seq.specs.declared.instruction.Instruction.{Instruction}
use Rattle.mw_seq.specs.declared.instruction.Instruction.TheVariants.{Jz, Cjs, Jmap, Cjp, Push, Jsrp, Cjv, Jrp, Rfct}
use Rattle.mw_seq.specs.declared.instruction.Instruction.TheVariants.{Rpct, Crtn, Cjpp, Ldct, Loop, Cont, Twb}
use Rattle.mw_seq.specs.declared.instruction.AddressFrom.{AddressFrom}
use Rattle.mw_seq.specs.declared.instruction.AddressFrom.TheVariants.{Zero, Pc, D, R, F}
use Rattle.mw_seq.specs.declared.instruction.StackMove.{StackMove}
use Rattle.mw_seq.specs.declared.instruction.StackMove.TheVariants.{Held, Pushed, Popped, Cleared}
use Rattle.mw_seq.specs.declared.instruction.CounterMove.{CounterMove}
use Rattle.mw_seq.specs.declared.instruction.CounterMove.TheVariants.{Same, Loaded, Counted}
use Rattle.mw_seq.specs.declared.instruction.Effect.{Effect}

-- the instruction of a code
unfoldable pub instruction_of : ℕ → Instruction
instruction_of code =
    if code == 0 then Jz
    else (if code == 1 then Cjs
    else (if code == 2 then Jmap
    else (if code == 3 then Cjp
    else (if code == 4 then Push
    else (if code == 5 then Jsrp
    else (if code == 6 then Cjv
    else (if code == 7 then Jrp
    else (if code == 8 then Rfct
    else (if code == 9 then Rpct
    else (if code == 10 then Crtn
    else (if code == 11 then Cjpp
    else (if code == 12 then Ldct
    else (if code == 13 then Loop
    else (if code == 14 then Cont
    else Twb))))))))))))))

-- the next address, the move of the stack and the move of the counter
abbrev pub entry : AddressFrom → StackMove → CounterMove → Effect
entry next stack counter = record { next = next; stack = stack; counter = counter }

-- the table's entry for an instruction, where the test passes or not, and where the counter is zero or not
abbrev pub effect_of : Instruction → Bool → Bool → Effect
effect_of Jz pass zero = entry Zero Cleared Same
effect_of Cjs false zero = entry Pc Held Same
effect_of Cjs true zero = entry D Pushed Same
effect_of Jmap pass zero = entry D Held Same
effect_of Cjp false zero = entry Pc Held Same
effect_of Cjp true zero = entry D Held Same
effect_of Push false zero = entry Pc Pushed Same
effect_of Push true zero = entry Pc Pushed Loaded
effect_of Jsrp false zero = entry R Pushed Same
effect_of Jsrp true zero = entry D Pushed Same
effect_of Cjv false zero = entry Pc Held Same
effect_of Cjv true zero = entry D Held Same
effect_of Jrp false zero = entry R Held Same
effect_of Jrp true zero = entry D Held Same
effect_of Rfct pass false = entry F Held Counted
effect_of Rfct pass true = entry Pc Popped Same
effect_of Rpct pass false = entry D Held Counted
effect_of Rpct pass true = entry Pc Held Same
effect_of Crtn false zero = entry Pc Held Same
effect_of Crtn true zero = entry F Popped Same
effect_of Cjpp false zero = entry Pc Held Same
effect_of Cjpp true zero = entry D Popped Same
effect_of Ldct pass zero = entry Pc Held Loaded
effect_of Loop false zero = entry F Held Same
effect_of Loop true zero = entry Pc Popped Same
effect_of Cont pass zero = entry Pc Held Same
effect_of Twb false false = entry F Held Counted
effect_of Twb false true = entry D Popped Same
effect_of Twb true false = entry Pc Popped Counted
effect_of Twb true true = entry Pc Popped Same
