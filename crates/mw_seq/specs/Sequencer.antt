-- The state of an Am2910 or an Am2910A, and one step of it, with a stack of depth words (AMD Am2900 Family Data Book,
-- Am2910 and Am2910A).
use Rattle.std.specs.Prelude.{◌≡◌, ◌⊎◌, ℕ, ◌+◌, ◌-◌, ◌%◌, ◌^◌, ◌<◌, ◌≤◌, List, Bool, if◌then◌else◌, ◌==◌, nat_lt, length}
use Rattle.std.specs.Prelude.{replicate, slice_index, slice_set}
use Rattle.mw_base.specs.Words.{num}
use Rattle.mw_seq.specs.declared.instruction.AddressFrom.{AddressFrom}
use Rattle.mw_seq.specs.declared.instruction.AddressFrom.TheVariants.{Zero, Pc, D, R, F}
use Rattle.mw_seq.specs.declared.instruction.StackMove.{StackMove}
use Rattle.mw_seq.specs.declared.instruction.StackMove.TheVariants.{Held, Pushed, Popped, Cleared}
use Rattle.mw_seq.specs.declared.instruction.CounterMove.{CounterMove}
use Rattle.mw_seq.specs.declared.instruction.CounterMove.TheVariants.{Same, Loaded, Counted}
use Rattle.mw_seq.specs.declared.instruction.Effect.{Effect}
use Rattle.mw_seq.specs.Instruction.{instruction_of, effect_of}

-- a stack has five words, as that of an Am2910, or nine, as that of an Am2910A
abbrev pub IsDepth : ℕ → Type 0
IsDepth depth = (depth ≡ 5) ⊎ (depth ≡ 9)

-- the microprogram counter, the register/counter, the stack's words from the oldest, and the stack pointer, which
-- counts the words on the stack
pub record Sequencer : Type 0 where
  pub pc : ℕ
  pub r : ℕ
  pub stack : List ℕ
  pub sp : ℕ

-- the addresses have 12 bits, and the stack has depth words
pub record IsSequencer (depth : ℕ) (s : Sequencer) : Type 0 where
  pub pc : s.pc < 2 ^ 12
  pub r : s.r < 2 ^ 12
  pub words : (i : ℕ) → slice_index s.stack i < 2 ^ 12
  pub size : length s.stack ≡ depth
  pub sp : s.sp ≤ depth

-- everything is 0, and the stack has depth words
abbrev pub cleared_sequencer : ℕ → Sequencer
cleared_sequencer depth = record { pc = 0; r = 0; stack = replicate depth 0; sp = 0 }

-- each word is on the stack
abbrev pub is_full : ℕ → Sequencer → Bool
is_full depth s = s.sp == depth

-- F, the top of the stack; of an empty stack the low 12 bits of the noise word, by this profile's rule
unfoldable pub top : Sequencer → ℕ → ℕ
top s noise = if s.sp == 0 then noise % 2 ^ 12 else slice_index s.stack (s.sp - 1)

-- a push writes PC as it was; onto a full stack it overwrites the top and leaves the pointer, by this profile's rule
unfoldable pub pushed : ℕ → Sequencer → Sequencer
pushed depth s =
    if nat_lt s.sp depth then record s { stack = slice_set s.stack s.sp s.pc; sp = s.sp + 1 }
    else record s { stack = slice_set s.stack (depth - 1) s.pc }

-- a pop leaves the words as they are, and an empty stack stays empty
abbrev pub popped : Sequencer → Sequencer
popped s = record s { sp = s.sp - 1 }

-- a stack is emptied by its pointer, and its words stay as they are
abbrev pub emptied : Sequencer → Sequencer
emptied s = record s { sp = 0 }

-- the stack after a move
unfoldable pub stack_after : StackMove → ℕ → Sequencer → Sequencer
stack_after Held depth s = s
stack_after Pushed depth s = pushed depth s
stack_after Popped depth s = popped s
stack_after Cleared depth s = emptied s

-- the register/counter after a move
abbrev pub counter_after : CounterMove → ℕ → ℕ → ℕ
counter_after Same d r = r
counter_after Loaded d r = d
counter_after Counted d r = r - 1

-- the next address
abbrev pub address : AddressFrom → ℕ → ℕ → Sequencer → ℕ
address Zero d noise s = 0
address Pc d noise s = s.pc
address D d noise s = d
address R d noise s = s.r
address F d noise s = top s noise

-- what the table has for this instruction, this test and this counter
abbrev pub effect : ℕ → Bool → Sequencer → Effect
effect ins pass s = effect_of (instruction_of ins) pass (s.r == 0)

-- the next address of an instruction
unfoldable pub next_of : ℕ → Bool → ℕ → ℕ → Sequencer → ℕ
next_of ins pass d noise s = address (effect ins pass s).next d noise s

-- the state after an instruction: PC is the next address and CI; RLD loads R in place of the table's move
unfoldable pub step_of : ℕ → ℕ → Bool → ℕ → Bool → Bool → ℕ → Sequencer → Sequencer
step_of depth ins pass d ci rld noise s =
    record (stack_after (effect ins pass s).stack depth s) {
      pc = (next_of ins pass d noise s + num ci) % 2 ^ 12;
      r = if rld then d else counter_after (effect ins pass s).counter d s.r;
    }
