-- The state of a described machine, and when it fits one.
use Rattle.std.specs.Prelude.{◌≡◌, ℕ, ◌<◌, ◌^◌, List, length, replicate, slice_index}
use Rattle.mw_macro.specs.Machine.{Description}

-- the registers and the memory's words
pub record MachineState : Type 0 where
  pub registers : List ℕ
  pub memory : List ℕ

-- there is a word of its width for each register, and one for each address of the memory
pub record Fits (m : Description) (s : MachineState) : Type 0 where
  pub count : length s.registers ≡ m.registers
  pub registers : (i : ℕ) → i < m.registers → slice_index s.registers i < 2 ^ slice_index m.shape.widths i
  pub size : length s.memory ≡ 2 ^ m.shape.address
  pub memory : (i : ℕ) → slice_index s.memory i < 2 ^ m.shape.word

-- everything is 0
abbrev pub cleared : Description → MachineState
cleared m = record { registers = replicate m.registers 0; memory = replicate (2 ^ m.shape.address) 0 }
