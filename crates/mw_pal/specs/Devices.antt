-- The devices of a PDP-8's console: the keyboard and the printer.
use Rattle.std.specs.Prelude.{ℕ, ◌/◌, ◌%◌, List, [], ◌∷◌, ◌++◌, drop, Bool, ◌&&◌, ◌==◌, if◌then◌else◌, bit_or, Option}
use Rattle.std.specs.Prelude.{Some, None, nat_lt, length, slice_index}
use Rattle.mw_base.specs.declared.event.Event.{Event}
use Rattle.mw_base.specs.declared.event.Event.TheVariants.{Out, Taken}
use Rattle.mw_base.specs.Words.{bit_of}
use Rattle.mw_pal.specs.declared.devices.Transfer.{Transfer}

-- the keys not yet read, and the text so far
pub record Console : Type 0 where
  pub keys : List ℕ
  pub text : List ℕ

-- ---- transfers

-- the transfer of a step with these events: two words are put out, the device and the function in the first and the
-- accumulator in the second, and then two inputs are taken; a step with other events makes none
abbrev pub transfer_of : List Event → Option Transfer
transfer_of (Out selection ∷ Out word ∷ Taken first ∷ Taken second ∷ []) =
    Some (record { device = selection / 8; function = selection % 8; word = word })
transfer_of events = None

-- it is one with the keyboard, device 3
abbrev pub is_keyboard : Transfer → Bool
is_keyboard transfer = transfer.device == 3

-- it is one with the printer, device 4
abbrev pub is_printer : Transfer → Bool
is_printer transfer = transfer.device == 4

-- a bit of its function is set; bit 0 is the least
abbrev pub asks : Transfer → ℕ → Bool
asks transfer n = bit_of transfer.function n

-- ---- the answer

-- a key is left
abbrev pub has_key : Console → Bool
has_key console = nat_lt 0 (length console.keys)

-- the status bit by which the next instruction is skipped: the device is ready, and function bit 0 asks for it
abbrev pub skip_if : Bool → ℕ
skip_if ready = if ready then 0o4000 else 0

-- the status bit by which the accumulator is cleared
abbrev pub clear_if : Bool → ℕ
clear_if asked = if asked then 0o2000 else 0

-- the keyboard is ready where a key is left, and it clears the accumulator where function bit 1 is set
abbrev pub keyboard_status : Console → Transfer → ℕ
keyboard_status console transfer = bit_or (skip_if (asks transfer 0 && has_key console)) (clear_if (asks transfer 1))

-- the status: the printer is always ready, and other devices answer 0
abbrev pub status_of : Console → Transfer → ℕ
status_of console transfer =
    if is_keyboard transfer then keyboard_status console transfer
    else skip_if (is_printer transfer && asks transfer 0)

-- the data: the first key, if one is left, where function bit 2 of the keyboard is set, and else 0
abbrev pub data_of : Console → Transfer → ℕ
data_of console transfer = if is_keyboard transfer && asks transfer 2 then slice_index console.keys 0 else 0

-- the inputs of a step: a status and data where it makes a transfer, and 0 for each else
abbrev pub answer_to : Console → Option Transfer → List ℕ
answer_to console (Some transfer) = status_of console transfer ∷ data_of console transfer ∷ []
answer_to console None = []

-- ---- what a transfer leaves

-- function bit 1 of the keyboard drops the first key
abbrev pub keys_after : Console → Transfer → List ℕ
keys_after console transfer = if is_keyboard transfer && asks transfer 1 then drop 1 console.keys else console.keys

-- function bit 2 of the printer prints the low eight bits of the accumulator
abbrev pub text_after : Console → Transfer → List ℕ
text_after console transfer =
    if is_printer transfer && asks transfer 2 then console.text ++ (transfer.word % 256 ∷ []) else console.text

-- the console after the transfer of a step, if it makes one
abbrev pub console_after : Console → Option Transfer → Console
console_after console (Some transfer) =
    record { keys = keys_after console transfer; text = text_after console transfer }
console_after console None = console
