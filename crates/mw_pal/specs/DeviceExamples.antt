-- Transfers of the console's devices, on which the definitions compute.
use Rattle.std.specs.Prelude.{ℕ, List, [], ◌∷◌}
use Rattle.mw_base.specs.declared.event.Event.{Event}
use Rattle.mw_base.specs.declared.event.Event.TheVariants.{Out, Taken}
use Rattle.mw_pal.specs.Devices.{Console, transfer_of, answer_to, console_after}

-- a console with the key `A`, which has printed nothing
abbrev pub one_key : Console
one_key = record { keys = 0x41 ∷ []; text = [] }

-- a console with no key, which has printed this
abbrev pub printed : List ℕ → Console
printed text = record { keys = []; text = text }

-- the events of a step that makes a transfer by an instruction of this device and function, with this accumulator
abbrev pub transfer : (selection word : ℕ) → List Event
transfer selection word = Out selection ∷ Out word ∷ Taken 0 ∷ Taken 0 ∷ []

-- the console's answer to a step with these events
abbrev pub answers : Console → List Event → List ℕ
answers console events = answer_to console (transfer_of events)

-- and the console after it
abbrev pub leaves : Console → List Event → Console
leaves console events = console_after console (transfer_of events)
