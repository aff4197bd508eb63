-- Where both segments of a twin case come to.
use Rattle.std.specs.Prelude.{ℕ, List, Some, None}
use Rattle.mw_segment.specs.declared.cycles.Came.{Came}
use Rattle.mw_segment.specs.declared.cycles.Came.TheVariants as came
use Rattle.mw_space.specs.declared.space.Space.{Space}
use Rattle.mw_symboard.specs.Turns.{Symbolic}
use Rattle.mw_term.specs.declared.decided.Decided.{Decided}
use Rattle.mw_term.specs.Functions.{Function}
use Rattle.mw_twin.specs.OnTwins.{AsksInNew, AsksInOld, Behind, HasMetNew, HasMetOld, IsLateOld}
use Rattle.mw_twin.specs.RevisedBlocks.{RevisedBlock}

-- the old segment waits for the next bit of the cases on a path, has ended at a boundary, or is late
abbrev pub ComesInOld : RevisedBlock → Space → (before after : List ℕ) → Symbolic → (bits : List Decided) → (path : Function)
    → Came → Type 0
ComesInOld s space before after o bits path (came.Asks kind term) =
    AsksInOld s.revision s.block space before after o bits path kind term
ComesInOld s space before after o bits path came.Reached =
    HasMetOld s.revision s.block space before after o bits path
ComesInOld s space before after o bits path came.Late = IsLateOld s.revision s.block space before after o bits path

-- the new segment waits for the next bit of the cases on a path, or has ended, at a boundary or late
abbrev pub ComesInNew : RevisedBlock → Space → (before after : List ℕ) → Behind → Symbolic → (bits : List Decided)
    → (path : Function) → Came → Type 0
ComesInNew s space before after b o bits path (came.Asks kind term) =
    AsksInNew s.revision s.block space before after b o bits path kind term
ComesInNew s space before after b o bits path came.Reached =
    HasMetNew s.revision s.block space before after b o bits path (Some o.place.cycle)
ComesInNew s space before after b o bits path came.Late =
    HasMetNew s.revision s.block space before after b o bits path None
