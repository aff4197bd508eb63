-- What a shelf and a sink show.
use Rattle.std.specs.Prelude.{◌≡◌, ℕ, ◌≤◌, List, Option}
use Rattle.mw_outside.specs.declared.shelf.Shelf as shelf
use Rattle.mw_outside.specs.declared.sink.Sink as sink

-- of each name the contents, where they are told, and the count of faults
pub record ShelfView : Type 0 where
  pub told : List ℕ → Option (List ℕ)
  pub faults : List ℕ → ℕ

-- the bytes taken, where they are told, and the count of faults
pub record SinkView : Type 0 where
  pub taken : Option (List ℕ)
  pub faults : ℕ

-- what this shelf shows
abbrev pub shelf_shown : {S : Type 0} → shelf.Ghosts S → S → ShelfView
shelf_shown files s = record { told = files.told s; faults = files.faults s }

-- what this sink shows
abbrev pub sink_shown : {K : Type 0} → sink.Ghosts K → K → SinkView
sink_shown out k = record { taken = out.taken k; faults = out.faults k }

-- the files are as they were at first, and no count of faults fell
pub record IsLater (first now : ShelfView) : Type 0 where
  pub kept : (name : List ℕ) → now.told name ≡ first.told name
  pub later : (name : List ℕ) → first.faults name ≤ now.faults name
