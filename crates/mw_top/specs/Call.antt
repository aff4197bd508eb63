-- What a call of the bench was given and what it found.
use Rattle.std.specs.Prelude.{◌≡◌, ℕ, List, Some, String, string_bytes, map, Contains}
use Rattle.std.specs.Global.{Global}
use Rattle.mw_outside.specs.declared.shelf.Shelf as shelf
use Rattle.mw_outside.specs.declared.sink.Sink as sink
use Rattle.mw_outside.specs.Causes.{Rose}
use Rattle.mw_outside.specs.Contents.{with_more, TookFront}
use Rattle.mw_outside.specs.Views.{ShelfView, SinkView, shelf_shown, sink_shown}
use Rattle.mw_top.specs.Request.{RequestData, request_of}

-- the words, and what the shelf and the sink showed before the call and show now
pub record Call : Type 0 where
  pub words : List (List ℕ)
  pub shelf_before : ShelfView
  pub shelf_now : ShelfView
  pub sink_before : SinkView
  pub sink_now : SinkView

-- the call with these words, over a shelf and a sink
abbrev pub call_of : {S K : Type 0} → shelf.Ghosts S → sink.Ghosts K → List (String Global) → S → S → K → K → Call
call_of files out words before now out_before out_now = record {
  words = map string_bytes words;
  shelf_before = shelf_shown files before;
  shelf_now = shelf_shown files now;
  sink_before = sink_shown out out_before;
  sink_now = sink_shown out out_now;
}

-- the sink took the whole report, and nothing else
abbrev pub Took : Call → List ℕ → Type 0
Took call report = call.sink_now.taken ≡ with_more call.sink_before.taken report

-- the sink took a front part of the report, and nothing else
abbrev pub TookSome : Call → List ℕ → Type 0
TookSome call report = TookFront call.sink_before.taken call.sink_now.taken report

-- the sink's count of faults rose
abbrev pub SinkFailed : Call → Type 0
SinkFailed call = Rose call.sink_before.faults call.sink_now.faults

-- the shelf's count of faults of a file rose
abbrev pub ShelfFailed : Call → List ℕ → Type 0
ShelfFailed call file = Rose (call.shelf_before.faults file) (call.shelf_now.faults file)

-- the shelf failed at none of the files that the words ask for, and the sink did not fail
pub record NothingFailed (call : Call) : Type 0 where
  pub shelf : (request : RequestData) → request_of call.words ≡ Some request → (file : List ℕ)
      → Contains request.files file → ¬ ShelfFailed call file
  pub sink : ¬ SinkFailed call
