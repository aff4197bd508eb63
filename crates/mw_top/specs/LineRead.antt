-- What `clap` makes of the words of a command line.
use Rattle.std.specs.Prelude.{◌≡◌, ◌≢◌, List, []}
use Rattle.clap.specs.Words.{Text, fault_of, found_of, matches_of, rows_of}
use Rattle.mw_top.specs.declared.request.line.LineRead.{LineRead}
use Rattle.mw_top.specs.declared.request.line.LineRead.TheVariants.{Matched, Refused}
use Rattle.mw_top.specs.Line.{line}

-- the words are read, where `clap` has no fault in them, and else refused
abbrev pub IsRead : List Text → LineRead → Type 0
IsRead words (Matched matches) = (fault_of line words ≡ []) × (rows_of (found_of matches) ≡ matches_of line words)
IsRead words Refused = fault_of line words ≢ []
