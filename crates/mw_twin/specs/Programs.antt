-- Both programs of a revision, each with its boundaries.
use Rattle.mw_revise.specs.declared.programs.Side.{Side}
use Rattle.mw_revise.specs.Revision.{Revision, addresses_of, store_of}
use Rattle.mw_segment.specs.Programs.{Program}

-- one of both programs
abbrev pub program_on : Side → Revision → Program
program_on side revision = record {
  board = revision.board;
  store = store_of side revision;
  addresses = addresses_of side revision;
}
