use Rattle.std.proofs.Common.{◌≡◌, ◌+◌, ◌<◌, ℕ, drop, length, true}
use Rattle.std.specs.Prelude.{Some, slice_get}
use Rattle.mw_rel.specs.ComparisonWords.{Sides, with_lines}
use Rattle.mw_rel.specs.Lines.{Line, reads_of}
use Rattle.mw_rel.specs.Seen.{lines_of}
use Rattle.mw_rel.specs.Views.{job_of}
use Rattle.mw_term.specs.declared.kinds.WordKind.TheVariants.{Probe}
use Rattle.mw_term.specs.Assigned.{Given}
use Rattle.mw_term.specs.Cofactors.{Agree}
use Rattle.mw_term.specs.WordList.{term_of}
use Rattle.mw_course.specs.Boundaries.{AreWide, IsSpace}
use Rattle.mw_fork.specs.Comparing.{AreSidesOn, GoesComparing, HoldsAt}
use Rattle.mw_fork.specs.Traces.{HavePaths}
use Rattle.mw_path.specs.Paths.{path_in}
use Rattle.mw_path.specs.Paths.{StayOnPath}
use Rattle.mw_compare.proofs.CameTo.{CameTo}
use Rattle.mw_fork.proofs.comparing.compare_lines.Given as goal

abbrev pub invariant-loop-line : goal.invariant-loop-line
invariant-loop-line g l = record {
  space : IsSpace (job_of l.job) l.space.terms l.space.words l.space.memory;
  wide : AreWide l.space.terms (job_of l.job).relation.shape.widths l.elements;
  paths : HavePaths l.space l.paths;
  path : Agree (path_in l.paths) (path_in l.fn.paths);
  stays : StayOnPath l.fn.paths l.paths;
  total : length l.space.memory.reads + reads_of (lines_of (drop l.line-index l.lines))
      ≡ length l.fn.space.memory.reads + reads_of (lines_of l.lines);
  goes : GoesComparing l.fn.space l.space;
  probe : term_of l.space.words Probe ≡ term_of l.fn.space.words Probe;
  came : (sides : Sides) → AreSidesOn l.elements l.fn.space sides
      → CameTo l.nodes l.fn.space l.space (path_in l.fn.paths) (path_in l.paths)
      (with_lines (job_of l.job).relation.shape sides (lines_of l.lines))
      (with_lines (job_of l.job).relation.shape sides (lines_of (drop l.line-index l.lines)));
  holds : (i : ℕ) (line : Line) → i < l.line-index → slice_get (lines_of l.lines) i ≡ Some line
      → (given : Given) → path_in l.fn.paths given ≡ true
      → HoldsAt (job_of l.job).relation.shape l.space l.elements given line;
}
