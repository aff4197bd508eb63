use Rattle.std.proofs.Common.{◌≡◌, drop}
use Rattle.mw_compare.proofs.CameTo.{CameTo}
use Rattle.mw_compare.specs.Comparing.{GoesComparing}
use Rattle.mw_decide.specs.SpacePaths.{HavePaths}
use Rattle.mw_path.specs.Paths.{StayOnPath, path_in}
use Rattle.mw_revise.specs.TwinComparisonWords.{with_keep_lines}
use Rattle.mw_symmem.specs.Workspace.{IsWorkspace}
use Rattle.mw_term.specs.Cofactors.{Agree}
use Rattle.mw_term.specs.declared.kinds.WordKind.TheVariants.{Probe}
use Rattle.mw_term.specs.WordList.{term_of}
use Rattle.mw_twincompare.proofs.LinesKept.{HoldSoFar}
use Rattle.mw_twincompare.specs.KeptOnTerms.{HaveTerms, terms_of_both}
use Rattle.mw_twincompare.proofs.lines.compare_lines.Given as goal

abbrev pub invariant-loop-number : goal.invariant-loop-number
invariant-loop-number g l = record {
  terms : HaveTerms l.ends.board.now l.space.terms l.ends.old_board.now l.ends.new_board.now;
  workspace : IsWorkspace l.space.terms l.space.words l.space.memory;
  paths : HavePaths l.space l.paths;
  path : Agree (path_in l.paths) (path_in l.fn.paths);
  stays : StayOnPath l.fn.paths l.paths;
  goes : GoesComparing l.fn.space l.space;
  memory : l.space.memory ≡ l.fn.space.memory;
  probe : term_of l.space.words Probe ≡ term_of l.fn.space.words Probe;
  came : CameTo l.nodes l.fn.space l.space (path_in l.fn.paths) (path_in l.paths)
      (with_keep_lines l.ends.board.now (terms_of_both l.ends.board.now l.ends.old_board.now l.ends.new_board.now) l.lines)
      (with_keep_lines l.ends.board.now (terms_of_both l.ends.board.now l.ends.old_board.now l.ends.new_board.now)
      (drop l.number l.lines));
  holds : HoldSoFar l.ends.board.now l.fn.space.terms (path_in l.fn.paths) l.ends.old_board.now l.ends.new_board.now
      l.lines l.number;
}
