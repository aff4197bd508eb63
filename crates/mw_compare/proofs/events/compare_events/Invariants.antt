use Rattle.std.proofs.Common.{◌≡◌, ◌<◌, ℕ, drop, length, true}
use Rattle.mw_rel.specs.ComparisonWords.{are_alike, with_events}
use Rattle.mw_symmem.specs.Workspace.{IsWorkspace}
use Rattle.mw_term.specs.declared.kinds.WordKind.TheVariants.{Probe}
use Rattle.mw_term.specs.Cofactors.{Agree}
use Rattle.mw_term.specs.WordList.{term_of}
use Rattle.mw_compare.specs.Comparing.{AreOneOn, ArePutOut, GoesComparing}
use Rattle.mw_decide.specs.SpacePaths.{HavePaths}
use Rattle.mw_path.specs.Paths.{path_in}
use Rattle.mw_path.specs.Paths.{StayOnPath}
use Rattle.mw_compare.proofs.CameTo.{CameTo}
use Rattle.mw_compare.proofs.events.compare_events.Given as goal

abbrev pub invariant-loop-number : goal.invariant-loop-number
invariant-loop-number g l = record {
  count : length l.board ≡ length l.machine;
  alike : are_alike (drop l.number l.board) (drop l.number l.machine) ≡ true;
  workspace : IsWorkspace l.space.terms l.space.words l.space.memory;
  paths : HavePaths l.space l.paths;
  path : Agree (path_in l.paths) (path_in l.fn.paths);
  stays : StayOnPath l.fn.paths l.paths;
  goes : GoesComparing l.fn.space l.space;
  memory : l.space.memory ≡ l.fn.space.memory;
  probe : term_of l.space.words Probe ≡ term_of l.fn.space.words Probe;
  came : CameTo l.nodes l.fn.space l.space (path_in l.fn.paths) (path_in l.paths) (with_events 0 l.board l.machine)
      (with_events l.number (drop l.number l.board) (drop l.number l.machine));
  same : (number a b : ℕ) → number < l.number → ArePutOut l.board l.machine number a b
      → AreOneOn l.space.terms (path_in l.fn.paths) a b;
}
