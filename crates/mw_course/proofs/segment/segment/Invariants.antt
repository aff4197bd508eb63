use Rattle.std.proofs.Common.{◌≡◌, ◌-◌, ◌<◌}
use Rattle.std.specs.Prelude.{None}
use Rattle.mw_symmem.specs.Workspace.{IsLater}
use Rattle.mw_rel.specs.Free.{numbered}
use Rattle.mw_rel.specs.Views.{job_of}
use Rattle.mw_course.specs.OnWay.{IsRunOf}
use Rattle.mw_course.proofs.Segments.{StaysOnRun}
use Rattle.mw_course.proofs.segment.segment.Given as goal

abbrev pub invariant-loop-kind : goal.invariant-loop-kind
invariant-loop-kind l = record {
  under : IsRunOf (job_of l.job) l.run;
  idle : l.run.board.asked ≡ None;
  cycles : l.cycles ≡ l.run.board.place.cycle;
  below : l.cycles < (numbered (job_of l.job) l.boundary).bound;
  later : IsLater l.fn.run.space.terms l.run.space.terms;
  stays : StaysOnRun (job_of l.job) l.boundary l.fn.run l.run;
}

abbrev pub decreases-loop-kind : goal.decreases-loop-kind
decreases-loop-kind l = (numbered (job_of l.job) l.boundary).bound - l.cycles
