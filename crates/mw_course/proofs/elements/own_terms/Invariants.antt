use Rattle.std.proofs.Common.{◌≡◌, drop, length}
use Rattle.mw_symmem.specs.Words.{AreOf}
use Rattle.mw_symmem.specs.Workspace.{HaveKinds, IsLater}
use Rattle.mw_rel.specs.Free.{numbered}
use Rattle.mw_rel.specs.StartWords.{all_own_words}
use Rattle.mw_rel.specs.Views.{job_of}
use Rattle.mw_course.specs.Boundaries.{AreWideSoFar, IsElementBelow}
use Rattle.mw_course.specs.Listed.{all_ended, list_of_space}
use Rattle.mw_course.specs.OwnTerms.{AreOwn, with_own}
use Rattle.mw_course.proofs.elements.own_terms.Given as goal

abbrev pub invariant-loop-number : goal.invariant-loop-number
invariant-loop-number l = record {
  count : length l.own.items ≡ l.number;
  so_far : AreWideSoFar l.space.terms (job_of l.job).relation.shape.widths l.number l.own.items;
  own : AreOwn (numbered (job_of l.job) l.boundary) l.number l.space.words l.own.items;
  later : IsLater l.fn.space.terms l.space.terms;
  of : AreOf l.space.terms l.space.words;
  below : HaveKinds (IsElementBelow l.number) l.space.words;
  memory : l.space.memory ≡ l.fn.space.memory;
  listed : all_own_words (numbered (job_of l.job) l.boundary) 0 (job_of l.job).relation.shape.widths
      (list_of_space l.fn.space)
      ≡ with_own (numbered (job_of l.job) l.boundary) l.number (drop l.number (job_of l.job).relation.shape.widths)
      (all_ended l.own.items (list_of_space l.space));
}
