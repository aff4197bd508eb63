use Rattle.std.proofs.Common.{◌≡◌, ◌+◌, ◌≤◌, [], drop, length}
use Rattle.mw_rel.specs.Lines.{reads_of}
use Rattle.mw_rel.specs.Seen.{lines_of}
use Rattle.mw_rel.specs.StartWords.{lines_words}
use Rattle.mw_rel.specs.Views.{job_of}
use Rattle.mw_course.specs.Boundaries.{AreElements, AreWide}
use Rattle.mw_course.specs.Listed.{all_ended, list_of_space}
use Rattle.mw_course.specs.OwnTerms.{AreRelated}
use Rattle.mw_course.proofs.elements.relate.Given as goal

abbrev pub invariant-loop-line : goal.invariant-loop-line
invariant-loop-line l = record {
  few : length l.space.memory.reads + reads_of (lines_of (drop l.line-index l.lines)) ≤ 64;
  own : AreElements (job_of l.job) l.space.terms l.space.words l.space.memory l.own;
  wide : AreWide l.space.terms (job_of l.job).relation.shape.widths l.terms.items;
  related : AreRelated (lines_of l.lines) l.line-index l.fn.space.terms l.space.terms l.fn.space.words l.space.words
      l.fn.space.memory l.space.memory l.own l.terms.items;
  unwritten : l.space.memory.machine ≡ [];
  listed : lines_words (job_of l.job).relation.shape l.own (lines_of l.lines)
      (all_ended l.own (list_of_space l.fn.space))
      ≡ lines_words (job_of l.job).relation.shape l.own (lines_of (drop l.line-index l.lines))
      (all_ended l.terms.items (list_of_space l.space));
}
