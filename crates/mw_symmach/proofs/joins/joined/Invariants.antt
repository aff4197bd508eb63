use Rattle.std.proofs.Common.{◌≡◌, ◌≤◌, List, drop}
use Rattle.mw_macro.specs.ExpressionWords.{beside_words, join_words}
use Rattle.mw_term.specs.MemoryRead.{Held}
use Rattle.mw_term.specs.WordList.{list_of}
use Rattle.mw_symmach.proofs.Beside.{JoinsBy}
use Rattle.mw_symmach.proofs.joins.joined.Given as goal

abbrev pub invariant-loop-place : goal.invariant-loop-place
invariant-loop-place l = record {
  some : 1 ≤ l.place;
  listed : (reads : List Held) → beside_words l.whole (drop l.place l.parts) (list_of l.terms.ops l.words reads)
      ≡ join_words l.parts (list_of l.fn.terms.ops l.fn.words reads);
  by : JoinsBy l.fn.terms l.terms l.fn.words l.words l.parts (drop l.place l.parts) l.whole;
}
