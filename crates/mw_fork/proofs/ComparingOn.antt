-- What both sides are compared on stays so, from one space to the next.
use Rattle.std.proofs.Common.{sym, ◌∙◌, ℕ, List, slice_index}
use Rattle.mw_rel.specs.ComparisonWords.{Sides}
use Rattle.mw_term.specs.declared.side.Side.TheVariants.{Board, Machine}
use Rattle.mw_symmem.proofs.Later.{width_later}
use Rattle.mw_space.specs.declared.space.Space.{Space}
use Rattle.mw_course.specs.Boundaries.{AreWide}
use Rattle.mw_fork.specs.Comparing.{AreSidesOn, GoesComparing}

-- the elements' terms are as wide
pub wide_compared : (widths elements : List ℕ) (old new : Space) → GoesComparing old new
    → AreWide old.terms widths elements → AreWide new.terms widths elements
wide_compared widths elements old new goes wide = record {
  count = wide.count;
  each = λ i inside. width_later old.terms new.terms (slice_index widths i) (slice_index elements i) goes.goes.later
      (wide.each i inside);
}

-- both sides are on it too
pub sides_compared : (elements : List ℕ) (old new : Space) (sides : Sides) → GoesComparing old new
    → AreSidesOn elements old sides → AreSidesOn elements new sides
sides_compared elements old new sides goes on = record {
  elements_are = on.elements_are;
  writes = record {
    board = on.writes.board ∙ sym (goes.writes.each Board);
    machine = on.writes.machine ∙ sym (goes.writes.each Machine);
  };
}
