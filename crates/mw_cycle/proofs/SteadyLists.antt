-- Environments without waits, list by list.
use Rattle.std.proofs.Common.{◌≡◌, ℕ, ◌+◌, ◌^◌, ◌<◌, ◌≤◌, lit≤, List, [], drop, slice_index, refl, sym, ap}
use Rattle.std.proofs.Common.{subst, ◌∙◌}
use Rattle.std.proofs.lemmas.List.{drop-map, get_or-drop}
use Rattle.std.proofs.lemmas.Nat.{pow_pos}
use Rattle.mw_base.specs.Words.{num}
use Rattle.mw_board.specs.declared.parts.BoardParts.{BoardParts}
use Rattle.mw_cycle.specs.SteadyEnvironment.{Clock, Environment, IsEnvironment, no_values, place_in, rest_at}
use Rattle.mw_cycle.specs.SteadyEnvironment.{values_of, with_lists}
use Rattle.mw_cycle.specs.SteadySeries.{Series, Inputs, Line, Noise, width_of}
use Rattle.mw_cycle.proofs.Lists.{numbers_back}

-- the lists of what is made of lists whose values have their widths
pub lists_back : (values : Series → List ℕ) (width : ℕ) (series : Series)
    → ((i : ℕ) → slice_index (values series) i < 2 ^ width_of width series)
    → values_of (with_lists values) series ≡ values series
lists_back values width Inputs each = refl
lists_back values width Line each = numbers_back (values Line) each
lists_back values width Noise each = refl

-- what is left of an environment is what is left of each list
rests_are_of_lists : (env : Environment) (place : Clock) (series : Series)
    → values_of (rest_at env place) series ≡ drop (place_in series place) (values_of env series)
rests_are_of_lists env place Inputs = refl
rests_are_of_lists env place Line = sym (drop-map num place.cycle env.line)
rests_are_of_lists env place Noise = refl

-- and it is one
pub rests_are_environments : (board : BoardParts) (env : Environment) (place : Clock)
    → IsEnvironment board env → IsEnvironment board (rest_at env place)
rests_are_environments board env place is = record {
  values = λ series i.
      subst (λ (v : ℕ). v < 2 ^ width_of board.width series)
      (sym (ap (λ xs. slice_index xs i) (rests_are_of_lists env place series)
      ∙ get_or-drop (place_in series place) (values_of env series) i 0))
      (is.values series (place_in series place + i));
}

-- what has lists of their widths is one
pub lists_are_environment : (board : BoardParts) (values : Series → List ℕ)
    → ((series : Series) (i : ℕ) → slice_index (values series) i < 2 ^ width_of board.width series)
    → IsEnvironment board (with_lists values)
lists_are_environment board values each = record {
  values = λ series i.
      subst (λ (xs : List ℕ). slice_index xs i < 2 ^ width_of board.width series)
      (sym (lists_back values board.width series (each series))) (each series i);
}

-- a value of a list has at most the bits that it has where an input word has 32
pub widths_within : (width : ℕ) (series : Series) → width ≤ 32 → width_of width series ≤ width_of 32 series
widths_within width Inputs most = most
widths_within width Line most = lit≤ tt
widths_within width Noise most = lit≤ tt

pub none_is : (board : BoardParts) → IsEnvironment board no_values
none_is board = lists_are_environment board (λ series. []) (λ series i. pow_pos (width_of board.width series))
