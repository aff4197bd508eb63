-- The environments of both programs' boards under one assignment: they have equal inputs and one first line.
use Rattle.std.proofs.Common.{◌≡◌, ℕ, zero, suc, ◌+◌, ◌%◌, ◌<◌, ◌^◌, List, [], ◌∷◌, drop, map, ap, sym, refl, ◌∙◌}
use Rattle.std.specs.Prelude.{Bool, false, None, slice_index, slice_index_or}
use Rattle.mw_base.specs.Words.{num}
use Rattle.mw_board.specs.declared.parts.BoardParts.{BoardParts}
use Rattle.mw_cycle.specs.SteadyEnvironment.{Environment, IsEnvironment, values_of}
use Rattle.mw_cycle.specs.SteadySeries.{Series, Inputs, Line, Noise, kind_of, series_of_kind, width_of}
use Rattle.mw_cycle.proofs.Lists.{bits_below}
use Rattle.mw_term.specs.declared.kinds.WordKind.TheVariants.{BesideLine}
use Rattle.mw_term.specs.declared.side.Side.TheVariants.{Board, Machine}
use Rattle.mw_term.specs.declared.word.Word.{Word}
use Rattle.mw_term.specs.Assigned.{Given}
use Rattle.mw_term.specs.Table.{Table, IsTable}
use Rattle.mw_term.specs.Values.{term_value}
use Rattle.mw_term.specs.WordList.{term_of}
use Rattle.mw_symmem.specs.Words.{AreOf, HaveOwnKinds, IsVariable}
use Rattle.mw_symmem.proofs.Lists.{missing}
use Rattle.mw_symboard.specs.Laws.{IsEnvironmentOf}
use Rattle.mw_symboard.specs.Variables.{HaveVariables, IsOutsideNumber}
use Rattle.mw_symboard.proofs.Environments.{environments_are_reached, environments_are_there, own_found}
use Rattle.mw_symboard.proofs.Environments.{environments_stay, variables_have_values}
use Rattle.mw_twin.proofs.VariableNumbers.{inside}

-- the value of the line in the first cycle
abbrev pub first_line : Environment → Bool
first_line env = slice_index_or env.line 0 false

-- the environments of the old and of the new program's board take the same inputs and have one first line
pub record AreBeside (before after : Environment) : Type 0 where
  pub inputs : before.inputs ≡ after.inputs
  pub line : first_line before ≡ first_line after

-- and have the values of both boards' variables
pub record AreEnvironmentsOf (board : BoardParts) (t : Table) (words : List Word) (given : Given)
    (before after : Environment) : Type 0 where
  pub old_one : IsEnvironmentOf Board board t words given before
  pub new_one : IsEnvironmentOf Machine board t words given after

-- ---- each assignment has them

-- an environment with the inputs and the first line of another
beside : Environment → Environment → Environment
beside before env =
    record { line = first_line before ∷ drop 1 env.line; noise = env.noise; inputs = before.inputs }

are_beside : (before env : Environment) → AreBeside before (beside before env)
unfolding beside
are_beside before env = record { inputs = refl; line = refl }

behind_first : (bits : List Bool) (n : ℕ) → slice_index (map num (drop 1 bits)) n ≡ slice_index (map num bits) (suc n)
behind_first [] n = refl
behind_first (bit ∷ rest) n = refl

beside_below : (board : BoardParts) (before env : Environment) → IsEnvironment board before → IsEnvironment board env
    → (series : Series) (i : ℕ) → slice_index (values_of (beside before env) series) i < 2 ^ width_of board.width series
unfolding beside
beside_below board before env old_is is Inputs i = old_is.values Inputs i
beside_below board before env old_is is Line i = bits_below (first_line before ∷ drop 1 env.line) i
beside_below board before env old_is is Noise i = is.values Noise i

beside_values : (board : BoardParts) (t : Table) (words : List Word) (given : Given) (before env : Environment)
    → term_of words (BesideLine 0) ≡ None → IsEnvironmentOf Board board t words given before
    → IsEnvironmentOf Machine board t words given env → (series : Series) (n place term : ℕ)
    → IsVariable words place term (kind_of Machine series n)
    → slice_index (values_of (beside before env) series) n ≡ term_value t given term
unfolding beside
beside_values board t words given before env unlined old_is is Inputs n place term at =
    old_is.values Inputs n place term at
beside_values board t words given before env unlined old_is is Line zero place term at =
    absurd (missing words (BesideLine 0) place term unlined at)
beside_values board t words given before env unlined old_is is Line (suc n) place term at =
    behind_first env.line n ∙ is.values Line (suc n) place term at
beside_values board t words given before env unlined old_is is Noise n place term at =
    is.values Noise n place term at

-- those that an assignment gives
pub record BothGiven (board : BoardParts) (t : Table) (words : List Word) (given : Given) : Type 0 where
  pub before : Environment
  pub after : Environment
  pub beside : AreBeside before after
  pub are : AreEnvironmentsOf board t words given before after

pub both_are_there : (board : BoardParts) (t : Table) (words : List Word) (old_cycles new_cycles : ℕ) (given : Given)
    → IsTable t → HaveOwnKinds words → HaveVariables Board board t words old_cycles
    → HaveVariables Machine board t words new_cycles → term_of words (BesideLine 0) ≡ None
    → BothGiven board t words given
both_are_there board t words old_cycles new_cycles given table own old_has new_has unlined =
    let old_env = environments_are_there Board board t words old_cycles given table own old_has in
    let new_env = environments_are_there Machine board t words new_cycles given table own new_has in record {
      before = old_env.0;
      after = beside old_env.0 new_env.0;
      beside = are_beside old_env.0 new_env.0;
      are = record {
        old_one = old_env.1;
        new_one = record {
          within =
              record { values = beside_below board old_env.0 new_env.0 old_env.1.within new_env.1.within };
          values = beside_values board t words given old_env.0 new_env.0 unlined old_env.1 new_env.1;
        };
      };
    }

-- ---- and they have one

-- a variable that is none of the new program's board has one value under assignments that differ in variables of that
unmoved : (board : BoardParts) (t : Table) (words : List Word) (cycles : ℕ) (given other : Given) (series : Series)
    (n place term : ℕ) → IsTable t → AreOf t words → HaveOwnKinds words → HaveVariables Board board t words cycles
    → ((k : ℕ) → ¬ IsOutsideNumber Machine words k → other k ≡ given k)
    → series_of_kind Machine (kind_of Board series n) ≡ None → IsVariable words place term (kind_of Board series n)
    → term_value t given term ≡ term_value t other term
unmoved board t words cycles given other series n place term table of own has same none at =
    let kind = kind_of Board series n in
    let width = width_of board.width series in
    let wide = has.widths series n term (own_found words place term kind own at) in
    variables_have_values t words place term kind width given table of at wide
    ∙ ap (λ (v : ℕ). v % 2 ^ width) (sym (same (place + 1) (inside Machine words place term kind none at)))
    ∙ sym (variables_have_values t words place term kind width other table of at wide)

old_values : (board : BoardParts) (t : Table) (words : List Word) (cycles : ℕ) (given other : Given)
    (before after : Environment) → IsTable t → AreOf t words → HaveOwnKinds words
    → HaveVariables Board board t words cycles → before.inputs ≡ after.inputs
    → ((k : ℕ) → ¬ IsOutsideNumber Machine words k → other k ≡ given k)
    → IsEnvironmentOf Board board t words given before → IsEnvironmentOf Machine board t words other after
    → (series : Series) (n place term : ℕ) → IsVariable words place term (kind_of Board series n)
    → slice_index (values_of before series) n ≡ term_value t other term
old_values board t words cycles given other before after table of own has inputs same old_is new_is Inputs n place term
    at =
    ap (λ (xs : List ℕ). slice_index xs n) inputs ∙ new_is.values Inputs n place term at
old_values board t words cycles given other before after table of own has inputs same old_is new_is Line n place term
    at =
    old_is.values Line n place term at
    ∙ unmoved board t words cycles given other Line n place term table of own has same refl at
old_values board t words cycles given other before after table of own has inputs same old_is new_is Noise n place term
    at =
    old_is.values Noise n place term at
    ∙ unmoved board t words cycles given other Noise n place term table of own has same refl at

-- For every assignment and two environments with equal inputs there is a second assignment that gives these, and that
-- differs from the first in the variables of environments alone.
pub both_are_reached : (board : BoardParts) (t : Table) (words : List Word) (old_cycles new_cycles : ℕ) (given : Given)
    (before after : Environment) → IsTable t → AreOf t words → HaveOwnKinds words
    → HaveVariables Board board t words old_cycles → HaveVariables Machine board t words new_cycles
    → IsEnvironment board before → IsEnvironment board after → before.inputs ≡ after.inputs
    → (other : Given) × AreEnvironmentsOf board t words other before after
    × ((n : ℕ) → ¬ IsOutsideNumber Board words n → ¬ IsOutsideNumber Machine words n → other n ≡ given n)
both_are_reached board t words old_cycles new_cycles given before after table of own old_has new_has old_within
    new_within inputs =
    let first = environments_are_reached Board board t words old_cycles given before table of own old_has old_within in
    let second =
    environments_are_reached Machine board t words new_cycles first.0 after table of own new_has new_within in (
      second.0,
      record {
        old_one = record {
          within = old_within;
          values = old_values board t words old_cycles first.0 second.0 before after table of own old_has inputs
              second.2 first.1 second.1;
        };
        new_one = second.1;
      },
      λ n no_old no_new. second.2 n no_new ∙ first.2 n no_old,
    )

-- they stay those of an assignment that differs in other variables alone
pub both_stay : (board : BoardParts) (t : Table) (words : List Word) (given other : Given) (before after : Environment)
    → IsTable t → AreOf t words → ((n : ℕ) → IsOutsideNumber Board words n → other n ≡ given n)
    → ((n : ℕ) → IsOutsideNumber Machine words n → other n ≡ given n)
    → AreEnvironmentsOf board t words given before after → AreEnvironmentsOf board t words other before after
both_stay board t words given other before after table of old_same new_same are = record {
  old_one = environments_stay Board board t words given other before table of old_same are.old_one;
  new_one = environments_stay Machine board t words given other after table of new_same are.new_one;
}
