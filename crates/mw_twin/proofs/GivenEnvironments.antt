-- The environments that an assignment gives both programs' boards: the new one has the old one's first line and inputs.
use Rattle.std.proofs.Common.{◌≡◌, ℕ, zero, suc, ◌-◌, ◌<◌, ◌^◌, List, [], ◌∷◌, length, refl, ap, sym, subst, ◌∙◌}
use Rattle.std.proofs.Common.{arith}
use Rattle.std.specs.Prelude.{◌==◌, Bool, true, false, if◌then◌else◌, None, slice_index}
use Rattle.std.proofs.lemmas.Bool.Decides.{nat_tests}
use Rattle.mw_base.specs.Words.{num}
use Rattle.mw_board.specs.declared.parts.BoardParts.{BoardParts}
use Rattle.mw_cycle.specs.Environment.{Environment, IsEnvironment, values_of}
use Rattle.mw_cycle.specs.declared.series.Series.TheVariants as all
use Rattle.mw_cycle.specs.SteadyEnvironment.{IsEnvironment as IsSteadyEnvironment, values_of as steady_values_of}
use Rattle.mw_cycle.specs.SteadySeries.{Series, Inputs, Line, Noise, kind_of, width_of}
use Rattle.mw_cycle.specs.Thinned.{never_waiting}
use Rattle.mw_cycle.specs.Trimmed.{EndsWell, IsTrimmed}
use Rattle.mw_cycle.proofs.Lists.{bit_at, bits_below}
use Rattle.mw_space.specs.Entries.{HasEntries, HasTaken, but_waits, entry, value_or_zero}
use Rattle.mw_space.proofs.Environments.{environment_of, listed, value_below}
use Rattle.mw_symboard.specs.Variables.{HaveVariables}
use Rattle.mw_symboard.proofs.Environments.{own_found}
use Rattle.mw_symmem.specs.Words.{HaveOwnKinds, IsVariable}
use Rattle.mw_symmem.proofs.Lists.{missing}
use Rattle.mw_term.specs.declared.kinds.WordKind.{WordKind}
use Rattle.mw_term.specs.declared.kinds.WordKind.TheVariants as kinds
use Rattle.mw_term.specs.declared.side.Side.TheVariants.{Board, Machine}
use Rattle.mw_term.specs.declared.word.Word.{Word}
use Rattle.mw_term.specs.Assigned.{Given}
use Rattle.mw_term.specs.Table.{Table, IsTable}
use Rattle.mw_term.specs.Values.{term_value}
use Rattle.mw_term.specs.WordList.{term_of}
use Rattle.mw_twin.specs.Assigned.{HasLists, beside_kind}
use Rattle.mw_twin.proofs.BothEnvironments.{AreEnvironmentsOf, first_line}
use Rattle.mw_twin.proofs.Unwaiting.{never_waiting_is}

-- the value of the variable of a kind; 0 where there is none
abbrev pub variable_value : Table → List Word → Given → WordKind → ℕ
variable_value t words given kind = value_or_zero t given (term_of words kind)

-- ---- the first line of another

-- a line is 1 bit
pub line_fits : (env : Environment) (line at : ℕ) → line ≡ slice_index (values_of env all.Line) at → (series : Series)
    (n : ℕ) → kinds.BesideLine 0 ≡ kind_of Machine series n → line < 2 ^ width_of 32 series
line_fits env line at is Inputs n same = absurd cc
line_fits env line at is Line n same = subst (λ v. v < 2) (sym is) (bits_below env.line at)
line_fits env line at is Noise n same = absurd cc

first_apart : (n : ℕ) → (0 == suc n) ≡ false
first_apart n = grind (arith, nat_tests)

-- an environment that takes the first line of another has it, and else the values of its variables
pub lists_beside : (t : Table) (words : List Word) (given : Given) (before old new : Environment) (line : ℕ)
    → HasEntries Board t words given before → HasEntries Machine t words given old
    → HasTaken Machine old new (kinds.BesideLine 0) line → line ≡ slice_index (values_of before all.Line) 0
    → HasLists (variable_value t words given) beside_kind new
lists_beside t words given before old new line first entries took is Inputs n =
    took (kinds.Input n) refl ∙ entries (kinds.Input n) refl
lists_beside t words given before old new line first entries took is Line zero =
    took (kinds.BesideLine 0) refl ∙ is ∙ first (kinds.Line 0) refl
lists_beside t words given before old new line first entries took is Line (suc n) =
    took (kinds.BesideLine (suc n)) refl
    ∙ ap (λ (b : Bool). if b then line else entry Machine old (kinds.BesideLine (suc n))) (first_apart n)
    ∙ entries (kinds.BesideLine (suc n)) refl
lists_beside t words given before old new line first entries took is Noise n =
    took (kinds.BesideNoise n) refl ∙ entries (kinds.BesideNoise n) refl

-- ---- they are ones of the assignment

-- What both environments are known to have: the values of their variables, of which the first line is the old one's.
pub record AreGiven (t : Table) (words : List Word) (given : Given) (before after : Environment) : Type 0 where
  pub old_entries : HasEntries Board t words given before
  pub new_lists : HasLists (variable_value t words given) beside_kind after
  pub old_ready : before.wait ≡ []
  pub new_ready : after.wait ≡ []
  pub old_trimmed : IsTrimmed before
  pub new_trimmed : IsTrimmed after

beside_below : (board : BoardParts) (t : Table) (words : List Word) (cycles : ℕ) (given : Given) (env : Environment)
    → IsTable t → HaveVariables Machine board t words cycles
    → HasLists (variable_value t words given) beside_kind env → (series : Series) (i : ℕ)
    → slice_index (steady_values_of (but_waits env) series) i < 2 ^ width_of board.width series
beside_below board t words cycles given env table have lists Inputs i =
    subst (λ v. v < 2 ^ board.width) (sym (lists Inputs i))
    (value_below t given (term_of words (kinds.Input i)) board.width table (have.widths Inputs i))
beside_below board t words cycles given env table have lists Line i = bits_below env.line i
beside_below board t words cycles given env table have lists Noise i =
    subst (λ v. v < 2 ^ 14) (sym (lists Noise i))
    (value_below t given (term_of words (kinds.BesideNoise i)) 14 table (have.widths Noise i))

beside_values : (t : Table) (words : List Word) (given : Given) (env : Environment) → HaveOwnKinds words
    → term_of words (kinds.BesideLine 0) ≡ None → HasLists (variable_value t words given) beside_kind env
    → (series : Series) (n place term : ℕ) → IsVariable words place term (kind_of Machine series n)
    → slice_index (steady_values_of (but_waits env) series) n ≡ term_value t given term
beside_values t words given env own unlined lists Inputs n place term at =
    lists Inputs n ∙ ap (value_or_zero t given) (own_found words place term (kinds.Input n) own at)
beside_values t words given env own unlined lists Line zero place term at =
    absurd (missing words (kinds.BesideLine 0) place term unlined at)
beside_values t words given env own unlined lists Line (suc n) place term at =
    lists Line (suc n) ∙ ap (value_or_zero t given) (own_found words place term (kinds.BesideLine (suc n)) own at)
beside_values t words given env own unlined lists Noise n place term at =
    lists Noise n ∙ ap (value_or_zero t given) (own_found words place term (kinds.BesideNoise n) own at)

pub given_environments : (board : BoardParts) (t : Table) (words : List Word) (old_cycles new_cycles : ℕ) (given : Given)
    (before after : Environment) → IsTable t → HaveOwnKinds words → HaveVariables Board board t words old_cycles
    → HaveVariables Machine board t words new_cycles → term_of words (kinds.BesideLine 0) ≡ None
    → AreGiven t words given before after
    → AreEnvironmentsOf board t words given (but_waits before) (but_waits after)
given_environments board t words old_cycles new_cycles given before after table own old_has new_has unlined are =
    record {
      old_one = environment_of Board board t words old_cycles given before table own old_has are.old_entries;
      new_one = record {
        within = record {
          values = beside_below board t words new_cycles given after table new_has are.new_lists;
        };
        values = beside_values t words given after own unlined are.new_lists;
      };
    }

-- ---- they have equal inputs

ends_well_behind : (x y : ℕ) (rest : List ℕ) → EndsWell (x ∷ y ∷ rest) → EndsWell (y ∷ rest)
ends_well_behind x y rest well = λ any none.
    (let place : suc (length rest) ≡ suc (suc (length rest)) - 1 = omega arith in
    let back : length rest ≡ suc (length rest) - 1 = omega arith in
    well (omega arith)
    (subst (λ k. slice_index (x ∷ y ∷ rest) k ≡ 0) place
    (subst (λ k. slice_index (y ∷ rest) k ≡ 0) (sym back) none)))

rest_ends_well : (x : ℕ) (rest : List ℕ) → EndsWell (x ∷ rest) → EndsWell rest
rest_ends_well x [] well = λ any. absurd (omega (arith, any))
rest_ends_well x (y ∷ rest) well = ends_well_behind x y rest well

-- a list without a 0 at its end isn't all 0
not_all_zero : (x : ℕ) (rest : List ℕ) → EndsWell (x ∷ rest) → ((n : ℕ) → 0 ≡ slice_index (x ∷ rest) n) → ⊥
not_all_zero x rest well each = well (omega arith) (sym (each (length (x ∷ rest) - 1)))

-- lists without a 0 at their end are equal where their values are
same_trimmed : (xs ys : List ℕ) → EndsWell xs → EndsWell ys → ((n : ℕ) → slice_index xs n ≡ slice_index ys n) → xs ≡ ys
same_trimmed [] [] left right each = refl
same_trimmed [] (y ∷ ys) left right each = absurd (not_all_zero y ys right each)
same_trimmed (x ∷ xs) [] left right each = absurd (not_all_zero x xs left (λ n. sym (each n)))
same_trimmed (x ∷ xs) (y ∷ ys) left right each =
    ap (λ v. v ∷ xs) (each 0)
    ∙ ap (λ zs. y ∷ zs) (same_trimmed xs ys (rest_ends_well x xs left) (rest_ends_well y ys right) (λ n. each (suc n)))

pub same_inputs : (t : Table) (words : List Word) (given : Given) (before after : Environment)
    → AreGiven t words given before after → before.inputs ≡ after.inputs
same_inputs t words given before after are =
    same_trimmed before.inputs after.inputs (are.old_trimmed all.Inputs) (are.new_trimmed all.Inputs)
    (λ n. listed Board t words given before Inputs n are.old_entries ∙ sym (are.new_lists Inputs n))

-- ---- and one first line

same_bit : (a b : Bool) → num a ≡ num b → a ≡ b
same_bit true true is = refl
same_bit true false is = absurd cc
same_bit false true is = absurd cc
same_bit false false is = refl

pub same_first : (t : Table) (words : List Word) (given : Given) (before after : Environment)
    → AreGiven t words given before after → first_line (but_waits before) ≡ first_line (but_waits after)
same_first t words given before after are =
    same_bit (first_line (but_waits before)) (first_line (but_waits after))
    (sym (bit_at before.line 0) ∙ listed Board t words given before Line 0 are.old_entries
    ∙ sym (are.new_lists Line 0) ∙ bit_at after.line 0)

-- ---- and are environments

without_waits : (env : Environment) → env.wait ≡ [] → never_waiting (but_waits env) ≡ env
without_waits env none = rw none refl

pub ready_is : (board : BoardParts) (env : Environment) → env.wait ≡ [] → IsSteadyEnvironment board (but_waits env)
    → IsEnvironment board env
ready_is board env none is =
    subst (IsEnvironment board) (without_waits env none) (never_waiting_is board (but_waits env) is)
