-- Each assignment is that of a twin start without waits, and each of these has an assignment.
use Rattle.std.proofs.Common.{◌≡◌, ℕ, ◌+◌, ◌<◌, ◌^◌, List, [], refl, ap, sym, subst, ◌∙◌}
use Rattle.std.specs.Prelude.{All, Some, slice_index}
use Rattle.mw_base.specs.Words.{num}
use Rattle.mw_board.specs.declared.parts.BoardParts.{BoardParts}
use Rattle.mw_cycle.specs.Environment.{IsEnvironment}
use Rattle.mw_cycle.specs.State.{BoardState, Fits}
use Rattle.mw_cycle.specs.SteadyEnvironment.{at_start, given_at}
use Rattle.mw_cycle.specs.SteadySeries as lists
use Rattle.mw_cycle.specs.Thinned.{never_waiting}
use Rattle.mw_cycle.proofs.Lists.{bit_at}
use Rattle.mw_revise.specs.declared.keep.Block.{Block}
use Rattle.mw_revise.specs.declared.programs.Side.{Side}
use Rattle.mw_revise.specs.declared.programs.Side.TheVariants.{Old, New}
use Rattle.mw_revise.specs.Kept.{IsBlock}
use Rattle.mw_revise.specs.Revision.{IsBlockOf, IsRevision, Revision}
use Rattle.mw_revise.specs.Together.{Holds}
use Rattle.mw_revise.specs.TwinBudgets.{IsTwinStartAt}
use Rattle.mw_revise.specs.TwinStart.{TwinStart, start_on}
use Rattle.mw_space.specs.Entries.{but_waits}
use Rattle.mw_symboard.specs.Paths.{IsOneOf}
use Rattle.mw_symboard.proofs.Runs.{variable_of}
use Rattle.mw_symboard.specs.Variables.{IsOutsideNumber}
use Rattle.mw_symmem.specs.Memory.{FitImage, IsBaseNumber, IsImage}
use Rattle.mw_symmem.proofs.Reached.{images_are_reached}
use Rattle.mw_symmem.proofs.There.{images_are_there}
use Rattle.mw_term.specs.declared.kinds.WordKind.TheVariants.{Element, Line}
use Rattle.mw_term.specs.declared.side.Side.TheVariants.{Board, Machine}
use Rattle.mw_term.specs.Assigned.{Given}
use Rattle.mw_term.specs.Values.{term_value}
use Rattle.mw_term.specs.WordList.{term_of}
use Rattle.mw_twin.specs.Grounds.{HaveTwinStarts, StandsForTwins, course_on}
use Rattle.mw_twin.specs.Origins.{Ground, IsGround, origin_on}
use Rattle.mw_twin.proofs.BothEnvironments.{AreEnvironmentsOf, both_are_reached, both_are_there, both_stay}
use Rattle.mw_twin.proofs.BothEnvironments.{first_line}
use Rattle.mw_twin.proofs.ElementValues.{with_elements}
use Rattle.mw_twin.proofs.VariableNumbers.{element_inside, element_no_base, inside, outside_no_base}
use Rattle.mw_twin.proofs.StartElements.{GivesElements, HasElements, are_values, lines_hold, new_has_elements}
use Rattle.mw_twin.proofs.StartElements.{old_has_elements, value_on, values_of_both}
use Rattle.mw_twin.proofs.StatesOf.{IsMemoryOf, StateWith, state_with}
use Rattle.mw_twin.proofs.Unwaiting.{but_waits_is, line_is, never_waiting_is}

-- what is so of both programs is so of each
pub on_both : (P : Side → Type 0) → P Old → P New → (side : Side) → P side
on_both P old_is new_is Old = old_is
on_both P old_is new_is New = new_is

-- no clock of either run waits
abbrev pub AreUnwaiting : TwinStart → Type 0
AreUnwaiting twins = (side : Side) → (start_on side twins).env.wait ≡ []

-- ---- memories

-- an image of the ground's memory is a memory of the board
pub memory_of_image : (board : BoardParts) (block : Block) (g : Ground) (image : List ℕ) → IsGround board block g
    → IsImage g.memory image → IsMemoryOf board image
memory_of_image board block g image ground has = record {
  size = has.size ∙ ap (λ n. 2 ^ n) ground.space.address;
  words = λ i. subst (λ w. slice_index image i < 2 ^ w) ground.space.word (has.words i);
}

-- and the memory of a state that fits is an image
image_of_state : (board : BoardParts) (block : Block) (g : Ground) (s : BoardState) → IsGround board block g
    → Fits board s → IsImage g.memory s.memory
image_of_state board block g s ground fits = record {
  size = fits.size ∙ ap (λ n. 2 ^ n) (sym ground.space.address);
  words = λ i. subst (λ w. slice_index s.memory i < 2 ^ w) (sym ground.space.word) (fits.memory i);
}

-- ---- what stands for twins

-- both environments of a twin start without waits have one first line
same_line : (revision : Revision) (block : Block) (twins : TwinStart) → IsTwinStartAt revision block twins
    → AreUnwaiting twins → first_line (but_waits twins.before.env) ≡ first_line (but_waits twins.after.env)
same_line revision block twins starts ready =
    sym (line_is revision.board revision.before twins.before.env twins.before.state (ready Old))
    ∙ starts.begins.line
    ∙ line_is revision.board revision.after twins.after.env twins.after.state (ready New)

module _ (revision : Revision) (block : Block) (g : Ground) (given : Given) (twins : TwinStart)
    (ground : IsGround revision.board block g) (starts : IsTwinStartAt revision block twins)
    (ready : AreUnwaiting twins) (fit : FitImage g.table given g.memory.reads twins.before.state.memory)
    (are : AreEnvironmentsOf revision.board g.table g.words given (but_waits twins.before.env)
    (but_waits twins.after.env))
    (old_has : HasElements Old revision.board g given twins.before.state)
    (new_has : HasElements New revision.board g given twins.after.state) where
  -- the new program's board has the first line of the old one's
  line_of_old : (term : ℕ) → term_of g.words (Line 0) ≡ Some term
      → term_value g.table given term ≡ num (given_at (but_waits twins.after.env) at_start).line
  line_of_old term is =
      let v = variable_of g.words (Line 0) term is in
      sym (are.old_one.values lists.Line 0 v.0 term v.1) ∙ bit_at twins.before.env.line 0
      ∙ ap num (same_line revision block twins starts ready)

  old_board : IsOneOf revision.board g.table g.words g.memory (origin_on Old block g) given (course_on Old twins)
  old_board =
      let together = starts.begins.are.together in record {
        fits = record {
          image = image_of_state revision.board block g twins.before.state ground together.old_fits;
          fit = fit;
          outside = are.old_one;
        };
        begins = record {
          fits = together.old_fits;
          address = together.old_at ∙ ap (λ (b : Block). b.before) starts.there;
          depth = together.old_sp ∙ ap (λ (b : Block). b.sp) starts.there;
          elements = old_has;
          memory = refl;
          first_line = λ term is. absurd cc;
        };
      }

  new_board : IsOneOf revision.board g.table g.words g.memory (origin_on New block g) given (course_on New twins)
  new_board =
      let together = starts.begins.are.together in record {
        fits = record {
          image = image_of_state revision.board block g twins.after.state ground together.new_fits;
          fit = subst (λ (image : List ℕ). FitImage g.table given g.memory.reads image) together.memory fit;
          outside = are.new_one;
        };
        begins = record {
          fits = together.new_fits;
          address = together.new_at ∙ ap (λ (b : Block). b.after) starts.there;
          depth = together.new_sp ∙ ap (λ (b : Block). b.sp) starts.there;
          elements = new_has;
          memory = refl;
          first_line = line_of_old;
        };
      }

  -- A twin start is that of an assignment under which its elements have the values of their terms, its memory fits the
  -- base reads, and its environments have the values of the variables.
  pub stands_for : StandsForTwins revision block g given twins
  stands_for = record {
    starts = starts;
    unwaiting = ready;
    boards = on_both (λ side. IsOneOf revision.board g.table g.words g.memory (origin_on side block g) given
        (course_on side twins)) old_board new_board;
  }

-- ---- each assignment is that of a twin start

there : (revision : Revision) (block : Block) (g : Ground) → IsRevision revision → IsBlockOf revision block
    → IsBlock revision.board block → IsGround revision.board block g → (given : Given)
    → (twins : TwinStart) × StandsForTwins revision block g given twins
there revision block g is of fits ground given =
    let board = revision.board in
    let work = ground.space.workspace in
    let few = is.board.few_flipflops in
    let image = images_are_there g.table g.words g.memory given work.table work.memory in
    let memory = memory_of_image board block g image.0 ground image.1 in
    let envs =
    both_are_there board g.table g.words (ground.variables Old).0 (ground.variables New).0 given work.table ground.own
    (ground.variables Old).1 (ground.variables New).1 ground.unlined in
    let before : StateWith board (value_on Old g given) block.before block.sp image.0 =
    state_with board (value_on Old g given) block.before block.sp image.0 few
    (are_values Old board block g given ground) fits.before fits.sp memory in
    let after : StateWith board (value_on New g given) block.after block.sp image.0 =
    state_with board (value_on New g given) block.after block.sp image.0 few
    (are_values New board block g given ground) fits.after fits.sp memory in
    let twins : TwinStart = record {
      block = block;
      before = record { state = before.state; env = never_waiting envs.before };
      after = record { state = after.state; env = never_waiting envs.after };
    } in
    let ready : AreUnwaiting twins = on_both (λ side. (start_on side twins).env.wait ≡ []) refl refl in
    let starts : IsTwinStartAt revision block twins = record {
      begins = record {
        are = record {
          block = of;
          together = record {
            old_fits = before.fits;
            new_fits = after.fits;
            old_at = before.at_is;
            new_at = after.at_is;
            old_sp = before.sp_is;
            new_sp = after.sp_is;
            lines = lines_hold board block g given before.state after.state fits ground before.elements
                after.elements;
            memory = before.memory_is ∙ sym after.memory_is;
          };
          environments = on_both (λ side. IsEnvironment board (start_on side twins).env)
              (never_waiting_is board envs.before envs.are.old_one.within)
              (never_waiting_is board envs.after envs.are.new_one.within);
          inputs = envs.beside.inputs;
        };
        line = line_is board revision.before (never_waiting envs.before) before.state refl
            ∙ envs.beside.line
            ∙ sym (line_is board revision.after (never_waiting envs.after) after.state refl);
      };
      there = refl;
    } in (
      twins,
      stands_for revision block g given twins ground starts ready
          (subst (λ (xs : List ℕ). FitImage g.table given g.memory.reads xs) (sym before.memory_is) image.2) envs.are
          before.elements after.elements,
    )

-- ---- each twin start has an assignment

-- Each twin start has one, which differs from another one that gives the variables of its elements their values in the
-- variables of environments and of base reads alone.
pub reached_from : (revision : Revision) (block : Block) (g : Ground) → IsGround revision.board block g
    → (twins : TwinStart) → IsTwinStartAt revision block twins → AreUnwaiting twins → (first : Given)
    → GivesElements revision.board g twins.before.state twins.after.state first
    → (given : Given) × StandsForTwins revision block g given twins
    × ((n : ℕ) → ¬ IsOutsideNumber Board g.words n → ¬ IsOutsideNumber Machine g.words n → ¬ IsBaseNumber g.words n
    → given n ≡ first n)
reached_from revision block g ground twins starts ready first elements =
    let board = revision.board in
    let work = ground.space.workspace in
    let begun = starts.begins.are in
    let together = begun.together in
    let old_env = but_waits twins.before.env in
    let new_env = but_waits twins.after.env in
    let image = image_of_state board block g twins.before.state ground together.old_fits in
    let second =
    both_are_reached board g.table g.words (ground.variables Old).0 (ground.variables New).0 first old_env new_env
    work.table work.of ground.own (ground.variables Old).1 (ground.variables New).1
    (but_waits_is board twins.before.env (begun.environments Old))
    (but_waits_is board twins.after.env (begun.environments New)) begun.inputs in
    let third =
    images_are_reached g.table g.words g.memory twins.before.state.memory second.0 work.table work.memory image in
    let are = both_stay board g.table g.words second.0 third.0 old_env new_env work.table work.of
    (λ n at. third.2 n (outside_no_base Board g.words n at)) (λ n at. third.2 n (outside_no_base Machine g.words n at))
    second.1 in
    let gives : GivesElements board g twins.before.state twins.after.state third.0 =
    λ place term n at. third.2 (place + 1) (element_no_base g.words place term n at)
    ∙ second.2 (place + 1) (inside Board g.words place term (Element n) (element_inside Board n) at)
    (inside Machine g.words place term (Element n) (element_inside Machine n) at)
    ∙ elements place term n at in
    let lines = subst (λ (b : Block). All (Holds board twins.before.state twins.after.state) b.lines) starts.there
    together.lines in (
      third.0,
      stands_for revision block g third.0 twins ground starts ready third.1 are
          (old_has_elements board block g third.0 twins.before.state twins.after.state ground together.old_fits
          together.new_fits lines gives)
          (new_has_elements board block g third.0 twins.before.state twins.after.state ground together.old_fits
          together.new_fits lines gives),
      λ n no_old no_new no_base. third.2 n no_base ∙ second.2 n no_old no_new,
    )

reached : (revision : Revision) (block : Block) (g : Ground) → IsGround revision.board block g → (twins : TwinStart)
    → IsTwinStartAt revision block twins → AreUnwaiting twins
    → (given : Given) × StandsForTwins revision block g given twins
reached revision block g ground twins starts ready =
    let first = with_elements g.words (values_of_both revision.board twins.before.state twins.after.state) in
    let from = reached_from revision block g ground twins starts ready first (λ place term n at. refl) in
    (from.0, from.1)

pub twin_starts_are_there : (revision : Revision) (block : Block) (g : Ground) → IsRevision revision
    → IsBlockOf revision block → IsBlock revision.board block
    → IsGround revision.board block g → HaveTwinStarts revision block g
twin_starts_are_there revision block g is of fits ground = record {
  there = there revision block g is of fits ground;
  reached = reached revision block g ground;
}
