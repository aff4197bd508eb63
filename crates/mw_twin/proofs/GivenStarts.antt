-- The twin start that an assignment gives stands for it, and has what the assignment gives by the list.
use Rattle.std.proofs.Common.{◌≡◌, ◌≢◌, ℕ, ◌+◌, ◌<◌, List, [], refl, ap, sym, subst, ◌∙◌}
use Rattle.std.specs.Prelude.{Option, Some, None, slice_index}
use Rattle.mw_board.specs.declared.parts.BoardParts.{BoardParts}
use Rattle.mw_board.specs.Elements.{element_count}
use Rattle.mw_cycle.specs.Environment.{IsEnvironment}
use Rattle.mw_cycle.specs.SteadySeries.{kind_of}
use Rattle.mw_revise.specs.declared.keep.Block.{Block}
use Rattle.mw_revise.specs.declared.keep.KeepLine.{KeepLine}
use Rattle.mw_revise.specs.declared.keep.KeepLine.TheVariants.{Equal, Fixed}
use Rattle.mw_revise.specs.declared.programs.Side.TheVariants.{Old, New}
use Rattle.mw_revise.specs.Kept.{IsBlock}
use Rattle.mw_revise.specs.Revision.{IsBlockOf, Revision}
use Rattle.mw_revise.specs.TwinBudgets.{IsTwinStartAt}
use Rattle.mw_revise.specs.TwinStart.{start_on}
use Rattle.mw_revise.specs.Elements.{line_about}
use Rattle.mw_space.specs.declared.space.Space.{Space}
use Rattle.mw_space.specs.Entries.{but_waits, value_or_zero}
use Rattle.mw_space.specs.Spaces.{IsSpaceOf, list_of_space}
use Rattle.mw_space.proofs.Environments.{listed}
use Rattle.mw_symboard.proofs.Environments.{own_found}
use Rattle.mw_symmem.specs.Memory.{FitImage, base_word}
use Rattle.mw_symmem.specs.Words.{IsVariable}
use Rattle.mw_term.specs.declared.kinds.WordKind.TheVariants.{Element}
use Rattle.mw_term.specs.declared.side.Side.TheVariants.{Board}
use Rattle.mw_term.specs.Assigned.{Given}
use Rattle.mw_term.specs.Table.{Table, table_of}
use Rattle.mw_term.specs.Values.{term_value}
use Rattle.mw_term.specs.WordList.{table_in}
use Rattle.mw_course.specs.Begins.{kind_value}
use Rattle.mw_twin.specs.declared.starts.TwinStarts.{TwinStarts}
use Rattle.mw_twin.specs.Assigned.{IsStateWith, IsTwinAssigned, beside_kind, new_value, new_values, old_value, old_values}
use Rattle.mw_twin.specs.Assigned.{twins_of}
use Rattle.mw_twin.specs.Grounds.{StandsForTwins}
use Rattle.mw_twin.specs.Origins.{Ground, IsGround, ground_in}
use Rattle.mw_twin.proofs.BothEnvironments.{AreEnvironmentsOf}
use Rattle.mw_twin.proofs.GivenEnvironments.{AreGiven, given_environments, ready_is, same_first, same_inputs}
use Rattle.mw_twin.proofs.GivenEnvironments.{variable_value}
use Rattle.mw_twin.proofs.StartElements.{lines_hold, value_on}
use Rattle.mw_twin.proofs.TwinStartsThere.{AreUnwaiting, on_both, stands_for}
use Rattle.mw_twin.proofs.Unwaiting.{line_is}

-- What two starts at a block are known to have: states with the values of the terms, an image that the base reads fit,
-- and environments with the values of the variables.
pub record AreStarts (board : BoardParts) (block : Block) (g : Ground) (given : Given) (memory : List ℕ)
    (starts : TwinStarts) : Type 0 where
  pub is : IsBlock board block
  pub ground : IsGround board block g
  pub old_state : IsStateWith board (value_on Old g given) block.before block.sp memory starts.before.state
  pub new_state : IsStateWith board (value_on New g given) block.after block.sp memory starts.after.state
  pub fit : FitImage g.table given g.memory.reads memory
  pub environments : AreGiven g.table g.words given starts.before.env starts.after.env

-- ---- they stand for it

both_environments : (board : BoardParts) (block : Block) (g : Ground) (given : Given) (memory : List ℕ)
    (starts : TwinStarts) → AreStarts board block g given memory starts
    → AreEnvironmentsOf board g.table g.words given (but_waits starts.before.env) (but_waits starts.after.env)
both_environments board block g given memory starts are =
    let ground = are.ground in
    given_environments board g.table g.words (ground.variables Old).0 (ground.variables New).0 given starts.before.env
    starts.after.env ground.space.workspace.table ground.own (ground.variables Old).1 (ground.variables New).1
    ground.unlined are.environments

starts_at : (revision : Revision) (block : Block) (g : Ground) (given : Given) (memory : List ℕ) (starts : TwinStarts)
    → IsBlockOf revision block → AreStarts revision.board block g given memory starts
    → IsTwinStartAt revision block (twins_of block starts)
starts_at revision block g given memory starts of are =
    let board = revision.board in
    let twins = twins_of block starts in
    let before = are.old_state in
    let after = are.new_state in
    let envs = are.environments in
    let both = both_environments board block g given memory starts are in record {
      begins = record {
        are = record {
          block = of;
          together = record {
            old_fits = before.fits;
            new_fits = after.fits;
            old_at = before.at_is;
            new_at = after.at_is;
            old_sp = before.sp_is;
            new_sp = after.sp_is;
            lines = lines_hold board block g given starts.before.state starts.after.state are.is are.ground
                before.elements after.elements;
            memory = before.memory_is ∙ sym after.memory_is;
          };
          environments = on_both (λ side. IsEnvironment board (start_on side twins).env)
              (ready_is board starts.before.env envs.old_ready both.old_one.within)
              (ready_is board starts.after.env envs.new_ready both.new_one.within);
          inputs = same_inputs g.table g.words given starts.before.env starts.after.env envs;
        };
        line = line_is board revision.before starts.before.env starts.before.state envs.old_ready
            ∙ same_first g.table g.words given starts.before.env starts.after.env envs
            ∙ sym (line_is board revision.after starts.after.env starts.after.state envs.new_ready);
      };
      there = refl;
    }

-- two starts with what an assignment gives are those of a twin start that it stands for
pub given_stand : (revision : Revision) (block : Block) (g : Ground) (given : Given) (memory : List ℕ)
    (starts : TwinStarts) → IsBlockOf revision block
    → AreStarts revision.board block g given memory starts
    → StandsForTwins revision block g given (twins_of block starts)
given_stand revision block g given memory starts of are =
    let twins = twins_of block starts in
    let ready : AreUnwaiting twins =
    on_both (λ side. (start_on side twins).env.wait ≡ []) are.environments.old_ready are.environments.new_ready in
    stands_for revision block g given twins are.ground (starts_at revision block g given memory starts of are) ready
    (subst (λ (xs : List ℕ). FitImage g.table given g.memory.reads xs) (sym are.old_state.memory_is) are.fit)
    (both_environments revision.board block g given memory starts are) are.old_state.elements are.new_state.elements

-- ---- and have what it gives by the list

module _ (board : BoardParts) (block : Block) (g : Ground) (given : Given) (ground : IsGround board block g) where
  of_variable : (place term n : ℕ) → IsVariable g.words place term (Element n)
      → term_value g.table given term ≡ variable_value g.table g.words given (Element n)
  of_variable place term n at =
      sym (ap (value_or_zero g.table given) (own_found g.words place term (Element n) ground.own at))

  free_value : (n : ℕ) → n < element_count board
      → ((element before after : ℕ) → line_about block.lines n ≢ Some (Fixed element before after))
      → value_on Old g given n ≡ variable_value g.table g.words given (Element n)
  free_value n below free =
      let v = ground.old_variable n below free in of_variable v.0 (slice_index g.before n) n v.1

  old_by : (n : ℕ) (about : Option KeepLine) → n < element_count board → line_about block.lines n ≡ about
      → value_on Old g given n ≡ old_value (variable_value g.table g.words given) about n
  old_by n None below found = free_value n below (λ element before after is. cc)
  old_by n (Some (Equal number)) below found = free_value n below (λ element before after is. cc)
  old_by n (Some (Fixed number before after)) below found = (ground.fixed n number before after below found given).0

  old_is : (n : ℕ) → n < element_count board
      → value_on Old g given n ≡ old_values (variable_value g.table g.words given) block.lines n
  old_is n below = old_by n (line_about block.lines n) below refl

  new_by : (n : ℕ) (about : Option KeepLine) → n < element_count board → line_about block.lines n ≡ about
      → value_on New g given n
      ≡ new_value (variable_value g.table g.words given) about
      (old_values (variable_value g.table g.words given) block.lines n) (element_count board + n)
  new_by n None below found =
      let v = ground.new_variable n below found in
      of_variable v.0 (slice_index g.after n) (element_count board + n) v.1
  new_by n (Some (Equal number)) below found =
      ap (λ (term : ℕ). term_value g.table given term) (ground.kept n number below found) ∙ old_is n below
  new_by n (Some (Fixed number before after)) below found = (ground.fixed n number before after below found given).1

  new_is : (n : ℕ) → n < element_count board
      → value_on New g given n ≡ new_values board (variable_value g.table g.words given) block.lines n
  new_is n below = new_by n (line_about block.lines n) below refl

-- the table of a space is that of its list
table_is : (board : BoardParts) (space : Space) → IsSpaceOf board space.terms space.words space.memory
    → space.terms ≡ table_in board.map_entries (list_of_space space)
table_is board space is = sym (ap (table_of space.terms.ops) (sym is.map))

pub given_assigned : (board : BoardParts) (block : Block) (space : Space) (before after : List ℕ) (given : Given)
    (memory : List ℕ) (starts : TwinStarts) → AreStarts board block (ground_in space before after) given memory starts
    → ((address : ℕ) → slice_index memory address ≡ base_word space.terms given space.memory.reads address)
    → IsTwinAssigned board block (list_of_space space) given starts
given_assigned board block space before after given memory starts are words =
    let g = ground_in space before after in
    let l = list_of_space space in
    let table = table_is board space are.ground.space in
    let base : (address : ℕ)
    → slice_index memory address ≡ base_word (table_in board.map_entries l) given l.reads address =
    λ address. words address ∙ ap (λ (t : Table). base_word t given l.reads address) table in
    let envs = are.environments in record {
      old_one = record {
        at_is = are.old_state.at_is;
        sp_is = are.old_state.sp_is;
        elements = λ n below. are.old_state.elements n below ∙ old_is board block g given are.ground n below
            ∙ ap (λ (t : Table). old_values (kind_value t l given) block.lines n) table;
        memory = λ address. ap (λ (xs : List ℕ). slice_index xs address) are.old_state.memory_is ∙ base address;
        lists = λ series n. listed Board g.table g.words given starts.before.env series n envs.old_entries
            ∙ ap (λ (t : Table). kind_value t l given (kind_of Board series n)) table;
        wait = envs.old_ready;
        trimmed = envs.old_trimmed;
      };
      new_one = record {
        at_is = are.new_state.at_is;
        sp_is = are.new_state.sp_is;
        elements = λ n below. are.new_state.elements n below ∙ new_is board block g given are.ground n below
            ∙ ap (λ (t : Table). new_values board (kind_value t l given) block.lines n) table;
        memory = λ address. ap (λ (xs : List ℕ). slice_index xs address) are.new_state.memory_is ∙ base address;
        lists = λ series n. envs.new_lists series n
            ∙ ap (λ (t : Table). kind_value t l given (beside_kind series n)) table;
        wait = envs.new_ready;
        trimmed = envs.new_trimmed;
      };
    }
