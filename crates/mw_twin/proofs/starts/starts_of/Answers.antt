use Rattle.std.proofs.Common.{arith, rules, subst, sym}
use Rattle.mw_board.specs.declared.parts.BoardParts.{BoardParts}
use Rattle.mw_revise.specs.declared.programs.Side.TheVariants.{Old, New}
use Rattle.mw_term.specs.Assigned.{given_by}
use Rattle.mw_twin.specs.declared.starts.TwinStarts.{TwinStarts}
use Rattle.mw_twin.specs.Origins.{ground_in}
use Rattle.mw_twin.proofs.GivenStarts.{AreStarts, given_assigned, given_stand}
use Rattle.mw_twin.proofs.StartElements.{value_on}
use Rattle.mw_twin.proofs.StartStates.{standing_with}
use Rattle.mw_twin.proofs.TwinStartsThere.{memory_of_image}
use Rattle.mw_twin.proofs.starts.starts_of.Goals as goal

pub environment_of-requires-clause-variables : goal.environment_of-requires-clause-variables
environment_of-requires-clause-variables c =
    let ground = c.requires.ground in (
      c.args.board.now,
      (ground.variables Old).0,
      omega (arith, ground.space.word, ground.space.workspace.memory.word.1),
      (ground.variables Old).1,
    )

pub environment_beside-requires-clause-variables : goal.environment_beside-requires-clause-variables
environment_beside-requires-clause-variables c =
    let ground = c.requires.ground in (
      c.args.board.now,
      (ground.variables New).0,
      omega (arith, ground.space.word, ground.space.workspace.memory.word.1),
      (ground.variables New).1,
    )

pub state_of-requires-clause-wide : goal.state_of-requires-clause-wide
state_of-requires-clause-wide c = c.requires.ground.wide Old

pub state_of-requires-2-clause-wide : goal.state_of-requires-2-clause-wide
state_of-requires-2-clause-wide c =
    let old_wide = c.requires.ground.wide Old in
    let new_wide = c.requires.ground.wide New in
    search rules

pub returns : goal.returns
returns c =
    let board = c.args.board.now in
    let block = c.args.block.now in
    let space = c.args.space.now in
    let given = given_by c.args.given.now in
    let g = ground_in space c.args.before.now c.args.after.now in
    let memory = c.in_ok-memory.memory.items in
    let image = memory_of_image board block g memory c.requires.ground c.in_ok-memory.ensures.image in
    let old_state = c.stand_at.new.state in
    let new_state = c.stand_at-2.new.state in
    let starts : TwinStarts = record {
      before = record { state = old_state; env = c.in_ok-old_env.old_env };
      after = record { state = new_state; env = c.in_ok-new_env.new_env };
    } in
    let are : AreStarts board block g given memory starts = record {
      is = c.requires.block;
      ground = c.requires.ground;
      old_state = standing_with board (value_on Old g given) block.before block.sp c.deref.result.now memory
          c.in_ok-old_state.old_state old_state c.stand_at.ensures.exact c.deref.ensures.value
          c.in_ok-old_state.ensures.fits c.in_ok-old_state.ensures.set c.requires.block.before c.requires.block.sp image;
      new_state = standing_with board (value_on New g given) block.after block.sp c.deref-2.result.now memory
          c.in_ok-new_state.new_state new_state c.stand_at-2.ensures.exact c.deref-2.ensures.value
          c.in_ok-new_state.ensures.fits (search rules) c.requires.block.after c.requires.block.sp image;
      fit = c.in_ok-memory.ensures.fit;
      environments = record {
        old_entries = c.in_ok-old_env.ensures.entries;
        new_lists = c.in_ok-new_env.ensures.lists;
        old_ready = c.in_ok-old_env.ensures.wait;
        new_ready = c.in_ok-new_env.ensures.wait;
        old_trimmed = c.in_ok-old_env.ensures.trimmed;
        new_trimmed = c.in_ok-new_env.ensures.trimmed;
      };
    } in record {
      stands = λ revision same is of.
          given_stand revision block g given memory starts of
          (subst (λ (b : BoardParts). AreStarts b block g given memory starts) (sym same) are);
      assigned = given_assigned board block space c.args.before.now c.args.after.now given memory starts are
          c.in_ok-memory.ensures.words;
    }
