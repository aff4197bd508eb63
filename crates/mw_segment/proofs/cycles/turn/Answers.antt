use Rattle.std.proofs.Common.{◌≡◌, ◌+◌, length, subst}
use Rattle.mw_segment.specs.Programs.{Program}
use Rattle.mw_segment.proofs.AlongWords.{turns_along}
use Rattle.mw_segment.proofs.FirstLines.{lines_stay, space_later, taken_stays}
use Rattle.mw_segment.proofs.OnSegment.{goes_in_run, turns_on_path}
use Rattle.mw_segment.proofs.cycles.turn.Goals as goal
use Rattle.mw_space.specs.Spaces.{list_of_space}
use Rattle.mw_symboard.specs.Along.{ListsTurn}
use Rattle.mw_symboard.specs.Cycle.{bits_before}
use Rattle.mw_symboard.specs.Seen.{microword_of}
use Rattle.mw_symboard.specs.Turns.{IsSymbolic, IsTurn}
use Rattle.mw_symmem.specs.declared.turn.Turn.TheVariants.{Finished}
use Rattle.mw_symmem.specs.Listed.{list_in}

pub returns-clause-running : goal.returns-clause-running
returns-clause-running c =
    let program = c.args.program.now in
    let new = c.sym_cycle.new in
    let old = c.args.board.now in
    let space = c.args.space.now in
    let e = c.in_ok-turn.ensures in
    let turn = c.in_ok-turn.turn in
    let running = c.requires.running in
    let symbolic = subst (λ (p : Program). IsSymbolic p.board p.store new.terms new.words new.memory new.self)
    c.program.view_is e.symbolic in
    let turned = subst (λ (p : Program). IsTurn p.board p.store new.terms new.words space.memory new.memory old new.self
    turn) c.program.view_is e.turn in
    let all = subst (λ (p : Program). turn ≡ Finished
    → length old.place.decided ≡ bits_before (microword_of p.board p.store old.place) + 12) c.program.view_is e.all in
    record {
      space_of = space_later program.board space.terms new.terms space.words new.words space.memory new.memory
          e.goes.later e.goes.reads e.goes.workspace running.space_of;
      symbolic = symbolic;
      taken = taken_stays program new.terms new.words space.memory new.memory old new.self turn turned running.taken;
      lines = lines_stay program space.terms new.terms space.words new.words e.goes.more space.memory new.memory old
          new.self turn e.goes.later e.goes.words running.symbolic symbolic turned all running.lines;
    }

pub returns-clause-goes : goal.returns-clause-goes
returns-clause-goes c =
    let place = c.args.board.now.place in
    goes_in_run place _ _ _ _ _ _ c.in_ok-turn.ensures.goes

pub returns-clause-paths : goal.returns-clause-paths
returns-clause-paths c = λ b bits path on.
    let new = c.sym_cycle.new in
    let e = c.in_ok-turn.ensures in
    turns_on_path c.args.program.now c.args.space.now _ b c.args.board.now new.self bits path c.in_ok-turn.turn
    c.requires.running.space_of.workspace c.requires.running.symbolic e.goes
    (subst (λ (p : Program). IsTurn p.board p.store new.terms new.words c.args.space.now.memory new.memory
    c.args.board.now new.self c.in_ok-turn.turn) c.program.view_is e.turn) on

pub returns-clause-listed : goal.returns-clause-listed
returns-clause-listed c = λ bound whole bits along.
    let new = c.sym_cycle.new in
    let old = c.args.space.now in
    let e = c.in_ok-turn.ensures in
    turns_along c.args.program.now bound whole bits old _ c.args.board.now new.self c.in_ok-turn.turn
    (subst (λ (p : Program). IsTurn p.board p.store new.terms new.words old.memory new.memory c.args.board.now new.self
    c.in_ok-turn.turn) c.program.view_is e.turn)
    (subst (λ (p : Program). ListsTurn p.board p.store old.memory new.memory c.args.board.now new.self
    (list_of_space old) (list_in new.terms new.words new.memory) c.in_ok-turn.turn) c.program.view_is e.listed) along
