use Rattle.std.proofs.Common.{◌≡◌, ap, arith, subst, sym, ◌∙◌}
use Rattle.mw_cycle.specs.Boundary.{is_named}
use Rattle.mw_segment.proofs.AlongWords.{ends_along, ends_late_along, goes_along}
use Rattle.mw_segment.proofs.Going.{comes_along_by_turn, comes_by_turn, goes_further, turned_finished}
use Rattle.mw_segment.proofs.OnSegment.{ends_late_on_path, ends_on_path, goes_on_path}
use Rattle.mw_segment.proofs.cycles.segment.Goals as goal
use Rattle.mw_symboard.specs.Turns.{other_side}
use Rattle.mw_symmem.specs.declared.turn.Turn.TheVariants.{Ask, Finished}
use Rattle.mw_symmem.specs.Memory.{writes_of}
use Rattle.mw_term.specs.declared.side.Side.{Side}

pub returns-in-Ask-clause-goes : goal.returns-in-Ask-clause-goes
returns-in-Ask-clause-goes c =
    goes_further c.args.board.now.place c.loop-kind.board.place c.args.space.now c.loop-kind.space c.turn.new.space
    c.loop-kind.invariant.side c.loop-kind.invariant.later c.loop-kind.invariant.line c.loop-kind.invariant.goes
    c.in_ok-kind.ensures.goes

pub returns-in-Ask-clause-paths : goal.returns-in-Ask-clause-paths
returns-in-Ask-clause-paths c =
    comes_by_turn c.args.program.now c.args.space.now c.loop-kind.space c.turn.new.space c.args.board.now
    c.loop-kind.board c.turn.new.board c.in_ok-kind.field-0 (Ask c.in-Ask.kind c.in-Ask.term) c.in-Ask.is
    c.loop-kind.invariant.on_path c.in_ok-kind.ensures.paths

pub returns-in-Ask-clause-listed : goal.returns-in-Ask-clause-listed
returns-in-Ask-clause-listed c =
    comes_along_by_turn c.args.program.now c.args.bound c.args.space.now c.loop-kind.space c.turn.new.space
    c.args.board.now c.loop-kind.board c.turn.new.board c.in_ok-kind.field-0 (Ask c.in-Ask.kind c.in-Ask.term)
    c.in-Ask.is c.loop-kind.invariant.along c.in_ok-kind.ensures.listed

pub returns-then-is_boundary-clause-goes : goal.returns-then-is_boundary-clause-goes
returns-then-is_boundary-clause-goes c =
    goes_further c.args.board.now.place c.loop-kind.board.place c.args.space.now c.loop-kind.space c.turn.new.space
    c.loop-kind.invariant.side c.loop-kind.invariant.later c.loop-kind.invariant.line c.loop-kind.invariant.goes
    c.in_ok-kind.ensures.goes

pub returns-then-is_boundary-clause-paths : goal.returns-then-is_boundary-clause-paths
returns-then-is_boundary-clause-paths c = λ b bits path on.
    let program = c.args.program.now in
    let new = c.turn.new in
    let inv = c.loop-kind.invariant in
    let after = turned_finished program new.space c.loop-kind.board new.board c.in_ok-kind.field-0 c.in_default.is
    c.in_ok-kind.ensures.turned in
    ends_on_path program c.args.bound new.space b new.board bits path (omega (arith, after.2, inv.below))
    (ap (is_named program.addresses) (sym c.at.ensures) ∙ sym c.is_boundary.ensures ∙ c.if-is_boundary.true)
    (comes_by_turn program c.args.space.now c.loop-kind.space new.space c.args.board.now c.loop-kind.board new.board
    c.in_ok-kind.field-0 Finished c.in_default.is inv.on_path c.in_ok-kind.ensures.paths b bits path on)

pub returns-then-is_boundary-clause-listed : goal.returns-then-is_boundary-clause-listed
returns-then-is_boundary-clause-listed c = λ whole bits along.
    let program = c.args.program.now in
    let new = c.turn.new in
    ends_along program c.args.bound whole bits new.space new.board
    (ap (is_named program.addresses) (sym c.at.ensures) ∙ sym c.is_boundary.ensures ∙ c.if-is_boundary.true)
    (comes_along_by_turn program c.args.bound c.args.space.now c.loop-kind.space new.space c.args.board.now
    c.loop-kind.board new.board c.in_ok-kind.field-0 Finished c.in_default.is c.loop-kind.invariant.along
    c.in_ok-kind.ensures.listed whole bits along)

pub returns-then-cycles-bound-clause-goes : goal.returns-then-cycles-bound-clause-goes
returns-then-cycles-bound-clause-goes c =
    goes_further c.args.board.now.place c.loop-kind.board.place c.args.space.now c.loop-kind.space c.turn.new.space
    c.loop-kind.invariant.side c.loop-kind.invariant.later c.loop-kind.invariant.line c.loop-kind.invariant.goes
    c.in_ok-kind.ensures.goes

pub returns-then-cycles-bound-clause-paths : goal.returns-then-cycles-bound-clause-paths
returns-then-cycles-bound-clause-paths c = λ b bits path on.
    let program = c.args.program.now in
    let new = c.turn.new in
    ends_late_on_path program c.args.bound new.space b new.board bits path
    (omega (arith, c.if-cycles-bound.true, c.cycles.ensures))
    (ap (is_named program.addresses) (sym c.at.ensures) ∙ sym c.is_boundary.ensures ∙ c.if-is_boundary.false)
    (comes_by_turn program c.args.space.now c.loop-kind.space new.space c.args.board.now c.loop-kind.board new.board
    c.in_ok-kind.field-0 Finished c.in_default.is c.loop-kind.invariant.on_path c.in_ok-kind.ensures.paths b bits path
    on)

pub returns-then-cycles-bound-clause-listed : goal.returns-then-cycles-bound-clause-listed
returns-then-cycles-bound-clause-listed c = λ whole bits along.
    let program = c.args.program.now in
    let new = c.turn.new in
    ends_late_along program c.args.bound whole bits new.space new.board
    (omega (arith, c.if-cycles-bound.true, c.cycles.ensures))
    (ap (is_named program.addresses) (sym c.at.ensures) ∙ sym c.is_boundary.ensures ∙ c.if-is_boundary.false)
    (comes_along_by_turn program c.args.bound c.args.space.now c.loop-kind.space new.space c.args.board.now
    c.loop-kind.board new.board c.in_ok-kind.field-0 Finished c.in_default.is c.loop-kind.invariant.along
    c.in_ok-kind.ensures.listed whole bits along)

pub loop-kind-preserved : goal.loop-kind-preserved
loop-kind-preserved c =
    let program = c.args.program.now in
    let new = c.turn.new in
    let inv = c.loop-kind.invariant in
    let e = c.in_ok-kind.ensures in
    let after = turned_finished program new.space c.loop-kind.board new.board c.in_ok-kind.field-0 c.in_default.is
    e.turned in
    let other = ap (is_named program.addresses) (sym c.at.ensures) ∙ sym c.is_boundary.ensures ∙ c.if-is_boundary.false
    in
    record {
      running = e.running;
      idle = after.0;
      below = omega (arith, inv.below, after.2, c.if-cycles-bound.false, c.cycles.ensures);
      goes = goes_further c.args.board.now.place c.loop-kind.board.place c.args.space.now c.loop-kind.space new.space
          inv.side inv.later inv.line inv.goes e.goes;
      line = λ same. absurd (omega (arith, same, inv.later, after.2));
      side = e.side ∙ inv.side;
      other = subst (λ (s : Side). writes_of new.space.memory (other_side s)
          ≡ writes_of c.loop-kind.space.memory (other_side s)) inv.side e.other ∙ inv.other;
      later = omega (arith, inv.later, after.2);
      reads = omega (arith, inv.reads, e.reads, inv.later, after.2);
      on_path = λ b bits path on.
          goes_on_path program new.space b new.board bits path other
          (comes_by_turn program c.args.space.now c.loop-kind.space new.space c.args.board.now c.loop-kind.board
          new.board c.in_ok-kind.field-0 Finished c.in_default.is inv.on_path e.paths b bits path on);
      along = λ whole bits along.
          goes_along program c.args.bound whole bits new.space new.board after.1
          (omega (arith, inv.below, after.2, c.if-cycles-bound.false, c.cycles.ensures)) other
          (comes_along_by_turn program c.args.bound c.args.space.now c.loop-kind.space new.space c.args.board.now
          c.loop-kind.board new.board c.in_ok-kind.field-0 Finished c.in_default.is inv.along e.listed whole bits along);
    }
