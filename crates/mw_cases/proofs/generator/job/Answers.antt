use Rattle.std.proofs.Common.{◌≡◌, ◌∙◌, ap₂, true, false}
use Rattle.mw_macro.specs.Described.{description_of}
use Rattle.mw_rel.specs.Job.{shape_of, memories_agree}
use Rattle.mw_cases.proofs.Accepted.{elements_are, for_each_other, memories_are_one}
use Rattle.mw_cases.proofs.generator.job.Goals as goal

pub relation-requires : goal.relation-requires
relation-requires c =
    ap₂ shape_of c.in_ok-board.ensures c.in_ok-machine.ensures ∙ elements_are c.args.instructions.now.number

pub new-requires : goal.new-requires
new-requires c = record {
  parts = rw (c.in_ok-board.ensures, c.in_ok-machine.ensures, c.in_ok-relation.ensures)
      (for_each_other c.args.instructions.now.number);
}

pub unreachable-requires : goal.unreachable-requires
unreachable-requires c =
    let board = c.in_ok-board.board in
    let machine = description_of c.in_ok-machine.machine in
    let agree : memories_agree board machine ≡ true =
    ap₂ memories_agree c.in_ok-board.ensures c.in_ok-machine.ensures
    ∙ memories_are_one c.args.instructions.now.number in
    let differ : memories_agree board machine ≡ false = c.in-Err.ensures.err in
    absurd cc
