use Rattle.std.proofs.Common.{◌≡◌, ◌∙◌, ◌<◌, List, subst, sym, ap, arith, length}
use Rattle.std.specs.Prelude.{All}
use Rattle.mw_cases.specs.declared.operation.Operation.{Operation}
use Rattle.mw_cases.specs.Operations.{instruction_of, IsOperation}
use Rattle.mw_cases.proofs.Values.{stands_there, instruction_count, instruction_registers}
use Rattle.mw_cases.proofs.instructions.Instructions.operations.Goals as goal

pub index-requires : goal.index-requires
index-requires c =
    let count : length c.args.self.now.operations.items ≡ 256 =
    ap length c.args.self.now.are_of_number ∙ instruction_count c.args.self.now.number in
    omega arith

-- what is lent is the instruction
is_instruction : (c : goal.After-as_slice)
    → c.as_slice.result.now ≡ instruction_of c.args.self.now.number c.args.instruction
is_instruction c =
    let self = c.args.self.now in
    let below : c.from.result < 256 = omega arith in
    c.as_slice.ensures
    ∙ stands_there self.number c.from.result self.operations.items _ self.are_of_number below c.index.ensures
    ∙ ap (instruction_of self.number) c.from.ensures

pub returns-clause-exact : goal.returns-clause-exact
returns-clause-exact c = is_instruction c

pub returns-clause-registers : goal.returns-clause-registers
returns-clause-registers c =
    subst (λ (os : List Operation). All IsOperation os) (sym (is_instruction c))
    (instruction_registers c.args.self.now.number c.args.instruction)
