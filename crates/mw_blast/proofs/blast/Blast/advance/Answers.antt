use Rattle.std.proofs.Common.{◌≡◌, ℕ, ◌-◌, length, take, ap, sym, ◌∙◌}
use Rattle.mw_blast.specs.declared.fault.BlastFault.TheVariants.{NoMemory}
use Rattle.mw_blast.proofs.Operations.{handed_on}
use Rattle.mw_blast.proofs.Waiting.{last, waits_inside, waits_room, waits_operands, waits_cause, operand_waits}
use Rattle.mw_blast.proofs.Waiting.{term_made}
use Rattle.mw_blast.proofs.blast.Blast.advance.Goals as goal

pub op-requires : goal.op-requires
op-requires c =
    let at : c.last_of-last.result ≡ last c.args.waiting.now.items =
    c.last_of-last.ensures ∙ ap last c.deref.ensures.value in
    waits_inside c.args.terms.now c.args.self.now c.requires.way.0 c.last_of-last.result c.args.waiting.now.items
    c.requires.way.2 c.requires.some at c.requires.way.1

pub make-requires-clause-there : goal.make-requires-clause-there
make-requires-clause-there c =
    let at : c.last_of-last.result ≡ last c.args.waiting.now.items =
    c.last_of-last.ensures ∙ ap last c.deref.ensures.value in
    waits_inside c.args.terms.now c.args.self.now c.requires.way.0 c.last_of-last.result c.args.waiting.now.items
    c.requires.way.2 c.requires.some at c.requires.way.1

pub make-requires-clause-room : goal.make-requires-clause-room
make-requires-clause-room c =
    let at : c.last_of-last.result ≡ last c.args.waiting.now.items =
    c.last_of-last.ensures ∙ ap last c.deref.ensures.value in
    waits_room c.args.terms.now c.args.self.now c.requires.way.0 c.last_of-last.result c.args.waiting.now.items
    c.requires.way.2 c.requires.some at

pub make-requires-clause-operands : goal.make-requires-clause-operands
make-requires-clause-operands c = λ other also.
    waits_operands c.args.terms.now c.args.self.now c.last_of-last.result c.op.result other c.op.ensures.exact
    (sym c.in_default.ensures) also

pub returns-in_err-wait-clause-over : goal.returns-in_err-wait-clause-over
returns-in_err-wait-clause-over c =
    handed_on c.from_residual.result NoMemory (λ x. Unit {0}) _ c.from_residual.ensures.1 (λ whole way. tt)

pub returns-in-Some-clause-way : goal.returns-in-Some-clause-way
returns-in-Some-clause-way c = λ whole way.
    let at : c.last_of-last.result ≡ last c.args.waiting.now.items =
    c.last_of-last.ensures ∙ ap last c.deref.ensures.value in
    (operand_waits c.args.terms.now c.args.self.now whole c.last_of-last.result c.in-Some.operand c.op.result
    c.args.waiting.now.items c.wait.new.waiting.items way c.requires.some at c.op.ensures.table c.op.ensures.exact
    (sym c.in-Some.ensures) c.in_ok-wait.ensures).way

pub returns-in-Some-clause-nearer : goal.returns-in-Some-clause-nearer
returns-in-Some-clause-nearer c = λ whole way.
    let at : c.last_of-last.result ≡ last c.args.waiting.now.items =
    c.last_of-last.ensures ∙ ap last c.deref.ensures.value in
    (operand_waits c.args.terms.now c.args.self.now whole c.last_of-last.result c.in-Some.operand c.op.result
    c.args.waiting.now.items c.wait.new.waiting.items way c.requires.some at c.op.ensures.table c.op.ensures.exact
    (sym c.in-Some.ensures) c.in_ok-wait.ensures).nearer

pub returns-in_err-make-clause-over : goal.returns-in_err-make-clause-over
returns-in_err-make-clause-over c =
    let at : c.last_of-last.result ≡ last c.args.waiting.now.items =
    c.last_of-last.ensures ∙ ap last c.deref.ensures.value in
    handed_on c.from_residual-in_err-make.result c.in_err-make.field-0.0 (λ x. Unit {0}) _
    c.from_residual-in_err-make.ensures.1
    (λ whole way. waits_cause c.args.terms.now c.args.self.now whole c.last_of-last.result c.args.budget
    c.args.waiting.now.items c.in_err-make.field-0.0 way c.requires.some at c.in_err-make.ensures.over)

pub returns-clause-way : goal.returns-clause-way
returns-clause-way c = λ whole way.
    let at : c.last_of-last.result ≡ last c.args.waiting.now.items =
    c.last_of-last.ensures ∙ ap last c.deref.ensures.value in
    (term_made c.args.terms.now c.args.self.now c.make.new.self whole c.last_of-last.result c.in_ok-make.ensures.made.0
    c.args.waiting.now.items c.pop.new.self.items way c.requires.some at c.in_ok-make.ensures.made.1
    (c.pop.ensures.rest ∙ ap (λ (n : ℕ). take (n - 1) c.args.waiting.now.items)
    (sym c.deref.ensures.len ∙ ap length c.deref.ensures.value))).way

pub returns-clause-nearer : goal.returns-clause-nearer
returns-clause-nearer c = λ whole way.
    let at : c.last_of-last.result ≡ last c.args.waiting.now.items =
    c.last_of-last.ensures ∙ ap last c.deref.ensures.value in
    (term_made c.args.terms.now c.args.self.now c.make.new.self whole c.last_of-last.result c.in_ok-make.ensures.made.0
    c.args.waiting.now.items c.pop.new.self.items way c.requires.some at c.in_ok-make.ensures.made.1
    (c.pop.ensures.rest ∙ ap (λ (n : ℕ). take (n - 1) c.args.waiting.now.items)
    (sym c.deref.ensures.len ∙ ap length c.deref.ensures.value))).nearer
