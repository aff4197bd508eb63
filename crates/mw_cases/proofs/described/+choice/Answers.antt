use Rattle.std.proofs.Common.{◌≡◌, ◌-◌, ◌∙◌, map, refl, arith}
use Rattle.std.proofs.lemmas.Nat.{one_shl}
use Rattle.std.proofs.lemmas.Result.{IfOk-weaker}
use Rattle.mw_macro.specs.Statements.{acts, acts_of}
use Rattle.mw_cases.specs.Described.{act_of, choice_of}
use Rattle.mw_cases.proofs.Chosen.{no_bits, halves, chosen}
use Rattle.mw_cases.proofs.described.+choice.Goals as goal

pub choice-requires : goal.choice-requires
choice-requires t c = (omega arith, (omega arith, omega (arith, halves c.args.bits (omega arith))))

pub choice-requires-2 : goal.choice-requires-2
choice-requires-2 t c =
    let half = one_shl (c.args.bits - 1) 16 (omega arith) in
    (omega arith, (omega arith, omega (arith, half, halves c.args.bits (omega arith))))

pub returns-then-bits-eq0 : goal.returns-then-bits-eq0
returns-then-bits-eq0 t c =
    let number = c.args.instructions.now.number in
    let operations = c.operations.result.now in
    IfOk-weaker c.doing_all.result (λ statements. acts statements.items ≡ acts_of (map act_of operations))
    (λ statements. acts statements.items ≡ choice_of number c.args.bits c.args.first)
    (λ statements made.
    made ∙ no_bits number c.args.bits c.args.first operations c.if-bits-eq0.true c.operations.ensures.exact)
    c.doing_all.ensures

pub returns : goal.returns
returns t c =
    rw (c.in_ok-push.ensures.items, c.new-statements.ensures.items)
    (chosen c.args.instructions.now.number c.args.bits c.args.first _ _ _ _ (omega arith) (omega arith) refl
    c.in_ok-choosing.ensures c.in_ok-high.ensures c.in_ok-low.ensures)
