use Rattle.std.proofs.Common.{[], ap, ap₂, ◌∙◌, subst, sym}
use Rattle.mw_macro.specs.Described.{description_of}
use Rattle.mw_symmem.specs.Memory.{memory_of}
use Rattle.mw_symmach.specs.Turns.{Waits}
use Rattle.mw_symrows.proofs.Underway.{waits_first}
use Rattle.mw_symrows.proofs.stepping.StepRun.new.Goals as goal

pub on-requires-clause-waits : goal.on-requires-clause-waits
on-requires-clause-waits c =
    let machine = c.args.machine.now in
    let d = description_of machine in
    let waits = waits_first d _ _ _ _ _ _ c.is_memory_at_first.ensures machine.is_machine.right
    c.in_ok-registers.ensures.of c.in_ok-registers.ensures.first c.in_ok-registers.ensures.count
    c.in_ok-registers.ensures.registers c.in_ok-registers.ensures.later c.in_ok-request.ensures.wide
    (c.new-memory.ensures
    ∙ ap₂ (λ a w. memory_of a w [] [] []) (ap (λ s. s.address) c.shape.ensures) (ap (λ s. s.word) c.shape-2.ensures)) in
    subst (λ registers.
    Waits d c.make_registers.new.terms c.make_registers.new.words c.new-memory.result registers c.in_ok-request.request)
    (sym c.deref.ensures.value) waits
