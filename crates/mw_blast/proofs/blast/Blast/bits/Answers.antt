use Rattle.mw_blast.specs.declared.fault.BlastFault.TheVariants.{NoMemory}
use Rattle.mw_blast.specs.Causes.{IsCause}
use Rattle.mw_blast.proofs.Operations.{handed_on}
use Rattle.mw_blast.proofs.blast.Blast.bits.Goals as goal

pub returns-in_err-make_all-clause-over : goal.returns-in_err-make_all-clause-over
returns-in_err-make_all-clause-over c =
    handed_on c.from_residual.result _ (λ x. Unit {0}) (IsCause c.args.terms.now c.args.term c.args.budget)
    c.from_residual.ensures.1 c.in_err-make_all.ensures.over

pub bits_of-requires-clause-of : goal.bits_of-requires-clause-of
bits_of-requires-clause-of c = (c.make_all.new.dds, c.make_all.ensures.of)

pub returns-in_err-copied-clause-over : goal.returns-in_err-copied-clause-over
returns-in_err-copied-clause-over c =
    handed_on c.from_residual-in_err-copied.result NoMemory (λ x. Unit {0})
    (IsCause c.args.terms.now c.args.term c.args.budget) c.from_residual-in_err-copied.ensures.1 tt

pub returns-clause-bits : goal.returns-clause-bits
returns-clause-bits c = rw c.in_ok-copied.ensures (c.bits_of.ensures.are c.make_all.new.dds c.make_all.ensures.of)
