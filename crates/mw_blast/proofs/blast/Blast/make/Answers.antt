use Rattle.std.proofs.Common.{length, ap}
use Rattle.mw_blast.specs.declared.fault.BlastFault.TheVariants.{NoMemory}
use Rattle.mw_blast.specs.Causes.{IsCause}
use Rattle.mw_blast.proofs.Kept.{stays_with_diagrams, made_more}
use Rattle.mw_blast.proofs.Operations.{handed_on}
use Rattle.mw_blast.proofs.Ops.{term_bits}
use Rattle.mw_blast.proofs.Reached.{own_cause}
use Rattle.mw_blast.proofs.blast.Blast.make.Goals as goal

pub op_bits-requires-clause-fits : goal.op_bits-requires-clause-fits
op_bits-requires-clause-fits c = c.op.ensures.fits

pub op_bits-requires-clause-made : goal.op_bits-requires-clause-made
op_bits-requires-clause-made c = c.requires.operands c.op.result c.op.ensures.exact

pub op_bits-requires-clause-of : goal.op_bits-requires-clause-of
op_bits-requires-clause-of c = c.requires.of

pub returns-in-Err-clause-of : goal.returns-in-Err-clause-of
returns-in-Err-clause-of c =
    stays_with_diagrams c.args.terms.now c.args.dds.now c.op_bits.new.dds c.args.self.now c.op_bits.ensures.keeps
    c.requires.of

pub returns-in-Err-clause-over : goal.returns-in-Err-clause-over
returns-in-Err-clause-over c = rw c.of.ensures
    (own_cause c.args.terms.now c.args.term c.args.budget c.op.result c.in-Err.fault c.op.ensures.exact
    c.in-Err.ensures.made)

pub returns-in_err-keep-clause-of : goal.returns-in_err-keep-clause-of
returns-in_err-keep-clause-of c = rw c.in_err-keep.ensures.err
    (stays_with_diagrams c.args.terms.now c.args.dds.now c.op_bits.new.dds c.args.self.now c.op_bits.ensures.keeps
    c.requires.of)

pub returns-in_err-keep-clause-over : goal.returns-in_err-keep-clause-over
returns-in_err-keep-clause-over c =
    handed_on c.from_residual.result NoMemory (λ x. Unit {0}) (IsCause c.args.terms.now c.args.term c.args.budget)
    c.from_residual.ensures.1 tt

pub returns-clause-made : goal.returns-clause-made
returns-clause-made c = (length c.args.self.now.bits, ap (λ made. made.starts) c.in_ok-keep.ensures.ok)

pub returns-clause-of : goal.returns-clause-of
returns-clause-of c =
    let t = c.args.terms.now in
    rw c.in_ok-keep.ensures.ok
    (made_more t c.op_bits.new.dds c.args.self.now c.args.term c.deref.result.now
    (stays_with_diagrams t c.args.dds.now c.op_bits.new.dds c.args.self.now c.op_bits.ensures.keeps c.requires.of)
    c.requires.there c.requires.room
    (rw c.deref.ensures.value
    (term_bits t c.op_bits.new.dds c.args.term c.op.result c.in-Ok.bits.items c.op.ensures.table c.op.ensures.exact
    c.in-Ok.ensures.made)))
