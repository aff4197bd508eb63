use Rattle.mw_term.specs.Functions.{never, always}
use Rattle.mw_blast.specs.declared.rows.Row.TheVariants.{Not, And, Or, Xor, Carry, Equal, Less, Choice}
use Rattle.mw_blast.proofs.Bits.{stays}
use Rattle.mw_blast.proofs.Operations.{alone_step, along_step}
use Rattle.mw_blast.proofs.rows.Row.step.Goals as goal

pub returns-in-Not-clause-made : goal.returns-in-Not-clause-made
returns-in-Not-clause-made c = λ A B K a b k.
    rw c.in-Not.is
    (alone_step c.inverse.new.dds Not A B K c.args.budget c.args.carried c.inverse.result c.alone.result c.alone.ensures
    (c.inverse.ensures.made A a)
    (stays _ _ _ K c.inverse.ensures.keeps k))

pub returns-in-And-clause-made : goal.returns-in-And-clause-made
returns-in-And-clause-made c = λ A B K a b k.
    rw c.in-And.is
    (alone_step c.operate.new.dds And A B K c.args.budget c.args.carried c.operate.result c.alone-in-And.result
    c.alone-in-And.ensures (c.operate.ensures.made A B never a b
    (record { there = c.constant-never.ensures.there; exact = c.constant-never.ensures.exact }))
    (stays _ _ _ K c.operate.ensures.keeps k))

pub returns-in-Or-clause-made : goal.returns-in-Or-clause-made
returns-in-Or-clause-made c = λ A B K a b k.
    rw c.in-Or.is
    (alone_step c.operate-in-Or.new.dds Or A B K c.args.budget c.args.carried c.operate-in-Or.result
    c.alone-in-Or.result c.alone-in-Or.ensures (c.operate-in-Or.ensures.made A always B a
    (record { there = c.constant-always.ensures.there; exact = c.constant-always.ensures.exact }) b)
    (stays _ _ _ K c.operate-in-Or.ensures.keeps k))

pub returns-in-Xor-clause-made : goal.returns-in-Xor-clause-made
returns-in-Xor-clause-made c = λ A B K a b k.
    rw c.in-Xor.is
    (alone_step c.difference.new.dds Xor A B K c.args.budget c.args.carried c.difference.result c.alone-in-Xor.result
    c.alone-in-Xor.ensures (c.difference.ensures.made A B a b)
    (stays _ _ _ K c.difference.ensures.keeps k))

pub returns-in-Carry-clause-made : goal.returns-in-Carry-clause-made
returns-in-Carry-clause-made c = λ A B K a b k.
    rw c.in-Carry.is
    (along_step c.carry.new.dds Carry A B K c.args.budget c.carry.result c.along.result c.along.ensures
    (c.carry.ensures.made A B K a b k) (λ x stands. stands))

pub returns-in-Equal-clause-made : goal.returns-in-Equal-clause-made
returns-in-Equal-clause-made c = λ A B K a b k.
    rw c.in-Equal.is
    (along_step c.equal.new.dds Equal A B K c.args.budget c.equal.result c.along-in-Equal.result
    c.along-in-Equal.ensures (c.equal.ensures.made A B K a b k) (λ x stands. stands))

pub returns-in-Less-clause-made : goal.returns-in-Less-clause-made
returns-in-Less-clause-made c = λ A B K a b k.
    rw c.in-Less.is
    (along_step c.less.new.dds Less A B K c.args.budget c.less.result c.along-in-Less.result c.along-in-Less.ensures
    (c.less.ensures.made A B K a b k) (λ x stands. stands))

pub returns-in-Choice-clause-made : goal.returns-in-Choice-clause-made
returns-in-Choice-clause-made c = λ A B K a b k.
    rw c.in-Choice.is
    (alone_step c.operate-in-Choice.new.dds Choice A B K c.args.budget c.args.carried c.operate-in-Choice.result
    c.alone-in-Choice.result c.alone-in-Choice.ensures (c.operate-in-Choice.ensures.made K A B k a b)
    (stays _ _ _ K c.operate-in-Choice.ensures.keeps k))
