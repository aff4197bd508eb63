use Rattle.std.proofs.lemmas.Result.{IfOk-weaker}
use Rattle.mw_symmach.proofs.Single.{signed_and, signed_or, signed_xor, signed_add, signed_same, signed_less}
use Rattle.mw_symmach.proofs.Single.{signed_differ}
use Rattle.mw_symmach.proofs.nodes.signed.Goals as goal

pub returns-in-And-clause-gives : goal.returns-in-And-clause-gives
returns-in-And-clause-gives c =
    rw c.in-And.is (IfOk-weaker c.add.result _ _
    (λ term gives.
    signed_and c.args.terms.now c.add.new.terms c.args.words.now c.add.new.words c.args.a c.args.b term gives)
    c.add.ensures.gives)

pub returns-in-Or-clause-gives : goal.returns-in-Or-clause-gives
returns-in-Or-clause-gives c =
    rw c.in-Or.is (IfOk-weaker c.add-in-Or.result _ _
    (λ term gives. signed_or c.args.terms.now c.add-in-Or.new.terms c.args.words.now c.add-in-Or.new.words c.args.a
    c.args.b term gives)
    c.add-in-Or.ensures.gives)

pub returns-in-Xor-clause-gives : goal.returns-in-Xor-clause-gives
returns-in-Xor-clause-gives c =
    rw c.in-Xor.is (IfOk-weaker c.add-in-Xor.result _ _
    (λ term gives. signed_xor c.args.terms.now c.add-in-Xor.new.terms c.args.words.now c.add-in-Xor.new.words c.args.a
    c.args.b term gives)
    c.add-in-Xor.ensures.gives)

pub returns-in-Add-clause-gives : goal.returns-in-Add-clause-gives
returns-in-Add-clause-gives c =
    rw c.in-Add.is (IfOk-weaker c.sum.result _ _
    (λ term gives.
    signed_add c.args.terms.now c.sum.new.terms c.args.words.now c.sum.new.words c.args.a c.args.b term gives)
    c.sum.ensures.gives)

pub returns-in-Same-clause-gives : goal.returns-in-Same-clause-gives
returns-in-Same-clause-gives c =
    rw c.in-Same.is (IfOk-weaker c.add-in-Same.result _ _
    (λ term gives. signed_same c.args.terms.now c.add-in-Same.new.terms c.args.words.now c.add-in-Same.new.words
    c.args.a c.args.b term gives)
    c.add-in-Same.ensures.gives)

pub returns-in-Less-clause-gives : goal.returns-in-Less-clause-gives
returns-in-Less-clause-gives c =
    rw c.in-Less.is (IfOk-weaker c.add-in-Less.result _ _
    (λ term gives. signed_less c.args.terms.now c.add-in-Less.new.terms c.args.words.now c.add-in-Less.new.words
    c.args.a c.args.b term gives)
    c.add-in-Less.ensures.gives)

pub returns-in-Differ-clause-gives : goal.returns-in-Differ-clause-gives
returns-in-Differ-clause-gives c =
    rw c.in-Differ.is (IfOk-weaker c.unequal.result _ _
    (λ term gives. signed_differ c.args.terms.now c.unequal.new.terms c.args.words.now c.unequal.new.words c.args.a
    c.args.b term gives)
    c.unequal.ensures.gives)

pub returns-in-And-clause-listed : goal.returns-in-And-clause-listed
returns-in-And-clause-listed c = rw c.in-And.is c.add.ensures.listed

pub returns-in-Or-clause-listed : goal.returns-in-Or-clause-listed
returns-in-Or-clause-listed c = rw c.in-Or.is c.add-in-Or.ensures.listed

pub returns-in-Xor-clause-listed : goal.returns-in-Xor-clause-listed
returns-in-Xor-clause-listed c = rw c.in-Xor.is c.add-in-Xor.ensures.listed

pub returns-in-Add-clause-listed : goal.returns-in-Add-clause-listed
returns-in-Add-clause-listed c = rw c.in-Add.is c.sum.ensures.listed

pub returns-in-Sub-clause-listed : goal.returns-in-Sub-clause-listed
returns-in-Sub-clause-listed c = rw c.in-Sub.is c.difference.ensures.listed

pub returns-in-Same-clause-listed : goal.returns-in-Same-clause-listed
returns-in-Same-clause-listed c = rw c.in-Same.is c.add-in-Same.ensures.listed

pub returns-in-Differ-clause-listed : goal.returns-in-Differ-clause-listed
returns-in-Differ-clause-listed c = rw c.in-Differ.is c.unequal.ensures.listed

pub returns-in-Less-clause-listed : goal.returns-in-Less-clause-listed
returns-in-Less-clause-listed c = rw c.in-Less.is c.add-in-Less.ensures.listed
