use Rattle.std.proofs.Common.{◌≡◌, rules, refl, ap, sym}
use Rattle.mw_expr.specs.Tree.{view}
use Rattle.mw_macro.specs.declared.statement.Statement.{the_lemmas}
use Rattle.mw_macro.specs.Statements.{act_of, acts, assign, write, put, take_in, choose}
use Rattle.mw_macro.specs.StepWords.{going}
use Rattle.mw_symmach.proofs.parts.Parts.act.Goals as goal

pub returns-in_ok-assign-in-Assign-clause-done : goal.returns-in_ok-assign-in-Assign-clause-done
returns-in_ok-assign-in-Assign-clause-done c =
    let seen : act_of c.args.statement.now ≡ assign c.in-Assign.target (view c.in-Assign.value) =
    rw c.in-Assign.is (search (rules, the_lemmas)) in
    rw seen (c.in_ok-assign-in-Assign.ensures.acted, refl)

pub returns-in_ok-write-in-Write-clause-done : goal.returns-in_ok-write-in-Write-clause-done
returns-in_ok-write-in-Write-clause-done c =
    let seen : act_of c.args.statement.now ≡ write (view c.in-Write.address) (view c.in-Write.value) =
    rw c.in-Write.is (search (rules, the_lemmas)) in
    rw seen (c.in_ok-write-in-Write.ensures.acted, refl)

pub returns-in_ok-put-in-Put-clause-done : goal.returns-in_ok-put-in-Put-clause-done
returns-in_ok-put-in-Put-clause-done c =
    let seen : act_of c.args.statement.now ≡ put (view c.in-Put.value) = rw c.in-Put.is (search (rules, the_lemmas)) in
    rw seen (c.in_ok-put-in-Put.ensures.acted, refl)

pub returns-in_ok-take-in-Take-clause-done : goal.returns-in_ok-take-in-Take-clause-done
returns-in_ok-take-in-Take-clause-done c =
    let seen : act_of c.args.statement.now ≡ take_in c.in-Take.target = rw c.in-Take.is (search (rules, the_lemmas)) in
    rw seen (c.in_ok-take-in-Take.ensures.acted, refl)

pub returns-in_ok-assign-in-Assign-clause-listed : goal.returns-in_ok-assign-in-Assign-clause-listed
returns-in_ok-assign-in-Assign-clause-listed c = λ bits.
    (let seen : act_of c.args.statement.now ≡ assign c.in-Assign.target (view c.in-Assign.value) =
    rw c.in-Assign.is (search (rules, the_lemmas)) in
    rw seen (ap (going bits) (sym c.in_ok-assign-in-Assign.ensures.listed)))

pub returns-in_ok-write-in-Write-clause-listed : goal.returns-in_ok-write-in-Write-clause-listed
returns-in_ok-write-in-Write-clause-listed c = λ bits.
    (let seen : act_of c.args.statement.now ≡ write (view c.in-Write.address) (view c.in-Write.value) =
    rw c.in-Write.is (search (rules, the_lemmas)) in
    rw seen (ap (going bits) (sym c.in_ok-write-in-Write.ensures.listed)))

pub returns-in_ok-put-in-Put-clause-listed : goal.returns-in_ok-put-in-Put-clause-listed
returns-in_ok-put-in-Put-clause-listed c = λ bits.
    (let seen : act_of c.args.statement.now ≡ put (view c.in-Put.value) = rw c.in-Put.is (search (rules, the_lemmas)) in
    rw seen (ap (going bits) (sym c.in_ok-put-in-Put.ensures.listed)))

pub returns-in_ok-take-in-Take-clause-listed : goal.returns-in_ok-take-in-Take-clause-listed
returns-in_ok-take-in-Take-clause-listed c = λ bits.
    (let seen : act_of c.args.statement.now ≡ take_in c.in-Take.target = rw c.in-Take.is (search (rules, the_lemmas)) in
    rw seen (ap (going bits) (sym c.in_ok-take-in-Take.ensures.listed)))

pub returns-in_ok-term-in-If-clause-listed : goal.returns-in_ok-term-in-If-clause-listed
returns-in_ok-term-in-If-clause-listed c =
    let one = acts c.in-If.first.items in
    let other = acts c.in-If.second.items in
    let seen : act_of c.args.statement.now ≡ choose (view c.in-If.condition) one other =
    rw c.in-If.is (search (rules, the_lemmas)) in
    rw seen (c.in_ok-term-in-If.ensures.listed one other)
