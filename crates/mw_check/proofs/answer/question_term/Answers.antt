use Rattle.std.proofs.Common.{[]}
use Rattle.mw_term.specs.declared.op.Op.TheVariants.{Eq}
use Rattle.mw_term.specs.Values.{IsTermOf}
use Rattle.mw_term.specs.WordList.{with_word}
use Rattle.mw_symmem.specs.Listed.{Lists}
use Rattle.mw_symmem.specs.Memory.{memory_of}
use Rattle.mw_check.specs.Question.{asked_of}
use Rattle.mw_check.specs.QuestionTerms.{IsListOf}
use Rattle.mw_check.proofs.SideTerms.{after_side, both_ok, comparison_fits, is_list, ready, stands_first}
use Rattle.mw_check.proofs.answer.question_term.Goals as goal

pub expr_term-requires : goal.expr_term-requires
expr_term-requires c =
    let q = asked_of c.args.question.now in
    let elements = c.in_ok-elements.elements.items in
    let declared = rw c.as_slice.ensures at c.in_ok-elements.ensures in
    rw (c.deref.ensures.value, c.new-memory.ensures)
    (ready q c.variables.new.terms c.variables.new.words (memory_of 1 1 [] [] []) elements q.left
    (stands_first q c.variables.new.terms c.variables.new.words elements declared) c.requires.question.left)

pub expr_term-requires-2 : goal.expr_term-requires-2
expr_term-requires-2 c =
    let q = asked_of c.args.question.now in
    let elements = c.in_ok-elements.elements.items in
    let declared = rw c.as_slice.ensures at c.in_ok-elements.ensures in
    let made = rw (c.deref.ensures.value, c.new-memory.ensures) at c.in_ok-left.ensures.made in
    let listed = rw (c.deref.ensures.value, c.new-memory.ensures) at c.in_ok-left.ensures.listed in
    let left = after_side q c.variables.new.terms c.expr_term.new.terms c.variables.new.words c.expr_term.new.words
    (memory_of 1 1 [] [] []) c.expr_term.new.memory elements q.left c.in_ok-left.left
    (stands_first q c.variables.new.terms c.variables.new.words elements declared)
    c.requires.question.left made listed in
    rw c.deref-2.ensures.value
    (ready q c.expr_term.new.terms c.expr_term.new.words c.expr_term.new.memory elements q.right left.stands
    c.requires.question.right)

pub add-requires : goal.add-requires
add-requires c =
    let q = asked_of c.args.question.now in
    let elements = c.in_ok-elements.elements.items in
    let declared = rw c.as_slice.ensures at c.in_ok-elements.ensures in
    let made = rw (c.deref.ensures.value, c.new-memory.ensures) at c.in_ok-left.ensures.made in
    let listed = rw (c.deref.ensures.value, c.new-memory.ensures) at c.in_ok-left.ensures.listed in
    let left = after_side q c.variables.new.terms c.expr_term.new.terms c.variables.new.words c.expr_term.new.words
    (memory_of 1 1 [] [] []) c.expr_term.new.memory elements q.left c.in_ok-left.left
    (stands_first q c.variables.new.terms c.variables.new.words elements declared)
    c.requires.question.left made listed in
    let made_next = rw c.deref-2.ensures.value at c.in_ok-right.ensures.made in
    let listed_next = rw c.deref-2.ensures.value at c.in_ok-right.ensures.listed in
    let right = after_side q c.expr_term.new.terms c.expr_term-2.new.terms c.expr_term.new.words c.expr_term-2.new.words
    c.expr_term.new.memory c.expr_term-2.new.memory elements q.right c.in_ok-right.right left.stands
    c.requires.question.right made_next listed_next in
    comparison_fits q c.variables.new.terms c.expr_term.new.terms c.expr_term-2.new.terms c.variables.new.words
    c.expr_term.new.words c.expr_term-2.new.words c.expr_term.new.memory c.expr_term-2.new.memory
    elements c.in_ok-left.left
    c.in_ok-right.right c.requires.question left right

pub returns : goal.returns
returns c =
    let q = asked_of c.args.question.now in
    let elements = c.in_ok-elements.elements.items in
    let declared = rw c.as_slice.ensures at c.in_ok-elements.ensures in
    let made = rw (c.deref.ensures.value, c.new-memory.ensures) at c.in_ok-left.ensures.made in
    let listed = rw (c.deref.ensures.value, c.new-memory.ensures) at c.in_ok-left.ensures.listed in
    let left = after_side q c.variables.new.terms c.expr_term.new.terms c.variables.new.words c.expr_term.new.words
    (memory_of 1 1 [] [] []) c.expr_term.new.memory elements q.left c.in_ok-left.left
    (stands_first q c.variables.new.terms c.variables.new.words elements declared)
    c.requires.question.left made listed in
    let made_next = rw c.deref-2.ensures.value at c.in_ok-right.ensures.made in
    let listed_next = rw c.deref-2.ensures.value at c.in_ok-right.ensures.listed in
    let right = after_side q c.expr_term.new.terms c.expr_term-2.new.terms c.expr_term.new.words c.expr_term-2.new.words
    c.expr_term.new.memory c.expr_term-2.new.memory elements q.right c.in_ok-right.right left.stands
    c.requires.question.right made_next listed_next in
    let op = Eq c.in_ok-left.left c.in_ok-right.right in
    both_ok (IsTermOf c.expr_term-2.new.terms c.add.new.terms op)
    (Lists (with_word op) c.expr_term-2.new.terms c.add.new.terms c.expr_term-2.new.words c.add.new.self)
    (IsListOf q c.add.new.terms c.add.new.self) c.add.result
    (λ end.
    is_list q c.variables.new.terms c.expr_term.new.terms c.expr_term-2.new.terms c.add.new.terms c.variables.new.words
    c.expr_term.new.words c.expr_term-2.new.words c.add.new.self c.expr_term.new.memory
    c.expr_term-2.new.memory elements
    c.in_ok-left.left c.in_ok-right.right end declared left right c.add.ensures.extends)
    c.add.ensures.made c.add.ensures.listed
