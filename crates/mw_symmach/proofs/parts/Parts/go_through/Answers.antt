use Rattle.std.proofs.Common.{◌≡◌, suc, ◌+◌, ◌∷◌, drop, length, arith, sym, ap, ◌∙◌, add-one, drop-cons, refl}
use Rattle.std.specs.Prelude.{Some, None}
use Rattle.mw_macro.specs.Statements.{act_of, acts, next}
use Rattle.mw_symmach.specs.Places.{dropped}
use Rattle.mw_symmach.proofs.Carrying.{next_is, at_position, at_end, right_dropped, reaches_asked, carries_more}
use Rattle.mw_symmach.proofs.Walking.{act_asks, act_done, walks_then}
use Rattle.mw_symmach.proofs.parts.Parts.go_through.Goals as goal

pub act-requires-clause-right : goal.act-requires-clause-right
act-requires-clause-right c =
    let l = c.loop-position in
    let xs = c.args.statements.now in
    let i = l.position in
    let item = c.index-statements-position.result in
    let s = c.args.shape.now in
    let here : drop i xs ≡ item ∷ drop (i + 1) xs = rw add-one (drop-cons xs i item (omega arith)
    ∙ ap (λ x. x ∷ drop (suc i) xs) (sym c.index-statements-position.is)) in
    let now_next = at_position act_of xs i item here in
    let rest = dropped (i + 1) (acts xs) in
    let lold = dropped c.args.from (acts xs) in
    let carries = rw now_next at l.invariant.carries in
    let right = rw now_next at (right_dropped s i (acts xs) c.requires.right) in
    let is = next_is s c.args.terms.now l.terms c.args.words.now l.words c.args.memory.now l.memory c.args.self.now
    l.self lold (act_of item) rest right carries c.requires.few_reads c.requires.few_events in
    is.right

pub act-requires-clause-few_reads : goal.act-requires-clause-few_reads
act-requires-clause-few_reads c =
    let l = c.loop-position in
    let xs = c.args.statements.now in
    let i = l.position in
    let item = c.index-statements-position.result in
    let s = c.args.shape.now in
    let here : drop i xs ≡ item ∷ drop (i + 1) xs = rw add-one (drop-cons xs i item (omega arith)
    ∙ ap (λ x. x ∷ drop (suc i) xs) (sym c.index-statements-position.is)) in
    let now_next = at_position act_of xs i item here in
    let rest = dropped (i + 1) (acts xs) in
    let lold = dropped c.args.from (acts xs) in
    let carries = rw now_next at l.invariant.carries in
    let right = rw now_next at (right_dropped s i (acts xs) c.requires.right) in
    let is = next_is s c.args.terms.now l.terms c.args.words.now l.words c.args.memory.now l.memory c.args.self.now
    l.self lold (act_of item) rest right carries c.requires.few_reads c.requires.few_events in
    is.reads

pub act-requires-clause-few_events : goal.act-requires-clause-few_events
act-requires-clause-few_events c =
    let l = c.loop-position in
    let xs = c.args.statements.now in
    let i = l.position in
    let item = c.index-statements-position.result in
    let s = c.args.shape.now in
    let here : drop i xs ≡ item ∷ drop (i + 1) xs = rw add-one (drop-cons xs i item (omega arith)
    ∙ ap (λ x. x ∷ drop (suc i) xs) (sym c.index-statements-position.is)) in
    let now_next = at_position act_of xs i item here in
    let rest = dropped (i + 1) (acts xs) in
    let lold = dropped c.args.from (acts xs) in
    let carries = rw now_next at l.invariant.carries in
    let right = rw now_next at (right_dropped s i (acts xs) c.requires.right) in
    let is = next_is s c.args.terms.now l.terms c.args.words.now l.words c.args.memory.now l.memory c.args.self.now
    l.self lold (act_of item) rest right carries c.requires.few_reads c.requires.few_events in
    is.events

pub returns-in-Some-clause-reaches : goal.returns-in-Some-clause-reaches
returns-in-Some-clause-reaches c =
    let l = c.loop-position in
    let xs = c.args.statements.now in
    let i = l.position in
    let item = c.index-statements-position.result in
    let s = c.args.shape.now in
    let here : drop i xs ≡ item ∷ drop (i + 1) xs = rw add-one (drop-cons xs i item (omega arith)
    ∙ ap (λ x. x ∷ drop (suc i) xs) (sym c.index-statements-position.is)) in
    let now_next = at_position act_of xs i item here in
    let rest = dropped (i + 1) (acts xs) in
    let lold = dropped c.args.from (acts xs) in
    let carries = rw now_next at l.invariant.carries in
    let done = rw c.in-Some.is at c.in_ok-asked.ensures.done in
    rw now_next (reaches_asked s c.args.terms.now l.terms c.act.new.terms c.args.words.now l.words c.act.new.words
    c.args.memory.now l.memory c.act.new.memory c.args.self.now l.self c.act.new.self lold (act_of item) rest
    c.in-Some.term carries done)

pub loop-position-preserved : goal.loop-position-preserved
loop-position-preserved c =
    let l = c.loop-position in
    let xs = c.args.statements.now in
    let i = l.position in
    let item = c.index-statements-position.result in
    let s = c.args.shape.now in
    let here : drop i xs ≡ item ∷ drop (i + 1) xs = rw add-one (drop-cons xs i item (omega arith)
    ∙ ap (λ x. x ∷ drop (suc i) xs) (sym c.index-statements-position.is)) in
    let now_next = at_position act_of xs i item here in
    let rest = dropped (i + 1) (acts xs) in
    let lold = dropped c.args.from (acts xs) in
    let carries = rw now_next at l.invariant.carries in
    let done = rw c.in_default.is at c.in_ok-asked.ensures.done in
    record {
      carries = carries_more s c.args.terms.now l.terms c.act.new.terms c.args.words.now l.words c.act.new.words
          c.args.memory.now l.memory c.act.new.memory c.args.self.now l.self c.act.new.self lold
          (act_of item) rest carries done;
      listed = walks_then s _ _ _ lold (next (act_of item) rest) rest None (rw now_next at l.invariant.listed)
          (act_done s _ _ (act_of item) rest (rw c.in_default.is at c.in_ok-asked.ensures.listed));
    }

pub returns-clause-reaches : goal.returns-clause-reaches
returns-clause-reaches c =
    let l = c.loop-position in
    let xs = c.args.statements.now in
    let last = at_end act_of xs (length xs) (omega arith) in
    let here = at_end act_of xs l.position (omega arith) in
    rw last (rw here at l.invariant.carries, refl)

pub returns-in-Some-clause-listed : goal.returns-in-Some-clause-listed
returns-in-Some-clause-listed c =
    let l = c.loop-position in
    let xs = c.args.statements.now in
    let i = l.position in
    let item = c.index-statements-position.result in
    let s = c.args.shape.now in
    let here : drop i xs ≡ item ∷ drop (i + 1) xs = rw add-one (drop-cons xs i item (omega arith)
    ∙ ap (λ x. x ∷ drop (suc i) xs) (sym c.index-statements-position.is)) in
    let now_next = at_position act_of xs i item here in
    let rest = dropped (i + 1) (acts xs) in
    let lold = dropped c.args.from (acts xs) in
    rw now_next
    (walks_then s _ _ _ lold (next (act_of item) rest) (next (act_of item) rest) (Some c.in-Some.term)
    (rw now_next at l.invariant.listed)
    (act_asks s _ _ (act_of item) rest c.in-Some.term (rw c.in-Some.is at c.in_ok-asked.ensures.listed)))

pub returns-clause-listed : goal.returns-clause-listed
returns-clause-listed c =
    let l = c.loop-position in
    let xs = c.args.statements.now in
    let last = at_end act_of xs (length xs) (omega arith) in
    let here = at_end act_of xs l.position (omega arith) in
    rw last (rw here at l.invariant.listed)
