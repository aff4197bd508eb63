use Rattle.std.proofs.Common.{arith, sym, subst, refl}
use Rattle.mw_dd.specs.Steps.{IsResult}
use Rattle.mw_dd.proofs.Cofactors.{at_most, at_most_before}
use Rattle.mw_dd.proofs.Keeping.{end-within, right-bounds, right-counted, right-made}
use Rattle.mw_dd.proofs.Memos.{end_result}
use Rattle.mw_dd.proofs.operate.operate.Goals as goal

pub returns-in-Some-clause-value : goal.returns-in-Some-clause-value
returns-in-Some-clause-value c =
    end_result c.args.nodes.now c.args.t c.in-Some.result c.requires.there c.in-Some.ensures.some

pub returns-in-Some-clause-within : goal.returns-in-Some-clause-within
returns-in-Some-clause-within c =
    end-within c.args.nodes.now c.args.t c.in-Some.result c.args.budget c.in-Some.ensures.some

-- ---- nothing is counted

pub returns-then-known-clause-right : goal.returns-then-known-clause-right
returns-then-known-clause-right c =
    let free = c.choose.ensures in
    let before = c.args.notes.now.results in
    right-made c.args.nodes.now c.choose.new.nodes before c.choose.new.notes.results c.args.counts.now
    c.is_within.new.bounds free.grows free.reduced free.made
    (right-bounds c.args.nodes.now before c.args.counts.now c.args.bounds.now c.is_within.new.bounds
    c.is_within.ensures.bounded c.requires.right)

-- ---- it is counted

pub returns-in-Err-clause-right : goal.returns-in-Err-clause-right
returns-in-Err-clause-right c =
    let counted = c.choose-2.ensures in
    let before = c.args.notes.now.results in
    right-made c.args.nodes.now c.choose-2.new.nodes before c.choose-2.new.notes.results c.args.counts.now
    c.is_within.new.bounds counted.grows counted.reduced counted.made
    (right-bounds c.args.nodes.now before c.args.counts.now c.args.bounds.now c.is_within.new.bounds
    c.is_within.ensures.bounded c.requires.right)

pub returns-in_err-keep-clause-right : goal.returns-in_err-keep-clause-right
returns-in_err-keep-clause-right c =
    let counted = c.choose-2.ensures in
    let ended = c.in-Ok.ensures.ended in
    right-counted c.args.nodes.now c.choose-2.new.nodes c.args.notes.now.results c.choose-2.new.notes.results
    c.put.new.self c.args.counts.now c.keep.new.self c.args.bounds.now c.is_within.new.bounds c.args.t c.position.result
    c.len-count.result counted.grows counted.reduced counted.made c.is_within.ensures.bounded c.requires.there
    (subst (IsResult c.choose-2.new.nodes c.args.t) (sym c.position.ensures.exact) ended.result)
    (at_most c.choose-2.new.nodes c.choose-2.new.notes.memo.triples c.args.t c.len-count.result
    (ended.among c.args.budget refl) (omega (arith, c.len-count.ensures.exact)))
    c.keep.ensures c.put.ensures c.requires.right

pub returns-clause-right : goal.returns-clause-right
returns-clause-right c =
    let counted = c.choose-2.ensures in
    let ended = c.in-Ok.ensures.ended in
    right-counted c.args.nodes.now c.choose-2.new.nodes c.args.notes.now.results c.choose-2.new.notes.results
    c.put.new.self c.args.counts.now c.keep.new.self c.args.bounds.now c.is_within.new.bounds c.args.t c.position.result
    c.len-count.result counted.grows counted.reduced counted.made c.is_within.ensures.bounded c.requires.there
    (subst (IsResult c.choose-2.new.nodes c.args.t) (sym c.position.ensures.exact) ended.result)
    (at_most c.choose-2.new.nodes c.choose-2.new.notes.memo.triples c.args.t c.len-count.result
    (ended.among c.args.budget refl) (omega (arith, c.len-count.ensures.exact)))
    c.keep.ensures c.put.ensures c.requires.right

pub returns-clause-within : goal.returns-clause-within
returns-clause-within c =
    at_most_before c.args.nodes.now c.choose-2.new.nodes c.choose-2.new.notes.memo.triples c.args.t c.args.budget
    c.choose-2.ensures.grows c.requires.there (c.in-Ok.ensures.ended.among c.args.budget refl)
    (c.in-Ok.ensures.within c.args.budget refl)
