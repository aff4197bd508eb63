use Rattle.std.proofs.Common.{arith}
use Rattle.std.proofs.lemmas.Result.{IfOk-weaker}
use Rattle.mw_dd.specs.Nodes.{function_of}
use Rattle.mw_check.specs.Equal.{IsAnswer}
use Rattle.mw_check.specs.Question.{asked_of}
use Rattle.mw_check.proofs.Answered.{holds_where_same, always_agree, first_difference, cause_answer, cause_numbered}
use Rattle.mw_check.proofs.Answered.{end_stands, one_bit}
use Rattle.mw_check.proofs.answer.answer.Goals as goal

pub bits_within-requires : goal.bits_within-requires
bits_within-requires g c = c.requires.list.there

pub unknown-requires : goal.unknown-requires
unknown-requires g c =
    cause_numbered (asked_of c.args.question.now) c.in-Err.fault c.args.terms.now c.args.words.now
    c.args.same c.args.budget
    c.requires.list c.in-Err.ensures.over

pub returns-in-Err : goal.returns-in-Err
returns-in-Err g c =
    let q = asked_of c.args.question.now in
    IfOk-weaker c.unknown.result _ (IsAnswer q c.args.budget)
    (cause_answer q c.in-Err.fault c.args.terms.now c.args.words.now c.args.same c.args.budget c.requires.list
    c.in-Err.ensures.over)
    c.unknown.ensures

pub index-requires : goal.index-requires
index-requires g c =
    let one = one_bit (asked_of c.args.question.now) c.args.terms.now c.args.words.now c.args.same c.bits_within.new.dds
    c.in-Ok.bits.items c.requires.list c.in-Ok.ensures.bits in
    omega (arith, one, c.in-Ok.bits.ok)

pub first_without-requires : goal.first_without-requires
first_without-requires g c =
    (end_stands (asked_of c.args.question.now) c.args.terms.now c.args.words.now c.args.same c.bits_within.new.dds
    c.in-Ok.bits.items c.index.result.now c.requires.list c.in-Ok.ensures.bits c.index.ensures).there

pub returns-in-None : goal.returns-in-None
returns-in-None g c =
    let q = asked_of c.args.question.now in
    let stands = end_stands q c.args.terms.now c.args.words.now c.args.same c.bits_within.new.dds c.in-Ok.bits.items
    c.index.result.now c.requires.list c.in-Ok.ensures.bits c.index.ensures in
    always_agree q (function_of c.bits_within.new.dds c.index.result.now)
    (holds_where_same q c.args.terms.now c.args.words.now c.args.same c.bits_within.new.dds c.index.result.now
    c.requires.list stands)
    (c.in_ok-first_without.ensures.none c.in-None.is)

pub returns : goal.returns
returns g c =
    let q = asked_of c.args.question.now in
    let stands = end_stands q c.args.terms.now c.args.words.now c.args.same c.bits_within.new.dds c.in-Ok.bits.items
    c.index.result.now c.requires.list c.in-Ok.ensures.bits c.index.ensures in
    let first = rw c.in-Some.is at c.in_ok-first_without.ensures.first in
    let values = rw c.as_slice.ensures at c.in_ok-values_of-in-Some.ensures in
    rw values (first_difference q (function_of c.bits_within.new.dds c.index.result.now) c.in-Some.given
    (holds_where_same q c.args.terms.now c.args.words.now c.args.same c.bits_within.new.dds c.index.result.now
    c.requires.list stands) first)
