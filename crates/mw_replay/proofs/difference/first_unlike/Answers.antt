use Rattle.std.proofs.Common.{sym, ◌∙◌, arith, ◌≡◌, ◌≢◌, ◌<◌, length, not, Bool, true, false, refl, min, ap, Some}
use Rattle.mw_replay.proofs.Unlike.{alike, unlike, shorter}
use Rattle.mw_replay.proofs.difference.first_unlike.Goals as goal

-- what a test that was turned over says
turned : (a b c : Bool) → a ≡ not b → a ≡ not c → b ≡ c
turned true true true p q = refl
turned true true false p q = cc
turned true false true p q = cc
turned true false false p q = refl
turned false true true p q = refl
turned false true false p q = cc
turned false false true p q = cc
turned false false false p q = refl

pub returns-then-ne-clause-exact : goal.returns-then-ne-clause-exact
returns-then-ne-clause-exact g c =
    let first : c.loop-n.n < length c.args.first.now = omega arith in
    let second : c.loop-n.n < length c.args.second.now = omega arith in
    let test = turned _ _ false c.ne.ensures c.if-ne.true in
    sym (c.loop-n.invariant ∙ unlike g.T.PartialEq.eq c.args.first.now c.args.second.now c.loop-n.n
    c.index-first-n.result c.index-second-n.result first second c.index-first-n.is c.index-second-n.is test)

pub loop-n-preserved : goal.loop-n-preserved
loop-n-preserved g c =
    let first : c.loop-n.n < length c.args.first.now = omega arith in
    let second : c.loop-n.n < length c.args.second.now = omega arith in
    let test = turned _ _ true c.ne.ensures c.if-ne.false in
    c.loop-n.invariant ∙ alike g.T.PartialEq.eq c.args.first.now c.args.second.now c.loop-n.n
    c.index-first-n.result c.index-second-n.result first second c.index-first-n.is c.index-second-n.is test

pub returns-else-first-second-clause-exact : goal.returns-else-first-second-clause-exact
returns-else-first-second-clause-exact g c =
    let end : c.loop-n.n ≡ min (length c.args.first.now) (length c.args.second.now) = omega arith in
    let same : c.min-shared.result ≡ c.loop-n.n = omega arith in
    let differ : length c.args.first.now ≢ length c.args.second.now = λ e. absurd (omega arith) in
    ap Some same
    ∙ sym (c.loop-n.invariant ∙ shorter g.T.PartialEq.eq c.args.first.now c.args.second.now c.loop-n.n end differ)
