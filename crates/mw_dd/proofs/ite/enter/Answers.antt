use Rattle.std.proofs.Common.{◌≡◌, ◌∙◌, ℕ, ◌≤◌, ◌++◌, ◌∷◌, [], Err, IsErrOf, false, length, ap, arith, refl, subst, sym}
use Rattle.mw_dd.specs.declared.memo.Memo.{Memo}
use Rattle.mw_dd.specs.Memos.{IsBegun}
use Rattle.mw_dd.specs.declared.nodes.Triple.{Triple}
use Rattle.mw_dd.specs.declared.notes.Waiting.{Waiting}
use Rattle.mw_dd.specs.declared.variable.Indexed.{Indexed}
use Rattle.mw_dd.specs.Steps.{size}
use Rattle.mw_dd.proofs.Cofactors.{end_among}
use Rattle.mw_dd.proofs.Memos.{end_result, over_here}
use Rattle.mw_dd.proofs.Waiting.{waiting_there, waiting_left, known_ended, entered, some_steps, entered_steps}
use Rattle.mw_dd.proofs.ite.enter.Goals as goal

other_err : {A B E : Type 0} (x y : E) → IsErrOf {T = A} {E = E} (Err x) y → IsErrOf {T = B} {E = E} (Err x) y
other_err x y same = let e : x ≡ y = cc in ap Err e

pub returns-in-Some-clause-noted : goal.returns-in-Some-clause-noted
returns-in-Some-clause-noted c = λ whole noted waiting.
    let nodes = c.args.nodes.now in
    let triples = c.args.notes.now.memo.triples in
    let there = waiting_there nodes triples c.args.budget whole c.args.notes.now.waiting.items c.args.t noted.there
    waiting in (
      noted,
      (
        c.args.t,
        waiting,
        record {
          result = end_result nodes c.args.t c.in-Some.result there c.in-Some.ensures.some;
          among = λ b counts. end_among nodes triples c.args.t c.in-Some.result c.in-Some.ensures.some;
        },
      ),
    )

pub returns-in-Some-clause-nearer : goal.returns-in-Some-clause-nearer
returns-in-Some-clause-nearer c = omega (arith, some_steps (size c.args.t))

pub returns-in-Some-result-clause-noted : goal.returns-in-Some-result-clause-noted
returns-in-Some-result-clause-noted c = λ whole noted waiting. (
  noted,
  (
    c.args.t,
    waiting,
    known_ended c.args.nodes.now c.args.notes.now c.args.budget whole c.args.t c.in-Some-result.result noted waiting
        c.in-Some-result.ensures.met c.in-Some-result.ensures.kept,
  ),
)

pub returns-in-Some-result-clause-nearer : goal.returns-in-Some-result-clause-nearer
returns-in-Some-result-clause-nearer c = omega (arith, some_steps (size c.args.t))

pub returns-in-Err-clause-over : goal.returns-in-Err-clause-over
returns-in-Err-clause-over c = λ same whole noted waiting.
    let nodes = c.args.nodes.now in
    let memo = c.args.notes.now.memo in
    let items = c.args.notes.now.waiting.items in
    let over = c.in-Err.ensures.over (other_err c.in-Err.e _ same) in
    let counted = noted.counted over.0 over.1 in (
      over.0,
      over.1,
      over_here nodes noted.reduced memo counted.keys c.args.t
          (waiting_there nodes memo.triples c.args.budget whole items c.args.t noted.there waiting)
          (c.in_default.ensures.none refl) (c.in_default-result.ensures.absent refl over.0 over.1) whole noted.there
          (waiting_left nodes noted.reduced memo c.args.budget whole noted.there over.0 over.1 items c.args.t counted.left
          waiting)
          counted.left over.0 over.2,
    )

-- what waits now
abbrev own : Triple → (place : ℕ) → Indexed → (at_high : Triple) → (low : ℕ) → Waiting
own t place top at_high low = record {
  triple = t;
  place = place;
  top = top;
  at_high = at_high;
  has_low = false;
  low = low;
}

pub returns-clause-noted : goal.returns-clause-noted
returns-clause-noted c = λ whole noted waiting.
    let old = c.args.notes.now in
    let halves = c.halve-halves in
    let w = own c.args.t c.in-Ok.place c.top-top.result halves.result.high c.at.result in
    entered c.args.nodes.now old c.wait.new.self c.args.budget whole c.args.t halves.result.low w noted waiting refl refl
    c.top-top.ensures halves.ensures.high halves.ensures.low (c.in_default.ensures.none refl)
    (c.in_default-result.ensures.absent refl)
    (λ b counts. subst (λ (m : Memo). IsBegun old.memo m c.args.t c.in-Ok.place × (length m.triples ≤ b))
    (sym c.wait.ensures.memo) (c.in-Ok.ensures.begun b counts))
    (c.wait.ensures.results ∙ c.begin.ensures.results) (rw c.begin.ensures.waiting at c.in_ok-wait.ensures.waits)

pub returns-clause-nearer : goal.returns-clause-nearer
returns-clause-nearer c =
    let halves = c.halve-halves in
    let w = own c.args.t c.in-Ok.place c.top-top.result halves.result.high c.at.result in
    let waits : c.wait.new.self.waiting.items ≡ c.args.notes.now.waiting.items ++ w ∷ [] =
    rw c.begin.ensures.waiting at c.in_ok-wait.ensures.waits in
    entered_steps c.args.notes.now.waiting.items c.wait.new.self.waiting.items w c.args.t halves.result.low waits refl
    halves.ensures.high.earlier halves.ensures.low.earlier
