use Rattle.std.proofs.Common.{◌≡◌, ◌+◌, ◌∙◌, ap, ℕ, length, refl}
use Rattle.std.proofs.lemmas.Bool.{false≢true}
use Rattle.mw_dd.proofs.Order.{not_before_itself}
use Rattle.mw_dd.proofs.Values.{grows-push}
use Rattle.mw_dd.proofs.From.{from-after}
use Rattle.mw_dd.proofs.Made.{CanBeMade, reduced-push, found_value, made_value, made_from}
use Rattle.mw_dd.proofs.nodes.make.Goals as goal

pub returns-then-is_redundant-clause-from : goal.returns-then-is_redundant-clause-from
returns-then-is_redundant-clause-from c =
    from-after c.args.nodes.now c.args.node.variable c.args.node.variable c.args.node.low c.requires.low_later
    (not_before_itself c.args.node.variable)

pub returns-in-Some-clause-value : goal.returns-in-Some-clause-value
returns-in-Some-clause-value c = λ given.
    rw c.at.ensures
    (found_value c.args.nodes.now c.requires.reduced c.args.node c.in-Some.place given c.in-Some.ensures.found)

can : (c : goal.After-at-2) → CanBeMade c.args.nodes.now c.args.node
can c = record {
  bit = c.requires.bit;
  low = c.requires.low;
  high = c.requires.high;
  low_later = c.requires.low_later;
  high_later = c.requires.high_later;
}

pub returns-clause-reduced : goal.returns-clause-reduced
returns-clause-reduced c =
    rw c.in_ok-place.ensures.items
    (reduced-push c.args.nodes.now c.requires.reduced c.args.node (can c)
    (λ same. false≢true (c.if-is_redundant.ensures.1 same)) (c.in_default.ensures.absent refl))

pub returns-clause-grows : goal.returns-clause-grows
returns-clause-grows c = rw c.in_ok-place.ensures.items (grows-push c.args.nodes.now c.args.node)

pub returns-clause-value : goal.returns-clause-value
returns-clause-value c = λ given.
    let place : c.at-2.result ≡ length c.args.nodes.now + 2 =
    c.at-2.ensures ∙ ap (λ (n : ℕ). n + 2) c.in_ok-place.ensures.place in
    rw (place, c.in_ok-place.ensures.items) (made_value c.args.nodes.now c.args.node (can c) given)

pub returns-clause-from : goal.returns-clause-from
returns-clause-from c =
    let place : c.at-2.result ≡ length c.args.nodes.now + 2 =
    c.at-2.ensures ∙ ap (λ (n : ℕ). n + 2) c.in_ok-place.ensures.place in
    rw (place, c.in_ok-place.ensures.items) (made_from c.args.nodes.now c.args.node)
