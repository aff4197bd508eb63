use Rattle.std.proofs.Common.{◌≡◌, ◌==◌, refl, sym, ap, ◌∙◌, arith}
use Rattle.mw_debug.specs.Session.{Session, address_after, cycles_until, with_cycles}
use Rattle.mw_debug.specs.Views.{session_seen}
use Rattle.mw_debug.proofs.Until.{all_left, ended, goes_on, one_more, reached}
use Rattle.mw_debug.proofs.session.Session.make_cycles_until.Goals as goal

pub cycles-init : goal.cycles-init
unfolding with_cycles
cycles-init c = record {
  so_far = refl;
  left = all_left (address_after c.args.board.now c.args.store.now.words c.args.env.now c.args.line
      (session_seen c.args.self.now)) c.args.address c.args.limit;
  kept = c.requires.kept;
}

pub returns-then-stands_at-clause-exact : goal.returns-then-stands_at-clause-exact
unfolding cycles_until
returns-then-stands_at-clause-exact c =
    let more = one_more c.args.board.now c.args.store.now.words c.args.env.now c.args.line
    (session_seen c.args.self.now) _ _ c.cycles.counter c.cycles.invariant.so_far c.in_ok-make_cycle.ensures.exact in
    more ∙ ap (with_cycles c.args.board.now c.args.store.now.words c.args.env.now c.args.line
    (session_seen c.args.self.now)) (sym (reached _ c.args.address c.args.limit c.cycles.counter
    c.cycles.invariant.left c.cycles-test.true
    (ap (λ (s : Session). c.args.address == s.now.state.at) (sym more)
    ∙ sym c.stands_at.ensures
    ∙ c.if-stands_at.true)))

pub cycles-preserved : goal.cycles-preserved
cycles-preserved c =
    let more = one_more c.args.board.now c.args.store.now.words c.args.env.now c.args.line
    (session_seen c.args.self.now) _ _ c.cycles.counter c.cycles.invariant.so_far c.in_ok-make_cycle.ensures.exact in
    record {
      so_far = more;
      left = goes_on _ c.args.address c.args.limit c.cycles.counter c.cycles.invariant.left c.cycles-test.true
          (ap (λ (s : Session). c.args.address == s.now.state.at) (sym more)
          ∙ sym c.stands_at.ensures
          ∙ c.if-stands_at.false);
      kept = c.in_ok-make_cycle.ensures.kept;
    }

pub returns-clause-exact : goal.returns-clause-exact
unfolding cycles_until
returns-clause-exact c =
    let all : c.cycles.counter ≡ c.args.limit = omega (arith, c.cycles-test.false, c.cycles.auto.counter-end) in
    c.cycles.invariant.so_far
    ∙ ap (with_cycles c.args.board.now c.args.store.now.words c.args.env.now c.args.line
    (session_seen c.args.self.now)) (all ∙ sym (ended _ c.args.address c.args.limit c.cycles.counter
    c.cycles.invariant.left c.cycles-test.false))
