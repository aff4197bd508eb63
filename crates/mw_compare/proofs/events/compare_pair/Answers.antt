use Rattle.std.specs.Prelude.{[], ◌∷◌, None, Ok}
use Rattle.std.proofs.lemmas.Option.{IfSome_then}
use Rattle.std.proofs.lemmas.Result.{IfOk-weaker}
use Rattle.mw_rel.specs.ComparisonWords.{event, with_comparison, with_events}
use Rattle.mw_path.specs.Paths.{path_in}
use Rattle.mw_compare.proofs.ComparingOn.{compares_as}
use Rattle.mw_compare.proofs.Options.{none_or_some}
use Rattle.mw_compare.proofs.EventsCompared.{pair_one, pair_out, pair_skip}
use Rattle.mw_compare.proofs.events.compare_pair.Goals as goal

pub returns-in_default-clause-compared : goal.returns-in_default-clause-compared
returns-in_default-clause-compared g c = λ number.
    compares_as c.args.nodes c.args.space.now c.args.space.now (path_in c.args.paths.now) (λ so_far. so_far)
    (with_events number (c.args.board ∷ []) (c.args.machine ∷ [])) (Ok None)
    (λ so_far same. pair_skip number c.args.board c.args.machine so_far (λ a b is_a is_b.
    none_or_some c.out_of.result a c.in_default.is ((c.out_of.ensures a).1 is_a))) (λ so_far have. have)

pub returns-in_default-clause-same : goal.returns-in_default-clause-same
returns-in_default-clause-same g c = λ none a b is_a is_b.
    absurd (none_or_some c.out_of.result a c.in_default.is ((c.out_of.ensures a).1 is_a))

pub returns-in_default-out_of-clause-compared : goal.returns-in_default-out_of-clause-compared
returns-in_default-out_of-clause-compared g c = λ number.
    compares_as c.args.nodes c.args.space.now c.args.space.now (path_in c.args.paths.now) (λ so_far. so_far)
    (with_events number (c.args.board ∷ []) (c.args.machine ∷ [])) (Ok None)
    (λ so_far same. pair_skip number c.args.board c.args.machine so_far (λ a b is_a is_b.
    none_or_some c.out_of-2.result b c.in_default-out_of.is ((c.out_of-2.ensures b).1 is_b))) (λ so_far have. have)

pub returns-in_default-out_of-clause-same : goal.returns-in_default-out_of-clause-same
returns-in_default-out_of-clause-same g c = λ none a b is_a is_b.
    absurd (none_or_some c.out_of-2.result b c.in_default-out_of.is ((c.out_of-2.ensures b).1 is_b))

pub apart-requires-clause-wide : goal.apart-requires-clause-wide
apart-requires-clause-wide g c =
    c.requires.wide c.in-Some.a c.in-Some-out_of.b ((c.out_of.ensures c.in-Some.a).0 c.in-Some.is)
    ((c.out_of-2.ensures c.in-Some-out_of.b).0 c.in-Some-out_of.is)

pub returns-clause-compared : goal.returns-clause-compared
returns-clause-compared g c = λ number.
    let a = c.in-Some.a in
    let b = c.in-Some-out_of.b in
    compares_as c.args.nodes c.args.space.now c.apart.new.space (path_in c.args.paths.now)
    (with_comparison (event number) a b) (with_events number (c.args.board ∷ []) (c.args.machine ∷ [])) c.apart.result
    (λ so_far same. pair_out number c.args.board c.args.machine a b so_far ((c.out_of.ensures a).0 c.in-Some.is)
    ((c.out_of-2.ensures b).0 c.in-Some-out_of.is)) (c.apart.ensures.compared (event number))

pub returns-clause-same : goal.returns-clause-same
returns-clause-same g c =
    let a = c.in-Some.a in
    let b = c.in-Some-out_of.b in
    IfOk-weaker c.apart.result _ _
    (λ o one none d e is_d is_e.
    pair_one c.apart.new.space (path_in c.args.paths.now) c.args.board c.args.machine a b d e
    ((c.out_of.ensures a).0 c.in-Some.is) ((c.out_of-2.ensures b).0 c.in-Some-out_of.is) is_d is_e (one none))
    c.apart.ensures.same

pub returns-clause-apart : goal.returns-clause-apart
returns-clause-apart g c =
    let a = c.in-Some.a in
    let b = c.in-Some-out_of.b in
    IfOk-weaker c.apart.result _ _
    (λ o two. IfSome_then o two (λ numbers differ. (
      a,
      b,
      (c.out_of.ensures a).0 c.in-Some.is,
      (c.out_of-2.ensures b).0 c.in-Some-out_of.is,
      differ,
    ))) c.apart.ensures.apart
