use Rattle.mw_compare.proofs.Options.{some_at}
use Rattle.mw_path.specs.Paths.{path_in}
use Rattle.mw_twinfork.proofs.EndsMet.{case_met}
use Rattle.mw_twinfork.proofs.FoundTwins.{comparison_stops, found_now, found_of}
use Rattle.mw_twinfork.proofs.OthersWait.{terms_compared}
use Rattle.mw_twinfork.proofs.found.sought.Goals as goal

pub returns-in-Ok-None-clause-found : goal.returns-in-Ok-None-clause-found
returns-in-Ok-None-clause-found g c = λ bits gone. (
  c.in-Ok-None.ensures.none c.in-Ok-None.field-0-is bits gone.met,
  c.in-Ok-None.ensures.within c.in-Ok-None.field-0-is bits gone.met,
)

pub starts_at-requires-clause-ground : goal.starts_at-requires-clause-ground
starts_at-requires-clause-ground g c =
    let gone = c.requires in
    (found_now c.args.twins.now.revised c.args.traced.now.course c.first_failing.new.course gone.0 c.in-Ok-Some.given
    c.in-Ok-Some.ensures.stays
    (some_at _ _ c.in-Ok-Some.given c.in-Ok-Some.field-0-is c.in-Ok-Some.ensures.found gone.0 gone.1.met)).stands

pub starts_at-requires-clause-terms : goal.starts_at-requires-clause-terms
starts_at-requires-clause-terms g c =
    terms_compared c.args.twins.now.revised c.args.traced.now.course c.first_failing.new.course
    c.in-Ok-Some.ensures.stays c.requires.1.terms

pub returns-in_ok-starts-in-Ok-Some-clause-found : goal.returns-in_ok-starts-in-Ok-Some-clause-found
returns-in_ok-starts-in-Ok-Some-clause-found g c = λ bits gone.
    let t = c.args.twins.now in
    let new = c.first_failing.new.course in
    found_of t.revised t.nodes new.old_elements.items new.new_elements.items bits new.space c.in-Ok-Some.given _
    (found_now t.revised c.args.traced.now.course new bits c.in-Ok-Some.given c.in-Ok-Some.ensures.stays
    (some_at _ _ c.in-Ok-Some.given c.in-Ok-Some.field-0-is c.in-Ok-Some.ensures.found bits gone.met))
    (c.in_ok-starts-in-Ok-Some.ensures.stands
    (record { revision_is = t.revision_is; block_of = (t.boundary, t.there); block_is = t.block_is }))
    c.in_ok-starts-in-Ok-Some.ensures.assigned

pub returns-in-Err-clause-over : goal.returns-in-Err-clause-over
returns-in-Err-clause-over g c = λ bits gone.
    let t = c.args.twins.now in
    let traced = c.args.traced.now in
    comparison_stops t.revised t.nodes bits c.in-Err.stop
    (case_met t.revised bits (path_in traced.paths) traced.course gone.run.stands gone.met)
    (c.in-Err.ensures.over bits gone.met)
