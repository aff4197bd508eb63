use Rattle.std.proofs.Common.{[], ◌∷◌, ◌∙◌, ap, refl, Err, Ok}
use Rattle.mw_symmem.proofs.Made.{pair_of}
use Rattle.mw_symmem.proofs.Later.{writes_itself}
use Rattle.mw_symmem.proofs.Lists.{plain_behind}
use Rattle.mw_term.specs.declared.kinds.WordKind.TheVariants.{Probe}
use Rattle.mw_term.specs.WordList.{term_of}
use Rattle.mw_path.specs.Paths.{path_in}
use Rattle.mw_space.specs.declared.space.Space.{Space}
use Rattle.mw_compare.proofs.TermsCompared.{compared_found, compared_goes, compared_over, compared_so, compared_wide, one_on}
use Rattle.mw_compare.proofs.TermsCompared.{two_at_first}
use Rattle.mw_path.proofs.Sharing.{shared_with_more}
use Rattle.mw_compare.proofs.terms.apart.Goals as goal

pub add-requires : goal.add-requires
add-requires g c =
    pair_of c.args.space.now.terms c.requires.wide.0 c.args.a c.args.b c.requires.wide.1 c.requires.wide.2

pub failing-requires-clause-wide : goal.failing-requires-clause-wide
failing-requires-clause-wide g c =
    compared_wide c.args.space.now.terms _ c.args.a c.args.b c.in_ok-same.same c.in_ok-same.ensures.made

pub failing-requires-clause-paths : goal.failing-requires-clause-paths
failing-requires-clause-paths g c =
    let have = c.requires.paths in
    let e = c.in_ok-same.ensures in
    record {
      there = have.there;
      share = shared_with_more c.args.space.now.terms c.add.new.terms c.args.paths.now.places c.args.paths.now.shared
          c.args.paths.now.dds e.extends e.keeps have.share;
    }

pub returns-in-Ok-clause-goes : goal.returns-in-Ok-clause-goes
returns-in-Ok-clause-goes g c =
    let e = c.in_ok-same.ensures in
    record {
      goes = compared_goes _ _ _ _ c.args.space.now.memory c.args.a c.args.b c.in_ok-same.same
          (assumption e)
          c.requires.workspace;
      writes = writes_itself c.args.space.now.memory;
    }

pub returns-in-Ok-clause-probe : goal.returns-in-Ok-clause-probe
returns-in-Ok-clause-probe g c =
    ap (λ ws. term_of ws Probe) c.in_ok-same.ensures.words
    ∙ plain_behind c.args.space.now.words (c.in_ok-same.same ∷ []) Probe

pub returns-in-Ok-clause-compared : goal.returns-in-Ok-clause-compared
returns-in-Ok-clause-compared g c = λ subject.
    let e = c.in_ok-same.ensures in
    let new : Space =
    record { terms = c.add.new.terms; words = c.add.new.self; memory = c.args.space.now.memory } in
    compared_so c.args.nodes c.args.space.now new (path_in c.args.paths.now) subject c.args.a c.args.b c.in_ok-same.same
    (Ok c.in-Ok.found) refl
    (assumption e)
    (compared_found c.args.nodes c.args.space.now new (path_in c.args.paths.now) subject c.in_ok-same.same c.in-Ok.found
    e.extends.map c.in-Ok.ensures.none c.in-Ok.ensures.within c.in-Ok.ensures.first)

pub returns-in-Ok-clause-same : goal.returns-in-Ok-clause-same
returns-in-Ok-clause-same g c = λ none.
    one_on c.args.space.now.terms c.add.new.terms c.args.a c.args.b c.in_ok-same.same (path_in c.args.paths.now)
    c.in_ok-same.ensures.made c.in_ok-same.ensures.keeps c.requires.wide.1.there c.requires.wide.2.there
    (c.in-Ok.ensures.none none)

pub returns-in-Ok-clause-apart : goal.returns-in-Ok-clause-apart
returns-in-Ok-clause-apart g c =
    two_at_first c.args.space.now.terms c.add.new.terms c.args.a c.args.b c.in_ok-same.same (path_in c.args.paths.now)
    c.in-Ok.found c.in_ok-same.ensures.made c.in_ok-same.ensures.keeps c.requires.wide.1.there c.requires.wide.2.there
    c.in-Ok.ensures.first

pub returns-in-Err-clause-compared : goal.returns-in-Err-clause-compared
returns-in-Err-clause-compared g c = λ subject.
    let e = c.in_ok-same.ensures in
    let new : Space =
    record { terms = c.add.new.terms; words = c.add.new.self; memory = c.args.space.now.memory } in
    compared_so c.args.nodes c.args.space.now new (path_in c.args.paths.now) subject c.args.a c.args.b c.in_ok-same.same
    (Err c.stop_of.result) refl
    (assumption e)
    (compared_over c.args.nodes c.args.space.now new _ (path_in c.args.paths.now) subject c.in_ok-same.same
    c.in-Err.fault c.stop_of.result e.extends.map e.table c.in-Err.ensures.over
    (record { over = c.stop_of.ensures.over; none = c.stop_of.ensures.none }))
