use Rattle.std.proofs.Common.{◌≡◌, ◌+◌, ◌∷◌, [], ◌++◌, length, refl, ap, arith, sym, subst, ◌∙◌}
use Rattle.mw_cycle.specs.SteadySeries.{Line, Noise, kind_of}
use Rattle.mw_term.specs.WordList.{list_of, variable, with_variable}
use Rattle.mw_symboard.proofs.VariableWidths.{wide_variable}
use Rattle.mw_symboard.proofs.Variables.{goes_by_own, noise_apart, none_after, other_kept, own_there, widths_after}
use Rattle.mw_symboard.proofs.outside.noise.Goals as goal

pub returns-clause-is : goal.returns-clause-is
returns-clause-is c =
    let fresh = c.requires.fresh in
    let words = subst (λ k. c.fresh.new.self ≡ c.args.words.now ++ variable c.in_ok-term.term k ∷ []) c.noise_kind.ensures
    c.in_ok-term.ensures.words in
    own_there c.args.side Noise refl c.args.cycle c.args.terms.now c.fresh.new.terms c.args.words.now c.fresh.new.self
    c.in_ok-term.term fresh words

pub returns-clause-wide : goal.returns-clause-wide
returns-clause-wide c =
    wide_variable c.args.terms.now c.fresh.new.terms (length c.args.words.now + 1) 14 c.in_ok-term.term
    c.in_ok-term.ensures.made

pub returns-clause-goes : goal.returns-clause-goes
returns-clause-goes c = λ taken before m workspace.
    (let e = c.in_ok-term.ensures in
    let fresh = c.requires.fresh in
    let words = subst (λ k. c.fresh.new.self ≡ c.args.words.now ++ variable c.in_ok-term.term k ∷ []) c.noise_kind.ensures
    c.in_ok-term.ensures.words in
    goes_by_own c.args.side Noise refl c.args.cycle c.args.terms.now c.fresh.new.terms c.args.words.now c.fresh.new.self
    c.in_ok-term.term fresh words taken before (λ is. absurd cc) m
    e.extends e.keeps e.table e.of workspace)

pub returns-clause-widths : goal.returns-clause-widths
returns-clause-widths c = λ board are.
    (let e = c.in_ok-term.ensures in
    let fresh = c.requires.fresh in
    let words = subst (λ k. c.fresh.new.self ≡ c.args.words.now ++ variable c.in_ok-term.term k ∷ []) c.noise_kind.ensures
    c.in_ok-term.ensures.words in
    widths_after c.args.side Noise refl c.args.cycle c.args.terms.now c.fresh.new.terms c.args.words.now c.fresh.new.self
    c.in_ok-term.term fresh words board
    e.extends e.keeps
    (wide_variable c.args.terms.now c.fresh.new.terms (length c.args.words.now + 1) 14 c.in_ok-term.term
    c.in_ok-term.ensures.made) are)

pub returns-clause-none : goal.returns-clause-none
returns-clause-none c =
    let fresh = c.requires.fresh in
    let words = subst (λ k. c.fresh.new.self ≡ c.args.words.now ++ variable c.in_ok-term.term k ∷ []) c.noise_kind.ensures
    c.in_ok-term.ensures.words in
    none_after c.args.side Noise refl c.args.cycle c.args.terms.now c.fresh.new.terms c.args.words.now c.fresh.new.self
    c.in_ok-term.term fresh words
    c.requires.none

pub fresh-requires-clause-own : goal.fresh-requires-clause-own
fresh-requires-clause-own c = rw c.noise_kind.ensures c.requires.fresh

pub returns-clause-line : goal.returns-clause-line
returns-clause-line c =
    let fresh = c.requires.fresh in
    let words = subst (λ k. c.fresh.new.self ≡ c.args.words.now ++ variable c.in_ok-term.term k ∷ []) c.noise_kind.ensures
    c.in_ok-term.ensures.words in
    other_kept c.args.side Noise refl c.args.cycle c.args.terms.now c.fresh.new.terms c.args.words.now c.fresh.new.self
    c.in_ok-term.term fresh words
    (kind_of c.args.side Line c.args.cycle) (noise_apart c.args.side c.args.cycle c.args.cycle)

pub returns-clause-listed : goal.returns-clause-listed
returns-clause-listed c = λ reads.
    (c.in_ok-term.ensures.listed reads
    ∙ ap (λ k. with_variable k 14 (list_of c.args.terms.now.ops c.args.words.now reads)) c.noise_kind.ensures)
