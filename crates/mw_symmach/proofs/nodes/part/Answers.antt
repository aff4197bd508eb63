use Rattle.std.proofs.Common.{arith, ◌≡◌, ◌+◌, ◌-◌, sym, ◌∙◌}
use Rattle.mw_term.specs.Table.{term_width}
use Rattle.mw_term.specs.WordList.{list_of}
use Rattle.mw_symmem.proofs.Forms.{fewer_bits}
use Rattle.mw_symmach.proofs.Single.{gives_whole, gives_part}
use Rattle.mw_symmach.proofs.nodes.part.Goals as goal

pub returns-then-width-all-clause-gives : goal.returns-then-width-all-clause-gives
returns-then-width-all-clause-gives c =
    let t = c.args.terms.now in
    let wide : term_width t c.args.whole ≡ c.args.high - c.args.low + 1 = omega arith in
    gives_whole t c.args.words.now c.args.whole c.args.low (c.args.high - c.args.low + 1) c.requires.table
    (record { there = c.requires.there; width_is = wide }) (omega arith)

pub returns-clause-gives : goal.returns-clause-gives
returns-clause-gives c =
    gives_part c.args.terms.now c.add.new.terms c.args.words.now c.add.new.words c.args.whole c.args.low
    (c.args.high - c.args.low + 1) c.in_ok-term.term c.in_ok-term.ensures.gives

pub returns-clause-listed : goal.returns-clause-listed
returns-clause-listed c = λ reads.
    (let t = c.args.terms.now in
    let width = c.args.high - c.args.low + 1 in
    let all = term_width t c.args.whole in
    let differ : ¬ (width ≡ all) = λ same. absurd (omega (arith, same)) in
    c.in_ok-term.ensures.listed reads
    ∙ sym (fewer_bits all c.args.whole c.args.low width (list_of t.ops c.args.words.now reads) differ))
