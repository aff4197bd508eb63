use Rattle.std.proofs.Common.{◌≡◌, ◌∙◌, ◌+◌, length, ap, sym}
use Rattle.mw_term.specs.declared.kinds.WordKind.TheVariants.{Input}
use Rattle.mw_term.specs.declared.side.Side.TheVariants.{Board}
use Rattle.mw_cycle.specs.SteadySeries.{Inputs}
use Rattle.mw_symboard.proofs.Sources.{goes_by_input}
use Rattle.mw_symboard.proofs.VariableWidths.{variable_found, wide_variable, widths_with}
use Rattle.mw_term.specs.WordList.{list_of, variable_or, with_variable}
use Rattle.mw_symboard.proofs.source.fresh_input.Goals as goal

pub returns-clause-is : goal.returns-clause-is
returns-clause-is c =
    rw c.in_ok-term.ensures.words
    (variable_found c.args.words.now c.in_ok-term.term (Input c.args.number) c.requires.absent)

pub returns-clause-wide : goal.returns-clause-wide
returns-clause-wide c =
    let width : c.bits.result ≡ c.args.board.now.width = c.bits.ensures.exact ∙ c.width.ensures.exact in
    rw (← width)
    (wide_variable c.args.terms.now c.fresh.new.terms (length c.args.words.now + 1) c.bits.result c.in_ok-term.term
    c.in_ok-term.ensures.made)

pub returns-clause-goes : goal.returns-clause-goes
returns-clause-goes c =
    let e = c.in_ok-term.ensures in
    goes_by_input c.args.number c.args.terms.now c.fresh.new.terms c.args.words.now c.fresh.new.self c.args.memory.now
    c.in_ok-term.term e.words e.extends e.keeps e.table e.of c.requires.workspace

pub returns-clause-inputs : goal.returns-clause-inputs
returns-clause-inputs c =
    let e = c.in_ok-term.ensures in
    let width : c.bits.result ≡ c.args.board.now.width = c.bits.ensures.exact ∙ c.width.ensures.exact in
    let wide = wide_variable c.args.terms.now c.fresh.new.terms (length c.args.words.now + 1) c.bits.result
    c.in_ok-term.term e.made in
    rw e.words
    (widths_with Board c.args.board.now c.args.terms.now c.fresh.new.terms c.args.words.now c.in_ok-term.term Inputs Inputs
    c.args.number e.extends e.keeps c.requires.absent (rw width at wide) c.requires.inputs)

pub returns-clause-listed : goal.returns-clause-listed
returns-clause-listed c = λ reads.
    (let width : c.bits.result ≡ c.args.board.now.width = c.bits.ensures.exact ∙ c.width.ensures.exact in
    c.in_ok-term.ensures.listed reads
    ∙ ap (λ w. with_variable (Input c.args.number) w (list_of c.args.terms.now.ops c.args.words.now reads)) width
    ∙ sym (ap (λ there. variable_or there (Input c.args.number) c.args.board.now.width
    (list_of c.args.terms.now.ops c.args.words.now reads)) c.requires.absent))
