use Rattle.std.proofs.Common.{◌≡◌, ◌∙◌, length, ap, subst}
use Rattle.mw_board.specs.declared.parts.BoardParts.{BoardParts}
use Rattle.mw_symmem.specs.Memory.{IsOfWidth}
use Rattle.mw_symboard.specs.Made.{IsPart}
use Rattle.mw_symboard.proofs.Fitting.{fits_tab, wide_tab, map_size_is}
use Rattle.mw_symboard.proofs.Growing.{grew_then}
use Rattle.mw_symboard.proofs.Standing.{part_stays}
use Rattle.mw_term.specs.WordList.{list_of, with_part, with_word}
use Rattle.mw_term.specs.declared.op.Op.TheVariants.{Tab}
use Rattle.mw_symboard.proofs.address.entry.Goals as goal

pub word-requires-clause-fits : goal.word-requires-clause-fits
word-requires-clause-fits c =
    let board = c.args.board.now in
    let e = c.in_ok-index.ensures in
    let t1 = c.part.new.terms in
    let wide =
    subst (λ (p : BoardParts). IsOfWidth t1 p.map_bits c.in_ok-index.index) c.parts-parts.ensures.exact e.wide in
    fits_tab t1 board.map_bits c.in_ok-index.index wide
    (ap length (e.grew.1.extends.map ∙ c.requires.map) ∙ c.parts-parts.ensures.valid.map.size
    ∙ map_size_is board.map_bits c.requires.some)

pub returns-clause-is : goal.returns-clause-is
returns-clause-is c =
    let board = c.args.board.now in
    let t1 = c.part.new.terms in
    let index = c.in_ok-index.index in
    let width : c.bits-width.result ≡ board.width = c.bits-width.ensures.exact ∙ c.width.ensures.exact in
    let narrow = subst (λ (p : BoardParts). IsPart t1 c.bits-width.result c.args.ir p.map_low p.map_bits index)
    c.parts-parts.ensures.exact c.in_ok-index.ensures.is in
    let is = subst (λ w. IsPart t1 w c.args.ir board.map_low board.map_bits index) width narrow in (
      index,
      part_stays t1 c.word.new.terms board.width c.args.ir board.map_low board.map_bits index
          c.in_ok-term.ensures.grew.1.extends is,
      c.in_ok-term.ensures.is,
    )

pub returns-clause-wide : goal.returns-clause-wide
returns-clause-wide c =
    wide_tab c.part.new.terms c.word.new.terms c.in_ok-index.index c.in_ok-term.term c.in_ok-term.ensures.made

pub returns-clause-grew : goal.returns-clause-grew
returns-clause-grew c =
    grew_then c.args.terms.now c.part.new.terms c.word.new.terms c.args.words.now c.part.new.words c.word.new.words
    c.in_ok-index.ensures.grew c.in_ok-term.ensures.grew

pub returns-clause-listed : goal.returns-clause-listed
returns-clause-listed c = λ reads.
    (let board = c.args.board.now in
    let width : c.bits-width.result ≡ board.width = c.bits-width.ensures.exact ∙ c.width.ensures.exact in
    c.in_ok-term.ensures.listed reads
    ∙ ap (λ x. with_word (Tab x.term) x.list)
    (c.in_ok-index.ensures.listed reads
    ∙ ap (λ (p : BoardParts).
    with_part c.bits-width.result c.args.ir p.map_low p.map_bits (list_of c.args.terms.now.ops c.args.words.now reads))
    c.parts-parts.ensures.exact
    ∙ ap (λ w. with_part w c.args.ir board.map_low board.map_bits (list_of c.args.terms.now.ops c.args.words.now reads))
    width))
