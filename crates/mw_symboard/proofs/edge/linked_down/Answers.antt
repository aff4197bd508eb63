use Rattle.std.proofs.Common.{◌≡◌, ◌∙◌, refl, ap}
use Rattle.mw_symboard.proofs.Growing.{grew_then, wide_later}
use Rattle.mw_symboard.proofs.Standing.{bit_term_stays, bits_stay}
use Rattle.mw_term.specs.WordList.{Ended, list_of}
use Rattle.mw_cycle.specs.ReadingWords.{BitEnded, bit_ended}
use Rattle.mw_cycle.specs.EdgeWords.{down_words, takes}
use Rattle.mw_symboard.proofs.edge.linked_down.Goals as goal

pub shifted_down-requires-clause-wide : goal.shifted_down-requires-clause-wide
shifted_down-requires-clause-wide c =
    let width : c.bits-width.result ≡ c.args.board.now.width = c.bits-width.ensures.exact ∙ c.width.ensures.exact in
    rw width
    (wide_later c.args.terms.now c.bit.new.terms c.args.words.now c.bit.new.words c.args.board.now.width c.args.shifted
    c.in_ok-high.ensures.grew c.requires.wide)

pub returns-clause-is : goal.returns-clause-is
returns-clause-is c =
    let width : c.bits-width.result ≡ c.args.board.now.width = c.bits-width.ensures.exact ∙ c.width.ensures.exact in
    let e = c.in_ok-term.ensures in
    let is = rw width at e.is in (
      c.in_ok-high.high,
      c.in_ok-term.term,
      refl,
      bit_term_stays c.args.board.now c.bit.new.terms c.shifted_down.new.terms c.args.parts.now c.args.sp
          c.args.sources.now c.args.link c.in_ok-high.high e.grew.1.extends c.in_ok-high.ensures.is,
      is,
    )

pub returns-clause-wide : goal.returns-clause-wide
returns-clause-wide c =
    let width : c.bits-width.result ≡ c.args.board.now.width = c.bits-width.ensures.exact ∙ c.width.ensures.exact in
    rw width at c.in_ok-term.ensures.wide

pub returns-clause-right : goal.returns-clause-right
returns-clause-right c =
    let e = c.in_ok-term.ensures in
    bits_stay c.args.board.now c.bit.new.terms c.shifted_down.new.terms c.args.parts.now c.args.sp c.args.sources.now
    c.bit.new.self e.grew.1.extends e.grew.1.keeps c.in_ok-high.ensures.right

pub returns-clause-grew : goal.returns-clause-grew
returns-clause-grew c =
    grew_then c.args.terms.now c.bit.new.terms c.shifted_down.new.terms c.args.words.now c.bit.new.words
    c.shifted_down.new.words c.in_ok-high.ensures.grew c.in_ok-term.ensures.grew

pub returns-clause-listed : goal.returns-clause-listed
returns-clause-listed c = λ reads.
    (let board = c.args.board.now in
    let first = c.in_ok-high.ensures.listed reads in
    let l = list_of c.bit.new.terms.ops c.bit.new.words reads in
    let width : c.bits-width.result ≡ board.width = c.bits-width.ensures.exact ∙ c.width.ensures.exact in
    ap (λ (x : Ended). takes (bit_ended c.bit.new.self x))
    (c.in_ok-term.ensures.listed reads ∙ ap (λ w. down_words w c.args.shifted c.in_ok-high.high l) width)
    ∙ ap (λ (b : BitEnded). takes (bit_ended b.bits (down_words board.width c.args.shifted b.term b.list))) first)
