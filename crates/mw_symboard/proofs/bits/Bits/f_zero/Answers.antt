use Rattle.std.proofs.Common.{◌≡◌, ◌∙◌, List, ap, sym}
use Rattle.mw_board.specs.declared.bit.Bit.TheVariants.{FZero}
use Rattle.mw_symboard.proofs.Growing.{grew_none}
use Rattle.mw_symboard.proofs.MadeBits.{late_bits_push, found_late}
use Rattle.mw_symboard.proofs.Standing.{late_bits_stay}
use Rattle.mw_term.specs.WordList.{ended, list_of}
use Rattle.mw_cycle.specs.ReadingWords.{MadeBit, made_term, zero_words}
use Rattle.mw_symboard.proofs.Listing.{late_made}
use Rattle.mw_symboard.proofs.bits.Bits.f_zero.Goals as goal

pub returns-in-Some-clause-is : goal.returns-in-Some-clause-is
returns-in-Some-clause-is c =
    let right = rw (← c.self.view_is) at c.requires.right in
    let found = rw c.deref.ensures.value at c.in-Some.ensures in
    (found_late c.args.board.now c.args.terms.now c.args.parts.now c.args.sp c.args.sources.now c.self.inside.late.items
    FZero c.in-Some.term right found).1

pub returns-in-Some-clause-wide : goal.returns-in-Some-clause-wide
returns-in-Some-clause-wide c =
    let right = rw (← c.self.view_is) at c.requires.right in
    let found = rw c.deref.ensures.value at c.in-Some.ensures in
    (found_late c.args.board.now c.args.terms.now c.args.parts.now c.args.sp c.args.sources.now c.self.inside.late.items
    FZero c.in-Some.term right found).0

pub returns-in-Some-clause-grew : goal.returns-in-Some-clause-grew
returns-in-Some-clause-grew c = grew_none c.args.terms.now c.args.words.now

pub returns-clause-is : goal.returns-clause-is
returns-clause-is c =
    let width : c.bits.result ≡ c.args.board.now.width = c.bits.ensures.exact ∙ c.width.ensures.exact in
    rw width at c.in_ok-term.ensures.is

pub returns-clause-right : goal.returns-clause-right
returns-clause-right c =
    let right = rw (← c.self.view_is) at c.requires.right in
    let width : c.bits.result ≡ c.args.board.now.width = c.bits.ensures.exact ∙ c.width.ensures.exact in
    let e = c.in_ok-term.ensures in
    let is = rw width at e.is in
    let told = c.args.terms.now in
    let tnew = c.is_zero.new.terms in
    rw c.in_ok-push.ensures.items
    (late_bits_push c.args.board.now tnew c.args.parts.now c.args.sp c.args.sources.now c.self.inside.late.items
    (record { bit = FZero; term = c.in_ok-term.term })
    (late_bits_stay c.args.board.now told tnew c.args.parts.now c.args.sp c.args.sources.now c.self.inside.late.items
    e.grew.1.extends e.grew.1.keeps right)
    e.wide is)

pub returns-clause-listed : goal.returns-clause-listed
returns-clause-listed c = λ reads.
    (let e = c.in_ok-term.ensures in
    let width : c.bits.result ≡ c.args.board.now.width = c.bits.ensures.exact ∙ c.width.ensures.exact in
    let none =
    sym c.in_default.is ∙ c.find.ensures ∙ ap (λ (xs : List MadeBit). made_term xs FZero) c.deref.ensures.value in
    let l = list_of c.args.terms.now.ops c.args.words.now reads in
    rw (← c.self.view_is)
    (late_made FZero (zero_words c.args.board.now.width c.args.sources.now.f) _ l
    (ended c.in_ok-term.term (list_of c.is_zero.new.terms.ops c.is_zero.new.words reads)) c.push.new.self.items none
    (e.listed reads ∙ ap (λ w. zero_words w c.args.sources.now.f l) width)
    c.in_ok-push.ensures.items))
