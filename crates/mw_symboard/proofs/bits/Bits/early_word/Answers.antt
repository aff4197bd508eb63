use Rattle.mw_symboard.proofs.MadeBits.{early_bits_push, found_early, wide_bit}
use Rattle.mw_symboard.proofs.Standing.{early_bits_stay}
use Rattle.std.proofs.Common.{List, ap, sym, ◌∙◌}
use Rattle.mw_term.specs.WordList.{ended, list_of, with_word}
use Rattle.mw_cycle.specs.ReadingWords.{MadeBit, made_term}
use Rattle.mw_symboard.proofs.Listing.{early_made}
use Rattle.mw_symboard.proofs.bits.Bits.early_word.Goals as goal

pub returns-in-Some-clause-is : goal.returns-in-Some-clause-is
returns-in-Some-clause-is c =
    let right = rw (← c.self.view_is) at c.requires.right in
    let found = rw c.deref.ensures.value at c.in-Some.ensures in
    (found_early c.args.board.now c.args.terms.now c.args.parts.now c.args.sp c.args.line c.self.inside.early.items
    c.args.bit c.in-Some.term right found).1

pub returns-in-Some-clause-wide : goal.returns-in-Some-clause-wide
returns-in-Some-clause-wide c =
    let right = rw (← c.self.view_is) at c.requires.right in
    let found = rw c.deref.ensures.value at c.in-Some.ensures in
    (found_early c.args.board.now c.args.terms.now c.args.parts.now c.args.sp c.args.line c.self.inside.early.items
    c.args.bit c.in-Some.term right found).0

pub returns-clause-right : goal.returns-clause-right
returns-clause-right c =
    let right = rw (← c.self.view_is) at c.requires.right in
    let e = c.in_ok-term.ensures in
    let told = c.args.terms.now in
    let tnew = c.word.new.terms in
    rw c.in_ok-push.ensures.items
    (early_bits_push c.args.board.now tnew c.args.parts.now c.args.sp c.args.line c.self.inside.early.items
    (record { bit = c.args.bit; term = c.in_ok-term.term })
    (early_bits_stay c.args.board.now told tnew c.args.parts.now c.args.sp c.args.line c.self.inside.early.items
    e.grows.extends e.grows.keeps right)
    (wide_bit told tnew c.args.op c.in_ok-term.term e.made c.requires.one)
    (c.requires.means tnew c.in_ok-term.term e.is))

pub returns-clause-listed : goal.returns-clause-listed
returns-clause-listed c = λ reads.
    (let e = c.in_ok-term.ensures in
    let none =
    sym c.in_default.is ∙ c.find.ensures ∙ ap (λ (xs : List MadeBit). made_term xs c.args.bit) c.deref.ensures.value in
    rw (← c.self.view_is)
    (early_made c.args.bit (with_word c.args.op) _ (list_of c.args.terms.now.ops c.args.words.now reads)
    (ended c.in_ok-term.term (list_of c.word.new.terms.ops c.word.new.words reads)) c.push.new.self.items none
    (e.listed reads) c.in_ok-push.ensures.items))
