use Rattle.std.proofs.Common.{◌≡◌, List, sym, subst}
use Rattle.mw_alu.specs.Instruction.{destination_of}
use Rattle.mw_cycle.specs.declared.elements.Element.TheVariants.{Mar}
use Rattle.mw_symboard.specs.Parts.{AreParts}
use Rattle.mw_cycle.specs.BoardTerms.{Parts}
use Rattle.mw_cycle.specs.EdgeWords.{Made, edge_made, mar_words}
use Rattle.mw_symboard.specs.Listed.{reading_of}
use Rattle.mw_symboard.specs.Seen.{Progress}
use Rattle.mw_term.specs.declared.word.Word.{Word}
use Rattle.mw_term.specs.Table.{Table}
use Rattle.mw_term.specs.WordList.{WordList, ended, list_of}
use Rattle.mw_symboard.proofs.Growing.{grew_then, wide_later}
use Rattle.mw_symboard.proofs.EdgeMade.{made_are}
use Rattle.mw_symboard.proofs.Standing.{all_loaded_stay, written_b_stays, written_q_stays}
use Rattle.mw_symboard.proofs.after.edge_made.Goals as goal

pub mar-requires-clause-old : goal.mar-requires-clause-old
mar-requires-clause-old c =
    let b = c.args.board.now in
    let t = c.args.terms.now in
    let ws = c.args.words.now in
    let placed = subst (λ (p : Progress). AreParts b t p.parts) (sym c.place.view_is) c.requires.parts in
    let are = subst (λ (p : Parts). AreParts b t p) (sym c.parts.view_is) placed in
    let both = grew_then t c.register_word.new.terms c.q_word.new.terms ws c.register_word.new.words c.q_word.new.words
    c.in_ok-register.ensures.grew c.in_ok-q.ensures.grew in
    let all = grew_then t c.q_word.new.terms c.flips.new.terms ws c.q_word.new.words c.flips.new.words both
    c.in_ok-flips.ensures.grew in
    wide_later t c.flips.new.terms ws c.flips.new.words b.address c.parts.inside.mar all (are.wide Mar tt)

pub returns-clause-register : goal.returns-clause-register
returns-clause-register c =
    let b = c.args.board.now in
    let m = c.args.microword.now in
    let first = grew_then c.register_word.new.terms c.q_word.new.terms c.flips.new.terms c.register_word.new.words
    c.q_word.new.words c.flips.new.words c.in_ok-q.ensures.grew c.in_ok-flips.ensures.grew in
    let all = grew_then c.register_word.new.terms c.flips.new.terms c.mar.new.terms c.register_word.new.words
    c.flips.new.words c.mar.new.words first c.in_ok-mar.ensures.grew in
    rw (← c.place.view_is)
    (written_b_stays (destination_of m.instruction) b m c.register_word.new.terms c.mar.new.terms c.place.inside.parts
    c.place.inside.sp c.args.reading.now.sources c.in_ok-register.register all.1.extends c.in_ok-register.ensures.is)

pub returns-clause-q : goal.returns-clause-q
returns-clause-q c =
    let b = c.args.board.now in
    let m = c.args.microword.now in
    let all = grew_then c.q_word.new.terms c.flips.new.terms c.mar.new.terms c.q_word.new.words c.flips.new.words
    c.mar.new.words c.in_ok-flips.ensures.grew c.in_ok-mar.ensures.grew in
    rw (← c.place.view_is)
    (written_q_stays (destination_of m.instruction)
    b m c.q_word.new.terms c.mar.new.terms c.place.inside.parts c.place.inside.sp c.args.reading.now.sources
    c.in_ok-q.q all.1.extends c.in_ok-q.ensures.is)

pub returns-clause-flips : goal.returns-clause-flips
returns-clause-flips c =
    rw (← c.place.view_is)
    (all_loaded_stay c.args.board.now c.args.microword.now c.flips.new.terms c.mar.new.terms c.place.inside.parts
    c.place.inside.sp c.args.reading.now.sources
    c.in_ok-flips.flips.items c.in_ok-mar.ensures.grew.1.extends c.in_ok-flips.ensures.are)

pub returns-clause-grew : goal.returns-clause-grew
returns-clause-grew c =
    let t = c.args.terms.now in
    let ws = c.args.words.now in
    let both = grew_then t c.register_word.new.terms c.q_word.new.terms ws c.register_word.new.words c.q_word.new.words
    c.in_ok-register.ensures.grew c.in_ok-q.ensures.grew in
    let three = grew_then t c.q_word.new.terms c.flips.new.terms ws c.q_word.new.words c.flips.new.words both
    c.in_ok-flips.ensures.grew in
    grew_then t c.flips.new.terms c.mar.new.terms ws c.flips.new.words c.mar.new.words three c.in_ok-mar.ensures.grew

pub returns-clause-listed : goal.returns-clause-listed
returns-clause-listed c = λ reads.
    (let board = c.args.board.now in
    let m = c.args.microword.now in
    let reading = reading_of c.args.reading.now in
    let lists : Table → List Word → WordList = λ t words. list_of t.ops words reads in
    let l0 = lists c.args.terms.now c.args.words.now in
    let l3 = lists c.flips.new.terms c.flips.new.words in
    let l4 = lists c.mar.new.terms c.mar.new.words in
    let made : Made = record {
      list = l4;
      register = c.in_ok-register.register;
      q = c.in_ok-q.q;
      flips = c.in_ok-flips.flips.items;
      mar = c.in_ok-mar.mar;
    } in
    let mar = subst (λ (p : Parts). ended made.mar l4 ≡ mar_words m.mar_load board p.mar reading.y l3)
    c.parts.view_is (c.in_ok-mar.ensures.listed reads) in
    subst (λ (p : Progress). edge_made board m p.parts p.sp reading l0 ≡ made) c.place.view_is
    (made_are board m c.place.inside.parts c.place.inside.sp reading l0
    (lists c.register_word.new.terms c.register_word.new.words) (lists c.q_word.new.terms c.q_word.new.words) l3 l4
    c.register_word.new.bits c.q_word.new.bits c.flips.new.bits made.register made.q made.flips made.mar
    (c.in_ok-register.ensures.listed reads) (c.in_ok-q.ensures.listed reads) (c.in_ok-flips.ensures.listed reads) mar))
