use Rattle.std.proofs.Common.{sym, subst, List, ap, ◌∙◌}
use Rattle.mw_cycle.specs.declared.elements.Element.TheVariants.{Ir, R}
use Rattle.mw_seq.specs.Instruction.{instruction_of}
use Rattle.mw_symboard.specs.Cycle.{IsCounter, effect_by}
use Rattle.mw_symboard.specs.Made.{IsDirect}
use Rattle.mw_symboard.specs.Parts.{AreParts}
use Rattle.mw_cycle.specs.BoardTerms.{Parts}
use Rattle.mw_symboard.specs.Seen.{Progress}
use Rattle.mw_symboard.proofs.Ends.{leaving_is}
use Rattle.mw_symboard.proofs.Growing.{grew_then, wide_later}
use Rattle.mw_term.specs.WordList.{list_of}
use Rattle.mw_term.specs.declared.word.Word.{Word}
use Rattle.mw_term.specs.Table.{Table}
use Rattle.mw_symboard.proofs.Listing.{leaving_are}
use Rattle.mw_cycle.specs.LeavingWords.{counter_words, direct_words, leaving_words, next_words}
use Rattle.mw_symboard.proofs.leaving.Leaving.new.Goals as goal

pub direct-requires-clause-wide : goal.direct-requires-clause-wide
direct-requires-clause-wide c =
    let b = c.args.board.now in
    let t = c.args.terms.now in
    let placed = subst (λ (p : Progress). AreParts b t p.parts) (sym c.place.view_is) c.requires.parts in
    let are = subst (λ (p : Parts). AreParts b t p) (sym c.parts.view_is) placed in
    are.wide Ir tt

pub counter-requires-clause-old : goal.counter-requires-clause-old
counter-requires-clause-old c =
    let b = c.args.board.now in
    let t = c.args.terms.now in
    let placed = subst (λ (p : Progress). AreParts b t p.parts) (sym c.place.view_is) c.requires.parts in
    let are = subst (λ (p : Parts). AreParts b t p) (sym c.parts.view_is) placed in
    wide_later t c.direct.new.terms c.args.words.now c.direct.new.words 12 c.parts.inside.r c.in_ok-direct.ensures.grew
    (are.wide R tt)

pub returns-clause-is : goal.returns-clause-is
returns-clause-is c =
    let b = c.args.board.now in
    let m = c.args.microword.now in
    let one = c.in_ok-direct.ensures in
    let two = c.in_ok-r.ensures in
    let three = c.in_ok-next.ensures in
    let direct = c.in_ok-direct.direct in
    let effect = c.effect-effect.result in
    rw (← c.place.view_is)
    (leaving_is b m c.direct.new.terms c.counter.new.terms c.next.new.terms c.direct.new.words c.counter.new.words
    c.next.new.words _ c.args.noise direct c.in_ok-next.next c.in_ok-r.r effect c.effect-effect.ensures
    (subst (λ (p : Parts). IsDirect (instruction_of m.sequencer) b m c.direct.new.terms p.ir direct)
    c.parts.view_is one.is)
    one.wide two.grew
    (subst (λ (p : Parts). IsCounter m.rld effect.counter c.counter.new.terms p.r direct c.in_ok-r.r)
    c.parts.view_is two.is) two.wide three.grew three.is three.wide)

pub returns-clause-grew : goal.returns-clause-grew
returns-clause-grew c =
    let first = grew_then c.args.terms.now c.direct.new.terms c.counter.new.terms c.args.words.now c.direct.new.words
    c.counter.new.words c.in_ok-direct.ensures.grew c.in_ok-r.ensures.grew in
    grew_then c.args.terms.now c.counter.new.terms c.next.new.terms c.args.words.now c.counter.new.words
    c.next.new.words first c.in_ok-next.ensures.grew

pub returns-clause-listed : goal.returns-clause-listed
returns-clause-listed c = λ reads.
    (let b = c.args.board.now in
    let m = c.args.microword.now in
    let p = c.args.place.now in
    let parts = ap (λ (x : Progress). x.parts) c.place.view_is in
    let sp = ap (λ (x : Progress). x.sp) c.place.view_is in
    let ir = ap (λ (x : Parts). x.ir) (c.parts.view_is ∙ parts) in
    let r = ap (λ (x : Parts). x.r) (c.parts.view_is ∙ parts) in
    let effect = c.effect-effect.result in
    let by = c.effect-effect.ensures ∙ ap (λ (x : Progress). effect_by m x.decided) c.place.view_is in
    let direct = c.in_ok-direct.direct in
    let list = λ (t : Table) (words : List Word). list_of t.ops words reads in
    let l0 = list c.args.terms.now c.args.words.now in
    let l1 = list c.direct.new.terms c.direct.new.words in
    let l2 = list c.counter.new.terms c.counter.new.words in
    ap (λ e. leaving_words b m p.parts p.sp c.args.noise e l0) (sym by)
    ∙ leaving_are b m p.parts p.sp c.args.noise effect l0 l1 l2 (list c.next.new.terms c.next.new.words)
    direct c.in_ok-r.r c.in_ok-next.next
    (c.in_ok-direct.ensures.listed reads ∙ ap (λ x. direct_words (instruction_of m.sequencer) b m x l0) ir)
    (c.in_ok-r.ensures.listed reads ∙ ap (λ x. counter_words m.rld effect.counter x direct l1) r)
    (c.in_ok-next.ensures.listed reads
    ∙ ap (λ x. next_words effect.next x c.place.inside.sp c.args.noise direct l2) parts
    ∙ ap (λ x. next_words effect.next p.parts x c.args.noise direct l2) sp))
