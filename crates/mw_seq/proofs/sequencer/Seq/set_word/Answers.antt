use Rattle.std.proofs.Common.{◌<◌, length, refl, sym, ap, subst, ◌∙◌}
use Rattle.mw_seq.specs.Sequencer.{Sequencer}
use Rattle.mw_seq.proofs.Kept.{set_kept}
use Rattle.mw_seq.proofs.sequencer.Seq.set_word.Goals as goal

pub invariant_of-self : goal.invariant_of-self
invariant_of-self c =
    let there = subst (λ (s : Sequencer). c.args.place < length s.stack) (sym c.self.view_is) c.requires.there in
    rw c.from.ensures (set_kept c.self.inside.depth c.args.place c.args.word c.self.inside.stack _ c.self.invariant refl
    there c.requires.word_in)

pub returns-clause-fits : goal.returns-clause-fits
returns-clause-fits c =
    let there = subst (λ (s : Sequencer). c.args.place < length s.stack) (sym c.self.view_is) c.requires.there in
    let depth = ap (λ (s : Sequencer). length s.stack) (sym c.self.view_is) ∙ c.self.invariant.valid.size in
    rw (depth, c.from.ensures) (set_kept c.self.inside.depth c.args.place c.args.word c.self.inside.stack _
    c.self.invariant refl there c.requires.word_in).valid
