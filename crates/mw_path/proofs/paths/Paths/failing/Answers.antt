use Rattle.std.proofs.Common.{inr, rules, ◌∙◌}
use Rattle.mw_dd.proofs.Cofactors.{more-same}
use Rattle.mw_path.proofs.Failings.{first_as, only_stands, zero_same}
use Rattle.mw_path.proofs.Triples.{at_most_same, made_same}
use Rattle.mw_path.proofs.paths.Paths.failing.Goals as goal

pub returns-in-Ok-clause-first : goal.returns-in-Ok-clause-first
returns-in-Ok-clause-first g c =
    let now = c.bits.new.dds in
    let path = c.args.self.now.path in
    let stands =
    only_stands c.args.written.now now c.args.term c.only.result _ _ c.requires.wide c.in_ok-bits.ensures.bits
    c.only.ensures c.deref.ensures.value in
    let same = zero_same c.args.self.now.dds now path c.only.result c.constant-never.result _ c.requires.paths.there
    c.bits.ensures.keeps stands c.constant-never.ensures.exact in
    first_as _ _ c.in_ok-some_assignment-in-Ok.field-0
    (λ given. c.in-Ok.ensures.exact given ∙ made_same _ _ same given) c.in_ok-some_assignment-in-Ok.ensures.first

pub returns-in-Ok-clause-within : goal.returns-in-Ok-clause-within
returns-in-Ok-clause-within g c =
    let now = c.bits.new.dds in
    let path = c.args.self.now.path in
    let stands =
    only_stands c.args.written.now now c.args.term c.only.result _ _ c.requires.wide c.in_ok-bits.ensures.bits
    c.only.ensures c.deref.ensures.value in
    let same = zero_same c.args.self.now.dds now path c.only.result c.constant-never.result _ c.requires.paths.there
    c.bits.ensures.keeps stands c.constant-never.ensures.exact in
    at_most_same _ _ c.args.nodes same c.in-Ok.ensures.within

pub returns-in-Err-OverBudget-clause-over : goal.returns-in-Err-OverBudget-clause-over
returns-in-Err-OverBudget-clause-over g c = λ named j is.
    let now = c.bits.new.dds in
    let path = c.args.self.now.path in
    let stands =
    only_stands c.args.written.now now c.args.term c.only.result _ _ c.requires.wide c.in_ok-bits.ensures.bits
    c.only.ensures c.deref.ensures.value in
    let same = zero_same c.args.self.now.dds now path c.only.result c.constant-never.result _ c.requires.paths.there
    c.bits.ensures.keeps stands c.constant-never.ensures.exact in
    inr (search rules, search rules, more-same _ _ c.args.nodes same (c.in-Err-OverBudget.ensures.over (search rules)))
