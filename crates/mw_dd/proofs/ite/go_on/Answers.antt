use Rattle.std.proofs.Common.{◌∙◌, List, length, ap, arith, refl, subst, sym}
use Rattle.std.proofs.lemmas.Option.{slice_get_within}
use Rattle.mw_dd.specs.declared.memo.Memo.{Memo}
use Rattle.mw_dd.specs.declared.kept.Slot.{Slot}
use Rattle.mw_dd.specs.Kept.{AreMade, Adds}
use Rattle.mw_dd.specs.Memos.{IsEnded}
use Rattle.mw_dd.specs.Nodes.{after}
use Rattle.mw_dd.specs.Steps.{AreFrom}
use Rattle.mw_dd.proofs.Keeping.{made-grow, step-kept}
use Rattle.mw_dd.specs.Waiting.{AreWaiting}
use Rattle.mw_dd.proofs.Waiting.{waiting_split, high_half, finished, turned, joined_step, joined}
use Rattle.mw_dd.proofs.Waiting.{turned_steps, joined_steps}
use Rattle.mw_dd.proofs.ite.go_on.Goals as goal

-- ---- the high half is next

pub returns-in-Some-clause-made : goal.returns-in-Some-clause-made
returns-in-Some-clause-made c =
    subst (AreMade c.args.nodes.now) (sym c.turn.ensures.results) c.requires.noted.1.made

pub returns-in-Some-clause-noted : goal.returns-in-Some-clause-noted
returns-in-Some-clause-noted c = λ whole noted stands.
    let nodes = c.args.nodes.now in
    let old = c.args.notes.now in
    let new = c.turn.new.self in
    let t = c.in-Some.ensures.turned in
    let split = waiting_split nodes old.memo.triples c.args.budget whole old.waiting.items t.before t.own stands.0 t.was
    stands.1 in
    let both = turned nodes old new c.args.budget whole stands.0 t.before t.own t.now c.args.made noted t.was split.0
    split.1 stands.2 t.none t.triple t.place t.top t.at_high t.some t.low c.turn.ensures.memo
    c.turn.ensures.results t.is in (
      both.0,
      subst (AreWaiting nodes new.memo.triples c.args.budget whole new.waiting.items) (sym t.high) both.1,
    )

pub returns-in-Some-clause-nearer : goal.returns-in-Some-clause-nearer
returns-in-Some-clause-nearer c =
    let t = c.in-Some.ensures.turned in
    rw t.high (turned_steps t.before c.args.notes.now.waiting.items c.turn.new.self.waiting.items t.own t.now t.was t.is
    t.none t.some)

-- ---- none waits

pub returns-in_default-last-clause-made : goal.returns-in_default-last-clause-made
returns-in_default-last-clause-made c =
    subst (AreMade c.args.nodes.now) (sym (c.last.ensures.results ∙ c.turn.ensures.results)) c.requires.noted.1.made

pub returns-in_default-last-clause-noted : goal.returns-in_default-last-clause-noted
returns-in_default-last-clause-noted c = λ whole noted stands.
    finished c.args.nodes.now c.args.notes.now c.last.new.self c.args.budget whole stands.0 c.args.made noted stands.1
    stands.2 (sym (c.in_default.ensures.stay refl) ∙ c.in_default-last.ensures.none refl)
    (c.in_default-last.ensures.fewer refl) (c.last.ensures.memo ∙ c.turn.ensures.memo)
    (c.last.ensures.results ∙ c.turn.ensures.results)

-- ---- both halves have results

pub make-requires-clause-low_later : goal.make-requires-clause-low_later
make-requires-clause-low_later c =
    let was = sym (c.in_default.ensures.stay refl) ∙ c.in-Some-last.ensures.some in
    let some = c.in_default.ensures.has_low refl c.last.new.self.waiting.items c.in-Some-last.waiting was in
    let nodes = c.args.nodes.now in
    let old = c.args.notes.now in
    let w = c.in-Some-last.waiting in
    let noted = c.requires.noted in
    let split = waiting_split nodes old.memo.triples c.args.budget noted.0 old.waiting.items
    c.last.new.self.waiting.items w noted.2.0 was noted.2.1 in
    let high = high_half nodes old.memo.triples c.args.budget w noted.2.0 split.1 some in
    high.result.from (after w.top.variable) high.side.from

pub make-requires-clause-high_later : goal.make-requires-clause-high_later
make-requires-clause-high_later c =
    let was = sym (c.in_default.ensures.stay refl) ∙ c.in-Some-last.ensures.some in
    let some = c.in_default.ensures.has_low refl c.last.new.self.waiting.items c.in-Some-last.waiting was in
    let nodes = c.args.nodes.now in
    let old = c.args.notes.now in
    let w = c.in-Some-last.waiting in
    let noted = c.requires.noted in
    let split = waiting_split nodes old.memo.triples c.args.budget noted.0 old.waiting.items
    c.last.new.self.waiting.items w noted.2.0 was noted.2.1 in
    let high = high_half nodes old.memo.triples c.args.budget w noted.2.0 split.1 some in
    noted.2.2.result.from (after w.top.variable)
    (subst (AreFrom nodes (after w.top.variable)) (sym high.next) split.1.high.from)

pub returns-in_err-joined-clause-made : goal.returns-in_err-joined-clause-made
returns-in_err-joined-clause-made c =
    made-grow c.args.nodes.now c.make.new.nodes c.last.new.self.results c.make.ensures.grows
    (subst (AreMade c.args.nodes.now) (sym (c.last.ensures.results ∙ c.turn.ensures.results)) c.requires.noted.1.made)

pub end-requires : goal.end-requires
end-requires c = λ b counts.
    let was = sym (c.in_default.ensures.stay refl) ∙ c.in-Some-last.ensures.some in
    let nodes = c.args.nodes.now in
    let old = c.args.notes.now in
    let w = c.in-Some-last.waiting in
    let noted = c.requires.noted in
    let split = waiting_split nodes old.memo.triples c.args.budget noted.0 old.waiting.items
    c.last.new.self.waiting.items w noted.2.0 was noted.2.1 in
    let within = slice_get_within old.memo.triples w.place w.triple (split.1.met b counts) in
    let beside = (noted.1.counted b counts).keys.beside in
    let same = ap (λ (m : Memo). length m.results.items) (c.last.ensures.memo ∙ c.turn.ensures.memo) in
    omega (arith, within, beside, same)

pub returns-in_err-end-clause-made : goal.returns-in_err-end-clause-made
returns-in_err-end-clause-made c =
    let was = sym (c.in_default.ensures.stay refl) ∙ c.in-Some-last.ensures.some in
    let some = c.in_default.ensures.has_low refl c.last.new.self.waiting.items c.in-Some-last.waiting was in
    let nodes = c.args.nodes.now in
    let old = c.args.notes.now in
    let w = c.in-Some-last.waiting in
    let noted = c.requires.noted in
    let is = c.in_ok-joined.ensures in
    let split = waiting_split nodes old.memo.triples c.args.budget noted.0 old.waiting.items
    c.last.new.self.waiting.items w noted.2.0 was noted.2.1 in
    let high = high_half nodes old.memo.triples c.args.budget w noted.2.0 split.1 some in
    let step = joined_step nodes c.make.new.nodes old.memo.triples c.args.budget w noted.2.0 c.args.made
    c.in_ok-joined.joined c.make.ensures.grows split.1 high noted.2.2.result is.there is.value is.from in
    step-kept nodes c.make.new.nodes w.triple high.at_low noted.2.0 w.top.variable w.low c.args.made c.in_ok-joined.joined
    step c.last.new.self.results c.end.new.self.results
    (subst (AreMade nodes) (sym (c.last.ensures.results ∙ c.turn.ensures.results)) noted.1.made) c.end.ensures.results

pub returns-clause-noted : goal.returns-clause-noted
returns-clause-noted c = λ whole noted stands.
    let was = sym (c.in_default.ensures.stay refl) ∙ c.in-Some-last.ensures.some in
    let some = c.in_default.ensures.has_low refl c.last.new.self.waiting.items c.in-Some-last.waiting was in
    let nodes = c.args.nodes.now in
    let new = c.make.new.nodes in
    let old = c.args.notes.now in
    let now = c.end.new.self in
    let w = c.in-Some-last.waiting in
    let made = c.in_ok-joined.joined in
    let is = c.in_ok-joined.ensures in
    let before = c.last.new.self.waiting.items in
    let split = waiting_split nodes old.memo.triples c.args.budget whole old.waiting.items before w stands.0 was stands.1
    in
    let high = high_half nodes old.memo.triples c.args.budget w stands.0 split.1 some in
    let step = joined_step nodes new old.memo.triples c.args.budget w stands.0 c.args.made made c.make.ensures.grows
    split.1 high stands.2.result is.there is.value is.from in
    joined nodes new old now c.args.budget whole stands.0 w c.args.made made noted (rw c.end.ensures.waiting was)
    (rw c.end.ensures.waiting split.0) split.1 high stands.2 step c.make.ensures.reduced
    (subst (λ (slots : List Slot). Adds slots now.results w.triple made) (c.last.ensures.results ∙ c.turn.ensures.results)
    c.end.ensures.results)
    (λ b counts. subst (λ (m : Memo). IsEnded m now.memo w.place made) (c.last.ensures.memo ∙ c.turn.ensures.memo)
    (c.in_ok-end.ensures.ended b counts))

pub returns-clause-made : goal.returns-clause-made
returns-clause-made c =
    let noted = c.requires.noted in
    (returns-clause-noted c noted.0 noted.1 noted.2).0.made

pub returns-clause-nearer : goal.returns-clause-nearer
returns-clause-nearer c =
    let was = sym (c.in_default.ensures.stay refl) ∙ c.in-Some-last.ensures.some in
    let some = c.in_default.ensures.has_low refl c.last.new.self.waiting.items c.in-Some-last.waiting was in
    joined_steps c.args.notes.now.waiting.items c.end.new.self.waiting.items c.in-Some-last.waiting
    (rw c.end.ensures.waiting was) some
