use Rattle.std.proofs.Common.{◌≡◌, ◌<◌, length, slice_index, take, length-take-le, sym, ◌∙◌, arith}
use Rattle.std.proofs.lemmas.List.{take_more}
use Rattle.mw_check.proofs.Declared.{Adds, declared_more}
use Rattle.mw_check.proofs.answer.variables.Goals as goal

pub loop-i-preserved : goal.loop-i-preserved
loop-i-preserved c =
    let l = c.loop-i in
    let widths = c.args.widths.now in
    let inside : l.i < length widths = c.loop-i-test.true in
    let size : length (take l.i widths) ≡ l.i = length-take-le l.i widths (omega (arith, inside)) in
    let number : c.in-Ok.number ≡ l.i = c.in-Ok.ensures.1 in
    let fresh = c.in_ok-fresh.ensures in
    let adds : Adds l.terms c.fresh.new.terms l.words c.fresh.new.self (length (take l.i widths))
    (slice_index widths l.i)
    c.in_ok-fresh.field-0 = rw (size ∙ sym number) (record {
      words = fresh.words;
      made = fresh.made;
      listed = fresh.listed;
      of = fresh.of;
      extends = fresh.extends;
      keeps = fresh.keeps;
      table = fresh.table;
    }) in
    rw (take_more widths l.i 0 inside, c.in_ok-push.ensures.items)
    (declared_more l.terms c.fresh.new.terms l.words c.fresh.new.self (take l.i widths) l.elements.items
    (slice_index widths l.i) c.in_ok-fresh.field-0 l.invariant adds)
