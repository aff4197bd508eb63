use Rattle.std.proofs.Common.{◌≡◌, ◌<◌, ◌+◌, ◌∙◌, length, take, length-take-le, ap, arith, sym}
use Rattle.mw_term.specs.Assigned.{given_by}
use Rattle.mw_term.specs.Values.{term_value}
use Rattle.mw_term.proofs.Kept.{kept_inside, kept_fits, kept_words, value_next, value_read, value_fits}
use Rattle.mw_term.proofs.Tables.{values_count}
use Rattle.mw_term.proofs.written.Written.value.Goals as goal

pub slice_bounds-valued-end : goal.slice_bounds-valued-end
slice_bounds-valued-end c =
    let ops = c.self.inside.ops.items in
    let widths = c.self.inside.widths.items in
    let inside : c.args.term < length ops = rw (← c.self.view_is) at c.requires in
    let there : c.loop-place.place < length ops =
    omega (arith, inside, c.loop-place-test.true, c.position-place-end.ensures.exact) in
    let wide = kept_inside ops widths c.self.inside.map.items c.loop-place.place c.self.invariant there in
    rw c.deref-in-loop-place.ensures.value (sym (length-take-le c.loop-place.place widths (omega (arith, wide))))

pub value-value-requires-clause-fits : goal.value-value-requires-clause-fits
value-value-requires-clause-fits c =
    let ops = c.self.inside.ops.items in
    let inside : c.args.term < length ops = rw (← c.self.view_is) at c.requires in
    let there : c.loop-place.place < length ops =
    omega (arith, inside, c.loop-place-test.true, c.position-place-end.ensures.exact) in
    rw (c.deref.ensures.value, c.deref-in-loop-place.ensures.value)
    (kept_fits ops c.self.inside.widths.items c.self.inside.map.items c.loop-place.place c.index.result.now
    c.self.invariant there
    c.index.ensures)

pub value-value-requires-clause-words : goal.value-value-requires-clause-words
value-value-requires-clause-words c =
    let ops = c.self.inside.ops.items in
    let inside : c.args.term < length ops = rw (← c.self.view_is) at c.requires in
    let there : c.loop-place.place < length ops =
    omega (arith, inside, c.loop-place-test.true, c.position-place-end.ensures.exact) in
    rw (c.deref-in-loop-place.ensures.value, c.deref-in-loop-place-2.ensures.value)
    (kept_words ops c.self.inside.widths.items c.self.inside.map.items c.loop-place.values.items
    (given_by c.args.given.now)
    c.loop-place.place c.self.invariant there c.loop-place.invariant)

pub loop-place-preserved : goal.loop-place-preserved
loop-place-preserved c =
    let ops = c.self.inside.ops.items in
    let inside : c.args.term < length ops = rw (← c.self.view_is) at c.requires in
    let there : c.loop-place.place < length ops =
    omega (arith, inside, c.loop-place-test.true, c.position-place-end.ensures.exact) in
    let value =
    rw (c.deref.ensures.value, c.deref-in-loop-place.ensures.value, c.deref-in-loop-place-2.ensures.value)
    at c.value-value.ensures in
    c.in_ok-push.ensures.items
    ∙ value_next ops c.self.inside.widths.items c.self.inside.map.items c.loop-place.values.items
    (given_by c.args.given.now)
    c.loop-place.place c.value-value.result c.index.result.now c.self.invariant there c.index.ensures
    c.loop-place.invariant value

pub index-requires-2 : goal.index-requires-2
index-requires-2 c =
    let ops = c.self.inside.ops.items in
    let inside : c.args.term < length ops = rw (← c.self.view_is) at c.requires in
    let last : c.loop-place.place ≡ c.args.term + 1 =
    omega (arith, c.loop-place-test.false, c.loop-place.auto.place-end, c.position-place-end.ensures.exact) in
    let size : length c.loop-place.values.items ≡ c.loop-place.place =
    ap length c.loop-place.invariant
    ∙ values_count c.self.inside.map.items (given_by c.args.given.now) (take c.loop-place.place ops)
    ∙ length-take-le c.loop-place.place ops (omega arith) in
    omega (arith, size, last, c.position.ensures.exact)

pub returns-clause-exact : goal.returns-clause-exact
returns-clause-exact c =
    let ops = c.self.inside.ops.items in
    let inside : c.args.term < length ops = rw (← c.self.view_is) at c.requires in
    let last : c.loop-place.place ≡ c.args.term + 1 =
    omega (arith, c.loop-place-test.false, c.loop-place.auto.place-end, c.position-place-end.ensures.exact) in
    let read = rw c.position.ensures.exact at c.index-2.ensures in
    rw (← c.self.view_is)
    (value_read c.self.inside.map.items
    (given_by c.args.given.now) ops c.loop-place.values.items c.loop-place.place c.args.term
    c.index-2.result.now inside last c.loop-place.invariant read)

pub returns-clause-below : goal.returns-clause-below
returns-clause-below c =
    let ops = c.self.inside.ops.items in
    let inside : c.args.term < length ops = rw (← c.self.view_is) at c.requires in
    let told : c.index-2.result.now ≡ term_value c.args.self.now (given_by c.args.given.now) c.args.term =
    returns-clause-exact c in
    let is = rw (← c.self.view_is) at told in
    rw (← c.self.view_is)
    (value_fits ops c.self.inside.widths.items c.self.inside.map.items
    (given_by c.args.given.now) c.args.term c.index-2.result.now
    c.self.invariant inside is)
