use Rattle.std.proofs.Common.{◌≡◌, ◌∙◌, ◌-◌, ◌<◌, arith, refl, suc, length, set, true, ap, sym}
use Rattle.std.proofs.lemmas.Option.{get_or_from_slice_get}
use Rattle.mw_dd.specs.declared.notes.Waiting.{Waiting}
use Rattle.mw_dd.proofs.Lists.{last_split, at-index, get-set_same}
use Rattle.mw_dd.proofs.notes.Notes.turn.Goals as goal

pub returns-clause-turned : goal.returns-clause-turned
returns-clause-turned c =
    let items = c.args.self.now.waiting.items in
    let i = c.len-count.result - 1 in
    let own = c.index-2.result.now in
    let within : i < length items = omega (arith, c.len-count.ensures, c.if-count-eq0.false) in
    let last : suc i ≡ length items = omega (arith, c.len-count.ensures, c.if-count-eq0.false) in
    let at = at-index items i own within c.index-2.ensures in
    let tested = c.index.ensures ∙ get_or_from_slice_get items i own c.index.result.now at in
    let first = c.index_mut.result.now in
    let same = c.index_mut.ensures.value ∙ get_or_from_slice_get items i own first at in
    let v : Waiting = record {
      triple = first.triple;
      place = first.place;
      top = first.top;
      at_high = first.at_high;
      has_low = true;
      low = first.low;
    } in
    let again = c.index_mut-2.ensures.value
    ∙ get_or_from_slice_get (set items i v) i v c.index_mut-2.result.now (get-set_same items i v within) in
    let split = last_split items i own last at in
    record {
      before = split.before;
      own = own;
      now = _;
      was = split.was;
      is = split.is _ _;
      none = ap (λ (w : Waiting). w.has_low) (sym tested) ∙ c.if-index.false;
      triple = ap (λ (w : Waiting). w.triple) (again ∙ ap (λ (w : Waiting). record w { has_low = true }) same);
      place = ap (λ (w : Waiting). w.place) (again ∙ ap (λ (w : Waiting). record w { has_low = true }) same);
      top = ap (λ (w : Waiting). w.top) (again ∙ ap (λ (w : Waiting). record w { has_low = true }) same);
      at_high = ap (λ (w : Waiting). w.at_high) (again ∙ ap (λ (w : Waiting). record w { has_low = true }) same);
      some = ap (λ (w : Waiting). w.has_low) again;
      low = refl;
      high = refl;
    }
