use Rattle.std.proofs.Common.{Err, List, ℕ, refl, map, ap, ◌∙◌}
use Rattle.std.specs.Global.{Vec}
use Rattle.std.proofs.lemmas.List.{map-append}
use Rattle.std.proofs.lemmas.Result.{err_from_is_err_and}
use Rattle.mw_outside.specs.Views.{shelf_shown}
use Rattle.mw_plan.proofs.Plans.{long_is_refused, accepted_goes_on, faulty_is_refused}
use Rattle.mw_plan.proofs.Reading.{left_more, kept_more, unread_stops}
use Rattle.mw_plan.proofs.files.Files.next.Goals as goal

-- the bytes of some buffers
bytes_of : List (Vec ℕ) → List (List ℕ)
bytes_of buffers = map (λ (v : Vec ℕ). v.items) buffers

pub returns-in_err-bytes-clause-follows : goal.returns-in_err-bytes-clause-follows
returns-in_err-bytes-clause-follows g c = λ kind reader converts reads plan rest first since left.
    let error = err_from_is_err_and c.from_residual.result c.from_residual.ensures.1 in
    rw (error.1, error.2) (unread_stops plan first (shelf_shown g.S.Shelf c.args.shelf.now)
    (shelf_shown g.S.Shelf c.read_whole.new.shelf) c.args.self.now _ c.next_name.result.now c.in_err-bytes.field-0.0
    since left c.next_name.ensures
    (λ is. c.in_err-bytes.ensures.fault (ap Err is)) (λ is. c.in_err-bytes.ensures.too_long (ap Err is))
    (long_is_refused kind reader rest))

pub returns-in-Ok-clause-follows : goal.returns-in-Ok-clause-follows
unfolding bytes_of
returns-in-Ok-clause-follows g c = λ kind reader converts reads plan rest first since left.
    let is = rw c.deref.ensures.value at (reads _ _ c.in-Ok.ensures) in
    let kept = kept_more c.args.self.now _ _ c.in_ok-bytes.bytes.items _ c.self.view_is refl
    (ap bytes_of c.in_ok-push-in-Ok.ensures.items ∙ map-append (λ (v : Vec ℕ). v.items) _ _) in
    rw kept (left_more plan first (shelf_shown g.S.Shelf c.args.shelf.now) c.args.self.now _ c.next_name.result.now
    c.in_ok-bytes.bytes.items _ since left c.next_name.ensures c.in_ok-bytes.ensures.whole
    (accepted_goes_on kind reader rest c.in_ok-bytes.bytes.items c.in-Ok.x c.in_ok-bytes.ensures.short is))

pub returns-in-Err-At-clause-follows : goal.returns-in-Err-At-clause-follows
returns-in-Err-At-clause-follows g c = λ kind reader converts reads plan rest first since left.
    let is = rw (c.deref.ensures.value, c.in-Err-At.field-0-is) at (reads _ _ c.in-Err-At.ensures) in (
      c.next_name.result.now,
      record {
        last = c.in_ok-bytes.bytes.items;
        left = left_more plan first (shelf_shown g.S.Shelf c.args.shelf.now) c.args.self.now _ c.next_name.result.now
            c.in_ok-bytes.bytes.items _ since left c.next_name.ensures c.in_ok-bytes.ensures.whole
            (faulty_is_refused kind reader rest c.in_ok-bytes.bytes.items c.in-Err-At.fault c.into.result
            c.in_ok-bytes.ensures.short is (converts _ _ c.into.ensures));
        name_is = c.next_name.ensures;
      },
    )
