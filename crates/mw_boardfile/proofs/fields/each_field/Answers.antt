use Rattle.std.proofs.Common.{◌≡◌, ◌++◌, List, [], ◌∷◌, String, string_bytes, map, Ok, Err, refl, sym, ap, ◌∙◌}
use Rattle.std.proofs.Common.{append-nil, subst}
use Rattle.std.specs.declared.alloc.Global.{Global}
use Rattle.std.proofs.lemmas.List.Elements.{All-nil, All-push}
use Rattle.std.proofs.lemmas.Result.{err_from_is_err_and}
use Rattle.toml.specs.View.{view, members_view, table_view}
use Rattle.toml.specs.declared.value.Value.{Value}
use Rattle.mw_base.specs.declared.refusal.Refused.{Refused}
use Rattle.mw_base.specs.Reading.{Fails}
use Rattle.mw_board.specs.declared.field.NamedField.{NamedField}
use Rattle.mw_boardfile.specs.declared.fault.KeyFault.{KeyFault}
use Rattle.mw_boardfile.specs.Fields.{field_of, each_field}
use Rattle.mw_boardfile.specs.Kept.{FieldKeeps, names_of}
use Rattle.mw_boardfile.proofs.FieldsRead.{before, before_none, field_goes_on, field_refused, fields_done, name_goes_on}
use Rattle.mw_boardfile.proofs.InOrder.{fields_in_order}
use Rattle.mw_boardfile.proofs.fields.each_field.Goals as goal

pub loop-name-init : goal.loop-name-init
loop-name-init c =
    let all : c.into_iter-name-iterator.result ≡ c.args.table.now.entries =
    c.into_iter-name-iterator.ensures.into_iter_gives ∙ c.iter-name-items.ensures.rest in
    rw (c.new-fields.ensures.items, all) (
      before_none (each_field c.args.microword (table_view c.args.table.now)),
      refl,
      All-nil (FieldKeeps c.args.microword),
    )

pub loop-name-preserved : goal.loop-name-preserved
loop-name-preserved c =
    let e : String Global × Value = (c.in-Some.name.now, c.in-Some.value.now) in
    let total = each_field c.args.microword (table_view c.args.table.now) in
    let left : List (String Global × Value) = c.next.new.self in
    let step : c.loop-name.name-iterator ≡ e ∷ left = c.in-Some.ensures.steps in
    let here = subst (λ (es : List (String Global × Value)).
    before c.loop-name.fields.items (each_field c.args.microword (members_view es)) ≡ total)
    step c.loop-name.invariant.0 in
    let names = subst (λ (es : List (String Global × Value)).
    map (λ (f : NamedField). f.name) c.loop-name.fields.items ++ names_of (members_view es)
    ≡ names_of (table_view c.args.table.now)) step c.loop-name.invariant.1 in
    let read : field_of c.args.microword (string_bytes c.in-Some.name.now) (view c.in-Some.value.now)
    ≡ Ok c.in_ok-named_field.field-0 =
    rw (← c.as_bytes.ensures.value) c.in_ok-named_field.ensures.gives in
    let named : c.in_ok-named_field.field-0.name ≡ string_bytes c.in-Some.name.now =
    c.in_ok-named_field.ensures.name ∙ c.as_bytes.ensures.value in
    rw c.in_ok-push.ensures.items (
      field_goes_on c.args.microword c.loop-name.fields.items (string_bytes c.in-Some.name.now)
          (view c.in-Some.value.now) (members_view left) c.in_ok-named_field.field-0 total read here,
      name_goes_on c.loop-name.fields.items c.in_ok-named_field.field-0 (string_bytes c.in-Some.name.now)
          (names_of (members_view left)) named ∙ names,
      All-push (FieldKeeps c.args.microword)
          c.loop-name.fields.items c.in_ok-named_field.field-0 c.loop-name.invariant.2 c.in_ok-named_field.ensures.kept,
    )

pub returns-in_err-named_field-clause-gives : goal.returns-in_err-named_field-clause-gives
returns-in_err-named_field-clause-gives c =
    let e : String Global × Value = (c.in-Some.name.now, c.in-Some.value.now) in
    let total = each_field c.args.microword (table_view c.args.table.now) in
    let left : List (String Global × Value) = c.next.new.self in
    let step : c.loop-name.name-iterator ≡ e ∷ left = c.in-Some.ensures.steps in
    let here = subst (λ (es : List (String Global × Value)).
    before c.loop-name.fields.items (each_field c.args.microword (members_view es)) ≡ total)
    step c.loop-name.invariant.0 in
    let p = err_from_is_err_and c.from_residual.result c.from_residual.ensures.1 in
    let refusal : Refused KeyFault = c.in_err-named_field.field-0.0 in
    let is : c.from_residual.result ≡ Err refusal = p.1 ∙ ap Err p.2 in
    let read : Fails refusal (field_of c.args.microword (string_bytes c.in-Some.name.now) (view c.in-Some.value.now)) =
    rw (← c.as_bytes.ensures.value) c.in_err-named_field.ensures.gives in
    rw is (field_refused c.args.microword c.loop-name.fields.items (string_bytes c.in-Some.name.now)
    (view c.in-Some.value.now) (members_view left) refusal total read here)

pub returns-clause-gives : goal.returns-clause-gives
returns-clause-gives c =
    let total = each_field c.args.microword (table_view c.args.table.now) in
    let step : c.loop-name.name-iterator ≡ [] = c.in-None.ensures.steps.0 in
    let here = subst (λ (es : List (String Global × Value)).
    before c.loop-name.fields.items (each_field c.args.microword (members_view es)) ≡ total)
    step c.loop-name.invariant.0 in
    fields_done c.args.microword c.loop-name.fields.items total here ∙ ap Ok (sym c.from_vec.ensures)

pub returns-clause-names : goal.returns-clause-names
returns-clause-names c =
    let step : c.loop-name.name-iterator ≡ [] = c.in-None.ensures.steps.0 in
    let names = map (λ (f : NamedField). f.name) c.loop-name.fields.items in
    rw c.from_vec.ensures (sym (append-nil names) ∙ subst (λ (es : List (String Global × Value)).
    names ++ names_of (members_view es) ≡ names_of (table_view c.args.table.now)) step c.loop-name.invariant.1)

pub returns-clause-kept : goal.returns-clause-kept
returns-clause-kept c = rw c.from_vec.ensures c.loop-name.invariant.2

pub returns-clause-order : goal.returns-clause-order
returns-clause-order c =
    let step : c.loop-name.name-iterator ≡ [] = c.in-None.ensures.steps.0 in
    let names = map (λ (f : NamedField). f.name) c.loop-name.fields.items in
    fields_in_order c.args.table.now c.from_vec.result c.iter-name-items.ensures.ordered
    (rw c.from_vec.ensures (sym (append-nil names) ∙ subst (λ (es : List (String Global × Value)).
    names ++ names_of (members_view es) ≡ names_of (table_view c.args.table.now)) step c.loop-name.invariant.1))
