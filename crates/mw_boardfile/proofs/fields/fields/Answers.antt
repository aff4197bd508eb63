use Rattle.std.proofs.Common.{◌≡◌, None, Ok, sym, ap, ◌∙◌, subst}
use Rattle.std.specs.Prelude.{codes}
use Rattle.toml.specs.Data.{no_members, get_member}
use Rattle.toml.specs.View.{table_view}
use Rattle.mw_board.specs.Rules.{fields_rule}
use Rattle.mw_boardfile.specs.Values.{Answers, table_or_none}
use Rattle.mw_boardfile.specs.Views.{given, members}
use Rattle.mw_boardfile.proofs.FieldsRead.{no_fields}
use Rattle.mw_boardfile.proofs.Kept.{fields_all, no_fields_keep}
use Rattle.mw_boardfile.proofs.fields.fields.Goals as goal

pub returns-in-None-clause-gives : goal.returns-in-None-clause-gives
returns-in-None-clause-gives c =
    let none : c.table_or_none.result ≡ Ok None = c.in_ok-table.ensures.came ∙ ap Ok c.in-None.is in
    let read : table_or_none (given c.member.result) ≡ Ok no_members =
    subst (λ r. Answers members r (table_or_none (given c.member.result))) none c.table_or_none.ensures in
    let there : table_or_none (get_member (codes "fields") (table_view c.args.document.now)) ≡ Ok no_members =
    subst (λ g. table_or_none g ≡ Ok no_members) c.member.ensures read in
    no_fields c.args.microword (table_view c.args.document.now) there
    ∙ ap Ok (sym (c.from_vec.ensures ∙ c.new.ensures.items))

pub returns-in_ok-under_whole-in-Some-clause-kept : goal.returns-in_ok-under_whole-in-Some-clause-kept
returns-in_ok-under_whole-in-Some-clause-kept c =
    fields_all c.args.microword (table_view c.in-Some.table.now) c.each_field.result
    (ap fields_rule (sym c.count_of.ensures) ∙ sym c.fields_rule.ensures ∙ c.in_ok-under_whole-in-Some.ensures.came)
    c.each_field.ensures.names c.each_field.ensures.kept

pub returns-in-None-clause-kept : goal.returns-in-None-clause-kept
returns-in-None-clause-kept c = rw (c.from_vec.ensures, c.new.ensures.items) (no_fields_keep c.args.microword)
