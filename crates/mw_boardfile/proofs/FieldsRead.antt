-- Reading the fields of a table, a field at a time.
use Rattle.std.proofs.Common.{◌≡◌, ℕ, List, [], ◌∷◌, ◌++◌, map, Result, Ok, Err, append_assoc, append-nil, refl, sym}
use Rattle.std.proofs.Common.{ap, ◌∙◌}
use Rattle.std.specs.Prelude.{codes}
use Rattle.toml.specs.Data.{Data, Members, no_members, member, get_member}
use Rattle.mw_base.specs.declared.refusal.Refused.{Refused}
use Rattle.mw_base.specs.declared.refusal.Refused.TheVariants.{At, NoMemory}
use Rattle.mw_base.specs.Reading.{◌>>=◌, Fails}
use Rattle.mw_board.specs.declared.field.NamedField.{NamedField}
use Rattle.mw_boardfile.specs.declared.fault.KeyFault.{KeyFault}
use Rattle.mw_board.specs.Rules.{fields_rule}
use Rattle.mw_boardfile.specs.Fields.{field_of, each_field, fields_of}
use Rattle.mw_boardfile.specs.Values.{table_or_none}

-- what is read stands after these
abbrev pub before : List NamedField → Result (List NamedField) KeyFault → Result (List NamedField) KeyFault
before fields (Ok more) = Ok (fields ++ more)
before fields (Err fault) = Err fault

before_twice : (fields : List NamedField) (f : NamedField) (read : Result (List NamedField) KeyFault)
    → before fields (read >>= λ others. Ok (f ∷ others)) ≡ before (fields ++ f ∷ []) read
before_twice fields f (Ok more) = ap Ok (sym (append_assoc fields (f ∷ []) more))
before_twice fields f (Err fault) = refl

pub before_none : (read : Result (List NamedField) KeyFault) → before [] read ≡ read
before_none (Ok more) = refl
before_none (Err fault) = refl

-- one more field
pub field_goes_on : (microword : ℕ) (fields : List NamedField) (name : List ℕ) (value : Data) (rest : Members)
    (f : NamedField) (total : Result (List NamedField) KeyFault)
    → field_of microword name value ≡ Ok f → before fields (each_field microword (member name value rest)) ≡ total
    → before (fields ++ f ∷ []) (each_field microword rest) ≡ total
unfolding each_field
field_goes_on microword fields name value rest f total is so_far =
    let one : before fields (each_field microword (member name value rest))
    ≡ before (fields ++ f ∷ []) (each_field microword rest) =
    rw is (before_twice fields f (each_field microword rest)) in
    sym one ∙ so_far

-- and one more name
pub name_goes_on : (fields : List NamedField) (f : NamedField) (name : List ℕ) (rest : List (List ℕ)) → f.name ≡ name
    → map (λ (f : NamedField). f.name) (fields ++ f ∷ []) ++ rest
    ≡ map (λ (f : NamedField). f.name) fields ++ name ∷ rest
name_goes_on [] f name rest is = ap (λ (n : List ℕ). n ∷ rest) is
name_goes_on (first ∷ others) f name rest is =
    ap (λ (ns : List (List ℕ)). first.name ∷ ns) (name_goes_on others f name rest is)

-- a field that is refused
pub field_fails : (microword : ℕ) (fields : List NamedField) (name : List ℕ) (value : Data) (rest : Members)
    (fault : KeyFault) (total : Result (List NamedField) KeyFault)
    → field_of microword name value ≡ Err fault → before fields (each_field microword (member name value rest)) ≡ total
    → total ≡ Err fault
unfolding each_field
field_fails microword fields name value rest fault total is so_far =
    let one : before fields (each_field microword (member name value rest)) ≡ Err fault = rw is refl in
    sym so_far ∙ one

-- all fields
pub fields_done : (microword : ℕ) (fields : List NamedField) (total : Result (List NamedField) KeyFault)
    → before fields (each_field microword no_members) ≡ total → total ≡ Ok fields
unfolding each_field
fields_done microword fields total so_far = sym so_far ∙ ap Ok (append-nil fields)

-- a field that is refused, also for want of memory
pub field_refused : (microword : ℕ) (fields : List NamedField) (name : List ℕ) (value : Data) (rest : Members)
    (refusal : Refused KeyFault) (total : Result (List NamedField) KeyFault)
    → Fails refusal (field_of microword name value)
    → before fields (each_field microword (member name value rest)) ≡ total → Fails refusal total
field_refused microword fields name value rest NoMemory total fails so_far = tt
field_refused microword fields name value rest (At fault) total fails so_far =
    field_fails microword fields name value rest fault total fails so_far

-- no table of fields
pub no_fields : (microword : ℕ) (document : Members)
    → table_or_none (get_member (codes "fields") document) ≡ Ok no_members → fields_of microword document ≡ Ok []
unfolding fields_of fields_rule each_field
no_fields microword document none = rw none refl
