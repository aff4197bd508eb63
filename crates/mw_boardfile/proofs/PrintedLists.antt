-- Lists that are printed are read.
use Rattle.std.proofs.Common.{◌≡◌, ℕ, ◌+◌, List, [], ◌∷◌, map, length, Result, Ok, refl}
use Rattle.std.proofs.Common.{ap}
use Rattle.std.specs.List.{AllByRecursion}
use Rattle.std.proofs.lemmas.List.{length-map}
use Rattle.toml.specs.Data.{Data}
use Rattle.toml.specs.View.{items_of}
use Rattle.mw_base.specs.declared.cause.Cause.{Cause}
use Rattle.mw_base.specs.declared.cause.Cause.TheVariants.{BadNumber, TooWide, WrongKind, BadValue}
use Rattle.mw_board.specs.Rules.{chosen_rule, list_rule}
use Rattle.mw_board.specs.declared.control.Control.{Control}
use Rattle.mw_board.specs.declared.field.NamedField.{NamedField}
use Rattle.mw_boardfile.specs.Lists.{none_refused, each_of, list_faults, chosen_list}
use Rattle.mw_boardfile.specs.Values.{values_of, list}
use Rattle.mw_boardfile.specs.Printed.{list_of}

-- what is printed of an entry is read as the entry
abbrev pub IsRead : {A : Type 0} → (Data → Result A Cause) → (A → Data) → A → Type 0
IsRead reader printed x = reader (printed x) ≡ Ok x

-- the values of a list
pub values_read : (values : List Data) → values_of (items_of values) ≡ values
values_read [] = refl
values_read (value ∷ rest) = ap (λ (others : List Data). value ∷ others) (values_read rest)

pub list_read : (values : List Data) → list (list_of values) ≡ Ok values
unfolding list
list_read values = ap (λ (vs : List Data). Ok vs) (values_read values)

-- no entry is refused
pub none_are : {A : Type 0} (reader : Data → Result A Cause) (printed : A → Data) (cause : Cause) (n : ℕ) (xs : List A)
    → AllByRecursion (IsRead reader printed) xs → none_refused reader cause n (map printed xs) ≡ Ok tt
unfolding none_refused
none_are reader printed cause n [] all = refl
none_are reader printed cause n (x ∷ rest) all = rw all.0 (none_are reader printed cause (n + 1) rest all.1)

-- each is read
pub each_are : {A : Type 0} (reader : Data → Result A Cause) (printed : A → Data) (n : ℕ) (xs : List A)
    → AllByRecursion (IsRead reader printed) xs → each_of reader n (map printed xs) ≡ Ok xs
unfolding each_of
each_are reader printed n [] all = refl
each_are reader printed n (x ∷ rest) all = rw (all.0, each_are reader printed (n + 1) rest all.1) refl

-- a list from which a control chooses
pub chosen_are : {A : Type 0} (reader : Data → Result A Cause) (printed : A → Data) (fields : List NamedField)
    (control : Control) (xs : List A) → AllByRecursion (IsRead reader printed) xs
    → chosen_rule control (length xs) ≡ Ok tt → list_rule fields control (length xs) ≡ Ok tt
    → chosen_list reader fields control (map printed xs) ≡ Ok xs
unfolding chosen_list list_faults
chosen_are reader printed fields control xs all chosen right =
    rw (
      none_are reader printed WrongKind 0 xs all,
      none_are reader printed BadNumber 0 xs all,
      none_are reader printed TooWide 0 xs all,
      none_are reader printed BadValue 0 xs all,
      length-map xs printed,
      chosen,
      right,
    ) (each_are reader printed 0 xs all)
