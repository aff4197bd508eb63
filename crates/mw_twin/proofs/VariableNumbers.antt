-- The numbers of variables of different kinds.
use Rattle.std.proofs.Common.{◌≡◌, ℕ, ◌+◌, List, ap, sym, subst, ◌∙◌, arith, refl}
use Rattle.std.specs.Prelude.{None, slice_get}
use Rattle.std.proofs.lemmas.Option.{same_Some}
use Rattle.mw_cycle.specs.SteadySeries.{series_of_kind}
use Rattle.mw_cycle.proofs.Named.{no_variable}
use Rattle.mw_term.specs.declared.kinds.WordKind.{WordKind}
use Rattle.mw_term.specs.declared.kinds.WordKind.TheVariants.{Base, Element}
use Rattle.mw_term.specs.declared.side.Side.{Side}
use Rattle.mw_term.specs.declared.side.Side.TheVariants.{Board, Machine}
use Rattle.mw_term.specs.declared.word.Word.{Word}
use Rattle.mw_term.specs.WordList.{variable}
use Rattle.mw_symmem.specs.Memory.{IsBaseNumber}
use Rattle.mw_symmem.specs.Words.{IsVariable}
use Rattle.mw_symmem.proofs.Lists.{kind_of}
use Rattle.mw_symboard.specs.Variables.{IsOutsideKind, IsOutsideNumber}

-- two variables of one number are of one kind
pub one_kind : (words : List Word) (i j a b : ℕ) (one two : WordKind) → i + 1 ≡ j + 1 → IsVariable words i a one
    → IsVariable words j b two → one ≡ two
one_kind words i j a b one two same first second =
    let place : i ≡ j = omega (arith, same) in
    kind_of (same_Some (variable a one) (variable b two) (sym first ∙ ap (slice_get words) place ∙ second))

-- the number of a variable of no environment of a side isn't one of that
pub inside : (side : Side) (words : List Word) (place term : ℕ) (kind : WordKind) → series_of_kind side kind ≡ None
    → IsVariable words place term kind → ¬ IsOutsideNumber side words (place + 1)
inside side words place term kind none is other =
    let outside : IsOutsideKind side kind = subst (IsOutsideKind side)
    (sym (one_kind words place other.place term other.term kind other.kind other.number is other.is)) other.outside in
    no_variable side kind outside.0 outside.1 none outside.2

-- nor is that of an element's variable one of a base read
pub element_no_base : (words : List Word) (place term n : ℕ) → IsVariable words place term (Element n)
    → ¬ IsBaseNumber words (place + 1)
element_no_base words place term n is other =
    let e : Element n ≡ Base other.k =
    one_kind words place other.place term other.term (Element n) (Base other.k) other.number is other.is in cc

base_inside : (side : Side) (k : ℕ) → series_of_kind side (Base k) ≡ None
base_inside Board k = refl
base_inside Machine k = refl

pub element_inside : (side : Side) (n : ℕ) → series_of_kind side (Element n) ≡ None
element_inside Board n = refl
element_inside Machine n = refl

-- nor that of a variable of an environment
pub outside_no_base : (side : Side) (words : List Word) (n : ℕ) → IsOutsideNumber side words n → ¬ IsBaseNumber words n
outside_no_base side words n one other =
    inside side words other.place other.term (Base other.k) (base_inside side other.k) other.is
    (subst (IsOutsideNumber side words) other.number one)
