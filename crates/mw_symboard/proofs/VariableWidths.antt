-- The widths of the variables of a list.
use Rattle.std.proofs.Common.{◌≡◌, inl, inr, ℕ, ◌⊎◌, List, [], ◌∷◌, ◌++◌, Bool, true, false, refl, ap, sym, subst, ◌∙◌}
use Rattle.std.proofs.Common.{Option, Some, None}
use Rattle.std.specs.Prelude.{Result, Ok, Err, OnOk, if◌then◌else◌}
use Rattle.mw_board.specs.declared.parts.BoardParts.{BoardParts}
use Rattle.mw_term.specs.declared.kinds.WordKind.{WordKind}
use Rattle.mw_term.specs.declared.kinds.WordKind.TheVariants.{Base}
use Rattle.mw_term.specs.declared.op.Op.TheVariants.{Var}
use Rattle.mw_term.specs.Table.{Table, Extends, op_width}
use Rattle.mw_term.specs.Values.{IsTermOf, Keeps}
use Rattle.mw_term.specs.declared.side.Side.{Side}
use Rattle.mw_term.specs.declared.side.Side.TheVariants.{Board}
use Rattle.mw_term.specs.declared.word.Word.{Word}
use Rattle.mw_term.specs.WordList.{same_kind, variable, is_of, term_of}
use Rattle.mw_cycle.specs.SteadySeries.{Series}
use Rattle.mw_cycle.specs.SteadySeries.{Inputs}
use Rattle.mw_cycle.specs.SteadySeries.{kind_of, width_of}
use Rattle.mw_cycle.proofs.Named.{no_variable, own_series}
use Rattle.mw_symmem.specs.Kinds.{kind_is, kind_own}
use Rattle.mw_symmem.specs.Memory.{Memory, IsOfWidth}
use Rattle.mw_symmem.specs.Workspace.{GoesOn}
use Rattle.mw_symmem.proofs.Growth.{width_stays}
use Rattle.mw_symmem.proofs.Lists.{absent, plain_behind, term_variable}
use Rattle.mw_symboard.specs.Growth.{Grew}
use Rattle.mw_symboard.specs.Kinds.{AreInputs, HaveWidth}

-- ---- a variable

pub wide_variable : (told tnew : Table) (number w term : ℕ)
    → IsTermOf told tnew (Var number w) term → IsOfWidth tnew w term
unfolding op_width
wide_variable told tnew number w term made = record { there = made.there; width_is = made.width }

-- a variable of a kind that wasn't there is found
pub variable_found : (words : List Word) (term : ℕ) (kind : WordKind) → term_of words kind ≡ None
    → term_of (words ++ variable term kind ∷ []) kind ≡ Some term
variable_found words term kind none =
    term_variable words term kind kind none
    ∙ ap (λ (b : Bool). if b then Some term else term_of words kind) (kind_own kind)

one_of : (b : Bool) (x y : ℕ) (o : Option ℕ) → (if b then Some x else o) ≡ Some y
    → ((b ≡ true) × (x ≡ y)) ⊎ (o ≡ Some y)
one_of true x y o is = inl (refl, cc)
one_of false x y o is = inr is

pub no_base : (side : Side) (series : Series) (n k : ℕ) → kind_of side series n ≡ Base k → ⊥
no_base side series n k is = no_variable side (Base k) series n refl (sym is)

-- the widths of a list with a variable of a list more
pub widths_with : (side : Side) (board : BoardParts) (told tnew : Table) (words : List Word) (term : ℕ) (own series : Series)
    (number : ℕ) → Extends told tnew → Keeps told tnew → term_of words (kind_of side own number) ≡ None
    → IsOfWidth tnew (width_of board.width own) term → HaveWidth side board told words series
    → HaveWidth side board tnew (words ++ variable term (kind_of side own number) ∷ []) series
widths_with side board told tnew words term own series number extends keeps none wide widths n a at =
    elim (one_of (same_kind (kind_of side own number) (kind_of side series n)) term a (term_of words (kind_of side series n))
    (sym (term_variable words term (kind_of side own number) (kind_of side series n) none) ∙ at)) [
      | inl same ↦
          let one : own ≡ series =
          own_series side own series number n (kind_is (kind_of side own number) (kind_of side series n) same.0) in
          subst (λ (x : ℕ). IsOfWidth tnew (width_of board.width series) x) same.1
          (subst (λ (s : Series). IsOfWidth tnew (width_of board.width s) term) one wide)
      | inr old ↦ width_stays told tnew (width_of board.width series) a extends keeps (widths n a old)
    ]

-- ---- words that are no variables of a list

pub not_behind : (words more : List Word) (kind : WordKind) → term_of more kind ≡ None
    → term_of (words ++ more) kind ≡ term_of words kind
not_behind [] more kind none = none
not_behind (w ∷ words) more kind none =
    ap (λ found. if is_of w.kind kind then Some w.term else found) (not_behind words more kind none)

-- the kinds of base reads
abbrev pub IsBase : WordKind → Type 0
IsBase kind = (k : ℕ) × (kind ≡ Base k)

-- a read makes no variable of an environment
pub widths_by_read : (side : Side) (board : BoardParts) (told tnew : Table) (wold wnew : List Word) (mold mnew : Memory)
    (series : Series) → GoesOn IsBase told tnew wold wnew mold mnew → HaveWidth side board told wold series
    → HaveWidth side board tnew wnew series
widths_by_read side board told tnew wold wnew mold mnew series goes widths n a at =
    let own = kind_of side series n in
    let none : term_of goes.more own ≡ None =
    absent goes.more own (λ place term is. (let kind = goes.kinds place term own is in no_base side series n kind.0 kind.1))
    in
    let old : term_of wold own ≡ Some a =
    sym (not_behind wold goes.more own none) ∙ ap (λ ws. term_of ws own) (sym goes.words) ∙ at in
    width_stays told tnew (width_of board.width series) a goes.later.extends goes.later.keeps (widths n a old)

-- ---- words that are no variables

pub widths_grew : (side : Side) (board : BoardParts) (told tnew : Table) (wold wnew : List Word) (series : Series)
    → HaveWidth side board told wold series → Grew told tnew wold wnew → HaveWidth side board tnew wnew series
widths_grew side board told tnew wold wnew series widths grew n a at =
    let grows = grew.1 in
    let own = kind_of side series n in
    let old : term_of wold own ≡ Some a =
    sym (plain_behind wold grew.0 own) ∙ ap (λ ws. term_of ws own) (sym grows.words) ∙ at in
    width_stays told tnew (width_of board.width series) a grows.extends grows.keeps (widths n a old)

pub inputs_ok : {X Y : Type 0} (r : Result X Y) (board : BoardParts) (told tnew : Table) (wold wnew : List Word)
    → AreInputs board told wold → OnOk r (Grew told tnew wold wnew) → OnOk r (AreInputs board tnew wnew)
inputs_ok (Ok x) board told tnew wold wnew inputs grew = widths_grew Board board told tnew wold wnew Inputs inputs grew
inputs_ok (Err x) board told tnew wold wnew inputs grew = tt
