-- The variables of a cycle among words that are added.
use Rattle.std.proofs.Common.{◌≡◌, inl, inr, ℕ, suc, ◌+◌, ◌≤◌, List, [], ◌∷◌, ◌++◌, Bool, true, false}
use Rattle.std.proofs.Common.{Option, Some, None, if◌then◌else◌, refl, sym, subst, ◌∙◌, ap, arith}
use Rattle.mw_board.specs.declared.parts.BoardParts.{BoardParts}
use Rattle.mw_term.specs.declared.kinds.WordKind.{WordKind}
use Rattle.mw_term.specs.declared.side.Side.{Side}
use Rattle.mw_term.specs.declared.side.Side.TheVariants.{Board, Machine}
use Rattle.mw_term.specs.Table.{Table, Extends, IsTable}
use Rattle.mw_term.specs.Values.{Keeps}
use Rattle.mw_term.specs.declared.word.Word.{Word}
use Rattle.mw_term.specs.WordList.{same_kind, variable, is_of, term_of}
use Rattle.mw_symmem.specs.Kinds.{kind_is, kind_own}
use Rattle.mw_symmem.specs.Memory.{Memory, IsOfWidth}
use Rattle.mw_symmem.specs.Words.{AreOf}
use Rattle.mw_symmem.specs.Workspace.{GoesOn, HaveKinds, IsWorkspace}
use Rattle.mw_symmem.proofs.Growth.{width_stays}
use Rattle.mw_symmem.proofs.Later.{goes_by_variable}
use Rattle.mw_symmem.proofs.Lists.{plain_behind, term_variable}
use Rattle.mw_symboard.specs.Growth.{Grew}
use Rattle.mw_cycle.specs.SteadySeries.{Series}
use Rattle.mw_cycle.specs.SteadySeries as lists
use Rattle.mw_cycle.specs.SteadySeries.{goes_by_cycle, kind_of, width_of}
use Rattle.mw_cycle.proofs.Named.{no_input, own_number}
use Rattle.mw_symboard.specs.Kinds.{AreInputs, HaveWidth, HaveWidths, IsCycleKind, IsSourceKind}
use Rattle.mw_symboard.specs.Turns.{AreNoLater}
use Rattle.mw_symboard.proofs.VariableWidths.{no_base, not_behind, widths_with}

-- ---- a kind that isn't there

none_if : (b : Bool) (a : ℕ) (rest more : Option ℕ) → (rest ≡ None → more ≡ None)
    → (if b then Some a else rest) ≡ None → (if b then Some a else more) ≡ None
none_if true a rest more later is = is
none_if false a rest more later is = later is

pub none_both : (xs ys : List Word) (kind : WordKind) → term_of xs kind ≡ None → term_of ys kind ≡ None
    → term_of (xs ++ ys) kind ≡ None
none_both [] ys kind first second = second
none_both (x ∷ xs) ys kind first second =
    none_if (is_of x.kind kind) x.term (term_of xs kind) (term_of (xs ++ ys) kind)
    (λ none. none_both xs ys kind none second) first

none_test : (b : Bool) (term : ℕ) (rest : Option ℕ) → (b ≡ true → ⊥) → rest ≡ None
    → (if b then Some term else rest) ≡ None
none_test true term rest other none = absurd (other refl)
none_test false term rest other none = none

none_head : (K : WordKind → Type 0) (o : Option WordKind) (kind : WordKind) (term : ℕ) (rest : Option ℕ)
    → ((own : WordKind) → o ≡ Some own → K own) → (K kind → ⊥) → rest ≡ None
    → (if is_of o kind then Some term else rest) ≡ None
none_head K None kind term rest owns other none = none
none_head K (Some own) kind term rest owns other none =
    none_test (same_kind own kind) term rest (λ same. other (subst K (kind_is own kind same) (owns own refl))) none

named : (w : Word) (own : WordKind) → w.kind ≡ Some own → Some w ≡ Some (variable w.term own)
named w own is = ap (λ (k : Option WordKind). Some (record { term = w.term; kind = k })) is

pub none_kind : (K : WordKind → Type 0) (words : List Word) (kind : WordKind) → HaveKinds K words → (K kind → ⊥)
    → term_of words kind ≡ None
none_kind K [] kind kinds other = refl
none_kind K (w ∷ words) kind kinds other =
    none_head K w.kind kind w.term (term_of words kind) (λ own is. kinds 0 w.term own (named w own is)) other
    (none_kind K words kind (λ place term own is. kinds (suc place) term own is) other)

-- ---- with words that are no variables

-- a kind has the variable that it had
pub grew_term : (told tnew : Table) (old new : List Word) (kind : WordKind) → Grew told tnew old new
    → term_of new kind ≡ term_of old kind
grew_term told tnew old new kind grew =
    ap (λ (ws : List Word). term_of ws kind) grew.1.words ∙ plain_behind old grew.0 kind

pub grew_none_later : (side : Side) (cycle : ℕ) (told tnew : Table) (old new : List Word) → Grew told tnew old new
    → AreNoLater side cycle old → AreNoLater side cycle new
grew_none_later side cycle told tnew old new grew none series by n from =
    grew_term told tnew old new (kind_of side series n) grew ∙ none series by n from

-- ---- with what a source of D makes

no_source : (side : Side) (taken n : ℕ) (series : Series) → goes_by_cycle series ≡ true
    → IsSourceKind taken (kind_of side series n) → ⊥
no_source side taken n series by is = elim is [
  | inl h ↦ no_base side series n h.0 h.1
  | inr h ↦ no_input side series n taken by h
]

pub source_none_later : (side : Side) (cycle taken : ℕ) (old new more : List Word) → new ≡ old ++ more
    → HaveKinds (IsSourceKind taken) more → AreNoLater side cycle old → AreNoLater side cycle new
source_none_later side cycle taken old new more words kinds none series by n from =
    let own = kind_of side series n in
    ap (λ (ws : List Word). term_of ws own) words
    ∙ none_both old more own (none series by n from)
    (none_kind (IsSourceKind taken) more own kinds (no_source side taken n series by))

-- a source makes no variable of a list that goes by cycle
pub source_width : (side : Side) (board : BoardParts) (taken : ℕ) (told tnew : Table) (wold wnew : List Word)
    (mold mnew : Memory) (series : Series) → goes_by_cycle series ≡ true
    → GoesOn (IsSourceKind taken) told tnew wold wnew mold mnew → HaveWidth side board told wold series
    → HaveWidth side board tnew wnew series
source_width side board taken told tnew wold wnew mold mnew series by goes widths n a at =
    let own = kind_of side series n in
    let none : term_of goes.more own ≡ None =
    none_kind (IsSourceKind taken) goes.more own goes.kinds (no_source side taken n series by) in
    let old : term_of wold own ≡ Some a =
    sym (not_behind wold goes.more own none) ∙ ap (λ ws. term_of ws own) (sym goes.words) ∙ at in
    width_stays told tnew (width_of board.width series) a goes.later.extends goes.later.keeps (widths n a old)

-- with the inputs that it leaves all variables have their widths
pub source_widths : (side : Side) (board : BoardParts) (taken : ℕ) (told tnew : Table) (wold wnew : List Word)
    (mold mnew : Memory) → GoesOn (IsSourceKind taken) told tnew wold wnew mold mnew → AreInputs board tnew wnew
    → HaveWidths side board told wold → HaveWidths side board tnew wnew
source_widths side board taken told tnew wold wnew mold mnew goes inputs widths lists.Inputs = inputs
source_widths side board taken told tnew wold wnew mold mnew goes inputs widths series =
    source_width side board taken told tnew wold wnew mold mnew series refl goes (widths series)

-- ---- line and noise

not_so : (b : Bool) → (b ≡ true → ⊥) → b ≡ false
not_so true other = absurd (other refl)
not_so false other = refl

-- a variable of a cycle is none of a later one
apart : (side : Side) (own series : Series) (cycle n : ℕ) → cycle + 1 ≤ n
    → same_kind (kind_of side own cycle) (kind_of side series n) ≡ false
apart side own series cycle n later =
    not_so (same_kind (kind_of side own cycle) (kind_of side series n))
    (λ same.
    let one : cycle ≡ n =
    own_number side own series cycle n (kind_is (kind_of side own cycle) (kind_of side series n) same) in
    omega (arith, one, later))

-- the line's is none of the noise
pub line_apart : (side : Side) (m n : ℕ) → same_kind (kind_of side lists.Line m) (kind_of side lists.Noise n) ≡ false
line_apart Board m n = refl
line_apart Machine m n = refl

pub noise_apart : (side : Side) (m n : ℕ) → same_kind (kind_of side lists.Noise m) (kind_of side lists.Line n) ≡ false
noise_apart Board m n = refl
noise_apart Machine m n = refl

-- with a variable more, of a list that goes by cycle
module _ (side : Side) (own : Series) (by : goes_by_cycle own ≡ true) (cycle : ℕ) (t0 t1 : Table) (w0 w1 : List Word)
    (term : ℕ) (fresh : term_of w0 (kind_of side own cycle) ≡ None)
    (words : w1 ≡ w0 ++ variable term (kind_of side own cycle) ∷ []) where
  with_own : (kind : WordKind)
      → term_of w1 kind ≡ (if same_kind (kind_of side own cycle) kind then Some term else term_of w0 kind)
  with_own kind =
      ap (λ (ws : List Word). term_of ws kind) words ∙ term_variable w0 term (kind_of side own cycle) kind fresh

  pub own_there : term_of w1 (kind_of side own cycle) ≡ Some term
  own_there =
      with_own (kind_of side own cycle)
      ∙ ap (λ (b : Bool). if b then Some term else term_of w0 (kind_of side own cycle))
      (kind_own (kind_of side own cycle))

  pub other_kept : (kind : WordKind) → same_kind (kind_of side own cycle) kind ≡ false → term_of w1 kind
      ≡ term_of w0 kind
  other_kept kind other = with_own kind ∙ ap (λ (b : Bool). if b then Some term else term_of w0 kind) other

  pub none_after : AreNoLater side (cycle + 1) w0 → AreNoLater side (cycle + 1) w1
  none_after none series by n from =
      other_kept (kind_of side series n) (apart side own series cycle n from) ∙ none series by n from

  pub widths_after : (board : BoardParts) → Extends t0 t1 → Keeps t0 t1 → IsOfWidth t1 (width_of board.width own) term
      → HaveWidths side board t0 w0 → HaveWidths side board t1 w1
  widths_after board extends keeps wide are series =
      subst (λ (ws : List Word). HaveWidth side board t1 ws series) (sym words)
      (widths_with side board t0 t1 w0 term own series cycle extends keeps fresh wide (are series))

  pub goes_by_own : (taken : ℕ) (line : Option ℕ) → (own ≡ lists.Line → line ≡ None) → (m : Memory) → Extends t0 t1 → Keeps t0 t1 → IsTable t1 → (AreOf t0 w0 → AreOf t1 w1)
      → IsWorkspace t0 w0 m → GoesOn (IsCycleKind side cycle taken line) t0 t1 w0 w1 m m
  goes_by_own taken line unlined m extends keeps table of workspace =
      goes_by_variable (IsCycleKind side cycle taken line) t0 t1 w0 w1 m term (kind_of side own cycle) words extends keeps
      table of (inr (own, by, unlined, refl)) (no_base side own cycle) workspace

-- none of a cycle or later, and so none later
pub later_none : (side : Side) (cycle : ℕ) (words : List Word) → AreNoLater side cycle words
    → AreNoLater side (cycle + 1) words
later_none side cycle words none series by n from = none series by n (omega (arith, from))
