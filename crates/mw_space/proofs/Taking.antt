-- An assignment's values of the variables of a list.
use Rattle.std.proofs.Common.{◌≡◌, ℕ, zero, suc, ◌+◌, ◌^◌, ◌<◌, ◌≤◌, List, [], ◌∷◌, ◌++◌, drop, length, length-take-le}
use Rattle.std.proofs.Common.{map, take, take-append-drop, refl, ap, sym, subst, ◌∙◌, arith}
use Rattle.std.specs.Prelude.{if◌then◌else◌, Bool, true, false, filter, Option, Some, None, slice_get, slice_index_or}
use Rattle.std.proofs.Math.Pow.{pow_mono}
use Rattle.std.proofs.lemmas.List.{map-append, take_more}
use Rattle.std.proofs.lemmas.List.Elements.{filter-append}
use Rattle.std.proofs.lemmas.Option.{get_or_from_slice_get, slice_get_read, slice_get_within}
use Rattle.mw_term.specs.declared.side.Side.{Side}
use Rattle.mw_board.specs.declared.parts.BoardParts.{BoardParts}
use Rattle.mw_cycle.specs.SteadySeries.{Series}
use Rattle.mw_cycle.specs.Environment.{Environment}
use Rattle.mw_cycle.specs.SteadySeries.{kind_of, width_of}
use Rattle.mw_cycle.proofs.SteadyLists.{widths_within}
use Rattle.mw_term.specs.declared.kinds.WordKind.{WordKind}
use Rattle.mw_term.specs.declared.word.Word.{Word}
use Rattle.mw_term.specs.Assigned.{Given}
use Rattle.mw_term.specs.Table.{IsTable, Table}
use Rattle.mw_term.specs.Values.{term_value}
use Rattle.mw_term.specs.WordList.{is_of, term_of, variable}
use Rattle.mw_symmem.specs.Words.{HaveOwnKinds, IsVariable}
use Rattle.mw_symmem.proofs.Images.{value_within}
use Rattle.mw_symmem.proofs.Lists.{absent, behind, term_plain, term_variable}
use Rattle.mw_symboard.specs.Variables.{HaveVariables}
use Rattle.mw_space.specs.Entries.{HasEntries, entry, value_or_zero}
use Rattle.mw_space.proofs.Placing.{entry_none}

-- ---- the variables of an environment

value_if : (t : Table) (given : Given) (b : Bool) (term : ℕ) (found : Option ℕ)
    → value_or_zero t given (if b then Some term else found)
    ≡ (if b then term_value t given term else value_or_zero t given found)
value_if t given true term found = refl
value_if t given false term found = refl

value_pushed : (t : Table) (given : Given) (words : List Word) (term : ℕ) (own : Option WordKind) (kind : WordKind)
    → ((k : WordKind) → own ≡ Some k → term_of words k ≡ None)
    → value_or_zero t given (term_of (words ++ (record { term = term; kind = own }) ∷ []) kind)
    ≡ (if is_of own kind then term_value t given term else value_or_zero t given (term_of words kind))
value_pushed t given words term None kind fresh = ap (value_or_zero t given) (term_plain words term kind)
value_pushed t given words term (Some own) kind fresh =
    ap (value_or_zero t given) (term_variable words term own kind (fresh own refl))
    ∙ value_if t given (is_of (Some own) kind) term (term_of words kind)

-- the values of a list's variables with one word more, whose kind is new
pub value_next : (t : Table) (given : Given) (words : List Word) (w : Word) (kind : WordKind)
    → ((k : WordKind) → w.kind ≡ Some k → term_of words k ≡ None)
    → value_or_zero t given (term_of (words ++ w ∷ []) kind)
    ≡ (if is_of w.kind kind then term_value t given w.term else value_or_zero t given (term_of words kind))
value_next t given words w kind fresh = value_pushed t given words w.term w.kind kind fresh

-- the word that was read at a place
pub word_read : (words slice : List Word) (place : ℕ) (w : Word) → slice ≡ words → place < length slice
    → w ≡ slice_index_or slice place w → slice_get words place ≡ Some w
word_read words slice place w same inside is =
    subst (λ ws. slice_get ws place ≡ Some w) same (slice_get_read slice (length slice) place w refl inside is)

-- a word of a list is a variable of its kind
pub word_named : (words : List Word) (place : ℕ) (w : Word) (kind : WordKind) → slice_get words place ≡ Some w
    → w.kind ≡ Some kind → IsVariable words place w.term kind
word_named words place w kind at own =
    at ∙ ap (λ (k : Option WordKind). Some (record { term = w.term; kind = k })) own

new_by : (words front rest : List Word) (place : ℕ) (w : Word) (kind : WordKind) → HaveOwnKinds words
    → front ++ rest ≡ words → length front ≡ place → slice_get words place ≡ Some w → w.kind ≡ Some kind
    → term_of front kind ≡ None
new_by words front rest place w kind own split size at is =
    absent front kind
    (λ i term before.
    let inside : i < length front = slice_get_within front i (variable term kind) before in
    let whole : IsVariable words i term kind =
    subst (λ ws. IsVariable ws i term kind) split (behind front rest i (variable term kind) before) in
    let same : i ≡ place = own kind i place term w.term whole (word_named words place w kind at is) in
    omega (arith, same, inside, size))

-- the kind of a word isn't among those before it
pub new_at : (words : List Word) (place : ℕ) (w : Word) (kind : WordKind) → HaveOwnKinds words
    → slice_get words place ≡ Some w → w.kind ≡ Some kind → term_of (take place words) kind ≡ None
new_at words place w kind own at is =
    let inside : place < length words = slice_get_within words place w at in
    new_by words (take place words) (drop place words) place w kind own (take-append-drop place words)
    (length-take-le place words (omega (arith, inside))) at is

-- the words up to one, and that one
pub taken_next : (words : List Word) (place : ℕ) (w : Word) → slice_get words place ≡ Some w
    → take (place + 1) words ≡ take place words ++ w ∷ []
taken_next words place w at =
    take_more words place w (slice_get_within words place w at)
    ∙ ap (λ x. take place words ++ x ∷ []) (get_or_from_slice_get words place w w at)

-- ---- the widths of the variables

-- the value of a variable of an environment is a value of its list
pub value_fits : (side : Side) (board : BoardParts) (t : Table) (words : List Word) (cycles term : ℕ) (given : Given)
    (series : Series) (n : ℕ) → board.width ≤ 32 → IsTable t → HaveVariables side board t words cycles
    → term_of words (kind_of side series n) ≡ Some term → term_value t given term < 2 ^ width_of 32 series
value_fits side board t words cycles term given series n narrow table have is =
    let bits = width_of board.width series in
    let below : term_value t given term < 2 ^ bits =
    value_within t given bits term table (have.widths series n term is) in
    let most : 2 ^ bits ≤ 2 ^ width_of 32 series = pow_mono (widths_within board.width series narrow) in
    omega (arith, below, most)

-- a kind whose variable isn't there has no value yet
pub entry_fresh : (side : Side) (env : Environment) (t : Table) (given : Given) (words : List Word) (kind : WordKind)
    → HasEntries side t words given env
    → term_of words kind ≡ None → entry side env kind ≡ 0
entry_fresh side env t given words kind entries none =
    entry_none side env kind (λ outside. entries kind outside ∙ ap (value_or_zero t given) none)
