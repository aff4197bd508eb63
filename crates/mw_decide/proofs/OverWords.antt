-- What is over a budget of nodes, said of the word list along decided bits.
use Rattle.std.proofs.Common.{◌≡◌, inl, inr, ℕ, zero, suc, ◌+◌, ◌<◌, List, [], ◌∷◌, length, append-nil, ap, sym, subst}
use Rattle.std.proofs.Common.{◌∙◌, arith, refl}
use Rattle.std.specs.Option.{unwrap_or}
use Rattle.std.specs.Prelude.{Bool, true, false, IsSome, Option, Some, None, option_map, ◌==◌, if◌then◌else◌, slice_get}
use Rattle.std.specs.Prelude.{slice_index_or}
use Rattle.std.proofs.lemmas.Bool.{eqb-true}
use Rattle.std.proofs.lemmas.Option.{same_Some}
use Rattle.mw_term.specs.declared.decided.Decided.{Decided}
use Rattle.mw_term.specs.Cofactors.{HasMoreCofactors}
use Rattle.mw_term.specs.declared.word.Word.{Word}
use Rattle.mw_term.specs.Functions.{Function, Triple}
use Rattle.mw_term.specs.Numbered.{IsNumbered}
use Rattle.mw_term.specs.Rows.{bit}
use Rattle.mw_term.specs.Table.{Table, table_of}
use Rattle.mw_term.specs.WordList.{WordList, number_from, table_in, word_number}
use Rattle.mw_dd.proofs.Cofactors.{more-same}
use Rattle.mw_blast.specs.declared.fault.BlastFault.{BlastFault}
use Rattle.mw_blast.specs.declared.fault.BlastFault.TheVariants as faults
use Rattle.mw_blast.specs.Causes.{IsOver}
use Rattle.mw_blast.specs.Numbers.{OverHaveNumbers}
use Rattle.mw_blast.specs.Shared.{IsWrittenSplitCause}
use Rattle.mw_blast.specs.Splits.{IsPathOver}
use Rattle.mw_space.specs.declared.space.Space.{Space}
use Rattle.mw_space.specs.Spaces.{list_of_space}
use Rattle.mw_symmem.proofs.Lists.{behind}
use Rattle.mw_rel.specs.TreeOperations.IsOperation.{of_path, of_row}
use Rattle.mw_rel.specs.CaseWords.{CaseWords}
use Rattle.mw_rel.specs.TreePaths.{IsWord, StandsAtWord, next_bit, path_along, path_word}
use Rattle.mw_rel.specs.TreePaths.StandsAtWord.{at_constant, at_word}
use Rattle.mw_rel.specs.WordTree.{WordTree}
use Rattle.mw_explore.specs.declared.fault.Fault.TheVariants as stops
use Rattle.mw_decide.specs.Decisions.{IsListed, IsOperationOver, StopsIn}
use Rattle.mw_decide.specs.Faults.{RunStop}
use Rattle.mw_decide.specs.Fronts.{IsFrontOf}
use Rattle.mw_decide.proofs.WordPaths.{word_same}

-- ---- numbers of words

-- a number that a list gives, counting from one on, is that of a word with the term
abbrev IsFrom : (ws : List Word) → (first number term : ℕ) → Type 0
IsFrom ws first number term =
    (place : ℕ) × (number ≡ place + first) × (option_map (λ w. w.term) (slice_get ws place) ≡ Some term)

from_next : (w : Word) (rest : List Word) (first number term : ℕ) → IsFrom rest (first + 1) number term
    → IsFrom (w ∷ rest) first number term
from_next w rest first number term is = (suc is.0, omega (arith, is.1), is.2)

number_is_from : (ws : List Word) (first number term : ℕ) → number_from first ws term ≡ Some number
    → IsFrom ws first number term
number_is_from [] first number term is = absurd cc
number_is_from (w ∷ rest) first number term is =
    at (w.term == term) refl is (number_is_from rest (first + 1) number term) where
      at : (here : Bool) → (w.term == term) ≡ here
          → (if here then Some first else number_from (first + 1) rest term) ≡ Some number
          → (number_from (first + 1) rest term ≡ Some number → IsFrom rest (first + 1) number term)
          → IsFrom (w ∷ rest) first number term
      at true same found further = (
        zero,
        omega (arith, same_Some first number found),
        ap (λ (x : ℕ). Some x) (eqb-true w.term term same),
      )
      at false same found further = from_next w rest first number term (further found)

-- a list is the beginning of itself
pub front_itself : (l : WordList) → IsFrontOf l l
front_itself l = record {
  ops = [];
  words = [];
  ops_are = sym (append-nil l.ops);
  words_are = sym (append-nil l.words);
}

-- the number that a list gives is that of a word with the term
pub number_is_word : (l : WordList) (number term : ℕ) → word_number l.words term ≡ Some number → IsWord l number term
number_is_word l number term is = number_is_from l.words 1 number term is

-- so is the number of a term that has one
pub has_word : (l : WordList) (term : ℕ) (found : Option ℕ) → word_number l.words term ≡ found → IsSome found
    → IsWord l (unwrap_or found (length l.words)) term
has_word l term None same some = absurd cc
has_word l term (Some number) same some = number_is_word l number term same

-- the number of a term or, where it has none, of the last word so far
abbrev pub number_or_last : (words : List Word) → (term : ℕ) → ℕ
number_or_last words term = unwrap_or (word_number words term) (length words)

-- a path word of a term stands at its number or, where it has none, at the last one so far
stands_at : (t : Table) (l : WordList) (term : ℕ) (found : Option ℕ) → word_number l.words term ≡ found
    → StandsAtWord t l l term (unwrap_or found (length l.words))
stands_at t l term None same = at_constant same refl
stands_at t l term (Some number) same =
    let word = number_is_word l number term same in
    at_word number term word word (λ given. refl)

-- ---- operations that are over

-- a word of the beginning of a list is one of the list
pub word_front : (front all : WordList) (number term : ℕ) → IsFrontOf front all → IsWord front number term
    → IsWord all number term
word_front front all number term is word =
    (word.0, word.1, at (slice_get front.words word.0) refl word.2) where
      at : (o : Option Word) → slice_get front.words word.0 ≡ o → option_map (λ w. w.term) o ≡ Some term
          → option_map (λ w. w.term) (slice_get all.words word.0) ≡ Some term
      at None found same = absurd cc
      at (Some w) found same =
          ap (λ (o : Option Word). option_map (λ w. w.term) o)
          (ap (λ (ws : List Word). slice_get ws word.0) is.words_are ∙ behind front.words is.words word.0 w found)
          ∙ same

-- one of the term table's row, at the number that the beginning of the list gives
pub over_at : (tree : WordTree) (nodes : ℕ) (bits : List Decided) (front : WordList) (term j : ℕ)
    → IsFrontOf front (tree.words bits).list → IsSome (word_number front.words term)
    → IsOver (table_in tree.map (tree.words bits).list) term j nodes
    → IsOperationOver tree nodes bits (number_or_last front.words term) j
over_at tree nodes bits front term j is some over = record {
  operation = over.over.1;
  listed = of_row (record {
    term = term;
    at = word_front front (tree.words bits).list (number_or_last front.words term) term is
        (has_word front term (word_number front.words term) refl some);
    op = over.op;
    its = over.its;
    among = (over.over.0, over.over.2, over.over.3);
  });
  over = over.over.4;
}

-- an operation at the number of a term in a space, of the list along decided bits
abbrev IsOverAt : WordTree → (nodes : ℕ) → (bits : List Decided) → Space → (term j : ℕ) → Type 0
IsOverAt tree nodes bits space term j = IsOperationOver tree nodes bits (number_or_last space.words term) j

-- one of the term table's row
row_over : (tree : WordTree) (nodes : ℕ) (bits : List Decided) (space : Space) (path : Function) (term named j : ℕ)
    → OverHaveNumbers → IsNumbered (tree.words bits).list → IsListed tree bits space path term
    → IsOver space.terms named j nodes → IsOverAt tree nodes bits space named j
row_over tree nodes bits space path term named j law numbered listed over =
    let l = list_of_space space in
    let same : (tree.words bits).list ≡ l = ap (λ (w : CaseWords). w.list) listed.asks in
    let table : table_in tree.map (tree.words bits).list ≡ space.terms =
    ap (λ (w : CaseWords). table_in tree.map w.list) listed.asks
    ∙ ap (λ (entries : List ℕ). table_of space.terms.ops entries) (sym listed.map) in
    over_at tree nodes bits l named j (subst (λ (x : WordList). IsFrontOf l x) (sym same) (front_itself l))
    (law space.terms.map l named j nodes (subst IsNumbered same numbered) over)
    (subst (λ (t : Table). IsOver t named j nodes) (sym table) over)

-- that of a path word for one value of the bit
value_over : (tree : WordTree) (nodes : ℕ) (bits : List Decided) (space : Space) (path : Function) (term : ℕ) (value : Bool)
    → IsListed tree bits space path term → HasMoreCofactors (path_word path (bit space.terms term 0) value) nodes
    → IsOverAt tree nodes bits space term 0
value_over tree nodes bits space path term value listed over = record {
  operation = path_word (path_along tree bits) (next_bit tree bits) value;
  listed = of_path (record {
    before = bits;
    rest = [];
    bits_are = sym (append-nil bits);
    term = term;
    asked = ap (λ (w : CaseWords). w.asked) listed.asks;
    at = subst (λ (l : WordList). StandsAtWord (table_in tree.map (tree.words bits).list) l l term
        (number_or_last space.words term)) (sym (ap (λ (w : CaseWords). w.list) listed.asks))
        (stands_at _ (list_of_space space) term (word_number space.words term) refl);
    lowest = refl;
    value = value;
    is = refl;
  });
  over = more-same _ _ nodes (word_same tree bits space path term value listed) over;
}

-- one of both path words
path_over : (tree : WordTree) (nodes : ℕ) (bits : List Decided) (space : Space) (path : Function) (term : ℕ)
    → IsListed tree bits space path term → IsPathOver path (bit space.terms term 0) nodes
    → IsOverAt tree nodes bits space term 0
path_over tree nodes bits space path term listed over =
    at over.0 over.1 over.2 over.3 over.4 where
      at : (k : ℕ) (u : Triple) → k < 2
          → slice_index_or
          (path_word path (bit space.terms term 0) false ∷ path_word path (bit space.terms term 0) true ∷ []) k u ≡ u
          → HasMoreCofactors u nodes → IsOverAt tree nodes bits space term 0
      at zero u inside is more =
          value_over tree nodes bits space path term false listed
          (subst (λ (t : Triple). HasMoreCofactors t nodes) (sym is) more)
      at (suc zero) u inside is more =
          value_over tree nodes bits space path term true listed
          (subst (λ (t : Triple). HasMoreCofactors t nodes) (sym is) more)
      at (suc (suc k)) u inside is more = absurd (omega arith)

-- ---- where a run stops

-- a stop says the fault of a term by the number of its word
pub record Tells (words : List Word) (fault : BlastFault) (stop : RunStop) : Type 0 where
  pub over : (term j : ℕ) → fault ≡ faults.Over term j → stop
      ≡ stops.Over (record { word = number_or_last words term; bit = j })
  pub none : fault ≡ faults.NoMemory → stop ≡ stops.NoMemory

-- a run whose path wasn't split stops by that
pub stops_in : (tree : WordTree) (nodes : ℕ) (bits : List Decided) (space : Space) (places : List ℕ) (path : Function)
    (term : ℕ) (fault : BlastFault) (stop : RunStop) → OverHaveNumbers → IsNumbered (tree.words bits).list
    → IsListed tree bits space path term → IsWrittenSplitCause space.terms places path term nodes fault
    → Tells space.words fault stop → StopsIn tree nodes bits stop
stops_in tree nodes bits space places path term (faults.Over named j) stop law numbered listed cause tells =
    rw (tells.over named j refl) (
      rw (ap (λ (w : CaseWords). w.asked) listed.asks) refl,
      elim cause [
        | inl h ↦ row_over tree nodes bits space path term named j law numbered listed h.over
        | inr h ↦
            subst (λ (x : ℕ). IsOverAt tree nodes bits space x j) (sym h.0)
            (subst (λ (x : ℕ). IsOverAt tree nodes bits space term x) (sym h.1)
            (path_over tree nodes bits space path term listed h.2))
      ],
    )
stops_in tree nodes bits space places path term faults.NoMemory stop law numbered listed cause tells =
    rw (tells.none refl) tt
