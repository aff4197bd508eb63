-- What comparisons say of the word list along decided bits: what is over a budget, and what is looked for.
use Rattle.std.proofs.Common.{◌≡◌, ℕ, zero, List, [], ◌∷◌, ◌++◌, ap, sym, subst, ◌∙◌, arith, refl}
use Rattle.std.specs.Prelude.{Contains, IsSome, false, slice_index_or}
use Rattle.std.proofs.lemmas.List.Elements.{All-contains, Contains-append_right}
use Rattle.mw_term.specs.declared.decided.Decided.{Decided}
use Rattle.mw_term.specs.Assigned.{Numbers}
use Rattle.mw_term.specs.Cofactors.{Agree, AreSame, HasAtMostCofactors, HasMoreCofactors}
use Rattle.mw_term.specs.Functions.{Function, made, never}
use Rattle.mw_term.specs.Rows.{bit}
use Rattle.mw_term.specs.Table.{IsTable, Table, table_of}
use Rattle.mw_term.specs.WordList.{WordList, word_number, table_in}
use Rattle.mw_dd.specs.Diagrams.{IsFirst}
use Rattle.mw_dd.proofs.Cofactors.{more-same}
use Rattle.mw_blast.specs.Causes.{IsOver}
use Rattle.mw_blast.specs.Numbers.{OverHaveNumbers}
use Rattle.mw_rel.specs.TreeOperations.IsOperation.{of_comparison}
use Rattle.mw_rel.specs.CaseWords.{CaseWords, whole}
use Rattle.mw_rel.specs.ComparisonWords.{Compared, Comparison}
use Rattle.mw_decide.specs.Decisions.{IsOperationOver}
use Rattle.mw_rel.specs.TreePaths.{comparison_word, path_along}
use Rattle.mw_rel.specs.WordTree.{WordTree}
use Rattle.mw_rel.specs.TreePaths.StandsAtWord.{at_word}
use Rattle.mw_rel.specs.TreeSought.{IsSought, NeverFails}
use Rattle.mw_rel.specs.TreeSought.IsSought.{at_comparison as sought_at, on_path}
use Rattle.mw_space.specs.declared.space.Space.{Space}
use Rattle.mw_decide.specs.Faults.{RunStop}
use Rattle.mw_explore.specs.declared.fault.Fault.TheVariants.{NoMemory, Over}
use Rattle.mw_decide.specs.declared.fault.Place.{Place}
use Rattle.mw_compare.specs.Comparing.{FailsFirst, HaveCompared, IsComparedOver, IsFrontOf, StopsComparing, word_on}
use Rattle.mw_compare.specs.Comparing.IsComparedOver.{at_comparison, in_list}
use Rattle.mw_compare.specs.TreeComparisons.{AreComparisonsWithin, ComparisonStopsIn}
use Rattle.mw_space.specs.Spaces.{list_of_space}
use Rattle.mw_compare.proofs.EachCompared.{AreComparedIn, IsComparedIn}
use Rattle.mw_compare.proofs.LongerRows.{over_front}
use Rattle.mw_decide.proofs.OverWords.{has_word, number_or_last, over_at, word_front}
use Rattle.mw_path.proofs.Triples.{at_most_same, made_same}
use Rattle.mw_decide.proofs.WordPaths.{path_word_same}

-- ---- path words of comparisons

-- a path word on the run's path is that of the list
pub compared_same : (tree : WordTree) (bits : List Decided) (path : Function) (c : Comparison)
    → Agree path (path_along tree bits)
    → AreSame (word_on tree.map path c) (comparison_word tree bits c)
compared_same tree bits path c written =
    path_word_same path (path_along tree bits) (bit (table_in tree.map c.list) c.term 0) false written

at_seam : {X : Type 0} (before after : List X) (x : X) → Contains (before ++ x ∷ after) x
at_seam before after x = Contains-append_right before (x ∷ after) x (zero, omega arith, refl)

-- ---- over a budget

-- the path word of a comparison
comparison_over : (tree : WordTree) (nodes : ℕ) (bits : List Decided) (path : Function) (c : Comparison)
    → IsFrontOf c.list (tree.words bits).list → IsSome (word_number c.list.words c.term)
    → Contains (tree.words bits).comparisons c → Agree path (path_along tree bits)
    → HasMoreCofactors (word_on tree.map path c) nodes
    → IsOperationOver tree nodes bits (number_or_last c.list.words c.term) 0
comparison_over tree nodes bits path c front some among written over =
    let own = number_or_last c.list.words c.term in
    let word = word_front c.list (tree.words bits).list own c.term front
    (has_word c.list c.term (word_number c.list.words c.term) refl some) in
    record {
      operation = comparison_word tree bits c;
      listed = of_comparison (record {
        compared = c;
        among = among;
        at = at_word own c.term word word (λ given. refl);
        lowest = refl;
        is = refl;
      });
      over = more-same _ _ nodes (compared_same tree bits path c written) over;
    }

-- the table of a space's list is that of its terms
space_table : (map : List ℕ) (space : Space) → space.terms.map ≡ map → table_in map (list_of_space space) ≡ space.terms
space_table map space is = ap (λ (entries : List ℕ). table_of space.terms.ops entries) (sym is)

-- an operation of the list up to a comparison, or of its path word
over_by : (tree : WordTree) (nodes : ℕ) (bits : List Decided) (space : Space) (path : Function) (c : Comparison)
    (term j : ℕ) → OverHaveNumbers → IsComparedIn (tree.words bits).list c
    → Contains (tree.words bits).comparisons c → c.list ≡ list_of_space space
    → table_in tree.map c.list ≡ space.terms → IsTable space.terms → Agree path (path_along tree bits)
    → IsComparedOver tree.map nodes space path c term j
    → IsOperationOver tree nodes bits (number_or_last c.list.words term) j
over_by tree nodes bits space path c term j law is among list same table written (in_list over) =
    let map = tree.map in
    let here : IsOver (table_in map c.list) term j nodes =
    subst (λ (t : Table). IsOver t term j nodes) (sym same) over in
    over_at tree nodes bits c.list term j is.front (law map c.list term j nodes is.numbered here)
    (over_front map c.list (tree.words bits).list term j nodes
    (subst IsTable (sym same) table) is.front here)
over_by tree nodes bits space path c term j law is among list same table written
    (at_comparison its low more) =
    let some = is.numbered.numbered c.term _ is.its refl in
    subst (λ (x : ℕ). IsOperationOver tree nodes bits (number_or_last c.list.words x) j) its
    (subst (λ (x : ℕ). IsOperationOver tree nodes bits (number_or_last c.list.words c.term) x) (sym low)
    (comparison_over tree nodes bits path c is.front some among written more))

-- where the comparison stops, an operation of the case's list is over the budget
pub over_compared : {uncompared : WordList} (tree : WordTree) (nodes : ℕ) (bits : List Decided) (map : List ℕ)
    (space : Space) (path : Function)
    (compared : Compared) (word j : ℕ) → OverHaveNumbers
    → AreComparedIn (tree.words bits).list (tree.words bits).comparisons → map ≡ tree.map
    → tree.words bits ≡ whole uncompared compared → Agree path (path_along tree bits)
    → StopsComparing map nodes space path compared word j
    → IsOperationOver tree nodes bits word j
over_compared tree nodes bits map space path compared word j law are entries words written stops =
    let c = stops.at in
    let among : Contains (tree.words bits).comparisons c =
    subst (λ (xs : List Comparison). Contains xs c) (sym (ap (λ (w : CaseWords). w.comparisons) words ∙ stops.are))
    (at_seam stops.before stops.after c) in
    let is = All-contains (IsComparedIn (tree.words bits).list) (tree.words bits).comparisons c
    are.each among in
    let table : table_in tree.map c.list ≡ space.terms =
    ap (table_in tree.map) stops.list ∙ space_table tree.map space (stops.map_is ∙ entries) in
    let over = subst (λ (m : List ℕ). IsComparedOver m nodes space path c stops.term j) entries stops.over in
    let named : word ≡ number_or_last c.list.words stops.term =
    stops.named ∙ ap (λ (l : WordList). number_or_last l.words stops.term) (sym stops.list) in
    subst (λ (x : ℕ). IsOperationOver tree nodes bits x j) (sym named)
    (over_by tree nodes bits space path c stops.term j law is among stops.list table stops.table
    written over)

-- so it is whatever it stops by
pub stops_comparing : {uncompared : WordList} (tree : WordTree) (nodes : ℕ) (bits : List Decided) (map : List ℕ)
    (space : Space) (path : Function)
    (compared : Compared) (stop : RunStop) → OverHaveNumbers
    → AreComparedIn (tree.words bits).list (tree.words bits).comparisons → map ≡ tree.map
    → tree.words bits ≡ whole uncompared compared → Agree path (path_along tree bits)
    → ((place : Place) → stop ≡ Over place → StopsComparing map nodes space path compared place.word place.bit)
    → ComparisonStopsIn tree nodes bits stop
stops_comparing tree nodes bits map space path compared
    (Over place) law are entries words written stops =
    over_compared tree nodes bits map space path compared place.word place.bit law are entries words written
    (stops place refl)
stops_comparing tree nodes bits map space path compared NoMemory law are entries words written stops =
    tt

-- ---- within a budget

-- where all comparisons were made, each is within the budget
pub within_all : {uncompared : WordList} (tree : WordTree) (nodes : ℕ) (bits : List Decided) (map : List ℕ)
    (space : Space) (path : Function)
    (compared : Compared) → map ≡ tree.map → tree.words bits ≡ whole uncompared compared
    → Agree path (path_along tree bits) → HaveCompared map nodes space path compared
    → AreComparisonsWithin tree nodes bits
within_all tree nodes bits map space path compared entries words written have c among =
    let here : Contains compared.comparisons c =
    subst (λ (w : CaseWords). Contains w.comparisons c) words among in
    let few : HasAtMostCofactors (word_on map path c) nodes =
    All-contains (λ (x : Comparison). HasAtMostCofactors (word_on map path x) nodes) compared.comparisons
    c have.within here in
    at_most_same _ _ nodes (compared_same tree bits path c written)
    (subst (λ (m : List ℕ). HasAtMostCofactors (word_on m path c) nodes) entries few)

-- where nothing is compared, too
pub within_none : (tree : WordTree) (nodes : ℕ) (bits : List Decided) → (tree.words bits).comparisons ≡ []
    → AreComparisonsWithin tree nodes bits
within_none tree nodes bits none c among =
    let here : Contains [] c = subst (λ (xs : List Comparison). Contains xs c) none among in
    absurd (omega (arith, here.1))

-- ---- what is looked for

-- The first comparison that fails is where it is looked for, and what was found is the first there.
pub record IsSoughtBy (tree : WordTree) (bits : List Decided) (space : Space) (numbers : Numbers) : Type 0 where
  pub sought : Function
  pub among : IsSought tree bits sought (list_of_space space)
  pub first : IsFirst sought numbers

never_fails : (tree : WordTree) (bits : List Decided) (path : Function) (c : Comparison)
    → Agree path (path_along tree bits) → Agree (made (word_on tree.map path c)) never
    → NeverFails tree bits c
never_fails tree bits path c written none given =
    sym (made_same _ _ (compared_same tree bits path c written) given) ∙ none given

pub sought_by : {uncompared : WordList} (tree : WordTree) (bits : List Decided) (map : List ℕ) (space : Space)
    (path : Function)
    (compared : Compared) (numbers : Numbers) → map ≡ tree.map
    → tree.words bits ≡ whole uncompared compared
    → Agree path (path_along tree bits) → FailsFirst map space path compared numbers
    → IsSoughtBy tree bits space numbers
sought_by tree bits map space path compared numbers entries words written fails =
    let c = fails.at in
    record {
      sought = made (word_on map path c);
      among = sought_at fails.before fails.after c (ap (λ (w : CaseWords). w.comparisons) words ∙ fails.are)
          (λ i d inside. never_fails tree bits path (slice_index_or fails.before i d) written
          (subst (λ (m : List ℕ). Agree (made (word_on m path (slice_index_or fails.before i d))) never) entries
          (fails.none i d inside)))
          (subst
          (λ (m : List ℕ). Agree (made (word_on m path c)) (made (comparison_word tree bits c))) (sym entries)
          (made_same _ _ (compared_same tree bits path c written)))
          (sym fails.list);
      first = fails.first;
    }

-- where nothing is compared, the first on the path is looked for
pub sought_on_path : (tree : WordTree) (bits : List Decided) (space : Space)
    (path : Function) (numbers : Numbers)
    → (tree.words bits).comparisons ≡ [] → (tree.words bits).list ≡ list_of_space space
    → Agree path (path_along tree bits) → IsFirst path numbers → IsSoughtBy tree bits space numbers
sought_on_path tree bits space path numbers none list written first = record {
  sought = path;
  among = on_path none written (sym list);
  first = first;
}
