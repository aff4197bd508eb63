-- The path of decided bits in a tree of word lists, and the path that is gone on by a bit, which is that.
use Rattle.std.proofs.Common.{◌≡◌, ℕ, List, [], ◌∷◌, ◌++◌, append_assoc, append-nil, ap, sym, ◌∙◌, refl}
use Rattle.std.specs.Prelude.{Bool, true, false}
use Rattle.mw_term.specs.declared.decided.Decided.{Decided}
use Rattle.mw_cycle.specs.Decided.{decided}
use Rattle.mw_decide.specs.Decisions.{GoesOnAs, IsListed}
use Rattle.mw_space.specs.declared.space.Space.{Space}
use Rattle.mw_term.specs.Cofactors.{Agree, AreSame, HasAtMostCofactors}
use Rattle.mw_term.specs.Functions.{Function, always, made}
use Rattle.mw_term.specs.Rows.{bit}
use Rattle.mw_term.specs.Table.{table_of}
use Rattle.mw_term.specs.WordList.{table_in}
use Rattle.mw_dd.specs.Nodes.{Node}
use Rattle.mw_blast.specs.declared.split.Split.{Split}
use Rattle.mw_blast.specs.Splits.{IsSplit}
use Rattle.mw_rel.specs.CaseWords.{CaseWords}
use Rattle.mw_rel.specs.TreeBudgets.{IsWithin}
use Rattle.mw_rel.specs.TreePaths.{bit_asked, next_bit, path_along, path_behind, path_word}
use Rattle.mw_rel.specs.WordTree.{WordTree}
use Rattle.mw_path.proofs.Triples.{at_most_same, made_same}

-- ---- one bit more

path_behind_more : (tree : WordTree) (before bits : List Decided) (d : Decided) (path : Function)
    → path_behind tree before (bits ++ d ∷ []) path
    ≡ made (path_word (path_behind tree before bits path) (next_bit tree (before ++ bits)) d.value)
path_behind_more tree before [] d path =
    ap (λ (bits : List Decided). made (path_word path (next_bit tree bits) d.value)) (sym (append-nil before))
path_behind_more tree before (x ∷ bits) d path =
    let next = made (path_word path (next_bit tree before) x.value) in
    path_behind_more tree (before ++ x ∷ []) bits d next
    ∙ ap (λ (all : List Decided).
    made (path_word (path_behind tree (before ++ x ∷ []) bits next) (next_bit tree all) d.value))
    (append_assoc before (x ∷ []) bits)

-- the path of one bit more is the path before it, narrowed by it
pub path_more : (tree : WordTree) (bits : List Decided) (d : Decided)
    → path_along tree (bits ++ d ∷ []) ≡ made (path_word (path_along tree bits) (next_bit tree bits) d.value)
unfolding path_along
path_more tree bits d = path_behind_more tree [] bits d always

-- ---- the next bit

-- the bit that is asked for is that of the term
pub next_bit_is : (tree : WordTree) (bits : List Decided) (space : Space) (path : Function) (term : ℕ)
    → IsListed tree bits space path term → next_bit tree bits ≡ bit space.terms term 0
next_bit_is tree bits space path term is =
    ap (λ (w : CaseWords). bit_asked (table_in tree.map w.list) w.asked) is.asks
    ∙ ap (λ (entries : List ℕ). bit (table_of space.terms.ops entries) term 0) (sym is.map)

-- ---- path words

-- over paths that agree they are one
pub path_word_same : (path other b : Function) (value : Bool) → Agree path other
    → AreSame (path_word path b value) (path_word other b value)
path_word_same path other b true agree = record { f = λ given. refl; g = agree; h = λ given. refl }
path_word_same path other b false agree = record { f = λ given. refl; g = λ given. refl; h = agree }

-- a path word of the term is that of the list
pub word_same : (tree : WordTree) (bits : List Decided) (space : Space) (path : Function) (term : ℕ) (value : Bool)
    → IsListed tree bits space path term
    → AreSame (path_word path (bit space.terms term 0) value)
    (path_word (path_along tree bits) (next_bit tree bits) value)
word_same tree bits space path term value is =
    rw (next_bit_is tree bits space path term is)
    (path_word_same path (path_along tree bits) (bit space.terms term 0) value is.written)

-- ---- a bit that was decided

-- the path narrowed by it is that of the list
pub goes_on_as : (tree : WordTree) (bits : List Decided) (space : Space) (path next : Function) (term : ℕ) (value : Bool)
    → IsListed tree bits space path term → Agree next (made (path_word path (bit space.terms term 0) value))
    → GoesOnAs tree bits value next
goes_on_as tree bits space path next term value listed is kind given =
    is given
    ∙ made_same _ _ (word_same tree bits space path term value listed) given
    ∙ ap (λ (f : Function). f given) (sym (path_more tree bits (decided kind value)))

-- neither path word has more joint cofactors
few_by_value : (dds : List Node) (path b : Function) (nodes : ℕ) (split : Split) (value : Bool)
    → IsSplit dds path b nodes split → HasAtMostCofactors (path_word path b value) nodes
few_by_value dds path b nodes split true is = is.one_within
few_by_value dds path b nodes split false is = is.zero_within

-- where the path was split by it, the list has it within the budget
pub within_split : (tree : WordTree) (nodes : ℕ) (bits : List Decided) (space : Space) (path : Function) (term : ℕ)
    (dds : List Node) (split : Split) → IsListed tree bits space path term
    → IsSplit dds path (bit space.terms term 0) nodes split → IsWithin tree nodes bits
within_split tree nodes bits space path term dds split listed is =
    let few : (value : Bool) → HasAtMostCofactors (path_word path (bit space.terms term 0) value) nodes =
    λ value. few_by_value dds path (bit space.terms term 0) nodes split value is in
    record {
      asks = rw (ap (λ (w : CaseWords). w.asked) listed.asks) refl;
      within = λ value.
          at_most_same _ _ nodes (word_same tree bits space path term value listed) (few value);
    }
