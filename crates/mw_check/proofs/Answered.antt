-- Why the answers to a question are right.
use Rattle.std.proofs.Common.{◌≡◌, ℕ, List, [], length, get_or, slice_index, refl, ap, sym, ◌∙◌, arith, subst}
use Rattle.std.specs.Prelude.{Bool, true, false, not, ◌==◌, Some, IsSome}
use Rattle.std.proofs.lemmas.Bool.{false≢true}
use Rattle.std.proofs.lemmas.Bool.Decides.{nat_tests}
use Rattle.mw_base.specs.Words.{bit_of, num}
use Rattle.mw_expr.specs.Values.{value, AreWords}
use Rattle.mw_term.specs.declared.word.Word.{Word}
use Rattle.mw_term.specs.Assigned.{Given, Numbers, given_by}
use Rattle.mw_term.specs.Cofactors.{Agree}
use Rattle.mw_term.specs.Functions.{Function, always}
use Rattle.mw_term.specs.Rows.{bit}
use Rattle.mw_term.specs.Table.{Table}
use Rattle.mw_term.specs.WordList.{word_number}
use Rattle.mw_dd.specs.Diagrams.{IsFirst}
use Rattle.mw_dd.specs.Nodes.{Node, function_of}
use Rattle.mw_blast.specs.Bits.{StandsFor, AreBits}
use Rattle.mw_blast.specs.declared.fault.BlastFault.{BlastFault}
use Rattle.mw_blast.specs.declared.fault.BlastFault.TheVariants as blast
use Rattle.mw_blast.specs.Causes.{IsOver}
use Rattle.mw_blast.specs.Shared.{IsWrittenCause}
use Rattle.mw_check.specs.Question.{Asked, AgreeUnder, AlwaysAgree}
use Rattle.mw_check.specs.QuestionTerms.{IsListOf, side_value}
use Rattle.mw_check.specs.Equal.{given_values, values_from, IsFirstDifference, IsAnswer}
use Rattle.mw_check.specs.declared.equality.Equality.{Equality}
use Rattle.mw_check.specs.declared.equality.Equality.TheVariants as equality
use Rattle.std.proofs.lemmas.List.{get_or_read}
use Rattle.mw_check.proofs.Differences.{values_of_given, values_are_words, agrees_with_values, no_later_cut}
use Rattle.mw_check.proofs.Numbered.{over_has_number}

-- ---- the bit at the end of the list

lowest_bit : (b : Bool) → bit_of (num b) 0 ≡ b
lowest_bit true = refl
lowest_bit false = refl

-- a node for it holds where both sides have one value
abbrev pub HoldsWhereSame : Asked → Function → Type 0
HoldsWhereSame q f = (given : Given) → f given ≡ (side_value q q.left given == side_value q q.right given)

pub holds_where_same : (q : Asked) (t : Table) (words : List Word) (end : ℕ) (nodes : List Node) (x : ℕ)
    → IsListOf q t words end → StandsFor nodes x (bit t end 0) → HoldsWhereSame q (function_of nodes x)
holds_where_same q t words end nodes x list stands given =
    stands.exact given ∙ ap (λ n. bit_of n 0) (list.value given)
    ∙ lowest_bit (side_value q q.left given == side_value q q.right given)

-- ---- yes

equal_of : (m n : ℕ) → (m == n) ≡ true → m ≡ n
equal_of m n is = grind (arith, nat_tests)

test_of : (m n : ℕ) → m ≡ n → (m == n) ≡ true
test_of m n is = grind (arith, nat_tests)

apart_of : (m n : ℕ) → ¬ (m ≡ n) → not (m == n) ≡ true
apart_of m n is = grind (arith, nat_tests)

pub always_agree : (q : Asked) (f : Function) → HoldsWhereSame q f → Agree f always → AlwaysAgree q
always_agree q f holds always_holds values are =
    let g = given_values values in
    let same = equal_of (side_value q q.left g) (side_value q q.right g) (sym (holds g) ∙ always_holds g) in
    subst (λ vs. value q.shape vs [] q.left ≡ value q.shape vs [] q.right)
    (values_of_given q.shape.widths values are) same

-- ---- no

-- under values that differ the function doesn't hold
fails : (q : Asked) (f : Function) → HoldsWhereSame q f → (values : List ℕ) → AreWords q.shape.widths values
    → ¬ AgreeUnder q values → not (f (given_values values)) ≡ true
fails q f holds values are differ =
    let g = given_values values in
    ap not (holds g)
    ∙ subst (λ vs. not (value q.shape vs [] q.left == value q.shape vs [] q.right) ≡ true)
    (sym (values_of_given q.shape.widths values are))
    (apart_of (value q.shape values [] q.left) (value q.shape values [] q.right) differ)

pub first_difference : (q : Asked) (f : Function) (numbers : Numbers) → HoldsWhereSame q f
    → IsFirst (λ given. not (f given)) numbers
    → IsFirstDifference q (values_from 1 q.shape.widths (given_by numbers))
first_difference q f numbers holds first =
    let a = given_by numbers in
    let values = values_from 1 q.shape.widths a in
    let are = values_are_words q.shape.widths a in
    let differ : ¬ AgreeUnder q values = λ agree. false≢true
    (ap not (sym (holds a ∙ test_of (side_value q q.left a) (side_value q q.right a) agree)) ∙ first.holds) in
    let agrees = agrees_with_values q.shape.widths a
    (first.first (given_values values) (fails q f holds values are differ)) in
    record {
      words = are;
      differ = differ;
      first = λ others are_others apart. no_later_cut a (given_values values) (given_values others) agrees
          (first.first (given_values others) (fails q f holds others are_others apart));
    }

-- ---- unknown

-- what a fault names is over the budget
abbrev pub NamesOver : Table → (budget : ℕ) → BlastFault → Type 0
NamesOver t budget fault = (term j : ℕ) → fault ≡ blast.Over term j → IsOver t term j budget

-- what a fault of written terms names is
pub names_over : (t : Table) (places : List ℕ) (budget : ℕ) (fault : BlastFault)
    → IsWrittenCause t places budget fault → NamesOver t budget fault
names_over t places budget fault cause = λ term j is. (subst (IsWrittenCause t places budget) is cause).over

-- the answer of a cause
pub cause_answer : (q : Asked) (fault : BlastFault) (t : Table) (words : List Word) (end budget : ℕ)
    → IsListOf q t words end
    → NamesOver t budget fault → (e : Equality)
    → ((term : ℕ) × (j : ℕ) × (word : ℕ) × (fault ≡ blast.Over term j) × (word_number words term ≡ Some word)
    × (e ≡ equality.Unknown word j))
    → IsAnswer q budget e
cause_answer q fault t words end budget list cause e is =
    rw is.5 (record {
      term = is.0;
      its = ap (λ ws. word_number ws is.0) (sym list.list) ∙ is.4;
      over = subst (λ (x : Table). IsOver x is.0 is.1 budget) list.table (cause is.0 is.1 is.3);
    })

-- what is over has a number
pub cause_numbered : (q : Asked) (fault : BlastFault) (t : Table) (words : List Word) (end budget : ℕ)
    → IsListOf q t words end → NamesOver t budget fault → (term j : ℕ) → fault ≡ blast.Over term j
    → IsSome (word_number words term)
cause_numbered q fault t words end budget list cause term j over =
    subst (λ ws. IsSome (word_number ws term)) (sym list.list)
    (over_has_number q term j budget (subst (λ (x : Table). IsOver x term j budget) list.table (cause term j over)))

-- ---- the bit itself

pub one_bit : (q : Asked) (t : Table) (words : List Word) (end : ℕ) (nodes : List Node) (xs : List ℕ)
    → IsListOf q t words end → AreBits t nodes end xs → length xs ≡ 1
one_bit q t words end nodes xs list bits = bits.count ∙ list.width

pub end_stands : (q : Asked) (t : Table) (words : List Word) (end : ℕ) (nodes : List Node) (xs : List ℕ) (x : ℕ)
    → IsListOf q t words end → AreBits t nodes end xs → x ≡ get_or xs 0 x → StandsFor nodes x (bit t end 0)
end_stands q t words end nodes xs x list bits read =
    let one = one_bit q t words end nodes xs list bits in
    let at : x ≡ slice_index xs 0 = get_or_read xs 0 x (omega (arith, one)) read 0 in
    rw at (bits.each 0 (omega (arith, one)))
