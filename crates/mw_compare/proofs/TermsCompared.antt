-- One comparison more: whether two terms have one value on a path.
use Rattle.std.proofs.Common.{◌≡◌, ◌⊎◌, inl, inr, ap, subst, sym, ◌∙◌, refl, ℕ, ◌<◌, List, [], ◌∷◌, ◌++◌, length}
use Rattle.std.specs.Prelude.{Bool, true, false, ◌==◌, if◌then◌else◌, IfSome, None, Option, Some, Err, Ok, Result}
use Rattle.std.specs.Option.{unwrap_or}
use Rattle.std.proofs.lemmas.Bool.{eq-eqb, eqb-true}
use Rattle.std.proofs.lemmas.List.Elements.{All-push}
use Rattle.mw_base.specs.Words.{bit_of, num}
use Rattle.mw_blast.specs.declared.fault.BlastFault.{BlastFault}
use Rattle.mw_blast.specs.declared.fault.BlastFault.TheVariants as faults
use Rattle.mw_blast.specs.Shared.{IsWrittenCause}
use Rattle.mw_dd.specs.Diagrams.{IsFirst}
use Rattle.mw_rel.specs.ComparisonWords.{Compared, Comparison, Subject, compared_in, with_comparison}
use Rattle.mw_symmem.proofs.Growth.{grows_one}
use Rattle.mw_symmem.proofs.Later.{goes_by_growth}
use Rattle.mw_symmem.specs.Listed.{Lists, list_in}
use Rattle.mw_symmem.specs.Memory.{IsOfWidth, Memory}
use Rattle.mw_symmem.specs.Words.{AreOf, IsNoVariable}
use Rattle.mw_symmem.specs.Workspace.{GoesOn, IsWorkspace}
use Rattle.mw_term.specs.declared.op.Op.TheVariants.{Eq}
use Rattle.mw_term.specs.declared.word.Word.{Word}
use Rattle.mw_term.specs.Assigned.{Given, Numbers, given_by}
use Rattle.mw_term.specs.Cofactors.{Agree, HasAtMostCofactors, HasMoreCofactors}
use Rattle.mw_term.specs.Functions.{Function, Triple, made, never}
use Rattle.mw_term.specs.PathWords.{path_zero}
use Rattle.mw_term.specs.Rows.{bit}
use Rattle.mw_term.specs.Table.{Extends, IsTable, Table, op_width, table_of}
use Rattle.mw_term.specs.Values.{IsTermOf, Keeps, op_value, term_value}
use Rattle.mw_term.specs.WordList.{Ended, WordList, word_number, plain, with_word}
use Rattle.mw_space.specs.declared.space.Space.{Space}
use Rattle.mw_decide.specs.Faults.{RunStop}
use Rattle.mw_explore.specs.declared.fault.Fault.TheVariants as stops
use Rattle.mw_decide.specs.declared.fault.Place.{Place}
use Rattle.mw_compare.specs.Comparing.{AreOneOn, AreTwoAt, Compares, IsComparedKind, IsComparedOver, word_on}
use Rattle.mw_compare.specs.Comparing.IsComparedOver.{at_comparison, in_list}
use Rattle.mw_space.specs.Spaces.{list_of_space}
use Rattle.mw_compare.proofs.ComparingOn.{compares_as}
use Rattle.mw_compare.proofs.GoingOn.{front_itself}

-- ---- the word of a comparison

-- the word was made that says whether two terms are equal
pub record IsCompared (told tnew : Table) (wold wnew : List Word) (a b term : ℕ) : Type 0 where
  pub words : wnew ≡ wold ++ plain term ∷ []
  pub made : IsTermOf told tnew (Eq a b) term
  pub listed : Lists (with_word (Eq a b)) told tnew wold wnew term
  pub of : IsNoVariable (Eq a b) → AreOf told wold → AreOf tnew wnew
  pub extends : Extends told tnew
  pub keeps : Keeps told tnew
  pub table : IsTable tnew

no_variable : (a b : ℕ) → IsNoVariable (Eq a b)
no_variable a b number width is = absurd cc

pub compared_goes : (told tnew : Table) (wold wnew : List Word) (m : Memory) (a b term : ℕ)
    → IsCompared told tnew wold wnew a b term → IsWorkspace told wold m
    → GoesOn IsComparedKind told tnew wold wnew m m
compared_goes told tnew wold wnew m a b term is workspace =
    goes_by_growth IsComparedKind told tnew wold wnew m (term ∷ [])
    (grows_one told tnew wold wnew (Eq a b) term is.words is.extends is.keeps is.table is.of (no_variable a b))
    workspace

-- it has one bit
pub compared_wide : (told tnew : Table) (a b term : ℕ) → IsTermOf told tnew (Eq a b) term → IsOfWidth tnew 1 term
unfolding op_width
compared_wide told tnew a b term is = record { there = is.there; width_is = is.width }

bit_num : (b : Bool) → bit_of (num b) 0 ≡ b
bit_num true = refl
bit_num false = refl

-- which is 1 where both have one value
compared_bit : (told tnew : Table) (a b term : ℕ) (given : Given) → IsTermOf told tnew (Eq a b) term
    → bit tnew term 0 given ≡ (term_value told given a == term_value told given b)
unfolding op_value
compared_bit told tnew a b term given is =
    ap (λ (v : ℕ). bit_of v 0) (is.value given) ∙ bit_num (term_value told given a == term_value told given b)

one_there : (path b : Bool) → (if b then false else path) ≡ false → path ≡ true → b ≡ true
one_there path true none on = refl
one_there path false none on = absurd cc

none_there : (path b : Bool) → (if b then false else path) ≡ true → b ≡ false
none_there path true is = absurd cc
none_there path false is = refl

-- where no assignment on the path is one under which it is 0, both have one value there
pub one_on : (told tnew : Table) (a b term : ℕ) (path : Function) → IsTermOf told tnew (Eq a b) term → Keeps told tnew
    → a < length told.ops → b < length told.ops → Agree (made (path_zero path (bit tnew term 0))) never
    → AreOneOn tnew path a b
one_on told tnew a b term path is keeps a_there b_there none given on =
    let one = one_there (path given) (bit tnew term 0 given) (none given) on in
    keeps.values given a a_there
    ∙ eqb-true (term_value told given a) (term_value told given b)
    (sym (compared_bit told tnew a b term given is) ∙ one)
    ∙ sym (keeps.values given b b_there)

-- under an assignment on the path under which it is 0, they have two
pub two_at : (told tnew : Table) (a b term : ℕ) (path : Function) (given : Given) → IsTermOf told tnew (Eq a b) term
    → Keeps told tnew → a < length told.ops → b < length told.ops
    → made (path_zero path (bit tnew term 0)) given ≡ true → AreTwoAt tnew given a b
two_at told tnew a b term path given is keeps a_there b_there holds same =
    let zero = none_there (path given) (bit tnew term 0 given) holds in
    let other : (term_value told given a == term_value told given b) ≡ false =
    sym (compared_bit told tnew a b term given is) ∙ zero in
    let one : (term_value told given a == term_value told given b) ≡ true =
    eq-eqb (term_value told given a) (term_value told given b)
    (sym (keeps.values given a a_there) ∙ same ∙ keeps.values given b b_there) in
    absurd cc

pub two_at_first : (told tnew : Table) (a b term : ℕ) (path : Function) (o : Option Numbers)
    → IsTermOf told tnew (Eq a b) term → Keeps told tnew → a < length told.ops → b < length told.ops
    → IfSome o (IsFirst (made (path_zero path (bit tnew term 0))))
    → IfSome o (λ numbers. AreTwoAt tnew (given_by numbers) a b)
two_at_first told tnew a b term path None is keeps a_there b_there first = first
two_at_first told tnew a b term path (Some numbers) is keeps a_there b_there first =
    two_at told tnew a b term path (given_by numbers) is keeps a_there b_there first.holds

-- ---- the list of comparisons

abbrev pub comparison_of : Subject → (term : ℕ) → WordList → Comparison
comparison_of subject term l = record { subject = subject; term = term; list = l }

-- one more, of this term, in this list
abbrev pub compared_at : Subject → (term : ℕ) → WordList → Compared → Compared
compared_at subject term l so_far = compared_in l (so_far.comparisons ++ comparison_of subject term l ∷ [])

compared_is : (subject : Subject) (a b term : ℕ) (told tnew : Table) (wold wnew : List Word) (m : Memory)
    (so_far : Compared) → so_far.list ≡ list_in told wold m → Lists (with_word (Eq a b)) told tnew wold wnew term
    → with_comparison subject a b so_far ≡ compared_at subject term (list_in tnew wnew m) so_far
compared_is subject a b term told tnew wold wnew m so_far same listed =
    let at : Ended → Compared = λ e. compared_at subject e.term e.list so_far in
    ap (λ l. at (with_word (Eq a b) l)) same ∙ ap at (sym (listed m.reads))

word_is : (map : List ℕ) (path : Function) (subject : Subject) (term : ℕ) (t : Table) (words : List Word) (m : Memory)
    → t.map ≡ map → word_on map path (comparison_of subject term (list_in t words m)) ≡ path_zero path (bit t term 0)
word_is map path subject term t words m same =
    ap (λ (entries : List ℕ). path_zero path (bit (table_of t.ops entries) term 0)) (sym same)

-- what is so of one more, of this term, in the list of the space, is so of the comparison of the two terms
pub compared_so : (nodes : ℕ) (old new : Space) (path : Function) (subject : Subject) (a b term : ℕ)
    (result : Result (Option Numbers) RunStop) → new.memory ≡ old.memory
    → IsCompared old.terms new.terms old.words new.words a b term
    → Compares nodes old new path (compared_at subject term (list_of_space new)) result
    → Compares nodes old new path (with_comparison subject a b) result
compared_so nodes old new path subject a b term result kept is =
    compares_as nodes old new path (compared_at subject term (list_of_space new)) (with_comparison subject a b) result
    (λ so_far same. compared_is subject a b term old.terms new.terms old.words new.words new.memory so_far
    (same ∙ ap (list_in old.terms old.words) (sym kept)) is.listed)

-- it can't fail, and isn't over the budget; or it is the first that can fail
pub compared_found : (nodes : ℕ) (old new : Space) (path : Function) (subject : Subject) (term : ℕ)
    (found : Option Numbers) → new.terms.map ≡ old.terms.map
    → (found ≡ None → Agree (made (path_zero path (bit new.terms term 0))) never)
    → HasAtMostCofactors (path_zero path (bit new.terms term 0)) nodes
    → IfSome found (IsFirst (made (path_zero path (bit new.terms term 0))))
    → Compares nodes old new path (compared_at subject term (list_of_space new)) (Ok found)
compared_found nodes old new path subject term None same none within first = λ so_far have.
    let map = old.terms.map in
    let c = comparison_of subject term (list_of_space new) in
    let word = word_is map path subject term new.terms new.words new.memory same in
    record {
      list = refl;
      none = All-push (λ (c : Comparison). Agree (made (word_on map path c)) never) so_far.comparisons c have.none
          (subst (λ (w : Triple). Agree (made w) never) (sym word) (none refl));
      within =
          All-push (λ (c : Comparison). HasAtMostCofactors (word_on map path c) nodes) so_far.comparisons c have.within
          (subst (λ (w : Triple). HasAtMostCofactors w nodes) (sym word) within);
    }
compared_found nodes old new path subject term (Some numbers) same none within first = λ so_far have. record {
  before = so_far.comparisons;
  after = [];
  at = comparison_of subject term (list_of_space new);
  are = refl;
  none = have.none;
  list = refl;
  first = subst (λ (w : Triple). IsFirst (made w) numbers)
      (sym (word_is old.terms.map path subject term new.terms new.words new.memory same)) first;
}

-- ---- where it stops

-- why: the term's bit wasn't made, or the path word is over the budget
abbrev pub IsFailingCause : Table → (places : List ℕ) → (path : Function) → (term nodes : ℕ) → BlastFault → Type 0
IsFailingCause t places path term nodes fault =
    (named j : ℕ) → fault ≡ faults.Over named j → IsWrittenCause t places nodes fault
    ⊎ ((named ≡ term) × (j ≡ 0) × HasMoreCofactors (path_zero path (bit t term 0)) nodes)

-- how the fault is told
pub record IsStopOf (words : List Word) (fault : BlastFault) (stop : RunStop) : Type 0 where
  pub over : (term j : ℕ) → fault ≡ faults.Over term j
      → stop ≡ stops.Over (record { word = unwrap_or (word_number words term) (length words); bit = j })
  pub none : fault ≡ faults.NoMemory → stop ≡ stops.NoMemory

same_place : (a b : Place) (stop : RunStop) → stop ≡ stops.Over a → stop ≡ stops.Over b → a ≡ b
same_place a b stop one other = cc

over_by : (nodes : ℕ) (new : Space) (map places : List ℕ) (path : Function) (subject : Subject) (term named j : ℕ)
    → new.terms.map ≡ map
    → IsWrittenCause new.terms places nodes (faults.Over named j)
    ⊎ ((named ≡ term) × (j ≡ 0) × HasMoreCofactors (path_zero path (bit new.terms term 0)) nodes)
    → IsComparedOver map nodes new path (comparison_of subject term (list_of_space new)) named j
over_by nodes new map places path subject term named j same cause = elim cause [
  | inl h ↦ in_list h.over
  | inr h ↦
      at_comparison (sym h.0) h.1
      (subst (λ (w : Triple). HasMoreCofactors w nodes)
      (sym (word_is map path subject term new.terms new.words new.memory same)) h.2)
]

pub compared_over : (nodes : ℕ) (old new : Space) (places : List ℕ) (path : Function) (subject : Subject) (term : ℕ)
    (fault : BlastFault) (stop : RunStop) → new.terms.map ≡ old.terms.map → IsTable new.terms
    → IsFailingCause new.terms places path term nodes fault → IsStopOf new.words fault stop
    → Compares nodes old new path (compared_at subject term (list_of_space new)) (Err stop)
compared_over nodes old new places path subject term (faults.Over named i) stop same table cause told =
    λ so_far have place is.
    let map = old.terms.map in
    let same_as = same_place place _ stop is (told.over named i refl) in
    let c = comparison_of subject term (list_of_space new) in
    record {
      before = so_far.comparisons;
      after = [];
      at = c;
      are = refl;
      list = refl;
      table = table;
      map_is = same;
      term = named;
      named = ap (λ (p : Place). p.word) same_as;
      over = subst (λ x. IsComparedOver map nodes new path c named x) (sym (ap (λ (p : Place). p.bit) same_as))
          (over_by nodes new map places path subject term named i same (cause named i refl));
      front = front_itself (list_of_space new);
    }
compared_over nodes old new places path subject term faults.NoMemory stop same table cause told = λ so_far have place
    is.
    let other = told.none refl in
    absurd cc
