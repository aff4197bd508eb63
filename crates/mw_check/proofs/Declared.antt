-- The variables of a question, one after another.
use Rattle.std.proofs.Common.{◌≡◌, inl, inr, ℕ, zero, suc, ◌+◌, ◌%◌, ◌^◌, ◌<◌, List, [], ◌∷◌, ◌++◌, length, map}
use Rattle.std.proofs.Common.{slice_index, refl, ap, ap₂, sym, ◌∙◌, arith, length-append, subst}
use Rattle.std.specs.Prelude.{false, if◌then◌else◌, Some}
use Rattle.std.proofs.lemmas.Bool.Decides.{nat_tests}
use Rattle.std.proofs.lemmas.List.{map_push}
use Rattle.mw_term.specs.declared.kinds.WordKind.TheVariants.{Element, Base}
use Rattle.mw_term.specs.declared.op.Op.TheVariants.{Var}
use Rattle.mw_term.specs.declared.word.Word.{Word}
use Rattle.mw_term.specs.Assigned.{Given}
use Rattle.mw_term.specs.Table.{Table, table_of, op_width, term_width, IsTable, Extends}
use Rattle.mw_term.specs.Values.{op_value, term_value, IsTermOf, Keeps}
use Rattle.mw_term.specs.WordList.{WordList, Ended, AllEnded, variable, with_variable, same_kind, term_of}
use Rattle.mw_symmem.specs.Listed.{Lists}
use Rattle.mw_symmem.specs.Words.{AreOf, IsVariable}
use Rattle.mw_symmem.proofs.Listed.{are_of_at_first}
use Rattle.mw_symmem.proofs.Lists.{pushed, kind_of, term_variable}
use Rattle.mw_check.specs.Equal.{values_from}
use Rattle.mw_check.specs.QuestionTerms.{AreDeclared}
use Rattle.mw_check.specs.QuestionWords.{no_words, with_variables}

-- ---- lists with one more

-- one variable more
abbrev one_more : AllEnded → (number width : ℕ) → AllEnded
one_more all number w =
    let last = with_variable (Element number) w all.list in
    record { list = last.list; terms = all.terms ++ last.term ∷ [] }

variables_push : (number : ℕ) (front : List ℕ) (w : ℕ) (l : WordList)
    → with_variables number (front ++ w ∷ []) l ≡ one_more (with_variables number front l) (number + length front) w
variables_push number [] w l = ap (λ n. one_more (with_variables number [] l) n w) (omega arith)
variables_push number (v ∷ front) w l =
    let first = with_variable (Element number) v l in
    let others = with_variables (number + 1) front first.list in
    ap (λ (x : AllEnded). behind first.term x) (variables_push (number + 1) front w first.list)
    ∙ ap (λ n. behind first.term (one_more others n w)) (omega arith)
  where
    behind : ℕ → AllEnded → AllEnded
    behind term x = record { list = x.list; terms = term ∷ x.terms }

values_push : (number : ℕ) (front : List ℕ) (w : ℕ) (given : Given)
    → values_from number (front ++ w ∷ []) given
    ≡ values_from number front given ++ given (number + length front) % 2 ^ w ∷ []
values_push number [] w given = ap (λ n. given n % 2 ^ w ∷ []) (omega arith)
values_push number (v ∷ front) w given =
    ap (λ vs. given number % 2 ^ v ∷ vs)
    (values_push (number + 1) front w given
    ∙ ap (λ n. values_from (number + 1) front given ++ given n % 2 ^ w ∷ []) (omega arith))

map_kept : (f g : ℕ → ℕ) (xs : List ℕ) → ((i : ℕ) → i < length xs → f (slice_index xs i) ≡ g (slice_index xs i))
    → map f xs ≡ map g xs
map_kept f g [] same = refl
map_kept f g (x ∷ rest) same =
    ap₂ (λ (y : ℕ) ys. y ∷ ys) (same 0 (omega arith))
    (map_kept f g rest (λ i inside. same (suc i) (omega (arith, inside))))

below_more : (xs : List ℕ) (x bound : ℕ) → ((i : ℕ) → i < length xs → slice_index xs i < bound) → x < bound → (i : ℕ)
    → i < length (xs ++ x ∷ []) → slice_index (xs ++ x ∷ []) i < bound
below_more [] x bound each last zero inside = last
below_more [] x bound each last (suc i) inside = absurd (omega (arith, inside))
below_more (y ∷ xs) x bound each last zero inside = each 0 (omega arith)
below_more (y ∷ xs) x bound each last (suc i) inside =
    below_more xs x bound (λ k within. each (suc k) (omega (arith, within))) last i (omega (arith, inside))

-- ---- terms that stay what they are

pub widths_kept : (told tnew : Table) (terms : List ℕ) → Keeps told tnew
    → ((i : ℕ) → i < length terms → slice_index terms i < length told.ops)
    → map (λ term. term_width tnew term) terms ≡ map (λ term. term_width told term) terms
widths_kept told tnew terms keeps there =
    map_kept (λ term. term_width tnew term) (λ term. term_width told term) terms
    (λ i inside. keeps.widths (slice_index terms i) (there i inside))

pub values_kept : (told tnew : Table) (given : Given) (terms : List ℕ) → Keeps told tnew
    → ((i : ℕ) → i < length terms → slice_index terms i < length told.ops)
    → map (λ term. term_value tnew given term) terms ≡ map (λ term. term_value told given term) terms
values_kept told tnew given terms keeps there =
    map_kept (λ term. term_value tnew given term) (λ term. term_value told given term) terms
    (λ i inside. keeps.values given (slice_index terms i) (there i inside))

-- ---- variables

pub none_declared : IsTable (table_of [] []) → AreDeclared [] (table_of [] []) [] []
none_declared table = record {
  table = table;
  no_map = refl;
  of = are_of_at_first [];
  listed = refl;
  count = refl;
  fresh = λ n past. refl;
  bases = λ place term k is. absurd cc;
  there = λ i inside. absurd (omega arith);
  wide = refl;
  values = λ given. refl;
}

other_kind : (m n : ℕ) → m < n → same_kind (Element m) (Element n) ≡ false
other_kind m n less = grind (arith, nat_tests)

no_base : (m k : ℕ) → ¬ (Element m ≡ Base k)
no_base m k is = absurd cc

-- what a variable more is
pub record Adds (told tnew : Table) (wold wnew : List Word) (number width term : ℕ) : Type 0 where
  pub words : wnew ≡ wold ++ variable term (Element number) ∷ []
  pub made : IsTermOf told tnew (Var (length wold + 1) width) term
  pub listed : Lists (with_variable (Element number) width) told tnew wold wnew term
  pub of : AreOf told wold → AreOf tnew wnew
  pub extends : Extends told tnew
  pub keeps : Keeps told tnew
  pub table : IsTable tnew

pub declared_more : (told tnew : Table) (wold wnew : List Word) (widths terms : List ℕ) (w term : ℕ)
    → AreDeclared widths told wold terms → Adds told tnew wold wnew (length widths) w term
    → AreDeclared (widths ++ w ∷ []) tnew wnew (terms ++ term ∷ [])
unfolding op_width op_value
declared_more told tnew wold wnew widths terms w term old adds =
    let own = Element (length widths) in
    let size : length (widths ++ w ∷ []) ≡ length widths + 1 = length-append widths (w ∷ []) in
    let number : length wold + 1 ≡ 1 + length widths = omega (arith, old.count) in
    record {
      table = adds.table;
      no_map = adds.extends.map ∙ old.no_map;
      of = adds.of old.of;
      listed = variables_push 0 widths w no_words
          ∙ ap (λ n. one_more (with_variables 0 widths no_words) n w) (omega arith)
          ∙ ap (λ (all : AllEnded). one_more all (length widths) w) old.listed
          ∙ ap (λ (x : Ended). ending x) (sym (adds.listed []));
      count = ap length adds.words ∙ length-append wold (variable term own ∷ []) ∙ ap (λ n. n + 1) old.count ∙ sym size;
      fresh = λ n past.
          (let less : length widths < n = omega (arith, past, size) in
          let absent = old.fresh (length widths) (omega arith) in
          ap (λ ws. term_of ws (Element n)) adds.words
          ∙ term_variable wold term own (Element n) absent
          ∙ ap (λ b. if b then Some term else term_of wold (Element n)) (other_kind (length widths) n less)
          ∙ old.fresh n (omega (arith, less)));
      bases = λ place found k is.
          elim (pushed wold (variable term own) place (variable found (Base k))
          (subst (λ ws. IsVariable ws place found (Base k)) adds.words is)) [
            | inl h ↦ old.bases place found k h.1
            | inr h ↦ no_base (length widths) k (kind_of h.1)
          ];
      there = below_more terms term (length tnew.ops) (λ i inside. omega (arith, old.there i inside, adds.extends.more))
          adds.made.there;
      wide = map_push (λ t. term_width tnew t) terms term
          ∙ ap₂ (λ (ws : List ℕ) (v : ℕ). ws ++ v ∷ []) (widths_kept told tnew terms adds.keeps old.there ∙ old.wide)
          adds.made.width;
      values = λ given.
          map_push (λ t. term_value tnew given t) terms term
          ∙ ap₂ (λ (vs : List ℕ) (v : ℕ). vs ++ v ∷ [])
          (values_kept told tnew given terms adds.keeps old.there ∙ old.values given)
          (adds.made.value given ∙ ap (λ n. given n % 2 ^ w) number)
          ∙ sym (values_push 1 widths w given);
    }
  where
    ending : Ended → AllEnded
    ending x = record { list = x.list; terms = terms ++ x.term ∷ [] }
