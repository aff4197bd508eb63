-- Events, compared pair by pair.
use Rattle.std.proofs.Common.{◌≡◌, inl, inr, add-one, ap, ap₂, drop, drop-cons, get_or, subst, sym, ◌∙◌, refl, ℕ}
use Rattle.std.proofs.Common.{◌+◌, ◌<◌, ◌≤◌, List, [], ◌∷◌, length, arith, suc, Bool, true, false}
use Rattle.std.specs.Prelude.{None, Option, Some, is_some, ◌↔◌}
use Rattle.std.proofs.Math.Bool.{beq, not}
use Rattle.std.proofs.lemmas.Bool.{cases_lt}
use Rattle.std.proofs.lemmas.List.{drop_all}
use Rattle.std.proofs.lemmas.Option.{same_Some, slice_get_read, slice_get_within}
use Rattle.mw_rel.specs.ComparisonWords.{Compared, are_alike, event, with_comparison, with_events}
use Rattle.mw_symmem.specs.Memory.{IsOfWidth}
use Rattle.mw_symmem.proofs.Later.{goes_nowhere, width_later, writes_itself}
use Rattle.mw_symmem.specs.Workspace.{IsWorkspace}
use Rattle.mw_term.specs.declared.event.SymEvent.{SymEvent}
use Rattle.mw_term.specs.declared.event.SymEvent.TheVariants.{Out, Taken}
use Rattle.mw_term.specs.Functions.{Function}
use Rattle.mw_space.specs.declared.space.Space.{Space}
use Rattle.mw_compare.specs.Comparing.{AreEventsOf, AreOneOn, ArePutOut, GoesComparing, IsComparedKind}
use Rattle.mw_compare.proofs.GoingOn.{GoesOnAs, events_go_on}

pub alike_count : (xs ys : List SymEvent) → are_alike xs ys ≡ true → length xs ≡ length ys
alike_count [] [] same = refl
alike_count [] (Out b ∷ ys) same = absurd cc
alike_count [] (Taken b ∷ ys) same = absurd cc
alike_count (Out a ∷ xs) [] same = absurd cc
alike_count (Taken a ∷ xs) [] same = absurd cc
alike_count (Out a ∷ xs) (Out b ∷ ys) same = ap suc (alike_count xs ys same)
alike_count (Taken a ∷ xs) (Taken b ∷ ys) same = ap suc (alike_count xs ys same)
alike_count (Out a ∷ xs) (Taken b ∷ ys) same = absurd cc
alike_count (Taken a ∷ xs) (Out b ∷ ys) same = absurd cc

-- lists of other lengths are unlike
pub unlike_count : (xs ys : List SymEvent) → (length xs ≡ length ys → ⊥) → false ≡ are_alike xs ys
unlike_count xs ys other = at (are_alike xs ys) refl where
  at : (b : Bool) → are_alike xs ys ≡ b → false ≡ b
  at true is = absurd (other (alike_count xs ys is))
  at false is = refl

-- ---- the events at a place

pub record AreAt (board machine : List SymEvent) (k : ℕ) (x y : SymEvent) : Type 0 where
  pub inside : k < length board
  pub count : length board ≡ length machine
  pub first : x ≡ get_or board k x
  pub second : y ≡ get_or machine k y

items_rest : (xs : List SymEvent) (k : ℕ) (x : SymEvent) → k < length xs → x ≡ get_or xs k x
    → drop k xs ≡ x ∷ drop (k + 1) xs
items_rest xs k x inside is = rw add-one (drop-cons xs k x inside ∙ ap (λ z. z ∷ drop (suc k) xs) (sym is))

board_rest : (board machine : List SymEvent) (k : ℕ) (x y : SymEvent) → AreAt board machine k x y
    → drop k board ≡ x ∷ drop (k + 1) board
board_rest board machine k x y at = items_rest board k x at.inside at.first

machine_rest : (board machine : List SymEvent) (k : ℕ) (x y : SymEvent) → AreAt board machine k x y
    → drop k machine ≡ y ∷ drop (k + 1) machine
machine_rest board machine k x y at = items_rest machine k y (omega (arith, at.inside, at.count)) at.second

pub put_out : (board machine : List SymEvent) (k : ℕ) (x y : SymEvent) (a b : ℕ) → AreAt board machine k x y → x ≡ Out a
    → y ≡ Out b → ArePutOut board machine k a b
put_out board machine k x y a b at is_a is_b = record {
  by_board = slice_get_read board (length board) k x refl at.inside at.first ∙ ap (λ e. Some e) is_a;
  by_machine = slice_get_read machine (length machine) k y refl (omega (arith, at.inside, at.count)) at.second
      ∙ ap (λ e. Some e) is_b;
}

alike_heads : (board machine : List SymEvent) (k : ℕ) (x y : SymEvent) → AreAt board machine k x y
    → are_alike (drop k board) (drop k machine) ≡ are_alike (x ∷ drop (k + 1) board) (y ∷ drop (k + 1) machine)
alike_heads board machine k x y at =
    ap (λ xs. are_alike xs (drop k machine)) (board_rest board machine k x y at)
    ∙ ap (are_alike (x ∷ drop (k + 1) board)) (machine_rest board machine k x y at)

same_kind : (x y : SymEvent) (xs ys : List SymEvent) → are_alike (x ∷ xs) (y ∷ ys) ≡ true
    → are_alike xs ys ≡ true
same_kind (Out a) (Out d) xs ys same = same
same_kind (Taken a) (Taken d) xs ys same = same
same_kind (Out a) (Taken d) xs ys same = absurd cc
same_kind (Taken a) (Out d) xs ys same = absurd cc

pub alike_rest : (board machine : List SymEvent) (k : ℕ) (x y : SymEvent) → AreAt board machine k x y
    → are_alike (drop k board) (drop k machine) ≡ true → are_alike (drop (k + 1) board) (drop (k + 1) machine) ≡ true
alike_rest board machine k x y at alike =
    same_kind x y (drop (k + 1) board) (drop (k + 1) machine) (sym (alike_heads board machine k x y at) ∙ alike)

-- ---- what is left of the comparison

both_rest : (board machine : List SymEvent) (k : ℕ) (x y : SymEvent) (c : Compared) → AreAt board machine k x y
    → with_events k (drop k board) (drop k machine) c
    ≡ with_events k (x ∷ drop (k + 1) board) (y ∷ drop (k + 1) machine) c
both_rest board machine k x y c at =
    ap (λ xs. with_events k xs (drop k machine) c) (board_rest board machine k x y at)
    ∙ ap (λ ys. with_events k (x ∷ drop (k + 1) board) ys c) (machine_rest board machine k x y at)

heads_next : (k : ℕ) (x y : SymEvent) (xs ys : List SymEvent) (c : Compared) → are_alike (x ∷ xs) (y ∷ ys) ≡ true
    → with_events k (x ∷ xs) (y ∷ ys) c ≡ with_events (k + 1) xs ys (with_events k (x ∷ []) (y ∷ []) c)
heads_next k (Out a) (Out b) xs ys c alike = refl
heads_next k (Taken a) (Taken b) xs ys c alike = refl
heads_next k (Out a) (Taken b) xs ys c alike = absurd cc
heads_next k (Taken a) (Out b) xs ys c alike = absurd cc

-- the pair at the place, and those behind it
pub events_next : (board machine : List SymEvent) (k : ℕ) (x y : SymEvent) (c : Compared) → AreAt board machine k x y
    → are_alike (drop k board) (drop k machine) ≡ true
    → with_events k (drop k board) (drop k machine) c
    ≡ with_events (k + 1) (drop (k + 1) board) (drop (k + 1) machine) (with_events k (x ∷ []) (y ∷ []) c)
events_next board machine k x y c at alike =
    both_rest board machine k x y c at
    ∙ heads_next k x y (drop (k + 1) board) (drop (k + 1) machine) c (sym (alike_heads board machine k x y at) ∙ alike)

pub events_behind : (board machine : List SymEvent) (k : ℕ) (x y : SymEvent) (c : Compared) → AreAt board machine k x y
    → are_alike (drop k board) (drop k machine) ≡ true
    → GoesOnAs (with_events k (x ∷ []) (y ∷ []) c) (with_events k (drop k board) (drop k machine) c)
events_behind board machine k x y c at alike =
    subst (GoesOnAs (with_events k (x ∷ []) (y ∷ []) c)) (sym (events_next board machine k x y c at alike))
    (events_go_on (k + 1) (drop (k + 1) board) (drop (k + 1) machine) (with_events k (x ∷ []) (y ∷ []) c))

-- a pair of words
pub pair_out : (k : ℕ) (x y : SymEvent) (a b : ℕ) (c : Compared) → x ≡ Out a → y ≡ Out b
    → with_events k (x ∷ []) (y ∷ []) c ≡ with_comparison (event k) a b c
pair_out k x y a b c is_a is_b = ap₂ (λ (e f : SymEvent). with_events k (e ∷ []) (f ∷ []) c) is_a is_b

-- a pair that isn't one
pub pair_skip : (k : ℕ) (x y : SymEvent) (c : Compared) → ((a b : ℕ) → x ≡ Out a → y ≡ Out b → ⊥)
    → with_events k (x ∷ []) (y ∷ []) c ≡ c
pair_skip k (Out a) (Out b) c none_out = absurd (none_out a b refl refl)
pair_skip k (Taken a) (Taken b) c none_out = refl
pair_skip k (Out a) (Taken b) c none_out = refl
pair_skip k (Taken a) (Out b) c none_out = refl

-- ---- both sides' words

pub events_wide : (old now : Space) (board machine : List SymEvent) (k : ℕ) (a b : ℕ) → GoesComparing old now
    → (word : ℕ) × AreEventsOf old.terms word board × AreEventsOf old.terms word machine
    → ArePutOut board machine k a b
    → (word : ℕ) × IsOfWidth now.terms word a × IsOfWidth now.terms word b
events_wide old now board machine k a b goes wide out = (
  wide.0,
  width_later old.terms now.terms wide.0 a goes.goes.later (wide.1 k (Out a) out.by_board),
  width_later old.terms now.terms wide.0 b goes.goes.later (wide.2 k (Out b) out.by_machine),
)

-- ---- each pair so far

abbrev pub AreOneSoFar : (board machine : List SymEvent) → (k : ℕ) → Space → (path : Function) → Type 0
AreOneSoFar board machine k space path =
    (number a b : ℕ) → number < k → ArePutOut board machine number a b → AreOneOn space.terms path a b

out_of_same : (a b : ℕ) → Out a ≡ Out b → a ≡ b
out_of_same a b same = cc

-- earlier pairs have one value in a space that went on, and the pair at the place has
pub one_more : (first old new : Space) (board machine : List SymEvent) (k : ℕ) (path : Function)
    → GoesComparing first old → GoesComparing old new
    → (word : ℕ) × AreEventsOf first.terms word board × AreEventsOf first.terms word machine
    → AreOneSoFar board machine k old path
    → ((a b : ℕ) → ArePutOut board machine k a b → AreOneOn new.terms path a b)
    → AreOneSoFar board machine (k + 1) new path
one_more first old new board machine k path before goes wide are now number a b below out = elim (cases_lt number k) [
  | inl earlier ↦ (λ given on.
      let both = events_wide first old board machine number a b before wide out in
      goes.goes.later.keeps.values given a both.1.there ∙ are number a b earlier out given on
      ∙ sym (goes.goes.later.keeps.values given b both.2.there))
  | inr past ↦
      let place : number ≡ k = omega (arith, past, below) in
      now a b (subst (λ n. ArePutOut board machine n a b) place out)
]

-- what an event puts out is one word
pub pair_one : (space : Space) (path : Function) (x y : SymEvent) (a b d e : ℕ) → x ≡ Out a → y ≡ Out b → x ≡ Out d
    → y ≡ Out e → AreOneOn space.terms path a b → AreOneOn space.terms path d e
pair_one space path x y a b d e is_a is_b is_d is_e one =
    subst (λ v. AreOneOn space.terms path v e) (out_of_same a d (sym is_a ∙ is_d))
    (subst (λ v. AreOneOn space.terms path a v) (out_of_same b e (sym is_b ∙ is_e)) one)

pub out_inside : (board machine : List SymEvent) (k a b : ℕ) → ArePutOut board machine k a b → k < length board
out_inside board machine k a b out = slice_get_within board k (Out a) out.by_board

pub events_done : (board machine : List SymEvent) (k : ℕ) (c : Compared) → length board ≤ k
    → length board ≡ length machine
    → with_events k (drop k board) (drop k machine) c ≡ c
events_done board machine k c all count =
    ap (λ xs. with_events k xs (drop k machine) c) (drop_all k board all)
    ∙ ap (λ ys. with_events k [] ys c) (drop_all k machine (omega (arith, all, count)))

-- the events at a place at which words are put out are these words
pub out_here : (board machine : List SymEvent) (k : ℕ) (x y : SymEvent) (a b : ℕ) → AreAt board machine k x y
    → ArePutOut board machine k a b → (x ≡ Out a) × (y ≡ Out b)
out_here board machine k x y a b at out = (
  same_Some x (Out a) (sym (slice_get_read board (length board) k x refl at.inside at.first) ∙ out.by_board),
  same_Some y (Out b)
      (sym (slice_get_read machine (length machine) k y refl (omega (arith, at.inside, at.count)) at.second)
      ∙ out.by_machine),
)

pub comparing_itself : (space : Space) → IsWorkspace space.terms space.words space.memory → GoesComparing space space
comparing_itself space workspace = record {
  goes = goes_nowhere IsComparedKind space.terms space.words space.memory workspace;
  writes = writes_itself space.memory;
}

-- ---- of one kind

abbrev pub is_out : SymEvent → Bool
is_out (Out a) = true
is_out (Taken a) = false

pub out_is : (e : SymEvent) (o : Option ℕ) → ((term : ℕ) → (o ≡ Some term) ↔ (e ≡ Out term)) → is_some o ≡ is_out e
out_is (Out a) o are = ap is_some ((are a).1 refl)
out_is (Taken a) None are = refl
out_is (Taken a) (Some b) are = (let out : Taken a ≡ Out b = (are b).0 refl in absurd cc)

heads_alike : (x y : SymEvent) (xs ys : List SymEvent) → is_out x ≡ is_out y
    → are_alike (x ∷ xs) (y ∷ ys) ≡ are_alike xs ys
heads_alike (Out a) (Out b) xs ys same = refl
heads_alike (Taken a) (Taken b) xs ys same = refl
heads_alike (Out a) (Taken b) xs ys same = absurd cc
heads_alike (Taken a) (Out b) xs ys same = absurd cc

heads_unlike : (x y : SymEvent) (xs ys : List SymEvent) → (is_out x ≡ is_out y → ⊥)
    → are_alike (x ∷ xs) (y ∷ ys) ≡ false
heads_unlike (Out a) (Out b) xs ys other = absurd (other refl)
heads_unlike (Taken a) (Taken b) xs ys other = absurd (other refl)
heads_unlike (Out a) (Taken b) xs ys other = refl
heads_unlike (Taken a) (Out b) xs ys other = refl

pub alike_next : (board machine : List SymEvent) (k : ℕ) (x y : SymEvent) → AreAt board machine k x y
    → is_out x ≡ is_out y
    → are_alike (drop k board) (drop k machine) ≡ are_alike (drop (k + 1) board) (drop (k + 1) machine)
alike_next board machine k x y at same =
    alike_heads board machine k x y at ∙ heads_alike x y (drop (k + 1) board) (drop (k + 1) machine) same

pub unlike_here : (board machine : List SymEvent) (k : ℕ) (x y : SymEvent) → AreAt board machine k x y
    → (is_out x ≡ is_out y → ⊥) → are_alike (drop k board) (drop k machine) ≡ false
unlike_here board machine k x y at other =
    alike_heads board machine k x y at ∙ heads_unlike x y (drop (k + 1) board) (drop (k + 1) machine) other

-- two that are told apart aren't one
pub differ_not : (p q : Bool) → not (beq p q) ≡ true → p ≡ q → ⊥
differ_not true true apart same = absurd cc
differ_not false false apart same = absurd cc
differ_not true false apart same = absurd cc
differ_not false true apart same = absurd cc
