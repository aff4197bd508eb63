-- What a step has left to do as it goes on.
use Rattle.std.proofs.Common.{◌≡◌, ℕ, zero, suc, ◌+◌, ◌<◌, ◌≤◌, List, [], ◌∷◌, ◌++◌, length, map, drop, ◌^◌, Bool, true}
use Rattle.std.proofs.Common.{false, refl, ap, ap₂, arith, sym, subst, append_assoc, add-one, take, take-take, ◌∙◌}
use Rattle.std.specs.Prelude.{Option, Some, None}
use Rattle.std.proofs.Math.Seq.{drop-nil}
use Rattle.std.proofs.lemmas.Bool.{and_parts}
use Rattle.mw_expr.specs.declared.shape.Shape.{Shape}
use Rattle.mw_expr.specs.Tree.{Tree}
use Rattle.mw_expr.specs.Values.{value}
use Rattle.mw_macro.specs.declared.counts.Counted.{Counted}
use Rattle.mw_macro.specs.declared.counts.Counted.TheVariants.{Reads, Events}
use Rattle.mw_macro.specs.Branches.{branches, branches_in}
use Rattle.mw_macro.specs.Counts.{total, count, own, own_reads, own_events}
use Rattle.mw_macro.specs.DescribedStep.{Now, after, after_all}
use Rattle.mw_macro.specs.Right.{is_right, are_right}
use Rattle.mw_macro.specs.Statements.{Act, assign, write, put, take_in, choose, Acts, nothing, next, acts_of}
use Rattle.mw_term.specs.declared.kinds.WordKind.TheVariants.{Input}
use Rattle.mw_term.specs.Assigned.{Given}
use Rattle.mw_term.specs.Table.{Table}
use Rattle.mw_term.specs.declared.side.Side.TheVariants.{Board, Machine}
use Rattle.mw_term.specs.declared.word.Word.{Word}
use Rattle.mw_term.specs.WordList.{variable}
use Rattle.mw_symmem.specs.Words.{IsVariable}
use Rattle.mw_symmem.specs.Memory.{Memory}
use Rattle.mw_symmem.specs.Workspace.{GoesOn}
use Rattle.mw_symmem.proofs.Later.{goes_nowhere, goes_then, image_before, images_fit_before}
use Rattle.mw_symmem.proofs.Lists.{behind}
use Rattle.mw_symmach.specs.declared.level.Level.{Level}
use Rattle.mw_symmach.specs.Expressions.{IsMade}
use Rattle.mw_symmach.proofs.Acting.{asked_width, goes_of_made, stands_after, term_is, now_same, value_same}
use Rattle.mw_symmach.specs.Steps.{Parts, now_of, AreInputsOf, IsOfStep, Stands, Acted}
use Rattle.mw_symmach.specs.Places.{dropped, then_acts, list_at, left_of, is_plain, AsksNext, IsAsked, IsDone, Reaches}
use Rattle.mw_symmach.specs.Places.{Carries, reads_first}

-- ---- acts behind others

pub after_then : (s : Shape) (inputs : List ℕ) (first : ℕ) (one other : Acts) (x : Now)
    → after_all s inputs first (then_acts one other) x ≡ after_all s inputs first other (after_all s inputs first one x)
after_then s inputs first nothing other x = refl
after_then s inputs first (next act rest) other x = after_then s inputs first rest other (after s inputs first act x)

pub branches_then : (s : Shape) (inputs : List ℕ) (first : ℕ) (one other : Acts) (x : Now)
    → branches_in s inputs first (then_acts one other) x
    ≡ branches_in s inputs first one x ++ branches_in s inputs first other (after_all s inputs first one x)
branches_then s inputs first nothing other x = refl
branches_then s inputs first (next act rest) other x =
    ap (λ bits. branches s inputs first act x ++ bits)
    (branches_then s inputs first rest other (after s inputs first act x))
    ∙ sym (append_assoc (branches s inputs first act x) _ _)

pub total_then : (what : Counted) (one other : Acts)
    → total what (then_acts one other) ≡ total what one + total what other
total_then what nothing other = omega arith
total_then what (next act rest) other = omega (arith, total_then what rest other)

pub then_nothing : (acts : Acts) → then_acts acts nothing ≡ acts
then_nothing nothing = refl
then_nothing (next act rest) = ap (next act) (then_nothing rest)

-- ---- runs

-- the inputs that the variables have later are those that they had
pub inputs_before : (told tnew : Table) (wold wnew : List Word) (mold mnew : Memory) (given : Given) (inputs : List ℕ)
    (s : Shape) (p : Parts) → Stands s told wold mold p → GoesOn IsOfStep told tnew wold wnew mold mnew
    → AreInputsOf tnew wnew given inputs → AreInputsOf told wold given inputs
inputs_before told tnew wold wnew mold mnew given inputs s p stands goes are k place term is =
    are k place term (subst (λ ws. IsVariable ws place term (Input k)) (sym goes.words)
    (behind wold goes.more place (variable term (Input k)) is))
    ∙ goes.later.keeps.values given term (stands.input k place term is).there

pub carries_itself : (s : Shape) (t : Table) (words : List Word) (m : Memory) (p : Parts) (left : Acts)
    → Stands s t words m p → Carries s t t words words m m p p left left 0
carries_itself s t words m p left stands = record {
  goes = goes_nowhere IsOfStep t words m stands.workspace;
  stands = stands;
  board = refl;
  few_reads = omega arith;
  few_events = omega arith;
  ends = λ given image inputs is fits are. refl;
  bits = λ given image inputs is fits are. refl;
}

pub carries_then : (s : Shape) (a b c : Table) (wa wb wc : List Word) (ma mb mc : Memory) (pa pb pc : Parts)
    (la lb lc : Acts) (more : ℕ) → Carries s a b wa wb ma mb pa pb la lb 0
    → Carries s b c wb wc mb mc pb pc lb lc more → Carries s a c wa wc ma mc pa pc la lc more
carries_then s a b c wa wb wc ma mb mc pa pb pc la lb lc more first second = record {
  goes = goes_then IsOfStep a b c wa wb wc ma mb mc first.goes second.goes;
  stands = second.stands;
  board = second.board ∙ first.board;
  few_reads = omega (arith, first.few_reads, second.few_reads);
  few_events = omega (arith, first.few_events, second.few_events);
  ends = λ given image inputs is fits are.
      second.ends given image inputs is fits are
      ∙ first.ends given image inputs (image_before mb mc image second.goes.reads is)
      (images_fit_before b c wb mb mc given image second.goes.later first.goes.workspace.memory second.goes.reads fits)
      (inputs_before b c wb wc mb mc given inputs s pb first.stands second.goes are);
  bits = λ given image inputs is fits are.
      second.bits given image inputs is fits are
      ∙ first.bits given image inputs (image_before mb mc image second.goes.reads is)
      (images_fit_before b c wb mb mc given image second.goes.later first.goes.workspace.memory second.goes.reads fits)
      (inputs_before b c wb wc mb mc given inputs s pb first.stands second.goes are);
}

-- with further acts behind them
pub carries_behind : (s : Shape) (told tnew : Table) (wold wnew : List Word) (mold mnew : Memory) (pold pnew : Parts)
    (lold lnew rest : Acts) (more : ℕ) → Carries s told tnew wold wnew mold mnew pold pnew lold lnew more
    → Carries s told tnew wold wnew mold mnew pold pnew (then_acts lold rest) (then_acts lnew rest) more
carries_behind s told tnew wold wnew mold mnew pold pnew lold lnew rest more carries = record {
  goes = carries.goes;
  stands = carries.stands;
  board = carries.board;
  few_reads = omega (arith, carries.few_reads, total_then Reads lold rest, total_then Reads lnew rest);
  few_events = omega (arith, carries.few_events, total_then Events lold rest, total_then Events lnew rest);
  ends = λ given image inputs is fits are.
      after_then s inputs 0 lnew rest (now_of tnew given mnew image pnew)
      ∙ ap (after_all s inputs 0 rest) (carries.ends given image inputs is fits are)
      ∙ sym (after_then s inputs 0 lold rest (now_of told given mold image pold));
  bits = λ given image inputs is fits are.
      branches_then s inputs 0 lnew rest (now_of tnew given mnew image pnew)
      ∙ ap₂ (λ xs ys. xs ++ ys) (carries.bits given image inputs is fits are)
      (ap (branches_in s inputs 0 rest) (carries.ends given image inputs is fits are))
      ∙ sym (branches_then s inputs 0 lold rest (now_of told given mold image pold));
}

plain_branches : (s : Shape) (inputs : List ℕ) (act : Act) (x : Now)
    → is_plain act ≡ true → branches s inputs 0 act x ≡ []
plain_branches s inputs (assign target e) x plain = refl
plain_branches s inputs (write address e) x plain = refl
plain_branches s inputs (put e) x plain = refl
plain_branches s inputs (take_in target) x plain = refl
plain_branches s inputs (choose condition one other) x plain = absurd cc

plain_reads : (act : Act) → is_plain act ≡ true → count Reads act ≡ own_reads act
plain_reads (assign target e) plain = refl
plain_reads (write address e) plain = refl
plain_reads (put e) plain = refl
plain_reads (take_in target) plain = refl
plain_reads (choose condition one other) plain = absurd cc

plain_events : (act : Act) → is_plain act ≡ true → count Events act ≡ own_events act
plain_events (assign target e) plain = refl
plain_events (write address e) plain = refl
plain_events (put e) plain = refl
plain_events (take_in target) plain = refl
plain_events (choose condition one other) plain = absurd cc

pub carries_act : (s : Shape) (told tnew : Table) (wold wnew : List Word) (mold mnew : Memory) (pold pnew : Parts)
    (act : Act) (rest : Acts) → Acted s told tnew wold wnew mold mnew pold pnew act → is_plain act ≡ true
    → Carries s told tnew wold wnew mold mnew pold pnew (next act rest) rest 0
carries_act s told tnew wold wnew mold mnew pold pnew act rest acted plain = record {
  goes = acted.goes;
  stands = acted.stands;
  board = acted.board;
  few_reads = omega (arith, acted.many, plain_reads act plain);
  few_events = omega (arith, acted.few, plain_events act plain);
  ends = λ given image inputs is fits are. ap (after_all s inputs 0 rest) (acted.acts given image inputs is fits are);
  bits = λ given image inputs is fits are.
      ap (branches_in s inputs 0 rest) (acted.acts given image inputs is fits are)
      ∙ ap (λ bits. bits ++ branches_in s inputs 0 rest (after s inputs 0 act (now_of told given mold image pold)))
      (sym (plain_branches s inputs act (now_of told given mold image pold) plain));
}

-- ---- places

dropped_nothing : (n : ℕ) → dropped n nothing ≡ nothing
dropped_nothing zero = refl
dropped_nothing (suc n) = refl

pub left_nothing : (levels : List Level) (position : ℕ) → left_of nothing levels position ≡ nothing
left_nothing [] position = dropped_nothing position
left_nothing (level ∷ deeper) position =
    ap₂ then_acts
    (ap (λ acts. left_of (list_at level.first acts) deeper position) (dropped_nothing level.position)
    ∙ left_nothing deeper position)
    (dropped_nothing (level.position + 1))

-- ---- the condition of an `if`

pub asked_if : (s : Shape) (t0 t1 : Table) (w0 w1 : List Word) (m0 m1 : Memory) (p : Parts) (c : Tree)
    (one other : Acts) (term : ℕ)
    → Stands s t0 w0 m0 p → is_right s (choose c one other) ≡ true
    → IsMade t0 t1 w0 w1 m0 m1 p.values Machine c term
    → IsAsked s t0 t1 w0 w1 m0 m1 p (choose c one other) term
asked_if s t0 t1 w0 w1 m0 m1 p c one other term stands right made =
    let wide = asked_width s 1 c (and_parts _ _ right).0 in
    record {
      condition = c;
      one = one;
      other = other;
      is = refl;
      goes = goes_of_made t0 t1 w0 w1 m0 m1 made.runs.goes;
      stands = stands_after s t0 t1 w0 w1 m0 m1 p c term stands made;
      many = made.runs.more;
      board = made.runs.writes.each Board;
      bit = term_is s t0 t1 w0 w1 m0 m1 p c term 1 stands made wide;
      same = λ given image. now_same s t0 t1 w0 w1 m0 m1 p c term given image stands made;
      value = λ given image is fits. value_same s t0 t1 w0 w1 m0 m1 p c term given image stands made is fits;
    }

-- it carries what is left as it is
pub carries_asked : (s : Shape) (t0 t1 : Table) (w0 w1 : List Word) (m0 m1 : Memory) (p : Parts) (act : Act)
    (term : ℕ) (rest : Acts) → IsAsked s t0 t1 w0 w1 m0 m1 p act term
    → Carries s t0 t1 w0 w1 m0 m1 p p (next act rest) (next act rest) (own_reads act)
carries_asked s t0 t1 w0 w1 m0 m1 p act term rest asked = record {
  goes = asked.goes;
  stands = asked.stands;
  board = asked.board;
  few_reads = omega (arith, asked.many);
  few_events = omega arith;
  ends = λ given image inputs is fits are. ap (after_all s inputs 0 (next act rest)) (asked.same given image);
  bits = λ given image inputs is fits are. ap (branches_in s inputs 0 (next act rest)) (asked.same given image);
}

pub asks_next : (s : Shape) (t0 t1 : Table) (w0 w1 : List Word) (m0 m1 : Memory) (p : Parts) (act : Act)
    (term : ℕ) (rest : Acts) → IsAsked s t0 t1 w0 w1 m0 m1 p act term → AsksNext s t1 m1 p (next act rest) term
asks_next s t0 t1 w0 w1 m0 m1 p act term rest asked = record {
  condition = asked.condition;
  one = asked.one;
  other = asked.other;
  rest = rest;
  is = ap (λ a. next a rest) asked.is;
  bit = asked.bit;
  value = λ given image is fits. asked.value given image is fits
      ∙ ap (λ (x : Now). value s x.values x.memory asked.condition) (sym (asked.same given image));
}

-- ---- statements at positions

pub dropped_is : {A : Type 0} (f : A → Act) (xs : List A) (n : ℕ)
    → dropped n (acts_of (map f xs)) ≡ acts_of (map f (drop n xs))
dropped_is f xs zero = refl
dropped_is f [] (suc n) = refl
dropped_is f (x ∷ xs) (suc n) = dropped_is f xs n

pub right_dropped : (s : Shape) (n : ℕ) (all : Acts) → are_right s all ≡ true → are_right s (dropped n all) ≡ true
right_dropped s zero all right = right
right_dropped s (suc n) nothing right = refl
right_dropped s (suc n) (next act rest) right = right_dropped s n rest (and_parts _ _ right).1

own_within : (what : Counted) (act : Act) → own what act ≤ count what act
own_within what (assign target e) = omega arith
own_within what (write address e) = omega arith
own_within what (put e) = omega arith
own_within what (take_in target) = omega arith
own_within what (choose condition one other) = omega arith

-- what is asked of the next statement
pub record NextIs (s : Shape) (m : Memory) (p : Parts) (act : Act) : Type 0 where
  pub right : is_right s act ≡ true
  pub reads : length m.reads + own_reads act ≤ 2 ^ 32
  pub events : p.taken + own_events act < 2 ^ 32

pub next_is : (s : Shape) (told tnew : Table) (wold wnew : List Word) (mold mnew : Memory) (pold pnew : Parts)
    (lold : Acts) (act : Act) (rest : Acts) → are_right s (next act rest) ≡ true
    → Carries s told tnew wold wnew mold mnew pold pnew lold (next act rest) 0
    → length mold.reads + total Reads lold ≤ 2 ^ 32 → pold.taken + total Events lold < 2 ^ 32
    → NextIs s mnew pnew act
next_is s told tnew wold wnew mold mnew pold pnew lold act rest right carries few_reads few_events = record {
  right = (and_parts _ _ right).0;
  reads = omega (arith, carries.few_reads, few_reads, own_within Reads act);
  events = omega (arith, carries.few_events, few_events, own_within Events act);
}

pub at_position : {A : Type 0} (f : A → Act) (xs : List A) (i : ℕ) (item : A)
    → drop i xs ≡ item ∷ drop (i + 1) xs
    → dropped i (acts_of (map f xs)) ≡ next (f item) (dropped (i + 1) (acts_of (map f xs)))
at_position f xs i item is =
    dropped_is f xs i ∙ ap (λ ys. acts_of (map f ys)) is ∙ ap (next (f item)) (sym (dropped_is f xs (i + 1)))

pub at_end : {A : Type 0} (f : A → Act) (xs : List A) (i : ℕ) → length xs ≤ i → dropped i (acts_of (map f xs)) ≡ nothing
at_end f [] i past = dropped_nothing i
at_end f (x ∷ xs) zero past = absurd (omega arith)
at_end f (x ∷ xs) (suc i) past = at_end f xs i (omega arith)

-- ---- one statement more

pub reaches_asked : (s : Shape) (a b c : Table) (wa wb wc : List Word) (ma mb mc : Memory) (pa pb pc : Parts)
    (lold : Acts) (act : Act) (rest : Acts) (term : ℕ) → Carries s a b wa wb ma mb pa pb lold (next act rest) 0
    → IsDone s b c wb wc mb mc pb pc act (Some term) → Reaches s a c wa wc ma mc pa pc lold (next act rest) (Some term)
reaches_asked s a b c wa wb wc ma mb mc pa pb pc lold act rest term carries done =
    subst (λ p. Reaches s a c wa wc ma mc pa p lold (next act rest) (Some term)) (sym done.1) (
      carries_then s a b c wa wb wc ma mb mc pa pb pb lold (next act rest) (next act rest) (own_reads act) carries
          (carries_asked s b c wb wc mb mc pb act term rest done.0),
      asks_next s b c wb wc mb mc pb act term rest done.0,
    )

pub carries_more : (s : Shape) (a b c : Table) (wa wb wc : List Word) (ma mb mc : Memory) (pa pb pc : Parts)
    (lold : Acts) (act : Act) (rest : Acts) → Carries s a b wa wb ma mb pa pb lold (next act rest) 0
    → IsDone s b c wb wc mb mc pb pc act None → Carries s a c wa wc ma mc pa pc lold rest 0
carries_more s a b c wa wb wc ma mb mc pa pb pc lold act rest carries done =
    carries_then s a b c wa wb wc ma mb mc pa pb pc lold (next act rest) rest 0 carries
    (carries_act s b c wb wc mb mc pb pc act rest done.0 done.1)

-- ---- one run of statements and then another

pub reaches_after : (s : Shape) (a b c : Table) (wa wb wc : List Word) (ma mb mc : Memory) (pa pb pc : Parts)
    (la lb lc : Acts) (asked : Option ℕ) → Carries s a b wa wb ma mb pa pb la lb 0
    → Reaches s b c wb wc mb mc pb pc lb lc asked → Reaches s a c wa wc ma mc pa pc la lc asked
reaches_after s a b c wa wb wc ma mb mc pa pb pc la lb lc None first second =
    (carries_then s a b c wa wb wc ma mb mc pa pb pc la lb lc 0 first second.0, second.1)
reaches_after s a b c wa wb wc ma mb mc pa pb pc la lb lc (Some term) first second =
    (carries_then s a b c wa wb wc ma mb mc pa pb pc la lb lc (reads_first lc) first second.0, second.1)

-- an `if` that asks does so with further acts behind it
pub reaches_behind : (s : Shape) (a b : Table) (wa wb : List Word) (ma mb : Memory) (pa pb : Parts) (la lb rest : Acts)
    (term : ℕ) → Reaches s a b wa wb ma mb pa pb la lb (Some term)
    → Reaches s a b wa wb ma mb pa pb (then_acts la rest) (then_acts lb rest) (Some term)
reaches_behind s a b wa wb ma mb pa pb la lb rest term reaches =
    let asks = reaches.1 in
    let same : reads_first (then_acts lb rest) ≡ reads_first lb =
    ap (λ acts. reads_first (then_acts acts rest)) asks.is ∙ sym (ap reads_first asks.is) in (
      subst (λ n. Carries s a b wa wb ma mb pa pb (then_acts la rest) (then_acts lb rest) n) (sym same)
          (carries_behind s a b wa wb ma mb pa pb la lb rest (reads_first lb) reaches.0),
      record {
        condition = asks.condition;
        one = asks.one;
        other = asks.other;
        rest = then_acts asks.rest rest;
        is = ap (λ acts. then_acts acts rest) asks.is;
        bit = asks.bit;
        value = asks.value;
      },
    )

-- where nothing is left within, what is behind is left
pub carries_out : (s : Shape) (a b : Table) (wa wb : List Word) (ma mb : Memory) (pa pb : Parts) (la lb rest : Acts)
    → Reaches s a b wa wb ma mb pa pb la lb None → Carries s a b wa wb ma mb pa pb (then_acts la rest) rest 0
carries_out s a b wa wb ma mb pa pb la lb rest reaches =
    subst (λ acts. Carries s a b wa wb ma mb pa pb (then_acts la rest) (then_acts acts rest) 0) reaches.1
    (carries_behind s a b wa wb ma mb pa pb la lb rest 0 reaches.0)

-- ---- lists within statements

pub right_list : (s : Shape) (first : Bool) (all : Acts)
    → are_right s all ≡ true → are_right s (list_at first all) ≡ true
right_list s first nothing right = refl
right_list s true (next (choose c one other) rest) right = (and_parts _ _ (and_parts _ _ (and_parts _ _ right).0).1).0
right_list s false (next (choose c one other) rest) right = (and_parts _ _ (and_parts _ _ (and_parts _ _ right).0).1).1
right_list s true (next (assign target e) rest) right = refl
right_list s false (next (assign target e) rest) right = refl
right_list s true (next (write a e) rest) right = refl
right_list s false (next (write a e) rest) right = refl
right_list s true (next (put e) rest) right = refl
right_list s false (next (put e) rest) right = refl
right_list s true (next (take_in target) rest) right = refl
right_list s false (next (take_in target) rest) right = refl

-- ---- fronts of lists

pub same_front : {A : Type 0} (n : ℕ) (xs ys : List A) (y : A) → take (suc n) xs ≡ take (suc n) ys
    → drop n ys ≡ y ∷ drop (suc n) ys → drop n xs ≡ y ∷ drop (suc n) xs
same_front n [] [] y same is = is
same_front n [] (z ∷ ys) y same is = absurd cc
same_front n (x ∷ xs) [] y same is = absurd cc
same_front zero (x ∷ xs) (z ∷ ys) y same is = ap (λ a. a ∷ xs) (heads same ∙ heads is)
  where
    heads : {A : Type 0} {a b : A} {us vs : List A} → a ∷ us ≡ b ∷ vs → a ≡ b
    heads {A} {a} {b} {us} {vs} is = cc
same_front (suc n) (x ∷ xs) (z ∷ ys) y same is = same_front n xs ys y (tails same) is
  where
    tails : {A : Type 0} {a b : A} {us vs : List A} → a ∷ us ≡ b ∷ vs → us ≡ vs
    tails {A} {a} {b} {us} {vs} is = cc

pub shorter_front : {A : Type 0} (n : ℕ) (xs ys : List A) → take (suc n) xs ≡ take (suc n) ys → take n xs ≡ take n ys
shorter_front n xs ys same =
    sym (take-take n (suc n) xs (omega arith)) ∙ ap (take n) same ∙ take-take n (suc n) ys (omega arith)

pub none_behind : {A : Type 0} (n : ℕ) (xs : List A) → drop n (take n xs) ≡ []
none_behind zero xs = refl
none_behind (suc n) [] = refl
none_behind (suc n) (x ∷ xs) = none_behind n xs

pub past_end : {A : Type 0} (n : ℕ) (xs : List A) → length xs ≤ n → drop n xs ≡ []
past_end n [] past = drop-nil n
past_end zero (x ∷ xs) past = absurd (omega arith)
past_end (suc n) (x ∷ xs) past = past_end n xs (omega arith)

-- ---- one level out

pub reaches_out : (s : Shape) (a b : Table) (wa wb : List Word) (ma mb : Memory) (pa pb : Parts) (all : Acts)
    (level : Level) (old new : List Level) (from position term : ℕ)
    → Reaches s a b wa wb ma mb pa pb (left_of (list_at level.first (dropped level.position all)) old from)
    (left_of (list_at level.first (dropped level.position all)) new position) (Some term)
    → Reaches s a b wa wb ma mb pa pb (left_of all (level ∷ old) from) (left_of all (level ∷ new) position) (Some term)
reaches_out s a b wa wb ma mb pa pb all level old new from position term reaches =
    reaches_behind s a b wa wb ma mb pa pb (left_of (list_at level.first (dropped level.position all)) old from)
    (left_of (list_at level.first (dropped level.position all)) new position)
    (dropped (level.position + 1) all) term reaches

pub out_then : (s : Shape) (a b c : Table) (wa wb wc : List Word) (ma mb mc : Memory) (pa pb pc : Parts) (all : Acts)
    (level : Level) (old : List Level) (from position : ℕ) (last : Acts) (asked : Option ℕ)
    → Reaches s a b wa wb ma mb pa pb (left_of (list_at level.first (dropped level.position all)) old from) last None
    → Reaches s b c wb wc mb mc pb pc (dropped (level.position + 1) all) (dropped position all) asked
    → Reaches s a c wa wc ma mc pa pc (left_of all (level ∷ old) from) (dropped position all) asked
out_then s a b c wa wb wc ma mb mc pa pb pc all level old from position last asked within behind =
    reaches_after s a b c wa wb wc ma mb mc pa pb pc (left_of all (level ∷ old) from) (dropped (level.position + 1) all)
    (dropped position all) asked
    (carries_out s a b wa wb ma mb pa pb (left_of (list_at level.first (dropped level.position all)) old from) last
    (dropped (level.position + 1) all) within) behind

-- what is asked of what is left within a level, and behind it
pub within_few : (what : Counted) (all : Acts) (level : Level) (deeper : List Level) (from : ℕ)
    → total what (left_of (list_at level.first (dropped level.position all)) deeper from)
    + total what (dropped (level.position + 1) all) ≡ total what (left_of all (level ∷ deeper) from)
within_few what all level deeper from =
    sym (total_then what (left_of (list_at level.first (dropped level.position all)) deeper from)
    (dropped (level.position + 1) all))

pub front_at : {A : Type 0} (n : ℕ) (xs ys : List A) (y : A) → take (n + 1) xs ≡ take (n + 1) ys
    → drop n ys ≡ y ∷ drop (n + 1) ys → drop n xs ≡ y ∷ drop (n + 1) xs
front_at n xs ys y same is = rw add-one (same_front n xs ys y (rw add-one at same) (rw add-one at is))

pub front_before : {A : Type 0} (n : ℕ) (xs ys : List A) → take (n + 1) xs ≡ take (n + 1) ys → take n xs ≡ take n ys
front_before n xs ys same = shorter_front n xs ys (rw add-one at same)
