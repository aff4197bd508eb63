-- The decided bits of a run: those of a cycle behind those before it, and the first ones of a list.
use Rattle.std.proofs.Common.{◌≡◌, ℕ, ◌+◌, ◌-◌, ◌<◌, List, [], ◌∷◌, ◌++◌, length, drop, append_assoc, add-one, refl, ap}
use Rattle.std.proofs.Common.{arith, sym, subst, ◌∙◌}
use Rattle.std.specs.Prelude.{Some, slice_get}
use Rattle.std.proofs.lemmas.List.{take-append-drop}
use Rattle.std.proofs.lemmas.Option.{same_Some}
use Rattle.std.proofs.Math.Seq.{take-append_seam}
use Rattle.mw_board.specs.declared.parts.BoardParts.{BoardParts}
use Rattle.mw_term.specs.declared.decided.Decided.{Decided}
use Rattle.mw_cycle.specs.SteadyDecided.{bits_of_cycle, bits_of_cycles}
use Rattle.mw_cycle.specs.SteadyEnvironment.{Environment, at_start, rest_at}
use Rattle.mw_cycle.specs.SteadyRun.{longer_run, run_of}
use Rattle.mw_cycle.specs.State.{BoardState}
use Rattle.mw_cycle.proofs.SteadyCycles.{bits_further}
use Rattle.mw_symmem.proofs.Lists.{behind}
use Rattle.mw_symboard.specs.Seen.{AreFirst}

-- ---- first ones of a list

-- a list begins with its first part
pub first_of : (xs ys : List Decided) → AreFirst xs (xs ++ ys)
first_of xs ys = take-append_seam xs ys

-- what a list begins with, and the rest
pub and_rest : (xs all : List Decided) → AreFirst xs all → all ≡ xs ++ drop (length xs) all
and_rest xs all first = sym (take-append-drop (length xs) all)
    ∙ ap (λ (ys : List Decided). ys ++ drop (length xs) all) first

-- a list that goes on begins with the same
pub first_further : (xs all more : List Decided) → AreFirst xs all → AreFirst xs (all ++ more)
first_further xs all more first =
    let whole : all ++ more ≡ xs ++ (drop (length xs) all ++ more) =
    ap (λ (ys : List Decided). ys ++ more) (and_rest xs all first) ∙ append_assoc xs (drop (length xs) all) more in
    subst (λ (ys : List Decided). AreFirst xs ys) (sym whole) (first_of xs (drop (length xs) all ++ more))

-- behind some others
pub first_behind : (front xs all : List Decided) → AreFirst xs all → AreFirst (front ++ xs) (front ++ all)
first_behind front xs all first =
    let whole : front ++ all ≡ (front ++ xs) ++ drop (length xs) all =
    ap (λ (ys : List Decided). front ++ ys) (and_rest xs all first)
    ∙ sym (append_assoc front xs (drop (length xs) all)) in
    subst (λ (ys : List Decided). AreFirst (front ++ xs) ys) (sym whole) (first_of (front ++ xs) (drop (length xs) all))

-- an item behind some others
pub get_behind : (front xs ys : List Decided) → slice_get (front ++ ys) (length (front ++ xs))
    ≡ slice_get ys (length xs)
get_behind [] xs ys = refl
get_behind (d ∷ front) xs ys = get_behind front xs ys

head_is : (rest : List Decided) (d : Decided) → slice_get rest 0 ≡ Some d → rest ≡ d ∷ drop 1 rest
head_is [] d is = absurd cc
head_is (e ∷ rest) d is = ap (λ (f : Decided). f ∷ rest) (same_Some e d is)

-- the item behind some others
pub next_behind : (front ys : List Decided) → slice_get (front ++ ys) (length front) ≡ slice_get ys 0
next_behind [] ys = refl
next_behind (d ∷ front) ys = next_behind front ys

-- with the next item
pub first_next : (xs all : List Decided) (d : Decided) → AreFirst xs all → slice_get all (length xs) ≡ Some d
    → AreFirst (xs ++ d ∷ []) all
first_next xs all d first is =
    let rest : List Decided = drop (length xs) all in
    let whole = and_rest xs all first in
    let at : slice_get rest 0 ≡ Some d =
    sym (next_behind xs rest) ∙ ap (λ (ys : List Decided). slice_get ys (length xs)) (sym whole) ∙ is in
    let split : all ≡ (xs ++ d ∷ []) ++ drop 1 rest =
    whole ∙ ap (λ (ys : List Decided). xs ++ ys) (head_is rest d at) ∙ sym (append_assoc xs (d ∷ []) (drop 1 rest)) in
    subst (λ (ys : List Decided). AreFirst (xs ++ d ∷ []) ys) (sym split) (first_of (xs ++ d ∷ []) (drop 1 rest))

-- a list that begins with some and one more begins with these, and that one is the next
pub first_before : (xs all : List Decided) (d : Decided) → AreFirst (xs ++ d ∷ []) all
    → AreFirst xs all × (slice_get all (length xs) ≡ Some d)
first_before xs all d first =
    let rest : List Decided = drop (length (xs ++ d ∷ [])) all in
    let whole : all ≡ xs ++ (d ∷ [] ++ rest) = and_rest (xs ++ d ∷ []) all first ∙ append_assoc xs (d ∷ []) rest in (
      subst (λ (ys : List Decided). AreFirst xs ys) (sym whole) (first_of xs (d ∷ [] ++ rest)),
      ap (λ (ys : List Decided). slice_get ys (length xs)) whole ∙ next_behind xs (d ∷ [] ++ rest),
    )

-- ---- of a run

-- a cycle more
pub bits_next : (board : BoardParts) (store : List ℕ) (env : Environment) (start : BoardState) (n : ℕ)
    → bits_of_cycles board store env start (n + 1)
    ≡ bits_of_cycles board store env start n ++ bits_of_cycle board store env start n
unfolding bits_of_cycles
bits_next board store env start n = ap (bits_of_cycles board store env start) (add-one n)

-- the run with a cycle more
pub run_next : (board : BoardParts) (store : List ℕ) (env : Environment) (start : BoardState) (n : ℕ)
    → run_of board store env start (n + 1) ≡ longer_run board store env (run_of board store env start n)
unfolding run_of
run_next board store env start n = ap (run_of board store env start) (add-one n)

-- the bits of more cycles begin with those of fewer
pub bits_more : (board : BoardParts) (store : List ℕ) (env : Environment) (start : BoardState) (n k : ℕ) → n < k
    → (more : List Decided)
    × (bits_of_cycles board store env start k ≡ bits_of_cycles board store env start (n + 1) ++ more)
bits_more board store env start n k less =
    let run = run_of board store env start (n + 1) in
    let m : ℕ = k - (n + 1) in
    let whole : n + 1 + m ≡ k = omega (arith, less) in (
      bits_of_cycles board store (rest_at env run.clock) run.state m,
      ap (bits_of_cycles board store env start) (sym whole) ∙ bits_further board store env start (n + 1) m,
    )

-- the next bit of a run, where these are its bits so far
pub next_of_run : (board : BoardParts) (store : List ℕ) (env : Environment) (start : BoardState) (c n : ℕ)
    (bits ds : List Decided) (d : Decided) → c < n → bits ≡ bits_of_cycles board store env start c ++ ds
    → slice_get (bits_of_cycle board store env start c) (length ds) ≡ Some d
    → slice_get (bits_of_cycles board store env start n) (length bits) ≡ Some d
next_of_run board store env start c n bits ds d less are is =
    let front = bits_of_cycles board store env start c in
    let cycle = bits_of_cycle board store env start c in
    let more = bits_more board store env start c n less in
    ap (slice_get (bits_of_cycles board store env start n)) (ap (λ (xs : List Decided). length xs) are)
    ∙ ap (λ (xs : List Decided). slice_get xs (length (front ++ ds)))
    (more.1 ∙ ap (λ (xs : List Decided). xs ++ more.0) (bits_next board store env start c))
    ∙ behind (front ++ cycle) more.0 (length (front ++ ds)) d (get_behind front ds cycle ∙ is)

-- and the next bit of its cycle
pub next_of_cycle : (board : BoardParts) (store : List ℕ) (env : Environment) (start : BoardState) (c : ℕ)
    (bits ds : List Decided) (d : Decided) → bits ≡ bits_of_cycles board store env start c ++ ds
    → slice_get (bits_of_cycles board store env start (c + 1)) (length bits) ≡ Some d
    → slice_get (bits_of_cycle board store env start c) (length ds) ≡ Some d
next_of_cycle board store env start c bits ds d are is =
    let front = bits_of_cycles board store env start c in
    let cycle = bits_of_cycle board store env start c in
    sym (get_behind front ds cycle)
    ∙ ap (λ (xs : List Decided). slice_get xs (length (front ++ ds))) (sym (bits_next board store env start c))
    ∙ ap (slice_get (bits_of_cycles board store env start (c + 1))) (ap (λ (xs : List Decided). length xs) (sym are))
    ∙ is

-- the bits so far are the first ones of the run's
pub first_of_run : (board : BoardParts) (store : List ℕ) (env : Environment) (start : BoardState) (c n : ℕ)
    (bits ds : List Decided) → c < n → bits ≡ bits_of_cycles board store env start c ++ ds
    → AreFirst ds (bits_of_cycle board store env start c) → AreFirst bits (bits_of_cycles board store env start n)
first_of_run board store env start c n bits ds less are first =
    let front = bits_of_cycles board store env start c in
    let cycle = bits_of_cycle board store env start c in
    let more = bits_more board store env start c n less in
    let whole = more.1 ∙ ap (λ (xs : List Decided). xs ++ more.0) (bits_next board store env start c) in
    subst (λ (xs : List Decided). AreFirst xs (bits_of_cycles board store env start n)) (sym are)
    (subst (λ (xs : List Decided). AreFirst (front ++ ds) xs) (sym whole)
    (first_further (front ++ ds) (front ++ cycle) more.0 (first_behind front ds cycle first)))

-- before its first cycle
pub run_none : (board : BoardParts) (store : List ℕ) (env : Environment) (start : BoardState)
    → run_of board store env start 0 ≡ record { state = start; events = []; clock = at_start }
unfolding run_of
run_none board store env start = refl

pub bits_none : (board : BoardParts) (store : List ℕ) (env : Environment) (start : BoardState)
    → bits_of_cycles board store env start 0 ≡ []
unfolding bits_of_cycles
bits_none board store env start = refl
