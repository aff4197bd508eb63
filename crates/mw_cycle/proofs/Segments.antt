-- Segments of a run, cycle by cycle.
use Rattle.std.proofs.Common.{◌≡◌, ℕ, suc, ◌+◌, ◌-◌, ◌<◌, ◌≤◌, List, Bool, true, false, cond, find, Some, None}
use Rattle.std.proofs.Common.{option_map, refl, ap, sym, ◌∙◌, arith}
use Rattle.mw_board.specs.declared.parts.BoardParts.{BoardParts}
use Rattle.mw_cycle.specs.State.{BoardState}
use Rattle.mw_cycle.specs.Environment.{Environment}
use Rattle.mw_cycle.specs.Run.{BoardRun, run_of}
use Rattle.mw_cycle.specs.Boundary.{is_named, numbers, first_boundary, first_segment}

-- before the first cycle each number is left
pub find_first : (test : ℕ → Bool) (limit : ℕ) → find test (numbers 1 limit) ≡ find test (numbers (0 + 1) (limit - 0))
find_first test limit =
    let left : limit - 0 ≡ limit = omega arith in
    rw left refl

-- what is found among the numbers that are left: the next, or one of those after it
pub find_next : (test : ℕ → Bool) (i limit : ℕ) → i < limit → find test (numbers (i + 1) (limit - i))
    ≡ cond (test (i + 1)) (Some (i + 1)) (find test (numbers (i + 1 + 1) (limit - (i + 1))))
find_next test i limit h =
    let left : limit - i ≡ suc (limit - (i + 1)) = omega arith in
    rw left refl

-- nothing is found where no number is left
pub find_none : (test : ℕ → Bool) (i limit : ℕ) → limit ≤ i → find test (numbers (i + 1) (limit - i)) ≡ None
find_none test i limit h =
    let left : limit - i ≡ 0 = omega arith in
    rw left refl

-- the control address after n cycles
abbrev pub at : BoardParts → List ℕ → Environment → BoardState → ℕ → ℕ
at board store env start n = (run_of board store env start n).state.at

-- a run that no boundary ended before, and that stands at one now, is the first segment
pub reached : (board : BoardParts) (store : List ℕ) (env : Environment) (start : BoardState) (addresses : List ℕ)
    (limit i : ℕ) (run : BoardRun)
    → first_boundary addresses (at board store env start) limit
    ≡ find (λ n. is_named addresses (at board store env start n)) (numbers (i + 1) (limit - i))
    → i < limit → run ≡ run_of board store env start (i + 1)
    → is_named addresses run.state.at ≡ true → first_segment board store env start addresses limit ≡ Some run
unfolding first_segment
reached board store env start addresses limit i run rest more is named =
    let here : is_named addresses (at board store env start (i + 1)) ≡ true = rw is at named in
    let found : first_boundary addresses (at board store env start) limit ≡ Some (i + 1) =
    rest ∙ find_next _ i limit more ∙ rw here refl in
    ap (option_map (run_of board store env start)) found ∙ ap Some (sym is)

-- a run that goes on: no boundary ended it so far
pub gone_on : (board : BoardParts) (store : List ℕ) (env : Environment) (start : BoardState) (addresses : List ℕ)
    (limit i : ℕ) (run : BoardRun)
    → first_boundary addresses (at board store env start) limit
    ≡ find (λ n. is_named addresses (at board store env start n)) (numbers (i + 1) (limit - i))
    → i < limit → run ≡ run_of board store env start (i + 1)
    → is_named addresses run.state.at ≡ false → first_boundary addresses (at board store env start) limit
    ≡ find (λ n. is_named addresses (at board store env start n)) (numbers (i + 1 + 1) (limit - (i + 1)))
gone_on board store env start addresses limit i run rest more is other =
    let here : is_named addresses (at board store env start (i + 1)) ≡ false = rw is at other in
    rest ∙ find_next _ i limit more ∙ rw here refl

-- a run that no boundary ended is late
pub late : (board : BoardParts) (store : List ℕ) (env : Environment) (start : BoardState) (addresses : List ℕ)
    (limit i : ℕ)
    → first_boundary addresses (at board store env start) limit
    ≡ find (λ n. is_named addresses (at board store env start n)) (numbers (i + 1) (limit - i))
    → limit ≤ i → first_segment board store env start addresses limit ≡ None
unfolding first_segment
late board store env start addresses limit i rest done =
    ap (option_map (run_of board store env start)) (rest ∙ find_none _ i limit done)
