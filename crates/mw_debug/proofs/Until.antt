-- The cycles of a command, and how many `until` makes.
use Rattle.std.proofs.Common.{◌≡◌, ℕ, ◌+◌, ◌-◌, ◌<◌, ◌≤◌, [], ◌∷◌, Bool, true, false, find, List, Option, Some, None}
use Rattle.std.proofs.Common.{add-one, ◌==◌, refl, ap, ◌∙◌}
use Rattle.std.specs.Option.{unwrap_or}
use Rattle.mw_cycle.specs.Boundary.{first_boundary, is_named, numbers}
use Rattle.mw_cycle.specs.Environment.{Environment}
use Rattle.mw_board.specs.declared.parts.BoardParts.{BoardParts}
use Rattle.mw_cycle.proofs.Segments.{find_first, find_next, find_none}
use Rattle.mw_debug.specs.Session.{Session, with_cycle, with_cycles}

-- the first cycle start at an address within the limit is one of those after the first n
abbrev pub IsLeft : (ℕ → ℕ) → ℕ → ℕ → ℕ → Type 0
IsLeft place at limit n =
    first_boundary (at ∷ []) place limit ≡ find (λ n. is_named (at ∷ []) (place n)) (numbers (n + 1) (limit - n))

-- before the first cycle
pub all_left : (place : ℕ → ℕ) (at limit : ℕ) → IsLeft place at limit 0
all_left place at limit = find_first (λ (n : ℕ). is_named (at ∷ []) (place n)) limit

-- whether the one address is named
named : (at other : ℕ) (b : Bool) → (at == other) ≡ b → is_named (at ∷ []) other ≡ b
named at other true is = rw is refl
named at other false is = rw is refl

-- a cycle that ends at the address is the last
pub reached : (place : ℕ → ℕ) (at limit n : ℕ) → IsLeft place at limit n → n < limit → (at == place (n + 1)) ≡ true
    → unwrap_or (first_boundary (at ∷ []) place limit) limit ≡ n + 1
reached place at limit n left more here =
    let found : first_boundary (at ∷ []) place limit ≡ Some (n + 1)
    = left ∙ find_next _ n limit more ∙ rw (named at (place (n + 1)) true here) refl in
    ap (λ (found : Option ℕ). unwrap_or found limit) found

-- after one that ends elsewhere another one follows
pub goes_on : (place : ℕ → ℕ) (at limit n : ℕ) → IsLeft place at limit n → n < limit
    → (at == place (n + 1)) ≡ false → IsLeft place at limit (n + 1)
goes_on place at limit n left more other =
    left ∙ find_next _ n limit more ∙ rw (named at (place (n + 1)) false other) refl

-- where none ends there, there are as many as the limit
pub ended : (place : ℕ → ℕ) (at limit n : ℕ) → IsLeft place at limit n → limit ≤ n
    → unwrap_or (first_boundary (at ∷ []) place limit) limit ≡ limit
ended place at limit n left done =
    let none : first_boundary (at ∷ []) place limit ≡ None = left ∙ find_none _ n limit done in
    ap (λ (found : Option ℕ). unwrap_or found limit) none

-- one cycle more
pub one_more : (board : BoardParts) (store : List ℕ) (env : Environment) (line : ℕ) (first before after : Session)
    (n : ℕ) → before ≡ with_cycles board store env line first n → after ≡ with_cycle board store env line before
    → after ≡ with_cycles board store env line first (n + 1)
unfolding with_cycles
one_more board store env line first before after n was longer =
    rw add-one (longer ∙ ap (with_cycle board store env line) was)
