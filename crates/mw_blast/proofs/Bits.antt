-- What nodes stand for, along diagrams that grow.
use Rattle.std.proofs.Common.{◌≡◌, ℕ, zero, suc, ◌<◌, List, [], ◌∷◌, ◌++◌, length, slice_index, refl, ◌∙◌, arith}
use Rattle.mw_term.specs.Functions.{Function}
use Rattle.mw_dd.specs.Nodes.{Node, function_of, IsDd}
use Rattle.mw_dd.specs.Diagrams.{Keeps}
use Rattle.mw_blast.specs.Bits.{StandsFor, AreThere, StandEach}

-- a node stands for its own function
pub stands_itself : (nodes : List Node) (x : ℕ) → IsDd nodes x → StandsFor nodes x (function_of nodes x)
stands_itself nodes x there = record { there = there; exact = λ given. refl }

-- and for whatever it stood for before
pub stays : (old new : List Node) (x : ℕ) (f : Function) → Keeps old new → StandsFor old x f → StandsFor new x f
stays old new x f keeps stands = record {
  there = keeps.there x stands.there;
  exact = λ given. keeps.same x stands.there given ∙ stands.exact given;
}

pub stay_each : (old new : List Node) (xs : List ℕ) (f : ℕ → Function) → Keeps old new → StandEach old xs f
    → StandEach new xs f
stay_each old new xs f keeps stand j inside = stays old new (slice_index xs j) (f j) keeps (stand j inside)

pub stay_there : (old new : List Node) (xs : List ℕ) → Keeps old new → AreThere old xs → AreThere new xs
stay_there old new xs keeps there j inside = keeps.there (slice_index xs j) (there j inside)

-- one of some nodes stands for its function still
pub operand : (old now : List Node) (xs : List ℕ) (j x : ℕ) (f : ℕ → Function) → Keeps old now → StandEach old xs f
    → j < length xs → x ≡ slice_index xs j → StandsFor now x (f j)
operand old now xs j x f keeps stand inside is = rw is (stays old now (slice_index xs j) (f j) keeps (stand j inside))

pub keeps-itself : (nodes : List Node) → Keeps nodes nodes
keeps-itself nodes = record { there = λ x there. there; same = λ x there given. refl }

pub keeps-then : (a b c : List Node) → Keeps a b → Keeps b c → Keeps a c
keeps-then a b c first second = record {
  there = λ x there. second.there x (first.there x there);
  same = λ x there given. second.same x (first.there x there) given ∙ first.same x there given;
}

-- what holds of each number at its place holds with one more behind
pub each_push : (P : ℕ → ℕ → Type 0) (xs : List ℕ) (x : ℕ) → ((j : ℕ) → j < length xs → P j (slice_index xs j))
    → P (length xs) x → (j : ℕ) → j < length (xs ++ x ∷ []) → P j (slice_index (xs ++ x ∷ []) j)
each_push P [] x each last zero inside = last
each_push P [] x each last (suc j) inside = absurd (omega arith)
each_push P (y ∷ xs) x each last zero inside = each 0 (omega arith)
each_push P (y ∷ xs) x each last (suc j) inside =
    each_push (λ k. P (suc k)) xs x (λ k below. each (suc k) (omega arith)) last j (omega arith)
