-- Operations that wait for one below them.
use Rattle.std.specs.Prelude.{◌≡◌, ◌⊎◌, ℕ, ◌+◌, ◌≤◌, List, [], ◌∷◌, ◌++◌, length, slice_get, if◌then◌else◌}
use Rattle.std.specs.Prelude.{Option, Some, zero, suc, true, false}
use Rattle.mw_dd.specs.declared.nodes.Node.{Node}
use Rattle.mw_dd.specs.declared.nodes.Triple.{Triple}
use Rattle.mw_dd.specs.declared.memo.Memo.{Memo}
use Rattle.mw_dd.specs.declared.notes.Waiting.{Waiting}
use Rattle.mw_dd.specs.declared.notes.Notes.{Notes}
use Rattle.mw_dd.specs.declared.ite.Next.{Next}
use Rattle.mw_dd.specs.Kept.{AreMade}
use Rattle.mw_dd.specs.Memos.{IsMet, AreKeys, IsDone, AreLeft}
use Rattle.mw_dd.specs.Nodes.{IsReduced}
use Rattle.mw_dd.specs.Steps.{AreDds, IsTop, IsSide, IsResult, AreAmong, size}

-- a waiting operation's low half is next
pub record AwaitsLow (nodes : List Node) (w : Waiting) (t : Triple) : Type 0 where
  pub none : w.has_low ≡ false
  pub side : IsSide nodes w.triple w.top.variable false t

-- its low half has a result, of which all joint cofactors were met, and its high half is next
pub record AwaitsHigh (nodes : List Node) (triples : List Triple) (budget : Option ℕ) (w : Waiting) (t : Triple)
    : Type 0 where
  pub at_low : Triple
  pub some : w.has_low ≡ true
  pub side : IsSide nodes w.triple w.top.variable false at_low
  pub result : IsResult nodes at_low w.low
  pub among : (b : ℕ) → budget ≡ Some b → AreAmong nodes triples at_low
  pub next : t ≡ w.at_high

-- an operation waits for another, which is one of its halves; where a budget counts, it was met
pub record Awaits (nodes : List Node) (triples : List Triple) (budget : Option ℕ) (w : Waiting) (t : Triple)
    : Type 0 where
  pub there : AreDds nodes w.triple
  pub top : IsTop nodes w.triple w.top.variable
  pub high : IsSide nodes w.triple w.top.variable true w.at_high
  pub half : AwaitsLow nodes w t ⊎ AwaitsHigh nodes triples budget w t
  pub met : (b : ℕ) → budget ≡ Some b → slice_get triples w.place ≡ Some w.triple

-- the last of those that wait gets the result of its low half, and its high half is next
pub record HasTurned (old new : List Waiting) (made : ℕ) (next : Triple) : Type 0 where
  pub before : List Waiting
  pub own : Waiting
  pub now : Waiting
  pub was : old ≡ before ++ own ∷ []
  pub is : new ≡ before ++ now ∷ []
  pub none : own.has_low ≡ false
  pub triple : now.triple ≡ own.triple
  pub place : now.place ≡ own.place
  pub top : now.top ≡ own.top
  pub at_high : now.at_high ≡ own.at_high
  pub some : now.has_low ≡ true
  pub low : now.low ≡ made
  pub high : next ≡ own.at_high

-- the last of those that wait has the result of its low half
abbrev pub AwaitsNoLow : List Waiting → Type 0
AwaitsNoLow waiting = (before : List Waiting) (w : Waiting) → waiting ≡ before ++ w ∷ [] → w.has_low ≡ true

-- operations wait, each for the one after it, and the last for one that is next; the first is the whole
pub data AreWaiting (nodes : List Node) (triples : List Triple) (budget : Option ℕ) (whole : Triple)
    : (waiting : List Waiting) → (next : Triple) → Type 0 where
  none : {waiting : List Waiting} {t : Triple} → waiting ≡ [] → whole ≡ t
      → AreWaiting nodes triples budget whole waiting t
  more : {waiting before : List Waiting} {w : Waiting} {t : Triple} → waiting ≡ before ++ w ∷ []
      → AreWaiting nodes triples budget whole before w.triple → Awaits nodes triples budget w t
      → AreWaiting nodes triples budget whole waiting t

-- one of those that wait has this place
abbrev pub IsAwaited : List Waiting → ℕ → Type 0
IsAwaited waiting i = (j : ℕ) × (w : Waiting) × (slice_get waiting j ≡ Some w) × (w.place ≡ i)

-- what was met is within a budget and left of the whole, and is done or waits
pub record AreCounted (nodes : List Node) (memo : Memo) (waiting : List Waiting) (whole : Triple) (budget : ℕ)
    : Type 0 where
  pub keys : AreKeys nodes memo
  pub within : length memo.triples ≤ budget
  pub left : AreLeft nodes memo whole
  pub settled : (i : ℕ) (t : Triple) → IsMet memo i t → IsDone nodes memo i t ⊎ IsAwaited waiting i

-- what is noted on the way through an operation
pub record AreNoted (nodes : List Node) (notes : Notes) (budget : Option ℕ) (whole : Triple) : Type 0 where
  pub there : AreDds nodes whole
  pub reduced : IsReduced nodes
  pub made : AreMade nodes notes.results
  pub counted : (b : ℕ) → budget ≡ Some b → AreCounted nodes notes.memo notes.waiting.items whole b

-- an operation has a result, and all its joint cofactors were met
pub record HasEnded (nodes : List Node) (triples : List Triple) (budget : Option ℕ) (t : Triple) (r : ℕ) : Type 0 where
  pub result : IsResult nodes t r
  pub among : (b : ℕ) → budget ≡ Some b → AreAmong nodes triples t

-- where a way through an operation stands
abbrev pub StandsAt : List Node → Notes → Option ℕ → Triple → Next → Type 0
StandsAt nodes notes budget whole (Next.Enter t) =
    AreWaiting nodes notes.memo.triples budget whole notes.waiting.items t
StandsAt nodes notes budget whole (Next.Return r) =
    (t : Triple) × AreWaiting nodes notes.memo.triples budget whole notes.waiting.items t
    × HasEnded nodes notes.memo.triples budget t r
StandsAt nodes notes budget whole (Next.Done r) = HasEnded nodes notes.memo.triples budget whole r

-- ---- how far it is from its end

-- the most steps through an operation of some size
unfoldable pub most_steps : ℕ → ℕ
most_steps zero = 2
most_steps (suc n) = most_steps n + most_steps n + 2

-- the most that are left of an operation that waits, once the result that it waits for is there
abbrev pub steps_of : Waiting → ℕ
steps_of w = if w.has_low then 1 else most_steps (size w.at_high) + 1

-- the most that are left of all that wait
abbrev pub all_steps : List Waiting → ℕ
all_steps [] = 0
all_steps (w ∷ ws) = steps_of w + all_steps ws

-- the most that are left, with those of what is next
abbrev pub steps_left : List Waiting → Next → ℕ
steps_left waiting (Next.Enter t) = all_steps waiting + most_steps (size t)
steps_left waiting (Next.Return r) = all_steps waiting + 1
steps_left waiting (Next.Done r) = all_steps waiting
