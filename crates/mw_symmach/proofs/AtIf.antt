-- Where a step stands at an `if`, and goes into one of its lists.
use Rattle.std.proofs.Common.{◌≡◌, ℕ, zero, suc, ◌+◌, ◌<◌, ◌≤◌, List, [], ◌∷◌, ◌++◌, Bool, true, false, refl, ap, ap₂}
use Rattle.std.proofs.Common.{arith, ◌∙◌, add-one}
use Rattle.std.specs.Prelude.{if◌then◌else◌, Option, Some, None}
use Rattle.mw_expr.specs.declared.shape.Shape.{Shape}
use Rattle.mw_macro.specs.declared.counts.Counted.TheVariants.{Statements}
use Rattle.mw_macro.specs.Counts.{total, count}
use Rattle.mw_macro.specs.Statements.{Act, assign, write, put, take_in, choose, Acts, nothing, next}
use Rattle.mw_term.specs.Table.{Table}
use Rattle.mw_term.specs.declared.word.Word.{Word}
use Rattle.mw_symmem.specs.Memory.{Memory}
use Rattle.mw_symmach.specs.declared.level.Level.{Level}
use Rattle.mw_symmach.specs.Places.{dropped, then_acts, list_at, left_of, innermost, IsAtIf, StopsAt, Reaches}
use Rattle.mw_symmach.specs.Steps.{Parts}
use Rattle.mw_symmach.specs.Turns.{level_of}

dropped_after : (n : ℕ) (all : Acts) (act : Act) (rest : Acts)
    → dropped n all ≡ next act rest → dropped (suc n) all ≡ rest
dropped_after zero nothing act rest is = absurd cc
dropped_after zero (next first behind) act rest is = rests is
  where
    rests : {a b : Act} {xs ys : Acts} → next a xs ≡ next b ys → xs ≡ ys
    rests {a} {b} {xs} {ys} is = cc
dropped_after (suc n) nothing act rest is = absurd cc
dropped_after (suc n) (next first behind) act rest is = dropped_after n behind act rest is

dropped_next : (n : ℕ) (all : Acts) (act : Act) (rest : Acts)
    → dropped n all ≡ next act rest → dropped (n + 1) all ≡ rest
dropped_next n all act rest is = rw add-one (dropped_after n all act rest is)

pub then_assoc : (xs ys zs : Acts) → then_acts (then_acts xs ys) zs ≡ then_acts xs (then_acts ys zs)
then_assoc nothing ys zs = refl
then_assoc (next act xs) ys zs = ap (next act) (then_assoc xs ys zs)

-- what is left at an `if`, and in a list of it
pub record IsLeftAtIf (all : Acts) (levels : List Level) (position : ℕ) (at : IsAtIf all levels position) : Type 0 where
  pub behind : Acts
  pub here : left_of all levels position ≡ next (choose at.condition at.one at.other) behind
  pub within : (first : Bool) → left_of all (levels ++ level_of position first ∷ []) 0
      ≡ then_acts (if first then at.one else at.other) behind

pub left_at_if : (all : Acts) (levels : List Level) (position : ℕ) (at : IsAtIf all levels position)
    → IsLeftAtIf all levels position at
left_at_if all [] position at = record {
  behind = at.rest;
  here = at.is;
  within = λ first.
      ap₂ then_acts (ap (list_at first) at.is)
      (dropped_next position all (choose at.condition at.one at.other) at.rest at.is);
}
left_at_if all (level ∷ deeper) position at =
    let inner : IsAtIf (list_at level.first (dropped level.position all)) deeper position =
    record { condition = at.condition; one = at.one; other = at.other; rest = at.rest; is = at.is } in
    let within = left_at_if (list_at level.first (dropped level.position all)) deeper position inner in
    let outer = dropped (level.position + 1) all in
    record {
      behind = then_acts within.behind outer;
      here = ap (λ acts. then_acts acts outer) within.here;
      within = λ first. ap (λ acts. then_acts acts outer) (within.within first)
          ∙ then_assoc (if first then at.one else at.other) within.behind outer;
    }

-- ---- how far the positions go

statement_counts : (act : Act) → 1 ≤ count Statements act
statement_counts (assign target e) = omega arith
statement_counts (write address e) = omega arith
statement_counts (put e) = omega arith
statement_counts (take_in target) = omega arith
statement_counts (choose condition one other) = omega arith

dropped_within : (n : ℕ) (all : Acts) → total Statements (dropped n all) ≤ total Statements all
dropped_within zero all = omega arith
dropped_within (suc n) nothing = omega arith
dropped_within (suc n) (next act rest) = omega (arith, dropped_within n rest)

list_within : (first : Bool) (all : Acts) → total Statements (list_at first all) ≤ total Statements all
list_within first nothing = omega arith
list_within true (next (choose c one other) rest) = omega arith
list_within false (next (choose c one other) rest) = omega arith
list_within true (next (assign target e) rest) = omega arith
list_within false (next (assign target e) rest) = omega arith
list_within true (next (write a e) rest) = omega arith
list_within false (next (write a e) rest) = omega arith
list_within true (next (put e) rest) = omega arith
list_within false (next (put e) rest) = omega arith
list_within true (next (take_in target) rest) = omega arith
list_within false (next (take_in target) rest) = omega arith

innermost_within : (all : Acts) (levels : List Level) → total Statements (innermost all levels) ≤ total Statements all
innermost_within all [] = omega arith
innermost_within all (level ∷ deeper) =
    omega (
      arith,
      innermost_within (list_at level.first (dropped level.position all)) deeper,
      list_within level.first (dropped level.position all),
      dropped_within level.position all,
    )

position_within : (n : ℕ) (all : Acts) (act : Act) (rest : Acts)
    → dropped n all ≡ next act rest → n < total Statements all
position_within zero nothing act rest is = absurd cc
position_within zero (next first behind) act rest is = omega (arith, statement_counts first)
position_within (suc n) nothing act rest is = absurd cc
position_within (suc n) (next first behind) act rest is =
    omega (arith, position_within n behind act rest is, statement_counts first)

pub at_if_within : (all : Acts) (levels : List Level) (position : ℕ) → IsAtIf all levels position
    → position < total Statements all
at_if_within all levels position at =
    omega (
      arith,
      position_within position (innermost all levels) (choose at.condition at.one at.other) at.rest at.is,
      innermost_within all levels,
    )

-- ---- where a run stops

pub stops_here : (s : Shape) (told tnew : Table) (wold wnew : List Word) (mold mnew : Memory) (pold pnew : Parts)
    (lold all : Acts) (position : ℕ) (asked : Option ℕ)
    → Reaches s told tnew wold wnew mold mnew pold pnew lold (dropped position all) asked
    → StopsAt all [] position asked
stops_here s told tnew wold wnew mold mnew pold pnew lold all position None reaches = tt
stops_here s told tnew wold wnew mold mnew pold pnew lold all position (Some term) reaches =
    let asks = reaches.1 in
    record { condition = asks.condition; one = asks.one; other = asks.other; rest = asks.rest; is = asks.is }

pub stops_within : (all : Acts) (level : Level) (deeper : List Level) (position : ℕ) (asked : Option ℕ)
    → StopsAt (list_at level.first (dropped level.position all)) deeper position asked
    → StopsAt all (level ∷ deeper) position asked
stops_within all level deeper position None stops = tt
stops_within all level deeper position (Some term) stops =
    record { condition = stops.condition; one = stops.one; other = stops.other; rest = stops.rest; is = stops.is }
