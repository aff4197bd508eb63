-- A described step reads no input but those that it takes.
use Rattle.std.proofs.Common.{◌≡◌, ℕ, ◌+◌, ◌<◌, ◌≤◌, List, Bool, true, false, refl, sym, ap, ◌∙◌, arith}
use Rattle.std.specs.Prelude.{if◌then◌else◌, slice_index, ◌==◌}
use Rattle.mw_expr.specs.declared.shape.Shape.{Shape}
use Rattle.mw_expr.specs.Values.{value}
use Rattle.mw_macro.specs.DescribedStep.{Now, after, after_all, begun, ended, step_of, taken_in}
use Rattle.mw_macro.specs.Machine.{Description}
use Rattle.mw_macro.specs.State.{MachineState}
use Rattle.mw_macro.specs.Statements.{Act, assign, write, put, take_in, choose, Acts, nothing, next}

-- ---- inputs are only taken

either_more : (test : Bool) (n : ℕ) (a b : Now) → n ≤ a.taken → n ≤ b.taken → n ≤ (if test then a else b).taken
either_more true n a b one other = one
either_more false n a b one other = other

mutual
  act_more : (s : Shape) (inputs : List ℕ) (first : ℕ) (act : Act) (x : Now)
      → x.taken ≤ (after s inputs first act x).taken
  act_more s inputs first (assign target e) x = omega arith
  act_more s inputs first (write address e) x = omega arith
  act_more s inputs first (put e) x = omega arith
  act_more s inputs first (take_in target) x = omega arith
  act_more s inputs first (choose condition one other) x =
      either_more (value s x.values x.memory condition == 1) x.taken _ _
      (acts_more s inputs first one x) (acts_more s inputs first other x)

  acts_more : (s : Shape) (inputs : List ℕ) (first : ℕ) (all : Acts) (x : Now)
      → x.taken ≤ (after_all s inputs first all x).taken
  acts_more s inputs first nothing x = omega arith
  acts_more s inputs first (next act rest) x =
      omega (arith, act_more s inputs first act x, acts_more s inputs first rest (after s inputs first act x))

-- ---- equal inputs

-- two lists have the same inputs from the number low on and before high, where those of one begin at first
abbrev AreAlike : (xs ys : List ℕ) (first low high : ℕ) → Type 0
AreAlike xs ys first low high = (i : ℕ) → low ≤ i → i < high → slice_index xs (first + i) ≡ slice_index ys (0 + i)

either_same : (test : Bool) (xs ys : List ℕ) (first low : ℕ) (a b c d : Now)
    → (AreAlike xs ys first low c.taken → a ≡ c) → (AreAlike xs ys first low d.taken → b ≡ d)
    → AreAlike xs ys first low (if test then c else d).taken
    → (if test then a else b) ≡ (if test then c else d)
either_same true xs ys first low a b c d one other same = one same
either_same false xs ys first low a b c d one other same = other same

mutual
  act_same : (s : Shape) (xs ys : List ℕ) (first : ℕ) (act : Act) (x : Now)
      → AreAlike xs ys first x.taken (after s ys 0 act x).taken
      → after s xs first act x ≡ after s ys 0 act x
  act_same s xs ys first (assign target e) x same = refl
  act_same s xs ys first (write address e) x same = refl
  act_same s xs ys first (put e) x same = refl
  act_same s xs ys first (take_in target) x same =
      ap (λ input. taken_in target input x) (same x.taken (omega arith) (omega arith))
  act_same s xs ys first (choose condition one other) x same =
      either_same (value s x.values x.memory condition == 1) xs ys first x.taken _ _ _ _
      (acts_same s xs ys first one x) (acts_same s xs ys first other x) same

  acts_same : (s : Shape) (xs ys : List ℕ) (first : ℕ) (all : Acts) (x : Now)
      → AreAlike xs ys first x.taken (after_all s ys 0 all x).taken
      → after_all s xs first all x ≡ after_all s ys 0 all x
  acts_same s xs ys first nothing x same = refl
  acts_same s xs ys first (next act rest) x same =
      let here = after s ys 0 act x in
      let most = acts_more s ys 0 rest here in
      let least = act_more s ys 0 act x in
      let one : after s xs first act x ≡ here =
      act_same s xs ys first act x (λ i low high. same i low (omega (arith, high, most))) in
      ap (after_all s xs first rest) one
      ∙ acts_same s xs ys first rest here (λ i low high. same i (omega (arith, low, least)) high)

-- the step from a number on is that over a list that begins there with the inputs that it takes
pub step_same : (m : Description) (state : MachineState) (request : Bool) (xs ys : List ℕ) (first : ℕ)
    → ((i : ℕ) → i < (step_of m state request ys 0).taken → slice_index xs (first + i) ≡ slice_index ys i)
    → step_of m state request xs first ≡ step_of m state request ys 0
unfolding step_of
step_same m state request xs ys first same =
    ap (ended m) (acts_same m.shape xs ys first m.acts (begun m state request) (λ i low high.
    let place : 0 + i ≡ i = omega arith in
    same i high ∙ ap (slice_index ys) (sym place)))
