-- Steps of described machines.
use Rattle.std.proofs.Common.{◌≡◌, ℕ, zero, suc, ◌+◌, ◌-◌, ◌<◌, ◌≤◌, ◌^◌, List, [], ◌∷◌, ◌++◌, length, drop, take, Bool}
use Rattle.std.proofs.Common.{true, false, refl, ap, arith, ◌∙◌, append_assoc}
use Rattle.std.specs.Prelude.{replicate, slice_index, slice_set, ◌==◌, if◌then◌else◌}
use Rattle.std.proofs.Math.Seq.{take-nil}
use Rattle.std.proofs.lemmas.List.{append-nil, length-take-le}
use Rattle.std.proofs.lemmas.Nat.{pow_pos}
use Rattle.std.proofs.Common.{length-append}
use Rattle.mw_base.specs.Words as words
use Rattle.mw_base.specs.declared.event.Event.{Event}
use Rattle.mw_base.specs.declared.event.Event.TheVariants.{Out, Taken}
use Rattle.mw_expr.specs.declared.shape.Shape.{Shape}
use Rattle.mw_expr.specs.Values.{value, AreWords, IsImage}
use Rattle.mw_macro.specs.declared.counts.Counted.TheVariants.{Events}
use Rattle.mw_macro.specs.Counts.{count, total}
use Rattle.mw_macro.specs.DescribedStep.{Now, now, after, after_all, begun, ended, step_of, kept, Leaves}
use Rattle.mw_macro.specs.Laws.{inputs_in, EventsAreFew, TakenAreEvents, StepsTakeFromFirst}
use Rattle.mw_macro.specs.Machine.{Description, IsFormed}
use Rattle.mw_macro.specs.State.{MachineState, Fits}
use Rattle.mw_macro.specs.Statements.{Act, assign, write, put, take_in, choose, Acts, nothing, next}

-- ---- events before a step stay in front of its own

abbrev pub behind : List Event → Now → Now
behind earlier x = now x.values x.memory (earlier ++ x.events) x.taken

either_behind : (test : Bool) (earlier : List Event) (a b c d : Now) → a ≡ behind earlier c → b ≡ behind earlier d
    → (if test then a else b) ≡ behind earlier (if test then c else d)
either_behind true earlier a b c d one other = one
either_behind false earlier a b c d one other = other

mutual
  act_behind : (s : Shape) (inputs : List ℕ) (first : ℕ) (act : Act) (earlier : List Event) (x : Now)
      → after s inputs first act (behind earlier x) ≡ behind earlier (after s inputs first act x)
  act_behind s inputs first (assign target e) earlier x = refl
  act_behind s inputs first (write address e) earlier x = refl
  act_behind s inputs first (put e) earlier x =
      ap (λ es. now x.values x.memory es x.taken) (append_assoc earlier x.events _)
  act_behind s inputs first (take_in target) earlier x =
      ap (λ es. now (slice_set x.values target (slice_index inputs (first + x.taken))) x.memory es (x.taken + 1))
      (append_assoc earlier x.events _)
  act_behind s inputs first (choose condition one other) earlier x =
      either_behind (value s x.values x.memory condition == 1) earlier _ _ _ _
      (acts_behind s inputs first one earlier x) (acts_behind s inputs first other earlier x)

  pub acts_behind : (s : Shape) (inputs : List ℕ) (first : ℕ) (all : Acts) (earlier : List Event) (x : Now)
      → after_all s inputs first all (behind earlier x) ≡ behind earlier (after_all s inputs first all x)
  acts_behind s inputs first nothing earlier x = refl
  acts_behind s inputs first (next act rest) earlier x =
      ap (after_all s inputs first rest) (act_behind s inputs first act earlier x)
      ∙ acts_behind s inputs first rest earlier (after s inputs first act x)

-- ---- the laws

either_few : (test : Bool) (n p q : ℕ) (a b : Now) → length a.events ≤ n + p → length b.events ≤ n + q
    → length (if test then a else b).events ≤ n + (0 + (p + q))
either_few true n p q a b one other = omega arith
either_few false n p q a b one other = omega arith

either_taken : (test : Bool) (n t : ℕ) (a b : Now)
    → inputs_in a.events + t ≡ n + a.taken → inputs_in b.events + t ≡ n + b.taken
    → inputs_in (if test then a else b).events + t ≡ n + (if test then a else b).taken
either_taken true n t a b one other = one
either_taken false n t a b one other = other

inputs_out : (es : List Event) (v : ℕ) → inputs_in (es ++ Out v ∷ []) ≡ inputs_in es
inputs_out [] v = refl
inputs_out (Out u ∷ rest) v = inputs_out rest v
inputs_out (Taken u ∷ rest) v = omega (arith, inputs_out rest v)

inputs_taken : (es : List Event) (v : ℕ) → inputs_in (es ++ Taken v ∷ []) ≡ inputs_in es + 1
inputs_taken [] v = omega arith
inputs_taken (Out u ∷ rest) v = inputs_taken rest v
inputs_taken (Taken u ∷ rest) v = omega (arith, inputs_taken rest v)

mutual
  act_few : (s : Shape) (inputs : List ℕ) (first : ℕ) (act : Act) (x : Now)
      → length (after s inputs first act x).events ≤ length x.events + count Events act
  act_few s inputs first (assign target e) x = omega arith
  act_few s inputs first (write address e) x = omega arith
  act_few s inputs first (put e) x = omega (arith, length-append x.events (Out (value s x.values x.memory e) ∷ []))
  act_few s inputs first (take_in target) x =
      omega (arith, length-append x.events (Taken (slice_index inputs (first + x.taken)) ∷ []))
  act_few s inputs first (choose condition one other) x =
      either_few (value s x.values x.memory condition == 1) (length x.events) (total Events one)
      (total Events other) _ _ (acts_few s inputs first one x) (acts_few s inputs first other x)

  acts_few : (s : Shape) (inputs : List ℕ) (first : ℕ) (all : Acts) (x : Now)
      → length (after_all s inputs first all x).events ≤ length x.events + total Events all
  acts_few s inputs first nothing x = omega arith
  acts_few s inputs first (next act rest) x =
      omega (arith, act_few s inputs first act x, acts_few s inputs first rest (after s inputs first act x))

pub events_are_few : EventsAreFew
unfolding step_of
events_are_few m state request inputs first =
    omega (arith, acts_few m.shape inputs first m.acts (begun m state request))

mutual
  act_taken : (s : Shape) (inputs : List ℕ) (first : ℕ) (act : Act) (x : Now)
      → inputs_in (after s inputs first act x).events + x.taken
      ≡ inputs_in x.events + (after s inputs first act x).taken
  act_taken s inputs first (assign target e) x = refl
  act_taken s inputs first (write address e) x = refl
  act_taken s inputs first (put e) x = ap (λ n. n + x.taken) (inputs_out x.events (value s x.values x.memory e))
  act_taken s inputs first (take_in target) x =
      omega (arith, inputs_taken x.events (slice_index inputs (first + x.taken)))
  act_taken s inputs first (choose condition one other) x =
      either_taken (value s x.values x.memory condition == 1) (inputs_in x.events) x.taken _ _
      (acts_taken s inputs first one x) (acts_taken s inputs first other x)

  acts_taken : (s : Shape) (inputs : List ℕ) (first : ℕ) (all : Acts) (x : Now)
      → inputs_in (after_all s inputs first all x).events + x.taken
      ≡ inputs_in x.events + (after_all s inputs first all x).taken
  acts_taken s inputs first nothing x = refl
  acts_taken s inputs first (next act rest) x =
      omega (arith, act_taken s inputs first act x, acts_taken s inputs first rest (after s inputs first act x))

pub taken_are_events : TakenAreEvents
unfolding step_of
taken_are_events m state request inputs first =
    omega (arith, acts_taken m.shape inputs first m.acts (begun m state request))

-- an input from a number on
input_from : (inputs : List ℕ) (first n : ℕ) → slice_index inputs (first + n) ≡ slice_index (drop first inputs) n
input_from inputs zero n = ap (slice_index inputs) (omega arith)
input_from [] (suc first) n = refl
input_from (x ∷ rest) (suc first) n =
    let index : suc first + n ≡ suc (first + n) = omega arith in
    rw index (input_from rest first n)

either_same : (test : Bool) (a b c d : Now) → a ≡ c → b ≡ d → (if test then a else b) ≡ (if test then c else d)
either_same true a b c d one other = one
either_same false a b c d one other = other

mutual
  act_from : (s : Shape) (inputs : List ℕ) (first : ℕ) (act : Act) (x : Now)
      → after s inputs first act x ≡ after s (drop first inputs) 0 act x
  act_from s inputs first (assign target e) x = refl
  act_from s inputs first (write address e) x = refl
  act_from s inputs first (put e) x = refl
  act_from s inputs first (take_in target) x =
      let from_zero : 0 + x.taken ≡ x.taken = omega arith in
      let same : slice_index inputs (first + x.taken) ≡ slice_index (drop first inputs) (0 + x.taken) =
      rw from_zero (input_from inputs first x.taken) in
      ap (λ v. now (slice_set x.values target v) x.memory (x.events ++ Taken v ∷ []) (x.taken + 1)) same
  act_from s inputs first (choose condition one other) x =
      either_same (value s x.values x.memory condition == 1) _ _ _ _ (acts_from s inputs first one x)
      (acts_from s inputs first other x)

  acts_from : (s : Shape) (inputs : List ℕ) (first : ℕ) (all : Acts) (x : Now)
      → after_all s inputs first all x ≡ after_all s (drop first inputs) 0 all x
  acts_from s inputs first nothing x = refl
  acts_from s inputs first (next act rest) x =
      acts_from s inputs first rest (after s inputs first act x)
      ∙ ap (after_all s (drop first inputs) 0 rest) (act_from s inputs first act x)

pub steps_take_from_first : StepsTakeFromFirst
unfolding step_of
steps_take_from_first m state request inputs first =
    ap (ended m) (acts_from m.shape inputs first m.acts (begun m state request))

-- ---- what a step begins with

pub set_last : (n v : ℕ) → slice_set (replicate (suc n) 0) n v ≡ replicate n 0 ++ v ∷ []
set_last zero v = refl
set_last (suc n) v = ap (λ (xs : List ℕ). 0 ∷ xs) (set_last n v)

-- zeros, and then a bit
last_bit : (n : ℕ) (b : Bool) (ws : List ℕ) (i : ℕ) → slice_index ws n ≡ 1
    → slice_index (replicate n 0 ++ words.num b ∷ []) i < 2 ^ slice_index ws i
last_bit zero true [] zero one = cc
last_bit zero false [] zero one = pow_pos 0
last_bit zero true (w ∷ ws) zero one = rw one (omega arith)
last_bit zero false (w ∷ ws) zero one = pow_pos w
last_bit zero b ws (suc i) one = pow_pos (slice_index ws (suc i))
last_bit (suc n) b ws zero one = pow_pos (slice_index ws 0)
last_bit (suc n) b [] (suc i) one = cc
last_bit (suc n) b (w ∷ ws) (suc i) one = last_bit n b ws i one

begun_each : (registers : List ℕ) (n : ℕ) (b : Bool) (ws : List ℕ) (i : ℕ)
    → ((k : ℕ) → k < length registers → slice_index registers k < 2 ^ slice_index ws k)
    → slice_index ws (length registers + n) ≡ 1
    → slice_index (registers ++ replicate n 0 ++ words.num b ∷ []) i < 2 ^ slice_index ws i
begun_each [] n b ws i front one = last_bit n b ws i (let same : 0 + n ≡ n = omega arith in rw same at one)
begun_each (x ∷ rest) n b [] i front one = cc
begun_each (x ∷ rest) n b (w ∷ ws) zero front one = front 0 (omega arith)
begun_each (x ∷ rest) n b (w ∷ ws) (suc i) front one =
    let same : suc (length rest) + n ≡ suc (length rest + n) = omega arith in
    begun_each rest n b ws i (λ k below. front (suc k) (omega arith)) (rw same at one)

begun_length : (registers : List ℕ) (n : ℕ) (b : Bool)
    → length (registers ++ replicate n 0 ++ words.num b ∷ []) ≡ length registers + n + 1
begun_length [] zero b = omega arith
begun_length [] (suc n) b = omega (arith, begun_length [] n b)
begun_length (x ∷ rest) n b = omega (arith, begun_length rest n b)

pub begun_words : (m : Description) (state : MachineState) (request : Bool) → IsFormed m → Fits m state
    → AreWords m.shape.widths (begun m state request).values
begun_words m state request formed fits =
    let temporaries = length m.names - m.registers in
    let all : length state.registers + temporaries ≡ length m.names = omega (arith, fits.count, formed.registers) in
    record {
      count = begun_length state.registers temporaries request ∙ omega (arith, formed.elements, all);
      each = λ i inside. begun_each state.registers temporaries request m.shape.widths i
          (λ k below. fits.registers k (omega (arith, fits.count))) (rw all formed.request);
    }

-- ---- what a step leaves

pub leaves : (m : Description) (state : MachineState) (request : Bool) (inputs : List ℕ) (first : ℕ)
    (earlier : List Event) (values memory : List ℕ) (events : List Event) (taken : ℕ)
    → now values memory events taken
    ≡ after_all m.shape inputs first m.acts (now (begun m state request).values state.memory earlier 0)
    → Leaves m state request inputs first earlier (take m.registers values) memory events taken
unfolding step_of
leaves m state request inputs first earlier values memory events taken told =
    let behind_all = acts_behind m.shape inputs first m.acts earlier (begun m state request) in
    let ended = told ∙ rw (append-nil earlier) at behind_all in
    record {
      state = ap (λ (x : Now). kept (take m.registers x.values) x.memory) ended;
      events = ap (λ (x : Now). x.events) ended;
      taken = ap (λ (x : Now). x.taken) ended;
    }

take_index : (n : ℕ) (xs : List ℕ) (i : ℕ) → i < n → slice_index (take n xs) i ≡ slice_index xs i
take_index n [] i below = ap (λ (xs : List ℕ). slice_index xs i) (take-nil n)
take_index zero (x ∷ rest) i below = absurd (omega arith)
take_index (suc n) (x ∷ rest) zero below = refl
take_index (suc n) (x ∷ rest) (suc i) below = take_index n rest i (omega arith)

-- the state that a step leaves fits
pub left_fits : (m : Description) (values memory : List ℕ) → IsFormed m → AreWords m.shape.widths values
    → IsImage m.shape memory → Fits m (kept (take m.registers values) memory)
left_fits m values memory formed fits image = record {
  count = length-take-le m.registers values (omega (arith, fits.count, formed.elements, formed.registers));
  registers = λ i below.
      rw (take_index m.registers values i below) (fits.each i (omega (arith, formed.elements, formed.registers)));
  size = image.size;
  memory = image.words;
}
