-- What the decided bits of a cycle say of it.
use Rattle.std.proofs.Common.{◌≡◌, inl, inr, ℕ, zero, suc, ◌+◌, ◌-◌, ◌*◌, ◌/◌, ◌%◌, ◌^◌, ◌<◌, ◌≤◌, List, [], ◌∷◌, ◌++◌}
use Rattle.std.proofs.Common.{length, take, refl, ap, ap₂, arith, sym, subst, ◌∙◌}
use Rattle.std.specs.Prelude.{Bool, true, false, not, ◌&&◌, ◌||◌, ◌==◌, Some, slice_get, if◌then◌else◌}
use Rattle.std.specs.List.{list_any}
use Rattle.std.proofs.lemmas.Bool.{cases_lt}
use Rattle.std.proofs.lemmas.List.{take_all}
use Rattle.std.proofs.lemmas.Nat.{mod_below, shr-shr}
use Rattle.mw_base.specs.Words.{bit_of, differ, num}
use Rattle.mw_base.proofs.Carries.{num_below}
use Rattle.mw_board.specs.declared.parts.BoardParts.{BoardParts}
use Rattle.mw_board.specs.Store.{word_at}
use Rattle.mw_term.specs.declared.decided.Decided.{Decided}
use Rattle.mw_cycle.specs.Cycle.{answer_of, bit_value, next_address, pass_of}
use Rattle.mw_cycle.specs.Decided.{address_bits, counter_bits, decided, decided_of, decides_counter, decides_pass}
use Rattle.mw_cycle.specs.Decided.{is_untested, pass_bits}
use Rattle.mw_cycle.specs.Microword.{IsMicroword, points_of}
use Rattle.mw_seq.specs.declared.instruction.CounterMove.TheVariants.{Counted}
use Rattle.mw_seq.specs.declared.instruction.Instruction.{Instruction}
use Rattle.mw_seq.specs.declared.instruction.Instruction.TheVariants.{Jz, Cjs, Jmap, Cjp, Push, Jsrp, Cjv, Jrp, Rfct}
use Rattle.mw_seq.specs.declared.instruction.Instruction.TheVariants.{Rpct, Crtn, Cjpp, Ldct, Loop, Cont, Twb}
use Rattle.mw_seq.specs.Instruction.{effect_of, instruction_of}
use Rattle.mw_seq.specs.Sequencer.{effect}
use Rattle.mw_term.specs.declared.decided.DecidedKind.TheVariants.{Pass, CounterZero, Next}
use Rattle.mw_term.specs.Assigned.{Given}
use Rattle.mw_term.specs.Table.{Table}
use Rattle.mw_term.specs.declared.word.Word.{Word}
use Rattle.mw_symmem.specs.Memory.{Memory}
use Rattle.mw_cycle.proofs.Tested.{tests, counts, tests_is, counts_is, untested_same, uncounted_same}
use Rattle.mw_symboard.specs.Cycle.{bits_before, effect_by, number_in, value_in, zero_by}
use Rattle.mw_symboard.specs.Seen.{IsSeen, Progress, Scene, answer_net, microword_of, next_net, pass_net}

-- ---- lists of decided bits

-- the first bits of a list have its values
pub value_first : (first all : List Decided) (k : ℕ) → take (length first) all ≡ first → k < length first
    → value_in first k ≡ value_in all k
value_first [] all k is inside = absurd (omega (arith, inside))
value_first (d ∷ first) [] k is inside = absurd cc
value_first (d ∷ first) (e ∷ all) zero is inside = cc
value_first (d ∷ first) (e ∷ all) (suc k) is inside =
    let rest : take (length first) all ≡ first = cc in value_first first all k rest (omega (arith, inside))

-- pass, whether the counter is zero, and the bits of an address, where they are asked
abbrev pub bits_in_order : (tests counts pass empty : Bool) → List Decided → List Decided
bits_in_order tests counts pass empty rest =
    (if tests then decided Pass pass ∷ [] else []) ++ (if counts then decided CounterZero empty ∷ [] else []) ++ rest

-- how many bits stand before those of the address
abbrev pub before_address : (tests counts : Bool) → ℕ
before_address tests counts = num tests + num counts

value_of_pass : (tests counts pass empty : Bool) (rest : List Decided) → tests ≡ true
    → value_in (bits_in_order tests counts pass empty rest) 0 ≡ pass
value_of_pass true counts pass empty rest is = refl
value_of_pass false counts pass empty rest is = absurd cc

value_of_counter : (tests counts pass empty : Bool) (rest : List Decided) → counts ≡ true
    → value_in (bits_in_order tests counts pass empty rest) (num tests) ≡ empty
value_of_counter true true pass empty rest is = refl
value_of_counter false true pass empty rest is = refl
value_of_counter tests false pass empty rest is = absurd cc

value_behind : (tests counts pass empty : Bool) (rest : List Decided) (k : ℕ)
    → value_in (bits_in_order tests counts pass empty rest) (before_address tests counts + k) ≡ value_in rest k
value_behind true true pass empty rest k =
    let place : 1 + 1 + k ≡ suc (suc k) = omega arith in
    ap (value_in (bits_in_order true true pass empty rest)) place
value_behind true false pass empty rest k =
    let place : 1 + 0 + k ≡ suc k = omega arith in
    ap (value_in (bits_in_order true false pass empty rest)) place
value_behind false true pass empty rest k =
    let place : 0 + 1 + k ≡ suc k = omega arith in
    ap (value_in (bits_in_order false true pass empty rest)) place
value_behind false false pass empty rest k =
    let place : 0 + 0 + k ≡ k = omega arith in
    ap (value_in rest) place

item_of_pass : (tests counts pass empty : Bool) (rest : List Decided) → tests ≡ true
    → slice_get (bits_in_order tests counts pass empty rest) 0 ≡ Some (decided Pass pass)
item_of_pass true counts pass empty rest is = refl
item_of_pass false counts pass empty rest is = absurd cc

item_of_counter : (tests counts pass empty : Bool) (rest : List Decided) → counts ≡ true
    → slice_get (bits_in_order tests counts pass empty rest) (num tests) ≡ Some (decided CounterZero empty)
item_of_counter true true pass empty rest is = refl
item_of_counter false true pass empty rest is = refl
item_of_counter tests false pass empty rest is = absurd cc

item_behind : (tests counts pass empty : Bool) (rest : List Decided) (k : ℕ)
    → slice_get (bits_in_order tests counts pass empty rest) (before_address tests counts + k) ≡ slice_get rest k
item_behind true true pass empty rest k =
    let place : 1 + 1 + k ≡ suc (suc k) = omega arith in
    ap (slice_get (bits_in_order true true pass empty rest)) place
item_behind true false pass empty rest k =
    let place : 1 + 0 + k ≡ suc k = omega arith in
    ap (slice_get (bits_in_order true false pass empty rest)) place
item_behind false true pass empty rest k =
    let place : 0 + 1 + k ≡ suc k = omega arith in
    ap (slice_get (bits_in_order false true pass empty rest)) place
item_behind false false pass empty rest k =
    let place : 0 + 0 + k ≡ k = omega arith in
    ap (slice_get rest) place

count_in_order : (tests counts pass empty : Bool) (rest : List Decided)
    → length (bits_in_order tests counts pass empty rest) ≡ before_address tests counts + length rest
count_in_order true true pass empty rest = omega arith
count_in_order true false pass empty rest = omega arith
count_in_order false true pass empty rest = omega arith
count_in_order false false pass empty rest = omega arith

-- the bits of an address, from the highest
address_count : (a n : ℕ) → length (address_bits a n) ≡ n
address_count a zero = refl
address_count a (suc n) = let rest = address_count a n in omega (arith, rest)

address_item : (a n k : ℕ) → k < n
    → slice_get (address_bits a n) k ≡ Some (decided (Next (n - 1 - k)) (bit_of a (n - 1 - k)))
address_item a zero k inside = absurd (omega (arith, inside))
address_item a (suc n) zero inside =
    let place : n ≡ suc n - 1 - 0 = omega arith in
    ap (λ (j : ℕ). Some (decided (Next j) (bit_of a j))) place
address_item a (suc n) (suc k) inside =
    let place : n - 1 - k ≡ suc n - 1 - suc k = omega arith in
    address_item a n k (omega (arith, inside)) ∙ ap (λ (j : ℕ). Some (decided (Next j) (bit_of a j))) place

address_value : (a n k : ℕ) → k < n → value_in (address_bits a n) k ≡ bit_of a (n - 1 - k)
address_value a zero k inside = absurd (omega (arith, inside))
address_value a (suc n) zero inside =
    let place : n ≡ suc n - 1 - 0 = omega arith in ap (bit_of a) place
address_value a (suc n) (suc k) inside =
    let place : n - 1 - k ≡ suc n - 1 - suc k = omega arith in
    address_value a n k (omega (arith, inside)) ∙ ap (bit_of a) place

-- ---- instructions that don't ask for pass or the counter

-- the entry by pass, where that is decided, and else by 1
effect_pass : (i : Instruction) (asks disabled q value empty : Bool) → tests i ≡ asks
    → (not disabled && asks ≡ true → value ≡ (disabled || q))
    → effect_of i (if not disabled && asks then value else true) empty ≡ effect_of i (disabled || q) empty
effect_pass i asks true q value empty is decides = refl
effect_pass i true false q value empty is decides = ap (λ (b : Bool). effect_of i b empty) (decides refl)
effect_pass i false false q value empty is decides = untested_same i true q empty is

-- the entry by the counter, where that is asked, and else by one that isn't zero
effect_counter : (i : Instruction) (asks value empty pass : Bool) → counts i ≡ asks → (asks ≡ true → value ≡ empty)
    → effect_of i pass (if asks then value else false) ≡ effect_of i pass empty
effect_counter i true value empty pass is decides = ap (effect_of i pass) (decides refl)
effect_counter i false value empty pass is decides = uncounted_same i pass false empty is

-- the counter counts only where it isn't zero
pub counted_is_some : (i : Instruction) (pass empty : Bool) → (effect_of i pass empty).counter ≡ Counted → empty ≡ false
counted_is_some i pass false is = refl
counted_is_some Jz pass true is = absurd cc
counted_is_some Cjs true true is = absurd cc
counted_is_some Cjs false true is = absurd cc
counted_is_some Jmap pass true is = absurd cc
counted_is_some Cjp true true is = absurd cc
counted_is_some Cjp false true is = absurd cc
counted_is_some Push true true is = absurd cc
counted_is_some Push false true is = absurd cc
counted_is_some Jsrp true true is = absurd cc
counted_is_some Jsrp false true is = absurd cc
counted_is_some Cjv true true is = absurd cc
counted_is_some Cjv false true is = absurd cc
counted_is_some Jrp true true is = absurd cc
counted_is_some Jrp false true is = absurd cc
counted_is_some Rfct pass true is = absurd cc
counted_is_some Rpct pass true is = absurd cc
counted_is_some Crtn true true is = absurd cc
counted_is_some Crtn false true is = absurd cc
counted_is_some Cjpp true true is = absurd cc
counted_is_some Cjpp false true is = absurd cc
counted_is_some Ldct pass true is = absurd cc
counted_is_some Loop true true is = absurd cc
counted_is_some Loop false true is = absurd cc
counted_is_some Cont pass true is = absurd cc
counted_is_some Twb true true is = absurd cc
counted_is_some Twb false true is = absurd cc

-- ---- numbers of bits

-- a number's bits from a place on, from those behind the place
halves : (a j : ℕ) → a / 2 ^ (j + 1) * 2 + num (bit_of a j) ≡ a / 2 ^ j
halves a j =
    let b : ℕ = a / 2 ^ j in
    let half : a / 2 ^ (j + 1) ≡ b / 2 = sym (shr-shr a j 1) in
    let odd : num (bit_of a j) ≡ b % 2 = num_below (b % 2) (mod_below b 2 (omega arith)) in
    ap₂ (λ (n o : ℕ). n * 2 + o) half odd ∙ omega arith

-- the number of the first bits of an address of 12 bits
number_of_bits : (given : List Decided) (a before : ℕ) → a < 2 ^ 12
    → ((k : ℕ) → k < 12 → value_in given (before + k) ≡ bit_of a (11 - k)) → (n : ℕ) → n ≤ 12
    → number_in given before n ≡ a / 2 ^ (12 - n)
number_of_bits given a before below values zero within = omega arith
number_of_bits given a before below values (suc n) within =
    let j : ℕ = 11 - n in
    let high : 12 - n ≡ j + 1 = omega (arith, within) in
    let low : j ≡ 12 - suc n = omega (arith, within) in
    let so_far = number_of_bits given a before below values n (omega (arith, within)) in
    ap₂ (λ (m o : ℕ). m * 2 + o) (so_far ∙ ap (λ (k : ℕ). a / 2 ^ k) high)
    (ap num (values n (omega (arith, within))))
    ∙ halves a j ∙ ap (λ (k : ℕ). a / 2 ^ k) low

-- ---- a cycle that is seen

-- the decided bits of a cycle whose control address this is
abbrev bits_at : BoardParts → List ℕ → Scene → (at : ℕ) → List Decided
bits_at board store x at =
    let m = points_of board (word_at board store at) in
    let pass = pass_of board m (answer_of board m x.state x.outside) x.state x.outside in
    pass_bits m pass ++ counter_bits m x.state ++ address_bits (next_address board m pass x.state x.outside) 12

module _ {board : BoardParts} {store : List ℕ} {t : Table} {words : List Word} {m : Memory} {p : Progress} where
  -- its decided bits, by the microword of the place
  pub seen_bits : (given : Given) (x : Scene) → IsSeen board store t words m p given x
      → decided_of board store x.state x.outside
      ≡ bits_in_order (decides_pass (microword_of board store p)) (decides_counter (microword_of board store p))
      (pass_net board store p x) (x.state.seq.r == 0) (address_bits (next_net board store p x) 12)
  unfolding decided_of
  seen_bits given x seen = ap (bits_at board store x) seen.state.at

  -- a value that was decided is that of the cycle
  seen_value : (given : Given) (x : Scene) (k : ℕ) → IsSeen board store t words m p given x → k < length p.decided
      → value_in p.decided k
      ≡ value_in
      (bits_in_order (decides_pass (microword_of board store p)) (decides_counter (microword_of board store p))
      (pass_net board store p x) (x.state.seq.r == 0) (address_bits (next_net board store p x) 12)) k
  seen_value given x k seen inside =
      value_first p.decided (decided_of board store x.state x.outside) k seen.first inside
      ∙ ap (λ (given : List Decided). value_in given k) (seen_bits given x seen)

  -- pass, where it was decided
  pub seen_pass : (given : Given) (x : Scene) → IsSeen board store t words m p given x
      → bits_before (microword_of board store p) ≤ length p.decided → decides_pass (microword_of board store p) ≡ true
      → value_in p.decided 0 ≡ pass_net board store p x
  seen_pass given x seen known tested =
      let one : num (decides_pass (microword_of board store p)) ≡ 1 = ap num tested in
      seen_value given x 0 seen (omega (arith, one, known))
      ∙ value_of_pass (decides_pass (microword_of board store p)) (decides_counter (microword_of board store p))
      (pass_net board store p x) (x.state.seq.r == 0) (address_bits (next_net board store p x) 12) tested

  -- whether the counter is zero, where that was decided
  pub seen_counter : (given : Given) (x : Scene) → IsSeen board store t words m p given x
      → bits_before (microword_of board store p) ≤ length p.decided
      → decides_counter (microword_of board store p) ≡ true
      → value_in p.decided (num (decides_pass (microword_of board store p))) ≡ (x.state.seq.r == 0)
  seen_counter given x seen known counted =
      let one : num (decides_counter (microword_of board store p)) ≡ 1 = ap num counted in
      seen_value given x (num (decides_pass (microword_of board store p))) seen (omega (arith, one, known))
      ∙ value_of_counter (decides_pass (microword_of board store p)) (decides_counter (microword_of board store p))
      (pass_net board store p x) (x.state.seq.r == 0) (address_bits (next_net board store p x) 12) counted

  -- the entry of the table, once pass and the counter are decided
  pub seen_effect : (given : Given) (x : Scene) → IsMicroword board (microword_of board store p)
      → IsSeen board store t words m p given x → bits_before (microword_of board store p) ≤ length p.decided
      → effect_by (microword_of board store p) p.decided
      ≡ effect (microword_of board store p).sequencer (pass_net board store p x) x.state.seq
  unfolding pass_of
  seen_effect given x micro seen known =
      effect_pass (instruction_of (microword_of board store p).sequencer)
      (not (is_untested (microword_of board store p).sequencer)) (microword_of board store p).test_disable
      (differ (microword_of board store p).polarity
      (bit_value board (microword_of board store p).condition (answer_net board store p x) x.state x.outside))
      (value_in p.decided 0) (zero_by (microword_of board store p) p.decided)
      (tests_is (microword_of board store p).sequencer micro.sequencer) (seen_pass given x seen known)
      ∙ effect_counter (instruction_of (microword_of board store p).sequencer)
      (decides_counter (microword_of board store p))
      (value_in p.decided (num (decides_pass (microword_of board store p)))) (x.state.seq.r == 0)
      (pass_net board store p x)
      (counts_is (microword_of board store p).sequencer micro.sequencer) (seen_counter given x seen known)

  -- the next address, once all bits are decided
  pub seen_next : (given : Given) (x : Scene) → IsSeen board store t words m p given x
      → bits_before (microword_of board store p) + 12 ≤ length p.decided → next_net board store p x < 2 ^ 12
      → number_in p.decided (bits_before (microword_of board store p)) 12 ≡ next_net board store p x
  seen_next given x seen known below =
      let one : next_net board store p x / 2 ^ (12 - 12) ≡ next_net board store p x = omega arith in
      number_of_bits p.decided (next_net board store p x) (bits_before (microword_of board store p)) below
      (λ k inside. seen_value given x (bits_before (microword_of board store p) + k) seen (omega (arith, inside, known))
      ∙ value_behind (decides_pass (microword_of board store p)) (decides_counter (microword_of board store p))
      (pass_net board store p x) (x.state.seq.r == 0) (address_bits (next_net board store p x) 12) k
      ∙ address_value (next_net board store p x) 12 k inside) 12 (omega arith)
      ∙ one

  -- all bits of the cycle, once all are decided
  pub seen_all : (given : Given) (x : Scene) → IsSeen board store t words m p given x
      → bits_before (microword_of board store p) + 12 ≤ length p.decided
      → decided_of board store x.state x.outside ≡ p.decided
  seen_all given x seen known =
      let all = decided_of board store x.state x.outside in
      let count : length all ≡ bits_before (microword_of board store p) + 12 =
      ap length (seen_bits given x seen)
      ∙ count_in_order (decides_pass (microword_of board store p)) (decides_counter (microword_of board store p))
      (pass_net board store p x) (x.state.seq.r == 0) (address_bits (next_net board store p x) 12)
      ∙ ap (λ (n : ℕ). bits_before (microword_of board store p) + n) (address_count (next_net board store p x) 12) in
      sym (take_all (length p.decided) all (omega (arith, count, known))) ∙ seen.first

  -- ---- the bit that is asked for

  -- pass
  pub asked_pass : (given : Given) (x : Scene) → IsSeen board store t words m p given x
      → decides_pass (microword_of board store p) ≡ true
      → slice_get (decided_of board store x.state x.outside) 0 ≡ Some (decided Pass (pass_net board store p x))
  asked_pass given x seen tested =
      ap (λ (given : List Decided). slice_get given 0) (seen_bits given x seen)
      ∙ item_of_pass (decides_pass (microword_of board store p)) (decides_counter (microword_of board store p))
      (pass_net board store p x) (x.state.seq.r == 0) (address_bits (next_net board store p x) 12) tested

  -- whether the counter is zero
  pub asked_counter : (given : Given) (x : Scene) → IsSeen board store t words m p given x
      → decides_counter (microword_of board store p) ≡ true
      → slice_get (decided_of board store x.state x.outside) (num (decides_pass (microword_of board store p)))
      ≡ Some (decided CounterZero (x.state.seq.r == 0))
  asked_counter given x seen counted =
      ap (λ (given : List Decided). slice_get given (num (decides_pass (microword_of board store p))))
      (seen_bits given x seen)
      ∙ item_of_counter (decides_pass (microword_of board store p)) (decides_counter (microword_of board store p))
      (pass_net board store p x) (x.state.seq.r == 0) (address_bits (next_net board store p x) 12) counted

  -- a bit of the next address
  pub asked_next : (given : Given) (x : Scene) (k : ℕ) → IsSeen board store t words m p given x → k < 12
      → slice_get (decided_of board store x.state x.outside) (bits_before (microword_of board store p) + k)
      ≡ Some (decided (Next (11 - k)) (bit_of (next_net board store p x) (11 - k)))
  asked_next given x k seen inside =
      ap (λ (given : List Decided). slice_get given (bits_before (microword_of board store p) + k))
      (seen_bits given x seen)
      ∙ item_behind (decides_pass (microword_of board store p)) (decides_counter (microword_of board store p))
      (pass_net board store p x) (x.state.seq.r == 0) (address_bits (next_net board store p x) 12) k
      ∙ address_item (next_net board store p x) 12 k inside
