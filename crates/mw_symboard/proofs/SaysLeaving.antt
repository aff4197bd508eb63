-- What is known of a cycle's end says of its nets, and what its questions ask.
use Rattle.std.proofs.Common.{◌≡◌, ℕ, zero, suc, ◌+◌, ◌-◌, ◌<◌, ◌≤◌, List, length, refl, ap, arith, sym, ◌∙◌}
use Rattle.std.specs.Prelude.{Bool, true, false, not, ◌&&◌, ◌||◌, ◌==◌, if◌then◌else◌, Some, slice_get}
use Rattle.mw_base.specs.Words.{bit_of, differ, num}
use Rattle.mw_board.specs.declared.parts.BoardParts.{BoardParts}
use Rattle.mw_board.specs.Depth.{depth_of}
use Rattle.mw_board.specs.Valid as valid
use Rattle.mw_cycle.specs.declared.elements.Element.TheVariants.{R}
use Rattle.mw_cycle.specs.Cycle.{bit_value, next_address, pass_of}
use Rattle.mw_cycle.specs.Decided.{decided, decided_of, decides_counter, decides_pass, is_untested}
use Rattle.mw_cycle.specs.Microword.{IsMicroword}
use Rattle.mw_seq.specs.declared.instruction.CounterMove.{CounterMove}
use Rattle.mw_seq.specs.declared.instruction.CounterMove.TheVariants as counters
use Rattle.mw_seq.specs.declared.instruction.Effect.{Effect}
use Rattle.mw_seq.specs.Instruction.{instruction_of}
use Rattle.mw_seq.specs.Sequencer.{address, counter_after, effect, next_of}
use Rattle.mw_term.specs.declared.decided.DecidedKind.{DecidedKind}
use Rattle.mw_term.specs.declared.decided.DecidedKind.TheVariants.{Pass, CounterZero, Next}
use Rattle.mw_term.specs.declared.op.Op.TheVariants.{Con, Eq, Part}
use Rattle.mw_term.specs.Assigned.{Given}
use Rattle.mw_term.specs.Table.{Table, IsTable}
use Rattle.mw_term.specs.Values.{term_value}
use Rattle.mw_term.specs.declared.word.Word.{Word}
use Rattle.mw_symmem.specs.Memory.{Memory}
use Rattle.mw_symboard.specs.declared.leaving.Leaving.{Leaving}
use Rattle.mw_symboard.specs.declared.reading.Reading.{Reading}
use Rattle.mw_symboard.specs.Cycle.{IsCounter, IsLeaving, bits_before, effect_by}
use Rattle.mw_symboard.specs.Made.{Is}
use Rattle.mw_symboard.specs.Parts.{AreParts}
use Rattle.mw_symboard.specs.Seen.{IsSeen, Progress, Says, Scene, answer_net, condition_net, direct_net, microword_of}
use Rattle.mw_symboard.specs.Seen.{next_net, pass_net}
use Rattle.mw_symboard.proofs.Meaning.{says_element}
use Rattle.mw_symboard.proofs.Saying.{num_is, says_as, says_bit, says_con, says_eq, says_same}
use Rattle.mw_symboard.proofs.SaysAddress.{says_direct, says_less_one, says_next}
use Rattle.mw_symboard.proofs.SaysDecided.{asked_counter, asked_next, asked_pass, counted_is_some, seen_effect}
use Rattle.mw_symboard.specs.Nets.{SaysReading, SaysLeaving, counter_net}

-- a counter that isn't zero
is_some : (r : ℕ) → (r == 0) ≡ false → 0 < r
is_some zero none = absurd cc
is_some (suc r) none = omega arith

-- a test that is decided is enabled
is_enabled : (disabled asks : Bool) → not disabled && asks ≡ true → disabled ≡ false
is_enabled false asks is = refl
is_enabled true asks is = absurd cc

module _ {board : BoardParts} {store : List ℕ} {t : Table} {words : List Word} {m : Memory} {p : Progress} where
  -- the register/counter, by its move
  says_counter : (rld : Bool) (move : CounterMove) (direct term : ℕ) → IsTable t → AreParts board t p.parts
      → Says board store t words m p 12 direct (direct_net board store p)
      → ((given : Given) (x : Scene) → IsSeen board store t words m p given x
      → move ≡ (effect (microword_of board store p).sequencer (pass_net board store p x) x.state.seq).counter)
      → IsCounter rld move t p.parts.r direct term
      → Says board store t words m p 12 term
      (λ x. if rld then direct_net board store p x
      else counter_after (effect (microword_of board store p).sequencer (pass_net board store p x) x.state.seq).counter
      (direct_net board store p x) x.state.seq.r)
  says_counter true move direct term table parts says moves is =
      says_same 12 direct term (direct_net board store p) is says
  says_counter false counters.Same direct term table parts says moves is =
      says_as 12 term (λ x. x.state.seq.r)
      (λ x. counter_after (effect (microword_of board store p).sequencer (pass_net board store p x) x.state.seq).counter
      (direct_net board store p x) x.state.seq.r)
      (says_same 12 p.parts.r term (λ x. x.state.seq.r) is (says_element R parts tt))
      (λ given x seen. ap (λ (c : CounterMove). counter_after c (direct_net board store p x) x.state.seq.r)
      (moves given x seen))
  says_counter false counters.Loaded direct term table parts says moves is =
      says_as 12 term (direct_net board store p)
      (λ x. counter_after (effect (microword_of board store p).sequencer (pass_net board store p x) x.state.seq).counter
      (direct_net board store p x) x.state.seq.r)
      (says_same 12 direct term (direct_net board store p) is says)
      (λ given x seen. ap (λ (c : CounterMove). counter_after c (direct_net board store p x) x.state.seq.r)
      (moves given x seen))
  says_counter false counters.Counted direct term table parts says moves is =
      says_as 12 term (λ x. x.state.seq.r - 1)
      (λ x. counter_after (effect (microword_of board store p).sequencer (pass_net board store p x) x.state.seq).counter
      (direct_net board store p x) x.state.seq.r)
      (says_less_one p.parts.r term (λ x. x.state.seq.r) table is (says_element R parts tt)
      (λ given x seen. is_some x.state.seq.r
      (counted_is_some (instruction_of (microword_of board store p).sequencer) (pass_net board store p x)
      (x.state.seq.r == 0) (sym (moves given x seen)))))
      (λ given x seen. ap (λ (c : CounterMove). counter_after c (direct_net board store p x) x.state.seq.r)
      (moves given x seen))

  -- the next address, from where the entry of the table says that it comes
  says_next_address : (term : ℕ) → IsMicroword board (microword_of board store p)
      → bits_before (microword_of board store p) ≤ length p.decided
      → Says board store t words m p 12 term
      (λ x. address (effect_by (microword_of board store p) p.decided).next (direct_net board store p x) x.outside.noise
      x.state.seq)
      → Says board store t words m p 12 term (next_net board store p)
  unfolding next_address next_of
  says_next_address term micro known is =
      says_as 12 term
      (λ x. address (effect_by (microword_of board store p) p.decided).next (direct_net board store p x) x.outside.noise
      x.state.seq)
      (next_net board store p) is
      (λ given x seen. ap (λ (e : Effect). address e.next (direct_net board store p x) x.outside.noise x.state.seq)
      (seen_effect given x micro seen known))

  -- all of it
  pub says_leaving : (made : Leaving) (noise : ℕ) → IsTable t → valid.IsBoard board → AreParts board t p.parts
      → IsMicroword board (microword_of board store p) → t.map ≡ board.map_entries → p.sp ≤ depth_of board
      → bits_before (microword_of board store p) ≤ length p.decided
      → Says board store t words m p 14 noise (λ x. x.outside.noise)
      → IsLeaving board (microword_of board store p) t p noise made → SaysLeaving board store t words m p made
  says_leaving made noise table good parts micro map within known says is =
      let direct = says_direct is.direct table good parts map is.is_direct in
      record {
        next = says_next_address made.next micro known
            (says_next noise is.direct
            (effect_by (microword_of board store p) p.decided).next made.next table parts within says direct is.next);
        r = says_counter (microword_of board store p).rld
            (effect_by (microword_of board store p) p.decided).counter is.direct made.r table parts direct
            (λ given x seen. ap (λ (e : Effect). e.counter) (seen_effect given x micro seen known)) is.r;
      }

  -- ---- questions

  -- a term that says a bit asks for it
  asks_bit : (kind : DecidedKind) (place term : ℕ) (h : Scene → Bool)
      → Says board store t words m p 1 term (λ x. num (h x))
      → (given : Given) (x : Scene) → IsSeen board store t words m p given x
      → slice_get (decided_of board store x.state x.outside) place ≡ Some (decided kind (h x))
      → slice_get (decided_of board store x.state x.outside) place ≡ Some (decided kind (term_value t given term == 1))
  asks_bit kind place term h says given x seen is =
      let test : (term_value t given term == 1) ≡ h x =
      ap (λ (n : ℕ). n == 1) (says.value given x seen) ∙ num_is (h x) in
      is ∙ ap (λ (b : Bool). Some (decided kind b)) (sym test)

  -- the condition is pass, where that is decided
  says_pass : (made : Reading)
      → SaysReading board store t words m p made → decides_pass (microword_of board store p) ≡ true
      → Says board store t words m p 1 made.condition (λ x. num (pass_net board store p x))
  unfolding pass_of
  says_pass made says tested =
      let enabled : (microword_of board store p).test_disable ≡ false =
      is_enabled (microword_of board store p).test_disable
      (not (is_untested (microword_of board store p).sequencer)) tested in
      says_as 1 made.condition (condition_net board store p) (λ x. num (pass_net board store p x)) says.condition
      (λ given x seen. ap (λ (b : Bool). num (b || differ (microword_of board store p).polarity
      (bit_value board (microword_of board store p).condition (answer_net board store p x) x.state x.outside)))
      (sym enabled))

  -- it asks for pass
  pub asks_pass : (made : Reading) → SaysReading board store t words m p made
      → decides_pass (microword_of board store p) ≡ true → length p.decided ≡ 0 → (given : Given) (x : Scene)
      → IsSeen board store t words m p given x
      → slice_get (decided_of board store x.state x.outside) (length p.decided)
      ≡ Some (decided Pass (term_value t given made.condition == 1))
  asks_pass made says tested none given x seen =
      asks_bit Pass (length p.decided) made.condition (pass_net board store p) (says_pass made says tested) given x seen
      (ap (slice_get (decided_of board store x.state x.outside)) none ∙ asked_pass given x seen tested)

  -- it asks whether the counter is zero
  pub asks_counter : (nothing term : ℕ) → IsTable t → AreParts board t p.parts → Is t (Con 0 12) nothing
      → Is t (Eq p.parts.r nothing) term → decides_counter (microword_of board store p) ≡ true
      → length p.decided ≡ num (decides_pass (microword_of board store p)) → (given : Given) (x : Scene)
      → IsSeen board store t words m p given x
      → slice_get (decided_of board store x.state x.outside) (length p.decided)
      ≡ Some (decided CounterZero (term_value t given term == 1))
  asks_counter nothing term table parts none is counted known given x seen =
      asks_bit CounterZero (length p.decided) term (λ x. x.state.seq.r == 0)
      (says_eq 12 p.parts.r nothing term (λ x. x.state.seq.r) (λ x. 0) table is (says_element R parts tt)
      (says_con 0 12 nothing table none)) given x seen
      (ap (slice_get (decided_of board store x.state x.outside)) known ∙ asked_counter given x seen counted)

  -- it asks for a bit of the next address
  pub asks_next : (made : Leaving) (place term : ℕ) → IsTable t → SaysLeaving board store t words m p made
      → bits_before (microword_of board store p) ≤ length p.decided
      → length p.decided < bits_before (microword_of board store p) + 12
      → place ≡ bits_before (microword_of board store p) + 11 - length p.decided → Is t (Part made.next place 1) term
      → (given : Given) (x : Scene) → IsSeen board store t words m p given x
      → slice_get (decided_of board store x.state x.outside) (length p.decided)
      ≡ Some (decided (Next place) (term_value t given term == 1))
  asks_next made place term table says some few place_is is given x seen =
      let k : ℕ = length p.decided - bits_before (microword_of board store p) in
      let known : length p.decided ≡ bits_before (microword_of board store p) + k = omega (arith, some) in
      let here : 11 - k ≡ place = omega (arith, some, few, place_is) in
      asks_bit (Next place) (length p.decided) term (λ x. bit_of (next_net board store p x) place)
      (says_bit 12 made.next place term (next_net board store p) table is says.next) given x seen
      (ap (slice_get (decided_of board store x.state x.outside)) known
      ∙ asked_next given x k seen (omega (arith, some, few))
      ∙ ap (λ (j : ℕ). Some (decided (Next j) (bit_of (next_net board store p x) j))) here)
