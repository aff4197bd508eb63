-- The parts after the edge have the values of the next state.
use Rattle.std.proofs.Common.{◌≡◌, inl, inr, ℕ, ◌+◌, ◌%◌, ◌^◌, ◌<◌, ◌≤◌, List, [], ◌∷◌, ◌++◌, length, map, slice_index}
use Rattle.std.proofs.Common.{slice_set, refl, ap, ap₂, arith, sym, subst, ◌∙◌}
use Rattle.std.specs.Prelude.{Bool, true, false, Option, Some, if◌then◌else◌, slice_get}
use Rattle.std.proofs.lemmas.Nat.{mod_below, pow_pos}
use Rattle.std.proofs.lemmas.Option.{slice_get_cases}
use Rattle.mw_base.specs.Words.{bit_of, num}
use Rattle.mw_alu.specs.declared.instruction.Destination.{Destination}
use Rattle.mw_alu.specs.declared.instruction.Destination.TheVariants as destinations
use Rattle.mw_alu.specs.declared.edge.Pins.{Pins}
use Rattle.mw_alu.specs.Instruction.{destination_of}
use Rattle.mw_alu.specs.WholeWord.{b_of, q_of, shift_of, writes_b, writes_q}
use Rattle.mw_board.specs.declared.bit.Load.TheVariants as loads
use Rattle.mw_board.specs.declared.flipflop.FlipFlop.{FlipFlop as FlipFlopOf}
use Rattle.mw_board.specs.declared.parts.BoardParts.{BoardParts}
use Rattle.mw_board.specs.Depth.{depth_of}
use Rattle.mw_board.specs.Store.{word_at}
use Rattle.mw_board.specs.Valid as valid
use Rattle.mw_cycle.specs.declared.elements.Element.{Element}
use Rattle.mw_cycle.specs.declared.elements.Element.TheVariants.{Register, Q, Mar, Ir, FlipFlop, Pc, R, StackWord}
use Rattle.mw_cycle.specs.Control.{value_at}
use Rattle.mw_cycle.specs.Cycle.{answer_of, edge, flip_of, load_of, next_address, pass_of, pins_of, state_after}
use Rattle.mw_cycle.specs.Cycle.{writes_of}
use Rattle.mw_cycle.specs.Elements.{IsElement, value_of}
use Rattle.mw_cycle.specs.Microword.{IsMicroword, points_of}
use Rattle.mw_cycle.specs.State.{BoardState, Fits}
use Rattle.mw_cycle.proofs.Edge.{edge_fits}
use Rattle.mw_cycle.proofs.Ranges.{chosen_is}
use Rattle.mw_seq.specs.declared.instruction.Effect.{Effect}
use Rattle.mw_seq.specs.Sequencer.{IsSequencer, effect, step_of}
use Rattle.mw_term.specs.Assigned.{Given}
use Rattle.mw_term.specs.MemoryRead.{held}
use Rattle.mw_term.specs.Table.{Table, IsTable}
use Rattle.mw_term.specs.Values.{term_value}
use Rattle.mw_term.specs.declared.word.Word.{Word}
use Rattle.mw_symmem.specs.Memory.{Memory, after, held_by, valued, writes_of as side_writes}
use Rattle.mw_symboard.specs.declared.leaving.Leaving.{Leaving}
use Rattle.mw_symboard.specs.declared.reading.Reading.{Reading}
use Rattle.mw_symboard.specs.Cycle.{IsEdge, IsMar, bits_before, effect_by}
use Rattle.mw_cycle.specs.EdgeWords.{or_taken, with_pushed, with_taken, pushed_word, sp_after}
use Rattle.mw_symboard.specs.Parts.{AreParts}
use Rattle.mw_cycle.specs.BoardTerms.{term_of_part}
use Rattle.mw_symboard.specs.Seen.{IsSeen, IsStateOf, Progress, Says, Scene, after_net, answer_net, microword_of}
use Rattle.mw_symboard.specs.Seen.{next_net, pass_net}
use Rattle.mw_symboard.proofs.AfterEdge.{after_one_more, flip_bit, flips_below, item_is, moved_sp, moved_words}
use Rattle.mw_symboard.proofs.AfterEdge.{pushed_below, pushed_both, pushed_length, set_both, sp_within}
use Rattle.mw_symboard.proofs.Meaning.{says_element, says_low}
use Rattle.mw_symboard.proofs.Saying.{says_below, says_con}
use Rattle.mw_symboard.proofs.SaysBits.{says_loaded}
use Rattle.mw_symboard.proofs.SaysDecided.{seen_effect, seen_next}
use Rattle.mw_symboard.proofs.SaysEdge.{SaysTaken, says_written_b, says_written_q}
use Rattle.mw_symboard.specs.Nets.{SaysLeaving, SaysReading}

-- a destination that doesn't write B gives it 0
unwritten_b : (destination : Destination) (w f : ℕ) (pins : Pins) → writes_b destination ≡ false
    → 0 ≡ b_of destination w f pins
unwritten_b destinations.Qreg w f pins none = refl
unwritten_b destinations.Nop w f pins none = refl
unwritten_b destination w f pins none = absurd cc

-- one that doesn't write Q gives it 0
unwritten_q : (destination : Destination) (w f q : ℕ) (pins : Pins) → writes_q destination ≡ false
    → 0 ≡ q_of destination w f q pins
unwritten_q destinations.Qreg w f q pins none = absurd cc
unwritten_q destinations.Ramqd w f q pins none = absurd cc
unwritten_q destinations.Ramqu w f q pins none = absurd cc
unwritten_q destination w f q pins none = refl

-- the state after the edge, by the microword of the place
abbrev pub edge_net : BoardParts → List ℕ → Progress → Scene → BoardState
edge_net board store p x =
    edge board (microword_of board store p) (answer_net board store p x) (pass_net board store p x) x.state x.outside

-- the state after a cycle whose control address this is
abbrev after_at : BoardParts → List ℕ → Scene → (at : ℕ) → BoardState
after_at board store x at =
    let m = points_of board (word_at board store at) in
    let answer = answer_of board m x.state x.outside in
    edge board m answer (pass_of board m answer x.state x.outside) x.state x.outside

-- a place and what was made of it, when all bits of its cycle are decided and its parts have taken what they do
pub record IsAtEdge (board : BoardParts) (store : List ℕ) (t : Table) (words : List Word) (m : Memory)
    (p new : Progress) (made : Reading) (end : Leaving) : Type 0 where
  pub table : IsTable t
  pub good : valid.IsBoard board
  pub parts : AreParts board t p.parts
  pub micro : IsMicroword board (microword_of board store p)
  pub sp : p.sp ≤ depth_of board
  pub known : bits_before (microword_of board store p) + 12 ≤ length p.decided
  pub reading : SaysReading board store t words m p made
  pub leaving : SaysLeaving board store t words m p end
  pub edge : IsEdge board (microword_of board store p) t p new made end

-- the load of a flip-flop names a bit that there is
load_is : (board : BoardParts) (store : List ℕ) (p : Progress) (n : ℕ) (f : FlipFlopOf) → valid.IsBoard board
    → n < length board.flipflop → slice_get board.flipflop n ≡ Some f
    → valid.IsLoad board.width (length board.flipflop) (load_of board (microword_of board store p) f)
load_is board store p n f good inside is =
    let named : valid.IsFlipFlop board f =
    subst (valid.IsFlipFlop board) (item_is board.flipflop n f f is) (good.flipflops n f inside) in
    chosen_is (valid.IsLoad board.width (length board.flipflop)) loads.Hold f.load
    (value_at board.fields (microword_of board store p).word f.control) named.some named.entries

module _ {board : BoardParts} {store : List ℕ} {t : Table} {words : List Word} {m : Memory} {p : Progress} where
  edge_seen : (given : Given) (x : Scene) → IsSeen board store t words m p given x
      → after_net board store x ≡ edge_net board store p x
  unfolding state_after
  edge_seen given x seen = ap (after_at board store x) seen.state.at

  -- a part that takes a term where one is written
  taken_below : (writes : Bool) (w : ℕ) (o : Option ℕ) (net : Scene → ℕ) → IsTable t
      → SaysTaken writes board store t words m p w o net → (given : Given) (x : Scene)
      → IsSeen board store t words m p given x → (writes ≡ false → 0 ≡ net x) → net x < 2 ^ w
  taken_below true w o net table says given x seen none = says_below w says.0 net table says.2 given x seen
  taken_below false w o net table says given x seen none =
      let zero_is : 0 ≡ net x = none refl in let some = pow_pos w in omega (arith, zero_is, some)

  -- a register
  register_after : (writes : Bool) (place : ℕ) (o : Option ℕ) (net : Scene → ℕ) (n : ℕ)
      → SaysTaken writes board store t words m p board.width o net → AreParts board t p.parts → n < 16
      → (given : Given) (x : Scene) → IsSeen board store t words m p given x
      → slice_index (if writes then slice_set x.state.regs place (net x) else x.state.regs) n
      ≡ term_value t given (slice_index (with_taken p.parts.regs place o) n)
  register_after true place o net n says parts inside given x seen =
      set_both p.parts.regs x.state.regs place says.0 (net x) n (term_value t given)
      (seen.state.fits.sixteen ∙ sym parts.sixteen) (omega (arith, parts.sixteen, inside))
      (seen.state.elements (Register n) inside) (sym (says.2.value given x seen))
      ∙ ap (λ (o : Option ℕ). term_value t given (slice_index (with_taken p.parts.regs place o) n)) (sym says.1)
  register_after false place o net n says parts inside given x seen =
      seen.state.elements (Register n) inside
      ∙ ap (λ (o : Option ℕ). term_value t given (slice_index (with_taken p.parts.regs place o) n)) (sym says)

  -- Q
  q_after : (writes : Bool) (o : Option ℕ) (net : Scene → ℕ)
      → SaysTaken writes board store t words m p board.width o net
      → (given : Given) (x : Scene) → IsSeen board store t words m p given x
      → (if writes then net x else x.state.q) ≡ term_value t given (or_taken p.parts.q o)
  q_after true o net says given x seen =
      sym (says.2.value given x seen) ∙ ap (λ (o : Option ℕ). term_value t given (or_taken p.parts.q o)) (sym says.1)
  q_after false o net says given x seen =
      seen.state.elements Q tt ∙ ap (λ (o : Option ℕ). term_value t given (or_taken p.parts.q o)) (sym says)

  -- the address register
  mar_after : (load : Bool) (y term : ℕ) (net : Scene → ℕ) → IsTable t → Says board store t words m p board.width y net
      → IsMar load board t p.parts.mar y term → (given : Given) (x : Scene) → IsSeen board store t words m p given x
      → (if load then net x % 2 ^ board.address else x.state.mar) ≡ term_value t given term
  mar_after true y term net table says is given x seen =
      sym ((says_low board.width y board.address term net table is says).value given x seen)
  mar_after false y term net table says is given x seen =
      seen.state.elements Mar tt ∙ ap (term_value t given) (sym is)

  -- the instruction register
  ir_after : (load : Bool) (y : ℕ) (net : Scene → ℕ) → Says board store t words m p board.width y net
      → (given : Given) (x : Scene) → IsSeen board store t words m p given x
      → (if load then net x else x.state.ir) ≡ term_value t given (if load then y else p.parts.ir)
  ir_after true y net says given x seen = sym (says.value given x seen)
  ir_after false y net says given x seen = seen.state.elements Ir tt

  -- the memory
  memory_after : (write : Bool) (y : ℕ) (net : Scene → ℕ) → Says board store t words m p board.width y net
      → (given : Given) (x : Scene) → IsSeen board store t words m p given x
      → (if write then slice_set x.state.memory x.state.mar (net x) else x.state.memory)
      ≡ after x.image (map (valued t given)
      (if write then side_writes m p.side ++ held p.parts.mar y ∷ [] else side_writes m p.side))
  memory_after true y net says given x seen =
      ap (λ (words : List ℕ). slice_set words x.state.mar (net x)) seen.state.memory
      ∙ ap₂ (λ (address word : ℕ). slice_set (after x.image (map (valued t given) (side_writes m p.side))) address word)
      (seen.state.elements Mar tt) (sym (says.value given x seen))
      ∙ sym (after_one_more t given x.image (side_writes m p.side) (held p.parts.mar y))
  memory_after false y net says given x seen = seen.state.memory

-- what was made of a place, and the scene in which it is seen
module _ {board : BoardParts} {store : List ℕ} {t : Table} {words : List Word} {m : Memory} {p new : Progress}
    {made : Reading} {end : Leaving} where
  -- the entry of the table
  edge_effect : IsAtEdge board store t words m p new made end → (given : Given) (x : Scene)
      → IsSeen board store t words m p given x
      → effect_by (microword_of board store p) p.decided
      ≡ effect (microword_of board store p).sequencer (pass_net board store p x) x.state.seq
  edge_effect is given x seen = seen_effect given x is.micro seen (omega (arith, is.known))

  -- the next address
  edge_next : IsAtEdge board store t words m p new made end → (given : Given) (x : Scene)
      → IsSeen board store t words m p given x → new.at ≡ next_net board store p x
  edge_next is given x seen =
      is.edge.at ∙ seen_next given x seen is.known
      (says_below 12 end.next (next_net board store p) is.table is.leaving.next given x seen)

  edge_register : IsAtEdge board store t words m p new made end → (given : Given) (x : Scene)
      → IsSeen board store t words m p given x → (n : ℕ) → n < 16
      → slice_index (edge_net board store p x).regs n ≡ term_value t given (slice_index new.parts.regs n)
  unfolding edge writes_of shift_of
  edge_register is given x seen n inside =
      let destination = destination_of (microword_of board store p).instruction in
      register_after (writes_b destination) (microword_of board store p).b_address is.edge.written
      (λ x. b_of destination board.width (answer_net board store p x).f
      (pins_of board (microword_of board store p) (answer_net board store p x) x.state x.outside)) n
      (says_written_b destination made.sources is.edge.written is.table is.good is.parts is.micro is.reading.sources
      is.edge.is_written) is.parts inside given x seen
      ∙ ap (λ (regs : List ℕ). term_value t given (slice_index regs n)) (sym is.edge.regs)

  edge_q : IsAtEdge board store t words m p new made end → (given : Given) (x : Scene)
      → IsSeen board store t words m p given x → (edge_net board store p x).q ≡ term_value t given new.parts.q
  unfolding edge writes_of shift_of
  edge_q is given x seen =
      let destination = destination_of (microword_of board store p).instruction in
      q_after (writes_q destination) is.edge.taken
      (λ x. q_of destination board.width (answer_net board store p x).f x.state.q
      (pins_of board (microword_of board store p) (answer_net board store p x) x.state x.outside))
      (says_written_q destination made.sources is.edge.taken is.table is.good is.parts is.micro is.reading.sources
      is.edge.is_taken) given x seen
      ∙ ap (term_value t given) (sym is.edge.q)

  edge_mar : IsAtEdge board store t words m p new made end → (given : Given) (x : Scene)
      → IsSeen board store t words m p given x → (edge_net board store p x).mar ≡ term_value t given new.parts.mar
  unfolding edge
  edge_mar is given x seen =
      mar_after (microword_of board store p).mar_load made.y new.parts.mar (λ x. (answer_net board store p x).y)
      is.table is.reading.y is.edge.mar given x seen

  edge_ir : IsAtEdge board store t words m p new made end → (given : Given) (x : Scene)
      → IsSeen board store t words m p given x → (edge_net board store p x).ir ≡ term_value t given new.parts.ir
  unfolding edge
  edge_ir is given x seen =
      ir_after (microword_of board store p).ir_load made.y (λ x. (answer_net board store p x).y)
      is.reading.y given x seen
      ∙ ap (term_value t given) (sym is.edge.ir)

  edge_flip : IsAtEdge board store t words m p new made end → (given : Given) (x : Scene)
      → IsSeen board store t words m p given x → (n : ℕ) → n < length board.flipflop
      → num (bit_of (edge_net board store p x).flips n) ≡ term_value t given (slice_index new.parts.flips n)
  unfolding edge
  edge_flip is given x seen n inside = elim (slice_get_cases board.flipflop n).1 [
    | inl h ↦
        let place : 0 + n ≡ n = omega arith in
        let says = says_loaded made.sources (load_of board (microword_of board store p) h.0)
        (slice_index p.parts.flips n) (slice_index new.parts.flips n) (λ x. bit_of x.state.flips n) is.table is.parts
        (load_is board store p n h.0 is.good inside h.2) is.reading.sources (says_element (FlipFlop n) is.parts inside)
        (is.edge.flips.each n h.0 h.2) in
        ap num
        (flip_bit board (microword_of board store p) (answer_net board store p x) x.state x.outside board.flipflop 0 n
        h.0 h.2 ∙ ap (λ (k : ℕ). flip_of board (microword_of board store p) k h.0 (answer_net board store p x) x.state
        x.outside) place)
        ∙ sym (says.value given x seen)
    | inr h ↦ absurd (omega (arith, inside, h.0))
  ]

  edge_pc : IsAtEdge board store t words m p new made end → (given : Given) (x : Scene)
      → IsSeen board store t words m p given x → (edge_net board store p x).seq.pc ≡ term_value t given new.parts.pc
  unfolding edge step_of next_address
  edge_pc is given x seen =
      let ci = num (microword_of board store p).ci in
      let says : Says board store t words m p 12 new.parts.pc (λ x. (new.at + ci) % 2 ^ 12) =
      says_con ((new.at + ci) % 2 ^ 12) 12 new.parts.pc is.table is.edge.pc in
      ap (λ (n : ℕ). (n + ci) % 2 ^ 12) (sym (edge_next is given x seen)) ∙ sym (says.value given x seen)

  edge_r : IsAtEdge board store t words m p new made end → (given : Given) (x : Scene)
      → IsSeen board store t words m p given x → (edge_net board store p x).seq.r ≡ term_value t given new.parts.r
  unfolding edge step_of
  edge_r is given x seen = sym (is.leaving.r.value given x seen) ∙ ap (term_value t given) (sym is.edge.counter)

  -- the stack's words, as they are pushed by the move that was decided
  edge_words : IsAtEdge board store t words m p new made end → (given : Given) (x : Scene)
      → IsSeen board store t words m p given x
      → (edge_net board store p x).seq.stack
      ≡ with_pushed x.state.seq.stack
      (pushed_word (effect_by (microword_of board store p) p.decided).stack (depth_of board) p.sp) x.state.seq.pc
  unfolding edge step_of
  edge_words is given x seen =
      moved_words (effect (microword_of board store p).sequencer (pass_net board store p x) x.state.seq).stack
      (depth_of board) x.state.seq
      ∙ ap₂
      (λ (e : Effect) (sp : ℕ). with_pushed x.state.seq.stack (pushed_word e.stack (depth_of board) sp) x.state.seq.pc)
      (sym (edge_effect is given x seen)) seen.state.sp

  edge_stack : IsAtEdge board store t words m p new made end → (given : Given) (x : Scene)
      → IsSeen board store t words m p given x → (n : ℕ) → n < depth_of board
      → slice_index (edge_net board store p x).seq.stack n ≡ term_value t given (slice_index new.parts.stack n)
  edge_stack is given x seen n inside =
      ap (λ (words : List ℕ). slice_index words n) (edge_words is given x seen)
      ∙ pushed_both p.parts.stack x.state.seq.stack
      (pushed_word (effect_by (microword_of board store p) p.decided).stack (depth_of board) p.sp)
      p.parts.pc x.state.seq.pc n
      (term_value t given) (seen.state.fits.seq.size ∙ sym is.parts.stack) (omega (arith, is.parts.stack, inside))
      (seen.state.elements (StackWord n) inside) (seen.state.elements Pc tt)
      ∙ ap (λ (words : List ℕ). term_value t given (slice_index words n)) (sym is.edge.stack)

  edge_sp : IsAtEdge board store t words m p new made end → (given : Given) (x : Scene)
      → IsSeen board store t words m p given x → (edge_net board store p x).seq.sp ≡ new.sp
  unfolding edge step_of
  edge_sp is given x seen =
      moved_sp (effect (microword_of board store p).sequencer (pass_net board store p x) x.state.seq).stack
      (depth_of board) x.state.seq
      ∙ ap₂ (λ (e : Effect) (sp : ℕ). sp_after e.stack (depth_of board) sp)
      (sym (edge_effect is given x seen)) seen.state.sp
      ∙ sym is.edge.sp

  -- each element
  edge_elements : IsAtEdge board store t words m p new made end → (given : Given) (x : Scene)
      → IsSeen board store t words m p given x → (e : Element) → IsElement board e
      → value_of (edge_net board store p x) e ≡ term_value t given (term_of_part new.parts e)
  edge_elements is given x seen (Register n) inside = edge_register is given x seen n inside
  edge_elements is given x seen Q inside = edge_q is given x seen
  edge_elements is given x seen Mar inside = edge_mar is given x seen
  edge_elements is given x seen Ir inside = edge_ir is given x seen
  edge_elements is given x seen (FlipFlop n) inside = edge_flip is given x seen n inside
  edge_elements is given x seen Pc inside = edge_pc is given x seen
  edge_elements is given x seen R inside = edge_r is given x seen
  edge_elements is given x seen (StackWord n) inside = edge_stack is given x seen n inside

  -- the memory, with the write if there is one
  edge_memory : (after_write : Memory) → IsAtEdge board store t words m p new made end
      → side_writes after_write p.side
      ≡ (if (microword_of board store p).memory_write then side_writes m p.side ++ held p.parts.mar made.y ∷ []
      else side_writes m p.side)
      → (given : Given) (x : Scene) → IsSeen board store t words m p given x
      → (edge_net board store p x).memory ≡ held_by t given after_write new.side x.image
  unfolding edge
  edge_memory after_write is wrote given x seen =
      memory_after (microword_of board store p).memory_write made.y (λ x. (answer_net board store p x).y)
      is.reading.y given x seen
      ∙ ap (λ writes. after x.image (map (valued t given) writes))
      (sym (ap (side_writes after_write) is.edge.side ∙ wrote))

  -- the sequencer stays one
  edge_sequencer : IsAtEdge board store t words m p new made end → (given : Given) (x : Scene)
      → IsSeen board store t words m p given x → IsSequencer (depth_of board) (edge_net board store p x).seq
  unfolding edge step_of
  edge_sequencer is given x seen = record {
    pc = mod_below _ (2 ^ 12) (omega arith);
    r = says_below 12 end.r (λ x. (edge_net board store p x).seq.r) is.table is.leaving.r given x seen;
    words = λ i. subst (λ (words : List ℕ). slice_index words i < 2 ^ 12) (sym (edge_words is given x seen))
        (pushed_below (pushed_word (effect_by (microword_of board store p) p.decided).stack (depth_of board) p.sp)
        x.state.seq.stack x.state.seq.pc (2 ^ 12) seen.state.fits.seq.words seen.state.fits.seq.pc i);
    size = ap (λ (words : List ℕ). length words) (edge_words is given x seen)
        ∙ pushed_length (pushed_word (effect_by (microword_of board store p) p.decided).stack (depth_of board) p.sp)
        x.state.seq.stack x.state.seq.pc (depth_of board) seen.state.fits.seq.size;
    sp = subst (λ (sp : ℕ). sp ≤ depth_of board) (sym (edge_sp is given x seen ∙ is.edge.sp))
        (sp_within (effect_by (microword_of board store p) p.decided).stack (depth_of board) p.sp is.sp);
  }

  -- the state fits the board still
  edge_fits_still : IsAtEdge board store t words m p new made end → (given : Given) (x : Scene)
      → IsSeen board store t words m p given x → Fits board (edge_net board store p x)
  unfolding writes_of shift_of
  edge_fits_still is given x seen =
      let destination = destination_of (microword_of board store p).instruction in
      edge_fits board (microword_of board store p) (answer_net board store p x)
      (pass_net board store p x) x.state x.outside seen.state.fits
      (says_below 12 end.next (next_net board store p) is.table is.leaving.next given x seen)
      (edge_sequencer is given x seen)
      (says_below board.width made.y (λ x. (answer_net board store p x).y) is.table is.reading.y given x seen)
      (taken_below (writes_b destination) board.width is.edge.written
      (λ x. b_of destination board.width (answer_net board store p x).f
      (pins_of board (microword_of board store p) (answer_net board store p x) x.state x.outside)) is.table
      (says_written_b destination made.sources is.edge.written is.table is.good is.parts is.micro is.reading.sources
      is.edge.is_written) given x seen
      (unwritten_b destination board.width (answer_net board store p x).f
      (pins_of board (microword_of board store p) (answer_net board store p x) x.state x.outside)))
      (taken_below (writes_q destination) board.width is.edge.taken
      (λ x. q_of destination board.width (answer_net board store p x).f x.state.q
      (pins_of board (microword_of board store p) (answer_net board store p x) x.state x.outside)) is.table
      (says_written_q destination made.sources is.edge.taken is.table is.good is.parts is.micro is.reading.sources
      is.edge.is_taken) given x seen
      (unwritten_q destination board.width (answer_net board store p x).f x.state.q
      (pins_of board (microword_of board store p) (answer_net board store p x) x.state x.outside)))
      (flips_below board (microword_of board store p) (answer_net board store p x) x.state x.outside board.flipflop 0)

  -- the state after the edge, by the microword of the place
  edge_state : (after_write : Memory) → IsAtEdge board store t words m p new made end
      → side_writes after_write p.side
      ≡ (if (microword_of board store p).memory_write then side_writes m p.side ++ held p.parts.mar made.y ∷ []
      else side_writes m p.side)
      → (given : Given) (x : Scene) → IsSeen board store t words m p given x
      → IsStateOf board t given after_write new x.image (edge_net board store p x)
  unfolding edge
  edge_state after_write is wrote given x seen = record {
    fits = edge_fits_still is given x seen;
    at = sym (edge_next is given x seen);
    sp = edge_sp is given x seen;
    elements = edge_elements is given x seen;
    memory = edge_memory after_write is wrote given x seen;
  }

  -- the state after the cycle
  pub says_state : (after_write : Memory) → IsAtEdge board store t words m p new made end
      → side_writes after_write p.side
      ≡ (if (microword_of board store p).memory_write then side_writes m p.side ++ held p.parts.mar made.y ∷ []
      else side_writes m p.side)
      → (given : Given) (x : Scene) → IsSeen board store t words m p given x
      → IsStateOf board t given after_write new x.image (after_net board store x)
  says_state after_write is wrote given x seen =
      subst (IsStateOf board t given after_write new x.image) (sym (edge_seen given x seen))
      (edge_state after_write is wrote given x seen)
