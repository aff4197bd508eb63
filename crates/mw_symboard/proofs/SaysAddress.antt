-- What the terms of addresses say of a cycle's nets.
use Rattle.std.proofs.Common.{◌≡◌, ℕ, ◌+◌, ◌-◌, ◌*◌, ◌/◌, ◌%◌, ◌^◌, ◌<◌, ◌≤◌, List, [], ◌∷◌, length, slice_index, refl}
use Rattle.std.proofs.Common.{ap, arith, sym, ◌∙◌}
use Rattle.std.specs.Prelude.{Bool, true, false, ◌==◌, if◌then◌else◌}
use Rattle.std.proofs.lemmas.Bool.{eqb-true}
use Rattle.std.proofs.lemmas.Bool.Decides.{nat_tests}
use Rattle.std.proofs.lemmas.Nat.{mod_low}
use Rattle.mw_base.specs.Words.{part}
use Rattle.mw_board.specs.declared.parts.BoardParts.{BoardParts}
use Rattle.mw_board.specs.Depth.{depth_of}
use Rattle.mw_board.specs.Rules.{map_size}
use Rattle.mw_board.specs.Valid as valid
use Rattle.mw_cycle.specs.declared.elements.Element.TheVariants.{Ir, Pc, R, StackWord}
use Rattle.mw_cycle.specs.Cycle.{direct_address, direct_for, map_of}
use Rattle.mw_seq.specs.declared.instruction.AddressFrom.{AddressFrom}
use Rattle.mw_seq.specs.declared.instruction.AddressFrom.TheVariants as addresses
use Rattle.mw_seq.specs.declared.instruction.Instruction.{Instruction}
use Rattle.mw_seq.specs.declared.instruction.Instruction.TheVariants.{Jmap, Cjv}
use Rattle.mw_seq.specs.Instruction.{instruction_of}
use Rattle.mw_seq.specs.Sequencer.{address, top}
use Rattle.mw_term.specs.Assigned.{Given}
use Rattle.mw_term.specs.Table.{Table, IsTable}
use Rattle.mw_term.specs.declared.word.Word.{Word}
use Rattle.mw_symmem.specs.Memory.{Memory}
use Rattle.mw_symboard.specs.Made.{IsDirect, IsEntry, IsLessOne, IsNext, IsTop}
use Rattle.mw_symboard.specs.Parts.{AreParts}
use Rattle.mw_symboard.specs.Seen.{IsSeen, Progress, Says, Scene, direct_net, microword_of}
use Rattle.mw_symboard.proofs.Meaning.{says_element, says_piece}
use Rattle.mw_symboard.proofs.Saying.{says_as, says_below, says_con, says_part, says_same, says_sum, says_tab}

-- a list without items has 0 at each place
no_items : (xs : List ℕ) (n : ℕ) → length xs ≡ 0 → 0 ≡ slice_index xs n
no_items [] n none = refl
no_items (x ∷ xs) n none = absurd (omega (arith, none))

-- a number of 12 bits less one, as a sum
less_one_sum : (r : ℕ) → 0 < r → r < 2 ^ 12 → (r + 4095 + 0) % 2 ^ 12 ≡ r - 1
less_one_sum r some below =
    let whole : r + 4095 + 0 ≡ 1 * 2 ^ 12 + (r - 1) = omega arith in
    ap (λ (n : ℕ). n % 2 ^ 12) whole ∙ mod_low 1 12 (r - 1) (omega arith)

-- the last of some words is one of those there are
last_below : (sp depth : ℕ) → (sp == 0) ≡ false → sp ≤ depth → sp - 1 < depth
last_below sp depth some within = grind (arith, nat_tests)

module _ {board : BoardParts} {store : List ℕ} {t : Table} {words : List Word} {m : Memory} {p : Progress} where
  -- what the map gives, where it has bits or none
  says_entry : (none : Bool) (term : ℕ) → (board.map_bits == 0) ≡ none → IsTable t → valid.IsBoard board
      → AreParts board t p.parts → t.map ≡ board.map_entries → IsEntry none board t p.parts.ir term
      → Says board store t words m p 12 term (λ x. map_of board x.state)
  says_entry true term none table good parts map is =
      let bits : board.map_bits ≡ 0 = eqb-true board.map_bits 0 none in
      let size : length board.map_entries ≡ 0 = good.map.size ∙ ap map_size bits in
      says_as 12 term (λ x. 0) (λ x. map_of board x.state) (says_con 0 12 term table is)
      (λ given x seen. no_items board.map_entries (part board.map_low board.map_bits x.state.ir) size)
  says_entry false term some table good parts map is =
      says_as 12 term (λ x. slice_index t.map (part board.map_low board.map_bits x.state.ir))
      (λ x. map_of board x.state)
      (says_tab board.map_bits is.0 term (λ x. part board.map_low board.map_bits x.state.ir) table is.2
      (says_piece board.width p.parts.ir board.map_low board.map_bits is.0 (λ x. x.state.ir) table is.1
      (says_element Ir parts tt)))
      (λ given x seen.
      ap (λ (entries : List ℕ). slice_index entries (part board.map_low board.map_bits x.state.ir)) map)

  -- the address at the Am2910's D, in an instruction
  says_direct_for : (instruction : Instruction) (term : ℕ) → IsTable t → valid.IsBoard board → AreParts board t p.parts
      → t.map ≡ board.map_entries → IsDirect instruction board (microword_of board store p) t p.parts.ir term
      → Says board store t words m p 12 term (λ x. direct_for instruction board (microword_of board store p) x.state)
  says_direct_for Jmap term table good parts map is =
      says_entry (board.map_bits == 0) term refl table good parts map is
  says_direct_for Cjv term table good parts map is = says_con board.vector 12 term table is
  says_direct_for instruction term table good parts map is =
      says_con (microword_of board store p).branch 12 term table is

  -- the address at the Am2910's D
  pub says_direct : (term : ℕ) → IsTable t → valid.IsBoard board → AreParts board t p.parts → t.map ≡ board.map_entries
      → IsDirect (instruction_of (microword_of board store p).sequencer) board
      (microword_of board store p) t p.parts.ir term
      → Says board store t words m p 12 term (direct_net board store p)
  unfolding direct_address
  says_direct term table good parts map is =
      says_direct_for (instruction_of (microword_of board store p).sequencer) term table good parts map is

  -- the top of the stack, where that is empty or not
  says_top : (empty : Bool) (noise term : ℕ) → (p.sp == 0) ≡ empty → IsTable t → AreParts board t p.parts
      → p.sp ≤ depth_of board → Says board store t words m p 14 noise (λ x. x.outside.noise)
      → IsTop empty t p.parts p.sp noise term
      → Says board store t words m p 12 term (λ x. top x.state.seq x.outside.noise)
  unfolding top
  says_top true noise term empty table parts within says is =
      says_as 12 term (λ x. part 0 12 x.outside.noise) (λ x. top x.state.seq x.outside.noise)
      (says_part 14 noise 0 12 term (λ x. x.outside.noise) table is says)
      (λ given x seen.
      let one : x.outside.noise / 2 ^ 0 ≡ x.outside.noise = omega arith in
      let zero_test : (x.state.seq.sp == 0) ≡ true = ap (λ (n : ℕ). n == 0) seen.state.sp ∙ empty in
      ap (λ (n : ℕ). n % 2 ^ 12) one
      ∙ ap (λ (b : Bool). if b then x.outside.noise % 2 ^ 12 else slice_index x.state.seq.stack (x.state.seq.sp - 1))
      (sym zero_test))
  says_top false noise term some table parts within says is =
      let below : p.sp - 1 < depth_of board = last_below p.sp (depth_of board) some within in
      says_as 12 term (λ x. slice_index x.state.seq.stack (p.sp - 1)) (λ x. top x.state.seq x.outside.noise)
      (says_same 12 (slice_index p.parts.stack (p.sp - 1)) term (λ x. slice_index x.state.seq.stack (p.sp - 1)) is
      (says_element (StackWord (p.sp - 1)) parts below))
      (λ given x seen.
      let zero_test : (x.state.seq.sp == 0) ≡ false = ap (λ (n : ℕ). n == 0) seen.state.sp ∙ some in
      ap (λ (n : ℕ). slice_index x.state.seq.stack (n - 1)) (sym seen.state.sp)
      ∙ ap (λ (b : Bool). if b then x.outside.noise % 2 ^ 12 else slice_index x.state.seq.stack (x.state.seq.sp - 1))
      (sym zero_test))

  -- the next address, from where it comes
  pub says_next : (noise direct : ℕ) (from : AddressFrom) (term : ℕ) → IsTable t → AreParts board t p.parts
      → p.sp ≤ depth_of board → Says board store t words m p 14 noise (λ x. x.outside.noise)
      → Says board store t words m p 12 direct (direct_net board store p)
      → IsNext t p.parts p.sp noise direct from term
      → Says board store t words m p 12 term
      (λ x. address from (direct_net board store p x) x.outside.noise x.state.seq)
  says_next noise direct addresses.Zero term table parts within says says_address is = says_con 0 12 term table is
  says_next noise direct addresses.Pc term table parts within says says_address is =
      says_same 12 p.parts.pc term (λ x. x.state.seq.pc) is (says_element Pc parts tt)
  says_next noise direct addresses.D term table parts within says says_address is =
      says_same 12 direct term (direct_net board store p) is says_address
  says_next noise direct addresses.R term table parts within says says_address is =
      says_same 12 p.parts.r term (λ x. x.state.seq.r) is (says_element R parts tt)
  says_next noise direct addresses.F term table parts within says says_address is =
      says_top (p.sp == 0) noise term refl table parts within says is

  -- a counter less one, where it is not 0
  pub says_less_one : (r term : ℕ) (f : Scene → ℕ)
      → IsTable t → IsLessOne t r term → Says board store t words m p 12 r f
      → ((given : Given) (x : Scene) → IsSeen board store t words m p given x → 0 < f x)
      → Says board store t words m p 12 term (λ x. f x - 1)
  says_less_one r term f table is says some =
      says_as 12 term (λ x. (f x + 4095 + 0) % 2 ^ 12) (λ x. f x - 1)
      (says_sum 12 r is.0 is.1 term f (λ x. 4095) (λ x. false) table is.4 says (says_con 4095 12 is.0 table is.2)
      (says_con 0 1 is.1 table is.3))
      (λ given x seen. less_one_sum (f x) (some given x seen) (says_below 12 r f table says given x seen))
