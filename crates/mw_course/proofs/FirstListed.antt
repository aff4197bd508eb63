-- A run that stands at a boundary has the whole word list of its case before it.
use Rattle.std.proofs.Common.{◌≡◌, ℕ, ◌+◌, ◌<◌, ◌≤◌, List, [], drop, length, length-drop, length-take-le, take}
use Rattle.std.proofs.Common.{slice_index, ap, arith, refl, subst, sym, ◌∙◌}
use Rattle.std.proofs.lemmas.Grind.{same_number_lists}
use Rattle.std.proofs.lemmas.List.{get_or-drop, get_or-take}
use Rattle.mw_term.specs.declared.side.Side.TheVariants.{Board}
use Rattle.std.specs.Prelude.{Option, None}
use Rattle.mw_term.specs.declared.side.Side.{Side}
use Rattle.mw_symmem.specs.Memory.{writes_of}
use Rattle.mw_symboard.specs.Parts.{HasElements}
use Rattle.mw_board.specs.declared.parts.BoardParts.{BoardParts}
use Rattle.mw_board.specs.Depth.{depth_of}
use Rattle.mw_board.specs.Elements.{element_count}
use Rattle.mw_board.proofs.Elements.{count_of}
use Rattle.mw_cycle.specs.declared.elements.Element.{Element}
use Rattle.mw_cycle.specs.declared.elements.Element.TheVariants.{Register, Q, Mar, Ir, FlipFlop, Pc, R, StackWord}
use Rattle.mw_cycle.specs.BoardTerms.{Parts, Standing, term_of_part}
use Rattle.mw_cycle.specs.Elements.{IsElement, pc_number}
use Rattle.mw_term.specs.declared.event.SymEvent.{SymEvent}
use Rattle.mw_term.specs.MemoryRead.{Held}
use Rattle.mw_term.specs.Table.{Table}
use Rattle.mw_term.specs.WordList.{AllEnded}
use Rattle.mw_symboard.specs.Along.{standing_in}
use Rattle.mw_symboard.specs.Laws.{IsBeginning}
use Rattle.mw_symboard.specs.Parts.{AreParts}
use Rattle.mw_symboard.specs.Turns.{Symbolic}
use Rattle.mw_symboard.proofs.Begun.{has_number, number_below, number_of_element}
use Rattle.mw_symboard.proofs.PartElements.{AreFrom, parts_are}
use Rattle.mw_rel.specs.CaseWords.{along_cycles, parts_with, registers_in, standing_at, words_along}
use Rattle.mw_rel.specs.Free.{numbered}
use Rattle.mw_rel.specs.Job.{Job}
use Rattle.mw_rel.specs.Relation.{Boundary}
use Rattle.mw_rel.specs.StartWords.{start_words}
use Rattle.mw_space.specs.declared.space.Space.{Space}
use Rattle.mw_course.specs.Listed.{ComesTo, all_ended, left_of_cycles, list_of_space, standing_on}
use Rattle.mw_course.specs.Starts.{registers_of}

-- ---- the terms of its elements

-- terms by their numbers, as parts
parts_from : (board : BoardParts) (terms : List ℕ) → AreFrom board terms (parts_with board terms)
parts_from board terms = record {
  regs = λ k inside. get_or-take 16 terms k 0 inside;
  q = refl;
  mar = refl;
  ir = refl;
  flips = λ k inside. get_or-take (length board.flipflop) (drop 19 terms) k 0 inside ∙ get_or-drop 19 terms k 0;
  pc = refl;
  r = refl;
  stack = λ k inside.
      get_or-take (depth_of board) (drop (pc_number board + 2) terms) k 0 inside
      ∙ get_or-drop (pc_number board + 2) terms k 0;
}

-- an element of a new board has its term among these parts
part_same : (board : BoardParts) (terms : List ℕ) (o : Symbolic) (e : Element)
    → HasElements board (take (element_count board) terms) o.place.parts
    → IsElement board e → term_of_part (parts_with board terms) e ≡ term_of_part o.place.parts e
part_same board terms o e new is =
    let p = parts_with board terms in
    let n = number_of_element board e in
    let below = number_below board e is in
    subst (λ (f : Element). term_of_part p f ≡ term_of_part o.place.parts f) (has_number board e is)
    (parts_are board terms p (parts_from board terms) n below
    ∙ sym (get_or-take (element_count board) terms n 0 below) ∙ sym (new n below))

-- some terms from one on are a list that is as long and has them
same_taken : (terms xs : List ℕ) (from count : ℕ) → from + count ≤ length terms → length xs ≡ count
    → ((k : ℕ) → k < count → slice_index (take count (drop from terms)) k ≡ slice_index xs k)
    → take count (drop from terms) ≡ xs
same_taken terms xs from count enough size each =
    let long : length (take count (drop from terms)) ≡ count =
    length-take-le count (drop from terms) (omega (arith, length-drop from terms, enough)) in
    same_number_lists (take count (drop from terms)) xs (long ∙ sym size)
    (λ k inside. each k (omega (arith, inside, long)))

same_parts : (a b : Parts) → a.regs ≡ b.regs → a.q ≡ b.q → a.mar ≡ b.mar → a.ir ≡ b.ir → a.flips ≡ b.flips → a.pc ≡ b.pc
    → a.r ≡ b.r → a.stack ≡ b.stack → a ≡ b
same_parts a b regs q mar ir flips pc r stack = ap made (rw (regs, q, mar, ir, flips, pc, r, stack) refl)
  where
    made : List ℕ × ℕ × ℕ × ℕ × List ℕ × ℕ × ℕ × List ℕ → Parts
    made all = record {
      regs = all.0;
      q = all.1;
      mar = all.2;
      ir = all.3;
      flips = all.4;
      pc = all.5;
      r = all.6;
      stack = all.7;
    }

pub parts_first : (board : BoardParts) (t : Table) (terms : List ℕ) (o : Symbolic) → element_count board ≤ length terms
    → AreParts board t o.place.parts → HasElements board (take (element_count board) terms) o.place.parts
    → parts_with board terms ≡ o.place.parts
parts_first board t terms o enough are new =
    let p = o.place.parts in
    let count = count_of board in
    let same : (e : Element) → IsElement board e → term_of_part (parts_with board terms) e ≡ term_of_part p e =
    λ e is. part_same board terms o e new is in
    same_parts (parts_with board terms) p
    (same_taken terms p.regs 0 16 (omega (arith, count, enough)) are.sixteen (λ k inside. same (Register k) inside))
    (same Q tt) (same Mar tt) (same Ir tt)
    (same_taken terms p.flips 19 (length board.flipflop) (omega (arith, count, enough)) are.flips
    (λ k inside. same (FlipFlop k) inside))
    (same Pc tt) (same R tt)
    (same_taken terms p.stack (pc_number board + 2) (depth_of board) (omega (arith, count, enough)) are.stack
    (λ k inside. same (StackWord k) inside))

-- ---- where it stands

pub same_standings : (a b : Standing) → a.side ≡ b.side → a.at ≡ b.at → a.sp ≡ b.sp → a.parts ≡ b.parts
    → a.writes ≡ b.writes → a.events ≡ b.events → a.cycle ≡ b.cycle → a.taken ≡ b.taken → a.line ≡ b.line → a ≡ b
same_standings a b side at sp parts writes events cycle taken line =
    ap made (rw (side, at, sp, parts, writes, events, cycle, taken, line) refl)
  where
    made : Side × ℕ × ℕ × Parts × List Held × List SymEvent × ℕ × ℕ × Option ℕ → Standing
    made all = record {
      side = all.0;
      at = all.1;
      sp = all.2;
      parts = all.3;
      writes = all.4;
      events = all.5;
      cycle = all.6;
      taken = all.7;
      line = all.8;
    }

standing_first : (board : BoardParts) (boundary : Boundary) (t : Table) (terms : List ℕ) (o : Symbolic)
    (writes : List Held)
    → element_count board ≤ length terms → AreParts board t o.place.parts
    → HasElements board (take (element_count board) terms) o.place.parts
    → IsBeginning Board boundary.address boundary.sp None o → writes ≡ []
    → standing_at board boundary terms ≡ standing_in o writes
standing_first board boundary t terms o writes enough are has new none =
    same_standings (standing_at board boundary terms) (standing_in o writes) (sym new.side_is) (sym new.at)
    (sym new.sp_is) (parts_first board t terms o enough are has) (sym none) (sym new.events) (sym new.cycle)
    (sym new.taken) (sym new.line_is)

-- ---- the word list

pub first_listed : (job : Job) (number : ℕ) (space : Space) (elements registers : List ℕ) (o : Symbolic)
    → element_count job.board ≤ length elements → AreParts job.board space.terms o.place.parts
    → HasElements job.board (take (element_count job.board) elements) o.place.parts
    → IsBeginning Board (numbered job number).address (numbered job number).sp None o → space.memory.board ≡ []
    → registers ≡ registers_of job elements
    → start_words job.relation.shape (numbered job number) ≡ all_ended elements (list_of_space space)
    → ComesTo job number [] (left_of_cycles job space registers o (numbered job number).bound)
unfolding words_along
first_listed job number space elements registers o enough are has new none own listed further =
    let boundary = numbered job number in
    let l = list_of_space space in
    let standing =
    standing_first job.board boundary space.terms elements o (writes_of space.memory o.place.side) enough are has new
    (ap (writes_of space.memory) new.side_is ∙ none) in
    ap (λ (start : AllEnded). along_cycles job (registers_in job.board start.terms) boundary.bound
    (standing_at job.board boundary start.terms) further start.list) listed
    ∙ ap (λ s. along_cycles job (registers_of job elements) boundary.bound s further l) standing
    ∙ ap (λ rs. along_cycles job rs boundary.bound (standing_on space o) further l) (sym own)
