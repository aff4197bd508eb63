-- The words of a described step, along the branch bits that are known.
use Rattle.std.specs.Prelude.{ℕ, ◌+◌, ◌-◌, List, [], ◌∷◌, ◌++◌, length, drop, take, Bool, if◌then◌else◌, slice_set}
use Rattle.std.specs.Prelude.{Option, Some, None}
use Rattle.mw_expr.specs.declared.shape.Shape.{Shape}
use Rattle.mw_expr.specs.Tree.{Tree}
use Rattle.mw_macro.specs.ExpressionWords.{expression_words}
use Rattle.mw_macro.specs.Machine.{Description}
use Rattle.mw_macro.specs.Statements.{Act, assign, write, put, take_in, choose, Acts, nothing, next}
use Rattle.mw_term.specs.declared.event.SymEvent.{SymEvent}
use Rattle.mw_term.specs.declared.event.SymEvent.TheVariants.{Out, Taken}
use Rattle.mw_term.specs.MemoryRead.{Held, held}
use Rattle.mw_term.specs.WordList.{WordList, Ended, AllEnded, with_constant, with_input}

-- What there is between two statements: the list, the terms of the elements, the machine's writes, the events so far,
-- and how many inputs were taken.
pub record Underway : Type 0 where
  pub list : WordList
  pub elements : List ℕ
  pub writes : List Held
  pub events : List SymEvent
  pub taken : ℕ

-- the list, terms, writes, events and inputs taken
abbrev pub underway : WordList → (elements : List ℕ) → (writes : List Held) → List SymEvent → (taken : ℕ) → Underway
underway list elements writes events taken =
    record { list = list; elements = elements; writes = writes; events = events; taken = taken }

-- How far a step has come: what there is, the bits that it hasn't met, and where an `if` wants another one, the term of
-- its condition.
pub record Come : Type 0 where
  pub to : Underway
  pub bits : List Bool
  pub asked : Option ℕ

-- it goes on
abbrev pub going : List Bool → Underway → Come
going bits u = record { to = u; bits = bits; asked = None }

-- it stops at a condition
abbrev pub stopped : (term : ℕ) → Underway → Come
stopped term u = record { to = u; bits = []; asked = Some term }

-- the same from what is asked
abbrev pub come : (asked : Option ℕ) → List Bool → Underway → Come
come None bits u = going bits u
come (Some term) bits u = stopped term u

-- an element gets the term of an expression
abbrev pub assign_words : Shape → (target : ℕ) → Tree → Underway → Underway
assign_words s target e u =
    let value = expression_words s u.elements u.writes e u.list in
    underway value.list (slice_set u.elements target value.term) u.writes u.events u.taken

-- the memory gets a word: the words of the address stand before those of the value
abbrev pub write_words : Shape → (address value : Tree) → Underway → Underway
write_words s address e u =
    let place = expression_words s u.elements u.writes address u.list in
    let value = expression_words s u.elements u.writes e place.list in
    underway value.list u.elements (u.writes ++ held place.term value.term ∷ []) u.events u.taken

-- a word is put out
abbrev pub put_words : Shape → Tree → Underway → Underway
put_words s e u =
    let value = expression_words s u.elements u.writes e u.list in
    underway value.list u.elements u.writes (u.events ++ Out value.term ∷ []) u.taken

-- an element gets the variable of the next input
abbrev pub take_words : Shape → (target : ℕ) → Underway → Underway
take_words s target u =
    let input = with_input u.taken s.word u.list in
    underway input.list (slice_set u.elements target input.term) u.writes
    (u.events ++ Taken input.term ∷ []) (u.taken + 1)

-- the words of a condition, and the term at which they end
abbrev pub condition_words : Shape → Tree → Underway → Ended
condition_words s e u = expression_words s u.elements u.writes e u.list

-- what there is with another list
abbrev pub with_list : WordList → Underway → Underway
with_list list u = underway list u.elements u.writes u.events u.taken

-- what is behind acts is done where these are done
abbrev pub then_by : Option ℕ → List Bool → Underway → (behind : List Bool → Underway → Come) → Come
then_by None bits u behind = behind bits u
then_by (Some term) bits u behind = stopped term u

-- the same from how far the acts have come
abbrev pub then_behind : Come → (behind : List Bool → Underway → Come) → Come
then_behind c behind = then_by c.asked c.bits c.to behind

-- The words of an act. Those of an `if` are those of its condition and, where its bit is known, of the acts that it
-- chooses.
abbrev mutual
  pub act_words : Shape → Act → List Bool → Underway → Come
  act_words s (assign target e) bits u = going bits (assign_words s target e u)
  act_words s (write address e) bits u = going bits (write_words s address e u)
  act_words s (put e) bits u = going bits (put_words s e u)
  act_words s (take_in target) bits u = going bits (take_words s target u)
  act_words s (choose condition one other) [] u =
      let asked = condition_words s condition u in
      stopped asked.term (with_list asked.list u)
  act_words s (choose condition one other) (bit ∷ bits) u =
      let asked = condition_words s condition u in
      if bit then acts_words s one bits (with_list asked.list u) else acts_words s other bits (with_list asked.list u)

  -- the words of acts, one after another, up to a condition that wants a bit
  pub acts_words : Shape → Acts → List Bool → Underway → Come
  acts_words s nothing bits u = going bits u
  acts_words s (next act rest) bits u = then_behind (act_words s act bits u) (acts_words s rest)

-- ---- before the first statement

-- a constant 0 for each of some widths, behind some terms
abbrev pub with_zeros : (widths terms : List ℕ) → WordList → AllEnded
with_zeros [] terms l = record { list = l; terms = terms }
with_zeros (w ∷ widths) terms l =
    let zero = with_constant 0 w l in
    with_zeros widths (terms ++ zero.term ∷ []) zero.list

-- The temporaries are 0, and the last element is the request; nothing was written yet on this side but these writes,
-- there is no event, and no input was taken.
abbrev pub begun_words : Description → (registers : List ℕ) → (request : ℕ) → (writes : List Held) → WordList → Underway
begun_words d registers request writes l =
    let elements = with_zeros (take (length d.names - d.registers) (drop d.registers d.shape.widths)) registers l in
    underway elements.list (elements.terms ++ request ∷ []) writes [] 0

-- The words of a step from terms for the registers and the request, along its branch bits.
unfoldable pub step_words : Description → (registers : List ℕ) → (request : ℕ) → (writes : List Held) → List Bool
    → WordList → Come
step_words d registers request writes bits l = acts_words d.shape d.acts bits (begun_words d registers request writes l)
