-- The end of a symbolic cycle, and the turns that it makes together.
use Rattle.std.proofs.Common.{◌≡◌, ℕ, zero, suc, ◌+◌, ◌<◌, ◌≤◌, ◌^◌, List, [], ◌∷◌, ◌++◌, length, map, refl, ap, arith}
use Rattle.std.proofs.Common.{sym, subst, ◌∙◌, append-nil}
use Rattle.std.specs.Option.{option_to_list}
use Rattle.std.specs.Prelude.{Bool, true, false, Option, Some, None, slice_get, if◌then◌else◌}
use Rattle.std.proofs.lemmas.Option.{same_Some}
use Rattle.mw_board.specs.declared.bit.DFrom.{DFrom}
use Rattle.mw_board.specs.declared.bit.DFrom.TheVariants as sources
use Rattle.mw_board.specs.declared.parts.BoardParts.{BoardParts}
use Rattle.mw_board.specs.Depth.{depth_of}
use Rattle.mw_board.specs.Valid.{IsBoard}
use Rattle.mw_cycle.specs.declared.elements.Element.TheVariants.{Mar}
use Rattle.mw_cycle.specs.Microword.{IsMicroword}
use Rattle.mw_cycle.specs.Cycle.{nets_of}
use Rattle.mw_cycle.specs.SteadyRun.{clock_after}
use Rattle.mw_term.specs.declared.kinds.WordKind.{WordKind}
use Rattle.mw_term.specs.declared.decided.DecidedKind.{DecidedKind}
use Rattle.mw_term.specs.Assigned.{Given}
use Rattle.mw_term.specs.MemoryRead.{Held, held}
use Rattle.mw_term.specs.Table.{Table}
use Rattle.mw_term.specs.declared.side.Side.{Side}
use Rattle.mw_term.specs.declared.side.Side.TheVariants as side
use Rattle.mw_term.specs.declared.event.SymEvent.{SymEvent}
use Rattle.mw_term.specs.declared.event.SymEvent.TheVariants.{Out, Taken}
use Rattle.mw_symmem.specs.declared.turn.Turn.{Turn}
use Rattle.mw_symmem.specs.declared.turn.Turn.TheVariants.{Ask}
use Rattle.mw_term.specs.declared.word.Word.{Word}
use Rattle.mw_symmem.specs.Memory.{Memory, memory_of, IsOfWidth, writes_of}
use Rattle.mw_symmem.specs.Workspace.{GoesOn, IsWorkspace, KeepsWrites, ReadsMore}
use Rattle.mw_symmem.proofs.Later.{goes_by_growth, goes_then, reads_itself, reads_with_write, workspace_with_write}
use Rattle.mw_symboard.specs.declared.reading.Reading.{Reading}
use Rattle.mw_symboard.specs.declared.leaving.Leaving.{Leaving}
use Rattle.mw_symboard.specs.Cycle.{IsEdge, IsReading, bits_before}
use Rattle.mw_symboard.specs.Growth.{Grew}
use Rattle.mw_symboard.specs.Kinds.{HaveWidths}
use Rattle.mw_symboard.specs.Parts.{AreParts}
use Rattle.mw_symboard.specs.Seen.{Progress, Scene, IsSeen, microword_of}
use Rattle.mw_symboard.specs.Shown.{shown, taken_after}
use Rattle.mw_symboard.specs.Turns.{Symbolic, AreEvents, AreNoLater, Asks, HasRead, IsDone, IsSymbolic, IsTurn, Leaves}
use Rattle.mw_symboard.specs.Turns.{clock_of, cycle_left, event_of, event_term, other_side, shown_by, with_reads, written_if}
use Rattle.mw_symboard.proofs.SaysDone.{at_edge, says_done}
use Rattle.mw_symboard.proofs.SaysState.{IsAtEdge}
use Rattle.mw_symboard.proofs.Standing.{parts_stay}
use Rattle.mw_symboard.proofs.Staying.{leaving_stays, reading_stays}
use Rattle.mw_symboard.proofs.Turning.{leaving_known, read_known}

-- what showing an event changes, and what it leaves
pub record ShownKeeps (from : DFrom) (out : Bool) (source y : ℕ) (o : Symbolic) : Type 0 where
  pub side : (shown_by from out source y o).place.side ≡ o.place.side
  pub at : (shown_by from out source y o).place.at ≡ o.place.at
  pub sp : (shown_by from out source y o).place.sp ≡ o.place.sp
  pub parts : (shown_by from out source y o).place.parts ≡ o.place.parts
  pub cycle : (shown_by from out source y o).place.cycle ≡ o.place.cycle
  pub taken : (shown_by from out source y o).place.taken ≡ taken_after from o.place.taken
  pub events : (shown_by from out source y o).events ≡ o.events ++ option_to_list (shown from out source y)
  pub reading : (shown_by from out source y o).reading ≡ o.reading
  pub leaving : (shown_by from out source y o).leaving ≡ o.leaving
  pub asked : (shown_by from out source y o).asked ≡ o.asked

pub shown_keeps : (from : DFrom) (out : Bool) (source y : ℕ) (o : Symbolic) → ShownKeeps from out source y o
shown_keeps sources.Input out source y o = record {
  side = refl;
  at = refl;
  sp = refl;
  parts = refl;
  cycle = refl;
  taken = refl;
  events = refl;
  reading = refl;
  leaving = refl;
  asked = refl;
}
shown_keeps from true source y o = record {
  side = refl;
  at = refl;
  sp = refl;
  parts = refl;
  cycle = refl;
  taken = refl;
  events = refl;
  reading = refl;
  leaving = refl;
  asked = refl;
}
shown_keeps from false source y o = record {
  side = refl;
  at = refl;
  sp = refl;
  parts = refl;
  cycle = refl;
  taken = refl;
  events = sym (append-nil o.events);
  reading = refl;
  leaving = refl;
  asked = refl;
}

pub taken_few : (from : DFrom) (n : ℕ) → taken_after from n ≤ n + 1
taken_few sources.Input n = omega arith
taken_few from n = omega arith

-- ---- the memory

-- the writes of a side
pub written_own : (write : Bool) (m : Memory) (own : Side) (address value : ℕ)
    → writes_of (written_if write m own address value) own
    ≡ (if write then writes_of m own ++ held address value ∷ [] else writes_of m own)
written_own true m side.Board address value = refl
written_own true m side.Machine address value = refl
written_own false m own address value = refl

-- and of the other
pub written_other : (write : Bool) (m : Memory) (own : Side) (address value : ℕ)
    → writes_of (written_if write m own address value) (other_side own) ≡ writes_of m (other_side own)
written_other true m side.Board address value = refl
written_other true m side.Machine address value = refl
written_other false m own address value = refl

pub written_reads : (write : Bool) (m : Memory) (own : Side) (address value : ℕ)
    → (written_if write m own address value).reads ≡ m.reads
written_reads true m side.Board address value = refl
written_reads true m side.Machine address value = refl
written_reads false m own address value = refl

pub written_more : (write : Bool) (m : Memory) (own : Side) (address value : ℕ)
    → ReadsMore m (written_if write m own address value)
written_more true m own address value = reads_with_write m own (held address value)
written_more false m own address value = reads_itself m

pub written_workspace : (write : Bool) (t : Table) (words : List Word) (m : Memory) (own : Side) (address value : ℕ)
    → IsOfWidth t m.address address → IsOfWidth t m.word value → IsWorkspace t words m
    → IsWorkspace t words (written_if write m own address value)
written_workspace true t words m own address value narrow wide workspace =
    workspace_with_write t words m own (held address value) workspace (record { address = narrow; word = wide })
written_workspace false t words m own address value narrow wide workspace = workspace

-- ---- the end of a cycle

shown_wide : (board : BoardParts) (t : Table) (from : DFrom) (out : Bool) (source y k : ℕ) (e : SymEvent)
    → IsOfWidth t board.width source → IsOfWidth t board.width y
    → slice_get (option_to_list (shown from out source y)) k ≡ Some e → IsOfWidth t board.width (event_term e)
shown_wide board t sources.Input out source y zero e source_wide y_wide is =
    subst (λ (x : SymEvent). IsOfWidth t board.width (event_term x)) (same_Some (Taken source) e is) source_wide
shown_wide board t sources.Input out source y (suc k) e source_wide y_wide is = absurd cc
shown_wide board t from true source y zero e source_wide y_wide is =
    subst (λ (x : SymEvent). IsOfWidth t board.width (event_term x)) (same_Some (Out y) e is) y_wide
shown_wide board t from true source y (suc k) e source_wide y_wide is = absurd cc
shown_wide board t from false source y k e source_wide y_wide is = absurd cc

-- the events of a list and of another behind it
both_wide : (board : BoardParts) (t : Table) (first second : List SymEvent) → AreEvents board t first
    → AreEvents board t second → AreEvents board t (first ++ second)
both_wide board t [] second one two k e is = two k e is
both_wide board t (x ∷ first) second one two zero e is = one zero e is
both_wide board t (x ∷ first) second one two (suc k) e is =
    both_wide board t first second (λ j f at. one (suc j) f at) two k e is

none_read : (board : BoardParts) (store : List ℕ) (t : Table) (words : List Word) (m : Memory) (p : Progress)
    (read : Option Reading)
    → read ≡ None → p.decided ≡ [] → AreNoLater p.side p.cycle words → HasRead board store t words m p read
none_read board store t words m p read is decided none =
    subst (λ (x : Option Reading). HasRead board store t words m p x) (sym is) (decided, none)

none_leaves : (board : BoardParts) (store : List ℕ) (t : Table) (p : Progress) (read : Option Reading)
    (leaving : Option Leaving) → read ≡ None → leaving ≡ None → p.decided ≡ [] → Leaves board store t p read leaving
none_leaves board store t p read leaving is_read is_left decided =
    let count : length p.decided ≡ 0 = ap length decided in
    subst (λ (x : Option Reading). Leaves board store t p x leaving) (sym is_read)
    (subst (λ (x : Option Leaving). Leaves board store t p None x) (sym is_left) (omega (arith, count)))

-- it is symbolic still
pub ended_symbolic : (board : BoardParts) (store : List ℕ) (t : Table) (words : List Word) (m : Memory) (from : DFrom)
    (out : Bool) (source y : ℕ) (e : Symbolic) → e.place.at < 2 ^ 12 → e.place.sp ≤ depth_of board
    → AreParts board t e.place.parts → HaveWidths e.place.side board t words → AreEvents board t e.events
    → IsOfWidth t board.width source → IsOfWidth t board.width y
    → AreNoLater e.place.side (e.place.cycle + 1) words
    → e.reading ≡ None → e.leaving ≡ None
    → IsSymbolic board store t words m (cycle_left (shown_by from out source y e))
ended_symbolic board store t words m from out source y e at sp parts widths events source_wide y_wide none read left =
    let keeps = shown_keeps from out source y e in
    record {
      at = subst (λ (n : ℕ). n < 2 ^ 12) (sym keeps.at) at;
      sp = subst (λ (n : ℕ). n ≤ depth_of board) (sym keeps.sp) sp;
      parts = rw keeps.parts parts;
      line = λ term own. absurd cc;
      widths = subst (λ (s : Side). HaveWidths s board t words) (sym keeps.side) widths;
      events = rw keeps.events
          (both_wide board t e.events (option_to_list (shown from out source y)) events
          (λ k f is. shown_wide board t from out source y k f source_wide y_wide is));
      reading = none_read board store t words m (cycle_left (shown_by from out source y e)).place
          (shown_by from out source y e).reading (keeps.reading ∙ read) refl
          (subst (λ (s : Side). AreNoLater s ((shown_by from out source y e).place.cycle + 1) words) (sym keeps.side)
          (subst (λ (n : ℕ). AreNoLater e.place.side (n + 1) words) (sym keeps.cycle) none));
      leaving = none_leaves board store t (cycle_left (shown_by from out source y e)).place
          (shown_by from out source y e).reading (shown_by from out source y e).leaving (keeps.reading ∙ read)
          (keeps.leaving ∙ left) refl;
      few = omega arith;
    }

-- it is done
pub ended_done : (board : BoardParts) (store : List ℕ) (t : Table) (words : List Word) (m mnew : Memory)
    (old e : Symbolic) (made : Reading) (end : Leaving)
    → IsAtEdge board store t words m old.place e.place made end
    → e.place.cycle ≡ old.place.cycle → e.place.taken ≡ old.place.taken → e.events ≡ old.events
    → writes_of mnew old.place.side
    ≡ (if (microword_of board store old.place).memory_write
    then writes_of m old.place.side ++ held old.place.parts.mar made.y ∷ [] else writes_of m old.place.side)
    → (given : Given) (x : Scene) → IsSeen board store t words m old.place given x
    → IsDone board store t words m mnew old (cycle_left (shown_by (microword_of board store old.place).d.from
    (microword_of board store old.place).out made.source made.y e)) given x
ended_done board store t words m mnew old e made end is cycle taken events wrote given x seen =
    let from = (microword_of board store old.place).d.from in
    let out = (microword_of board store old.place).out in
    let keeps = shown_keeps from out made.source made.y e in
    says_done board store t words m mnew old
    (cycle_left (shown_by from out made.source made.y e)) e.place made end is keeps.side keeps.at
    keeps.sp keeps.parts (ap (λ (n : ℕ). n + 1) (keeps.cycle ∙ cycle)) (keeps.taken ∙ ap (taken_after from) taken)
    (keeps.events ∙ ap (λ (es : List SymEvent). es ++ option_to_list (shown from out made.source made.y)) events)
    wrote given x seen

-- ---- turns

-- a memory with further reads alone
pub with_reads_is : (old new : Memory) → ReadsMore old new → KeepsWrites old new → new ≡ with_reads old new.reads
with_reads_is old new reads writes =
    ap (λ (n : ℕ). memory_of n new.word new.reads new.board new.machine) reads.address
    ∙ ap (λ (n : ℕ). memory_of old.address n new.reads new.board new.machine) reads.word
    ∙ ap (λ (hs : List Held). memory_of old.address old.word new.reads hs new.machine) (writes.each side.Board)
    ∙ ap (λ (hs : List Held). memory_of old.address old.word new.reads old.board hs) (writes.each side.Machine)

-- words that are no variables, and a write, behind what went before
pub goes_further : (K : WordKind → Type 0) (a b c : Table) (wa wb wc : List Word) (ma mb mc : Memory)
    → GoesOn K a b wa wb ma mb → Grew b c wb wc → ReadsMore mb mc → IsWorkspace c wc mc → GoesOn K a c wa wc ma mc
goes_further K a b c wa wb wc ma mb mc first grew reads workspace =
    let next = goes_by_growth K b c wb wc mb grew.0 grew.1 first.workspace in
    goes_then K a b c wa wb wc ma mb mc first
    (record {
      later = next.later;
      more = next.more;
      words = next.words;
      kinds = next.kinds;
      reads = reads;
      workspace = workspace;
    })

-- a cycle that is done, from an older memory and an older record of the board that say the same
pub done_from : (board : BoardParts) (store : List ℕ) (t : Table) (words : List Word) (m mid mnew : Memory)
    (old begun new : Symbolic) → begun.place ≡ old.place → begun.events ≡ old.events → mid ≡ with_reads m mnew.reads
    → ((given : Given) (x : Scene) → IsSeen board store t words mid begun.place given x
    → IsDone board store t words mid mnew begun new given x)
    → (given : Given) (x : Scene) → IsSeen board store t words (with_reads m mnew.reads) old.place given x
    → IsDone board store t words m mnew old new given x
done_from board store t words m mid mnew old begun new place events memory done given x seen =
    let there : IsSeen board store t words mid begun.place given x =
    subst (λ (p : Progress). IsSeen board store t words mid p given x) (sym place)
    (subst (λ (n : Memory). IsSeen board store t words n old.place given x) (sym memory) seen) in
    let is = done given x there in
    record {
      bits = is.bits ∙ ap (λ (p : Progress). p.decided) place;
      state = is.state;
      events = is.events ∙ ap (λ (es : List SymEvent). map (event_of t given) es
          ++ option_to_list (nets_of board store x.state x.outside).event) events;
      clock = is.clock
          ∙ ap (λ (p : Progress). clock_after (nets_of board store x.state x.outside).event (clock_of p)) place;
    }

-- what the edge is taken with, over the table at the end of the cycle
pub at_the_end : (board : BoardParts) (store : List ℕ) (told tnew : Table) (wold wnew : List Word) (m : Memory)
    (o before after : Symbolic) (r : Reading) (l : Leaving) → IsBoard board
    → IsMicroword board (microword_of board store o.place) → told.map ≡ board.map_entries → IsWorkspace told wold m
    → IsSymbolic board store told wold m o → o.reading ≡ Some r → o.leaving ≡ Some l → Grew told tnew wold wnew
    → length o.place.decided ≡ bits_before (microword_of board store o.place) + 12 → before.place ≡ o.place
    → IsEdge board (microword_of board store o.place) tnew before.place after.place r l
    → IsAtEdge board store tnew wnew m o.place after.place r l
at_the_end board store told tnew wold wnew m o before after r l good micro map workspace is is_read is_left grew
    all place edge =
    let made = grew.0 in
    let goes = goes_by_growth (λ kind. ⊥) told tnew wold wnew m made grew.1 workspace in
    let mar = (is.parts.wide Mar tt).there in
    let read = (read_known board store told wold m o.place o.reading r is_read is.reading).0 in
    let left = (leaving_known board store told o.place o.reading o.leaving r l is_read is_left is.leaving).0 in
    let later = reading_stays board (microword_of board store o.place)
    told tnew wold made m o.place r workspace goes.later mar read in
    at_edge board store tnew wnew m o.place after.place r l goes.workspace.table good
    (parts_stay board told tnew o.place.parts goes.later.extends goes.later.keeps is.parts) micro
    (goes.later.extends.map ∙ map) is.sp (omega (arith, all))
    (subst (λ (ws : List Word). IsReading board (microword_of board store o.place) tnew ws m o.place r)
    (sym grew.1.words) later)
    (leaving_stays board (microword_of board store o.place) told tnew o.place r.sources.noise l goes.later left)
    (subst (λ (p : Progress). IsEdge board (microword_of board store o.place) tnew p after.place r l) place edge)

-- a turn that asks for a bit
pub asked_turn : (board : BoardParts) (store : List ℕ) (t : Table) (words : List Word) (m mid : Memory)
    (old begun new : Symbolic) (turn : Turn) → begun.place ≡ old.place → begun.events ≡ old.events
    → mid ≡ with_reads m mid.reads → new.place ≡ begun.place → new.events ≡ begun.events
    → ((kind : DecidedKind) × (term : ℕ) × (turn ≡ Ask kind term) × Asks board store t words mid new kind term)
    → IsTurn board store t words m mid old new turn
asked_turn board store t words m mid old begun new turn place events memory same_place same_events asks =
    subst (λ (x : Turn). IsTurn board store t words m mid old new x) (sym asks.2)
    (same_place ∙ place, same_events ∙ events, memory, asks.3)
