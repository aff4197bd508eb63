-- A cycle that is done: its bits, its event, its clock and the state after it.
use Rattle.std.proofs.Common.{◌≡◌, ℕ, ◌+◌, ◌≤◌, List, [], ◌∷◌, ◌++◌, length, map, refl, ap, ap₂, arith, sym, ◌∙◌}
use Rattle.std.specs.Prelude.{Bool, true, false, Option, Some, None, option_map, if◌then◌else◌}
use Rattle.std.specs.Option.{option_to_list}
use Rattle.mw_base.specs.declared.event.Event.{Event}
use Rattle.mw_base.specs.declared.event.Event.TheVariants as events
use Rattle.mw_board.specs.declared.bit.DFrom.{DFrom}
use Rattle.mw_board.specs.declared.bit.DFrom.TheVariants as sources
use Rattle.mw_board.specs.declared.parts.BoardParts.{BoardParts}
use Rattle.mw_board.specs.Depth.{depth_of}
use Rattle.mw_board.specs.Store.{word_at}
use Rattle.mw_board.specs.Valid as valid
use Rattle.mw_cycle.specs.SteadyEnvironment.{Clock}
use Rattle.mw_cycle.specs.Cycle.{answer_of, event_from, from_source, nets_of}
use Rattle.mw_cycle.specs.Microword.{IsMicroword, points_of}
use Rattle.mw_cycle.specs.SteadyRun.{clock_after}
use Rattle.mw_cycle.specs.State.{BoardState}
use Rattle.mw_term.specs.Assigned.{Given}
use Rattle.mw_term.specs.MemoryRead.{held}
use Rattle.mw_term.specs.Table.{Table, IsTable}
use Rattle.mw_term.specs.Values.{term_value}
use Rattle.mw_term.specs.declared.event.SymEvent.{SymEvent}
use Rattle.mw_term.specs.declared.word.Word.{Word}
use Rattle.mw_term.specs.declared.side.Side.{Side}
use Rattle.mw_symmem.specs.Memory.{Memory, held_by, writes_of}
use Rattle.mw_symboard.specs.declared.leaving.Leaving.{Leaving}
use Rattle.mw_symboard.specs.declared.reading.Reading.{Reading}
use Rattle.mw_symboard.specs.Cycle.{IsEdge, IsLeaving, IsReading, bits_before}
use Rattle.mw_symboard.specs.Parts.{AreParts}
use Rattle.mw_cycle.specs.BoardTerms.{Parts, term_of_part}
use Rattle.mw_symboard.specs.Seen.{IsSeen, IsStateOf, Progress, Scene, after_net, answer_net, microword_of}
use Rattle.mw_symboard.specs.Shown.{shown, taken_after}
use Rattle.mw_symboard.specs.Turns.{IsDone, Symbolic, clock_of, event_of}
use Rattle.mw_symboard.proofs.SaysDecided.{seen_all}
use Rattle.mw_symboard.proofs.SaysLeaving.{says_leaving}
use Rattle.mw_symboard.proofs.SaysReading.{says_reading}
use Rattle.mw_symboard.specs.Nets.{SaysReading}
use Rattle.mw_symboard.proofs.SaysState.{IsAtEdge, says_state}

-- the event of a cycle whose control address this is
abbrev event_at : BoardParts → List ℕ → Scene → (at : ℕ) → Option Event
event_at board store x at =
    let m = points_of board (word_at board store at) in
    event_from m.d.from m.out (answer_of board m x.state x.outside).y x.outside

-- the terms of what is shown have the values of the event
event_by : (t : Table) (given : Given) (board : BoardParts) (word : ℕ) (from : DFrom) (out : Bool) (source y value : ℕ)
    (x : Scene)
    → term_value t given source ≡ from_source board word from x.state x.outside → term_value t given y ≡ value
    → option_map (event_of t given) (shown from out source y) ≡ event_from from out value x.outside
unfolding from_source
event_by t given board word sources.Input out source y value x source_is y_is =
    ap (λ (n : ℕ). Some (events.Taken n)) source_is
event_by t given board word from true source y value x source_is y_is = ap (λ (n : ℕ). Some (events.Out n)) y_is
event_by t given board word from false source y value x source_is y_is = refl

-- and of what was shown before, with what is shown
events_both : (t : Table) (given : Given) (before : List SymEvent) (o : Option SymEvent)
    → map (event_of t given) (before ++ option_to_list o)
    ≡ map (event_of t given) before ++ option_to_list (option_map (event_of t given) o)
events_both t given [] None = refl
events_both t given [] (Some e) = refl
events_both t given (e ∷ before) o =
    ap (λ (rest : List Event). event_of t given e ∷ rest) (events_both t given before o)

-- a clock of these
abbrev clock_record : (cycle taken : ℕ) → Clock
clock_record cycle taken = record { cycle = cycle; taken = taken }

-- the clock after a cycle, by its source of D
clock_by : (from : DFrom) (out : Bool) (y cycle taken : ℕ) (x : Scene)
    → clock_after (event_from from out y x.outside) (clock_record cycle taken)
    ≡ clock_record (cycle + 1) (taken_after from taken)
clock_by sources.Input out y cycle taken x = refl
clock_by from true y cycle taken x = refl
clock_by from false y cycle taken x = refl

-- a state of a place is one of each place with the same address, stack pointer and parts
pub state_of_same : (board : BoardParts) (t : Table) (given : Given) (m : Memory) (p new : Progress) (image : List ℕ)
    (s : BoardState) → new.side ≡ p.side → new.at ≡ p.at → new.sp ≡ p.sp → new.parts ≡ p.parts → IsStateOf board t given m p image s
    → IsStateOf board t given m new image s
state_of_same board t given m p new image s same at sp parts is = record {
  fits = is.fits;
  at = is.at ∙ sym at;
  sp = is.sp ∙ sym sp;
  elements = λ e inside. is.elements e inside ∙ ap (λ (q : Parts). term_value t given (term_of_part q e)) (sym parts);
  memory = is.memory ∙ ap (λ (side : Side). held_by t given m side image) (sym same);
}

module _ {board : BoardParts} {store : List ℕ} {t : Table} {words : List Word} {m : Memory} {p : Progress} where
  -- the event of a cycle that is seen
  event_seen : (given : Given) (x : Scene) → IsSeen board store t words m p given x
      → (nets_of board store x.state x.outside).event
      ≡ event_from (microword_of board store p).d.from (microword_of board store p).out
      (answer_net board store p x).y x.outside
  unfolding nets_of
  event_seen given x seen = ap (event_at board store x) seen.state.at

  -- what is shown has the values of the cycle's event
  pub says_shown : (made : Reading) → SaysReading board store t words m p made → (given : Given) (x : Scene)
      → IsSeen board store t words m p given x
      → option_map (event_of t given)
      (shown (microword_of board store p).d.from (microword_of board store p).out made.source made.y)
      ≡ (nets_of board store x.state x.outside).event
  says_shown made says given x seen =
      event_by t given board (microword_of board store p).word (microword_of board store p).d.from
      (microword_of board store p).out made.source made.y (answer_net board store p x).y x
      (says.source.value given x seen) (says.y.value given x seen)
      ∙ sym (event_seen given x seen)

-- what was made of a place when its cycle ends
pub at_edge : (board : BoardParts) (store : List ℕ) (t : Table) (words : List Word) (m : Memory) (p new : Progress)
    (made : Reading) (end : Leaving) → IsTable t → valid.IsBoard board → AreParts board t p.parts
    → IsMicroword board (microword_of board store p) → t.map ≡ board.map_entries → p.sp ≤ depth_of board
    → bits_before (microword_of board store p) + 12 ≤ length p.decided
    → IsReading board (microword_of board store p) t words m p made
    → IsLeaving board (microword_of board store p) t p made.sources.noise end
    → IsEdge board (microword_of board store p) t p new made end → IsAtEdge board store t words m p new made end
at_edge board store t words m p new made end table good parts micro map sp known reading leaving edge =
    let says = says_reading made table good parts micro reading in
    record {
      table = table;
      good = good;
      parts = parts;
      micro = micro;
      sp = sp;
      known = known;
      reading = says;
      leaving = says_leaving end made.sources.noise table good parts micro map sp
          (omega (arith, known)) says.sources.noise leaving;
      edge = edge;
    }

-- A symbolic board that has taken its edge, shown its event and counted its cycle is done.
pub says_done : (board : BoardParts) (store : List ℕ) (t : Table) (words : List Word) (m mnew : Memory)
    (old new : Symbolic) (edged : Progress) (made : Reading) (end : Leaving)
    → IsAtEdge board store t words m old.place edged made end
    → new.place.side ≡ edged.side → new.place.at ≡ edged.at → new.place.sp ≡ edged.sp → new.place.parts ≡ edged.parts
    → new.place.cycle ≡ old.place.cycle + 1
    → new.place.taken ≡ taken_after (microword_of board store old.place).d.from old.place.taken
    → new.events ≡ old.events ++ option_to_list (shown (microword_of board store old.place).d.from
    (microword_of board store old.place).out made.source made.y)
    → writes_of mnew old.place.side
    ≡ (if (microword_of board store old.place).memory_write
    then writes_of m old.place.side ++ held old.place.parts.mar made.y ∷ [] else writes_of m old.place.side)
    → (given : Given) (x : Scene) → IsSeen board store t words m old.place given x
    → IsDone board store t words m mnew old new given x
says_done board store t words m mnew old new edged made end is same at sp parts cycle taken shows wrote given x seen =
    record {
      bits = seen_all given x seen is.known;
      state = state_of_same board t given mnew edged new.place x.image (after_net board store x) same at sp parts
          (says_state mnew is wrote given x seen);
      events = ap (map (event_of t given)) shows
          ∙ events_both t given old.events (shown (microword_of board store old.place).d.from
          (microword_of board store old.place).out made.source made.y)
          ∙ ap (λ (o : Option Event). map (event_of t given) old.events ++ option_to_list o)
          (says_shown made is.reading given x seen);
      clock = ap₂ (λ (c n : ℕ). clock_record c n) cycle taken
          ∙ sym (clock_by (microword_of board store old.place).d.from (microword_of board store old.place).out
          (answer_net board store old.place x).y old.place.cycle old.place.taken x)
          ∙ ap (λ (o : Option Event). clock_after o (clock_of old.place)) (sym (event_seen given x seen));
    }
