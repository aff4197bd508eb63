-- A board on terms is a run of the board.
use Rattle.std.proofs.Common.{◌≡◌, ◌⊎◌, inl, inr, ℕ, suc, ◌+◌, ◌<◌, List, [], ◌∷◌, ◌++◌, length, map, slice_index}
use Rattle.std.proofs.Common.{append-nil, append_assoc, refl, ap, ap₂, sym, subst, ◌∙◌}
use Rattle.std.specs.Option.{option_or, option_to_list}
use Rattle.std.specs.Prelude.{◌==◌, Bool, true, false, if◌then◌else◌, Option, Some, None, slice_get}
use Rattle.mw_base.specs.Words.{num}
use Rattle.mw_base.specs.declared.event.Event.{Event}
use Rattle.mw_base.specs.declared.event.Event.TheVariants as events
use Rattle.mw_board.specs.declared.parts.BoardParts.{BoardParts}
use Rattle.mw_term.specs.declared.decided.Decided.{Decided}
use Rattle.mw_cycle.specs.declared.elements.Element.{Element}
use Rattle.mw_cycle.specs.SteadyEnvironment.{Clock}
use Rattle.mw_cycle.specs.Cycle.{nets_of}
use Rattle.mw_cycle.specs.Decided.{decided}
use Rattle.mw_cycle.specs.SteadyDecided.{bits_of_cycle}
use Rattle.mw_cycle.specs.Elements.{element_of, value_of}
use Rattle.mw_cycle.specs.SteadyEnvironment.{Environment, at_start, given_at}
use Rattle.mw_cycle.specs.SteadyRun.{BoardRun, clock_after, longer_run}
use Rattle.mw_cycle.specs.State.{BoardState}
use Rattle.mw_cycle.proofs.Values.{is_element}
use Rattle.mw_term.specs.declared.event.SymEvent.{SymEvent}
use Rattle.mw_term.specs.declared.event.SymEvent.TheVariants.{Out, Taken}
use Rattle.mw_term.specs.declared.decided.DecidedKind.{DecidedKind}
use Rattle.mw_term.specs.declared.kinds.WordKind.{WordKind}
use Rattle.mw_term.specs.declared.kinds.WordKind.TheVariants.{Input}
use Rattle.mw_term.specs.declared.side.Side.{Side}
use Rattle.mw_term.specs.declared.side.Side.TheVariants.{Board, Machine}
use Rattle.mw_cycle.specs.SteadySeries as lists
use Rattle.mw_cycle.specs.SteadySeries.{kind_of}
use Rattle.mw_cycle.proofs.Lists.{bit_at}
use Rattle.mw_term.specs.declared.word.Word.{Word}
use Rattle.mw_term.specs.Assigned.{Given}
use Rattle.mw_term.specs.MemoryRead.{Held}
use Rattle.mw_term.specs.Table.{Table}
use Rattle.mw_term.specs.Values.{Keeps, term_value}
use Rattle.mw_term.specs.WordList.{is_of, same_kind, term_of, variable}
use Rattle.mw_symmem.specs.declared.turn.Turn.TheVariants.{Ask, Finished}
use Rattle.mw_symmem.specs.Kinds.{kind_is}
use Rattle.mw_symmem.specs.Words.{IsVariable}
use Rattle.mw_symmem.proofs.Lists.{behind}
use Rattle.std.proofs.lemmas.Option.{same_Some}
use Rattle.mw_symmem.specs.Memory.{AreHeld, Memory, IsMemory, IsOfWidth, after, valued, writes_of}
use Rattle.mw_symmem.specs.Workspace.{IsLater, ReadsMore}
use Rattle.mw_symmem.proofs.Later.{image_before, images_fit_before, valued_stays}
use Rattle.mw_symboard.specs.Laws.{BeginsWith, BitsAreFirst, BitsAreOfTheRun, Course, ElementsHaveTerms, FitsSoFar}
use Rattle.mw_symboard.specs.Laws.{IsBeginning, IsEnvironmentOf, IsInRun, RunsBegin, RunsFitBefore, RunsStay}
use Rattle.mw_symboard.specs.Laws.{TurnsAreOfTheRun, bits_in, run_in}
use Rattle.mw_symboard.specs.Parts.{AreParts, HasElements}
use Rattle.mw_cycle.specs.BoardTerms.{term_of_part}
use Rattle.mw_symboard.specs.Seen.{AreFirst, IsOutside, IsSeen, IsStateOf, Progress, Scene}
use Rattle.mw_symboard.specs.Turns.{Symbolic, AreEvents, IsDone, clock_of, event_of, event_term, with_reads}
use Rattle.mw_symboard.proofs.Begun.{has_number, number_below, number_of_element}
use Rattle.mw_symboard.proofs.RunBits.{bits_next, bits_none, first_next, first_of, first_of_run, next_of_cycle}
use Rattle.mw_symboard.proofs.RunBits.{next_of_run, run_next, run_none}
use Rattle.mw_symboard.proofs.Standing.{parts_stay}
use Rattle.mw_symboard.proofs.Staying.{events_stay}

-- ---- values stay

-- the writes of a side have the memory's widths
pub writes_held : (side : Side) (t : Table) (words : List Word) (m : Memory) → IsMemory t words m
    → AreHeld t m.address m.word (writes_of m side)
writes_held Board t words m memory = memory.board
writes_held Machine t words m memory = memory.machine

-- base reads write nothing
pub reads_write_nothing : (side : Side) (m : Memory) (reads : List Held)
    → writes_of (with_reads m reads) side ≡ writes_of m side
reads_write_nothing Board m reads = refl
reads_write_nothing Machine m reads = refl

-- a state has the values of the parts still, while its side writes nothing
state_stays : (board : BoardParts) (told tnew : Table) (words : List Word) (mold mnew : Memory) (given : Given)
    (p : Progress) (image : List ℕ) (s : BoardState) → IsLater told tnew → IsMemory told words mold
    → writes_of mnew p.side ≡ writes_of mold p.side → AreParts board told p.parts → IsStateOf board told given mold p image s
    → IsStateOf board tnew given mnew p image s
state_stays board told tnew words mold mnew given p image s later memory writes parts is = record {
  fits = is.fits;
  at = is.at;
  sp = is.sp;
  elements = λ e own.
      is.elements e own ∙ sym (later.keeps.values given (term_of_part p.parts e) (parts.wide e own).there);
  memory = is.memory
      ∙ ap (after image) (sym (valued_stays told tnew given mold.address mold.word (writes_of mold p.side) later.keeps
      (writes_held p.side told words mold memory)))
      ∙ ap (λ (hs : List Held). after image (map (valued tnew given) hs)) (sym writes);
}

event_stays : (told tnew : Table) (given : Given) (e : SymEvent) → Keeps told tnew → event_term e < length told.ops
    → event_of tnew given e ≡ event_of told given e
event_stays told tnew given (Out term) keeps there = ap events.Out (keeps.values given term there)
event_stays told tnew given (Taken term) keeps there = ap events.Taken (keeps.values given term there)

-- and so do events
event_values : (board : BoardParts) (told tnew : Table) (given : Given) (es : List SymEvent) → Keeps told tnew
    → AreEvents board told es → map (event_of tnew given) es ≡ map (event_of told given) es
event_values board told tnew given [] keeps are = refl
event_values board told tnew given (e ∷ es) keeps are =
    ap₂ (λ (x : Event) (xs : List Event). x ∷ xs) (event_stays told tnew given e keeps (are 0 e refl).there)
    (event_values board told tnew given es keeps (λ k f is. are (suc k) f is))

-- a board stays in its run
in_run_stays : (board : BoardParts) (store : List ℕ) (told tnew : Table) (words : List Word) (mold mnew : Memory)
    (o : Symbolic) (given : Given) (x : Course) (bits : List Decided) → IsMemory told words mold → IsLater told tnew
    → writes_of mnew o.place.side ≡ writes_of mold o.place.side → AreParts board told o.place.parts
    → AreEvents board told o.events → ((term : ℕ) → o.place.line ≡ Some term → IsOfWidth told 1 term)
    → IsInRun board store told mold given x o bits → IsInRun board store tnew mnew given x o bits
in_run_stays board store told tnew words mold mnew o given x bits memory later writes parts es line is = record {
  clock = is.clock;
  state = state_stays board told tnew words mold mnew given o.place x.image
      (run_in board store x o.place.cycle).state later memory writes parts is.state;
  line = λ term own. later.keeps.values given term (line term own).there ∙ is.line term own;
  events = is.events ∙ sym (event_values board told tnew given o.events later.keeps es);
  first = is.first;
  bits = is.bits;
}

pub runs_stay : RunsStay
runs_stay board store told tnew words mold mnew o workspace later writes parts es line = (
  parts_stay board told tnew o.place.parts later.extends later.keeps parts,
  events_stay board told tnew o.events later es,
  λ given x bits is. in_run_stays board store told tnew words mold mnew o given x bits workspace.memory later writes
      parts es line is,
)

-- ---- the start

clock_at : ℕ → ℕ → Clock
clock_at cycle taken = record { cycle = cycle; taken = taken }

-- a state from which a run begins has the values of a new board's parts
new_state : (board : BoardParts) (t : Table) (m : Memory) (given : Given) (x : Course) (terms : List ℕ) (side : Side)
    (at sp : ℕ) (line : Option ℕ) (o : Symbolic) → HasElements board terms o.place.parts
    → IsBeginning side at sp line o → writes_of m side ≡ [] → BeginsWith board t given terms at sp line x
    → IsStateOf board t given m o.place x.image x.start
new_state board t m given x terms side at sp line o has new none begins = record {
  fits = begins.fits;
  at = begins.address ∙ sym new.at;
  sp = begins.depth ∙ sym new.sp_is;
  elements = λ e own.
      let n = number_of_element board e in
      let below = number_below board e own in
      subst (λ (f : Element). value_of x.start f ≡ term_value t given (term_of_part o.place.parts f))
      (has_number board e own)
      (begins.elements n below ∙ ap (term_value t given) (sym (has n below)));
  memory = begins.memory ∙ ap (λ (hs : List Held). after x.image (map (valued t given) hs))
      (sym (ap (writes_of m) new.side_is ∙ none));
}

pub runs_begin : RunsBegin
unfolding clock_at
runs_begin board store t m given x terms side at sp line o has new none begins =
    let clock : clock_of o.place ≡ at_start = ap₂ clock_at new.cycle new.taken in
    let run = ap (run_in board store x) new.cycle ∙ run_none board store x.env x.start in
    let own = bits_of_cycle board store x.env x.start o.place.cycle in
    record {
      clock = ap (λ (r : BoardRun). r.clock) run ∙ sym clock;
      state = subst (λ (s : BoardState). IsStateOf board t given m o.place x.image s)
          (sym (ap (λ (r : BoardRun). r.state) run))
          (new_state board t m given x terms side at sp line o has new none begins);
      line = λ term own.
          begins.first_line term (sym new.line_is ∙ own)
          ∙ ap (λ (k : Clock). num (given_at x.env k).line) (sym clock);
      events = ap (λ (r : BoardRun). r.events) run ∙ ap (map (event_of t given)) (sym new.events);
      first = subst (λ (ds : List Decided). AreFirst ds own) (sym new.decided) (first_of [] own);
      bits = sym (ap₂ (λ (xs ys : List Decided). xs ++ ys)
          (ap (bits_in board store x) new.cycle ∙ bits_none board store x.env x.start) new.decided);
    }

-- ---- a turn

same_if : (b : Bool) (own kind : WordKind) (a term : ℕ) (rest : Option ℕ) → (b ≡ true → own ≡ kind)
    → (if b then Some a else rest) ≡ Some term → ((a ≡ term) × (own ≡ kind)) ⊎ (rest ≡ Some term)
same_if true own kind a term rest same is = inl (same_Some a term is, same refl)
same_if false own kind a term rest same is = inr is

first_or_rest : (w : Word) (o : Option WordKind) (kind : WordKind) (term : ℕ) (rest : Option ℕ) → w.kind ≡ o
    → (if is_of o kind then Some w.term else rest) ≡ Some term → (w ≡ variable term kind) ⊎ (rest ≡ Some term)
first_or_rest w None kind term rest is found = inr found
first_or_rest w (Some own) kind term rest is found =
    elim (same_if (same_kind own kind) own kind w.term term rest (kind_is own kind) found) [
      | inl h ↦ inl (ap₂ word_of h.0 (is ∙ ap Some h.1))
      | inr h ↦ inr h
    ]
  where
    word_of : ℕ → Option WordKind → Word
    word_of term kind = record { term = term; kind = kind }

-- the term of a kind is that of a variable of the list
pub variable_of : (words : List Word) (kind : WordKind) (term : ℕ) → term_of words kind ≡ Some term
    → (place : ℕ) × IsVariable words place term kind
variable_of [] kind term is = absurd cc
variable_of (w ∷ words) kind term is = elim (first_or_rest w w.kind kind term (term_of words kind) refl is) [
  | inl h ↦ (0, ap Some h)
  | inr h ↦ let behind = variable_of words kind term h in (suc behind.0, behind.1)
]

-- what is so of each of two terms, of which the second is that where the first is missing
pub of_either : (P : ℕ → Type 0) (first second : Option ℕ) (term : ℕ) → ((one : ℕ) → first ≡ Some one → P one)
    → ((one : ℕ) → second ≡ Some one → P one) → option_or first second ≡ Some term → P term
of_either P (Some one) second term so other is = subst P (same_Some one term is) (so one refl)
of_either P None second term so other is = other term is

-- what the outside has for the cycle at a place
outside_of : (board : BoardParts) (t : Table) (words : List Word) (given : Given) (env : Environment) (p : Progress)
    (k : Clock) → k ≡ clock_of p → IsEnvironmentOf p.side board t words given env
    → ((term : ℕ) → p.line ≡ Some term → term_value t given term ≡ num (given_at env (clock_of p)).line)
    → IsOutside board t given words p (given_at env k)
outside_of board t words given env p k same is line =
    subst (λ (c : Clock). IsOutside board t given words p (given_at env c)) (sym same)
    (record {
      line = λ term. of_either (λ a. term_value t given a ≡ num (given_at env (clock_of p)).line) p.line
          (term_of words (kind_of p.side lists.Line p.cycle)) term line
          (λ a found.
          let v = variable_of words (kind_of p.side lists.Line p.cycle) a found in
          sym (is.values lists.Line p.cycle v.0 a v.1) ∙ bit_at env.line p.cycle);
      noise = λ term found.
          let v = variable_of words (kind_of p.side lists.Noise p.cycle) term found in
          sym (is.values lists.Noise p.cycle v.0 term v.1);
      input = λ term found.
          let v = variable_of words (Input p.taken) term found in
          sym (is.values lists.Inputs p.taken v.0 term v.1);
      noise_below = is.within.values lists.Noise p.cycle;
      input_below = is.within.values lists.Inputs p.taken;
    })

-- a cycle of a run as a scene
abbrev scene_of : BoardParts → List ℕ → Course → ℕ → Scene
scene_of board store x n =
    let run = run_in board store x n in
    record { image = x.image; state = run.state; outside = given_at x.env run.clock }

-- the cycle that a board is in is seen in that of its run
seen_in_run : (board : BoardParts) (store : List ℕ) (told tnew : Table) (wold wnew : List Word) (mold mnew : Memory)
    (o : Symbolic) (given : Given) (x : Course) (bits : List Decided) → IsMemory told wold mold → IsLater told tnew
    → ReadsMore mold mnew → AreParts board told o.place.parts → FitsSoFar o.place.side board tnew wnew mnew given x
    → ((term : ℕ) → o.place.line ≡ Some term → IsOfWidth told 1 term)
    → IsInRun board store told mold given x o bits
    → IsSeen board store tnew wnew (with_reads mold mnew.reads) o.place given (scene_of board store x o.place.cycle)
seen_in_run board store told tnew wold wnew mold mnew o given x bits memory later reads parts fits line is =
    let before = image_before mold mnew x.image reads fits.image in
    let run = run_in board store x o.place.cycle in
    record {
      image = record { size = before.size; words = before.words };
      fit = fits.fit;
      state = state_stays board told tnew wold mold
          (with_reads mold mnew.reads) given o.place x.image run.state later memory
          (reads_write_nothing o.place.side mold mnew.reads) parts is.state;
      outside = outside_of board tnew wnew given x.env o.place run.clock is.clock fits.outside
          (λ term own. later.keeps.values given term (line term own).there ∙ is.line term own);
      first = is.first;
    }

-- a board at the same place, with the same events, is in the same run
in_run_same : (board : BoardParts) (store : List ℕ) (t : Table) (m : Memory) (old new : Symbolic) (given : Given)
    (x : Course) (bits : List Decided) → new.place ≡ old.place → new.events ≡ old.events
    → IsInRun board store t m given x old bits
    → IsInRun board store t m given x new bits
in_run_same board store t m old new given x bits place es is = record {
  clock = subst (λ (p : Progress). (run_in board store x p.cycle).clock ≡ clock_of p) (sym place) is.clock;
  state = subst (λ (p : Progress). IsStateOf board t given m p x.image (run_in board store x p.cycle).state)
      (sym place) is.state;
  line = λ term own.
      subst (λ (p : Progress). term_value t given term ≡ num (given_at x.env (clock_of p)).line) (sym place)
      (is.line term (ap (λ (p : Progress). p.line) (sym place) ∙ own));
  events = subst (λ (p : Progress). (run_in board store x p.cycle).events ≡ map (event_of t given) old.events)
      (sym place) is.events
      ∙ ap (map (event_of t given)) (sym es);
  first = subst (λ (p : Progress). AreFirst p.decided (bits_of_cycle board store x.env x.start p.cycle))
      (sym place) is.first;
  bits = subst (λ (p : Progress). bits ≡ bits_in board store x p.cycle ++ p.decided) (sym place) is.bits;
}

-- a board whose cycle is done is in its run, with all bits of that cycle
in_run_done : (board : BoardParts) (store : List ℕ) (told tnew : Table) (words : List Word) (mold mnew : Memory)
    (old new : Symbolic) (given : Given) (x : Course) (bits : List Decided) → IsLater told tnew
    → AreEvents board told old.events → new.place.decided ≡ [] → new.place.cycle ≡ old.place.cycle + 1
    → new.place.line ≡ None
    → IsInRun board store told mold given x old bits
    → IsDone board store tnew words mold mnew old new given (scene_of board store x old.place.cycle)
    → IsInRun board store tnew mnew given x new bits × (bits_in board store x new.place.cycle ≡ bits)
unfolding longer_run
in_run_done board store told tnew words mold mnew old new given x bits later es none cycle no_line is done =
    let run = run_in board store x old.place.cycle in
    let event : Option Event = (nets_of board store run.state (given_at x.env run.clock)).event in
    let longer : run_in board store x new.place.cycle ≡ longer_run board store x.env run =
    ap (run_in board store x) cycle ∙ run_next board store x.env x.start old.place.cycle in
    let own = bits_of_cycle board store x.env x.start new.place.cycle in
    let all : bits_in board store x new.place.cycle ≡ bits =
    ap (bits_in board store x) cycle
    ∙ bits_next board store x.env x.start old.place.cycle
    ∙ ap (λ (xs : List Decided). bits_in board store x old.place.cycle ++ xs) done.bits
    ∙ sym is.bits in (
      record {
        clock = ap (λ (r : BoardRun). r.clock) longer ∙ ap (clock_after event) is.clock ∙ sym done.clock;
        state = subst (λ (s : BoardState). IsStateOf board tnew given mnew new.place x.image s)
            (sym (ap (λ (r : BoardRun). r.state) longer)) done.state;
        line = λ term own. absurd cc;
        events = ap (λ (r : BoardRun). r.events) longer
            ∙ ap (λ (xs : List Event). xs ++ option_to_list event)
            (is.events ∙ sym (event_values board told tnew given old.events later.keeps es))
            ∙ sym done.events;
        first = subst (λ (ds : List Decided). AreFirst ds own) (sym none) (first_of [] own);
        bits = sym all
            ∙ sym (append-nil (bits_in board store x new.place.cycle))
            ∙ ap (λ (ds : List Decided). bits_in board store x new.place.cycle ++ ds) (sym none);
      },
      all,
    )

not_finished : (kind : DecidedKind) (term : ℕ) → Ask kind term ≡ Finished → ⊥
not_finished kind term is = cc

finished_not : (kind : DecidedKind) (term : ℕ) → Finished ≡ Ask kind term → ⊥
finished_not kind term is = cc

same_asked : (kind other : DecidedKind) (term that : ℕ) → Ask kind term ≡ Ask other that → (kind ≡ other)
    × (term ≡ that)
same_asked kind other term that is = (cc, cc)

pub turns_are_of_the_run : TurnsAreOfTheRun
turns_are_of_the_run board store told tnew wold wnew mold mnew old new
    (Ask kind term) given x bits workspace symbolic goes turn fits is =
    let seen = seen_in_run board store told tnew wold wnew mold mnew old given x bits workspace.memory goes.later
    goes.reads
    symbolic.parts fits symbolic.line is in
    let writes : writes_of mnew old.place.side ≡ writes_of mold old.place.side =
    ap (λ (m : Memory). writes_of m old.place.side) turn.2 ∙ reads_write_nothing old.place.side mold mnew.reads in
    let later = in_run_stays board store told tnew wold mold mnew old given x bits workspace.memory goes.later writes
    symbolic.parts symbolic.events symbolic.line is in
    let now = in_run_same board store tnew mnew old new given x bits turn.0 turn.1 later in
    let scene = scene_of board store x old.place.cycle in
    let there : IsSeen board store tnew wnew mnew new.place given scene =
    subst (λ (p : Progress). IsSeen board store tnew wnew mnew p given scene) (sym turn.0)
    (subst (λ (m : Memory). IsSeen board store tnew wnew m old.place given scene) (sym turn.2) seen) in
    let next : slice_get (bits_of_cycle board store x.env x.start new.place.cycle) (length new.place.decided)
    ≡ Some (decided kind (term_value tnew given term == 1)) =
    ap (λ (p : Progress). slice_get (bits_of_cycle board store x.env x.start p.cycle) (length new.place.decided)) turn.0
    ∙ turn.3.next given scene there in (
      now,
      λ other that asks n less.
          let same = same_asked kind other term that asks in
          next_of_run board store x.env x.start new.place.cycle n bits new.place.decided
          (decided other (term_value tnew given that == 1)) less now.bits
          (next ∙ ap₂ (λ (k : DecidedKind) (a : ℕ). Some (decided k (term_value tnew given a == 1))) same.0 same.1),
      λ done. absurd (not_finished kind term done),
    )
turns_are_of_the_run board store told tnew wold wnew mold mnew old new Finished given x bits workspace symbolic goes
    turn fits is =
    let seen = seen_in_run board store told tnew wold wnew mold mnew old given x bits workspace.memory goes.later
    goes.reads
    symbolic.parts fits symbolic.line is in
    let done = in_run_done board store told tnew wnew mold mnew old new given x bits goes.later symbolic.events turn.1
    turn.2 turn.5 is
    (turn.6 given (scene_of board store x old.place.cycle) seen) in (
      done.0,
      λ kind term asks. absurd (finished_not kind term asks),
      λ ends. done.1,
    )

-- ---- bits

pub bits_are_of_the_run : BitsAreOfTheRun
bits_are_of_the_run board store t m o kind value given x bits is next =
    let bit = decided kind value in
    record {
      clock = is.clock;
      state = record {
        fits = is.state.fits;
        at = is.state.at;
        sp = is.state.sp;
        elements = is.state.elements;
        memory = is.state.memory;
      };
      line = is.line;
      events = is.events;
      first = first_next o.place.decided (bits_of_cycle board store x.env x.start o.place.cycle) bit is.first
          (next_of_cycle board store x.env x.start o.place.cycle bits o.place.decided bit is.bits next);
      bits = ap (λ (xs : List Decided). xs ++ bit ∷ []) is.bits
          ∙ append_assoc (bits_in board store x o.place.cycle) o.place.decided (bit ∷ []);
    }

pub bits_are_first : BitsAreFirst
bits_are_first board store t m o given x bits is n less =
    first_of_run board store x.env x.start o.place.cycle n bits o.place.decided less is.bits is.first

-- ---- earlier, and by number

pub runs_fit_before : RunsFitBefore
runs_fit_before side board told tnew wold wnew more mold mnew given x workspace later words reads =
    let there : (kind : WordKind) (place term : ℕ) → IsVariable wold place term kind → IsVariable wnew place term kind =
    λ kind place term is.
    subst (λ (ws : List Word). IsVariable ws place term kind) (sym words)
    (behind wold more place (variable term kind) is) in
    let value : (kind : WordKind) (place term : ℕ) → IsVariable wold place term kind
    → term_value tnew given term ≡ term_value told given term =
    λ kind place term is. later.keeps.values given term (workspace.of.there place (variable term kind) is) in (
      λ fits. record {
        image = image_before mold mnew x.image reads fits.image;
        fit = images_fit_before told tnew wold mold mnew given x.image later workspace.memory reads fits.fit;
        outside = record {
          within = fits.outside.within;
          values = λ series n place term is.
              fits.outside.values series n place term (there (kind_of side series n) place term is)
              ∙ value (kind_of side series n) place term is;
        };
      },
      λ terms at sp line are lines begins. record {
        fits = begins.fits;
        address = begins.address;
        depth = begins.depth;
        elements = λ n below.
            begins.elements n below ∙ later.keeps.values given (slice_index terms n) (are n below).there;
        memory = begins.memory;
        first_line = λ term own. sym (later.keeps.values given term (lines term own).there) ∙ begins.first_line term own;
      },
    )

pub elements_have_terms : ElementsHaveTerms
elements_have_terms board store t words m o = (
  λ symbolic. (symbolic.parts, symbolic.events),
  λ parts n below. parts.wide (element_of board n) (is_element board n below),
  λ given x bits is n below. is.state.elements (element_of board n) (is_element board n below),
)
