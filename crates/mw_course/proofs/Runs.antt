-- A run from a boundary, on terms.
use Rattle.std.proofs.Common.{◌≡◌, inl, inr, ℕ, ◌+◌, ◌<◌, ◌≤◌, ◌^◌, List, [], drop, take, length}
use Rattle.std.proofs.Common.{length-drop, slice_index, ap, sym, subst, ◌∙◌, arith, refl}
use Rattle.std.specs.Prelude.{Bool, Option, Some, None}
use Rattle.std.proofs.lemmas.Bool.{cases_lt}
use Rattle.std.proofs.lemmas.List.{get_or-take}
use Rattle.std.specs.Option.{option_or}
use Rattle.mw_term.specs.declared.side.Side.{Side}
use Rattle.mw_term.specs.declared.side.Side.TheVariants.{Board}
use Rattle.mw_cycle.specs.SteadySeries.{Series}
use Rattle.mw_cycle.specs.SteadySeries.{Inputs}
use Rattle.mw_cycle.specs.SteadySeries.{Line as SteadyLine, kind_of, series_of_kind}
use Rattle.mw_cycle.proofs.Named.{no_kind, no_variable}
use Rattle.mw_term.specs.declared.decided.DecidedKind.{DecidedKind}
use Rattle.mw_term.specs.declared.kinds.WordKind.{WordKind}
use Rattle.mw_term.specs.declared.kinds.WordKind.TheVariants.{Base, Element, Line, Probe}
use Rattle.mw_term.specs.declared.word.Word.{Word}
use Rattle.mw_term.specs.Table.{Table}
use Rattle.mw_term.specs.WordList.{term_of}
use Rattle.mw_symmem.specs.declared.turn.Turn.{Turn}
use Rattle.mw_symmem.specs.declared.turn.Turn.TheVariants.{Ask, Finished}
use Rattle.mw_symmem.specs.Memory.{Memory, IsOfWidth}
use Rattle.mw_symmem.specs.Workspace.{GoesOn, HaveKinds}
use Rattle.mw_symmem.proofs.Later.{width_later}
use Rattle.mw_symboard.specs.declared.reading.Reading.{Reading}
use Rattle.mw_symboard.specs.Cycle.{bits_before}
use Rattle.mw_symboard.specs.Kinds.{HaveWidths, IsCycleKind}
use Rattle.mw_symboard.specs.Seen.{Progress, microword_of}
use Rattle.mw_symboard.specs.Turns.{AreNoLater, Asks, HasRead, IsSymbolic, IsTurn, Symbolic, decided_so, reads_by}
use Rattle.mw_symboard.specs.Turns.{reads_to_come}
use Rattle.mw_board.specs.declared.parts.BoardParts.{BoardParts}
use Rattle.mw_board.specs.Depth.{depth_of}
use Rattle.mw_board.specs.Elements.{element_count}
use Rattle.mw_symmem.proofs.Lists.{absent}
use Rattle.mw_symboard.specs.Parts as board
use Rattle.mw_symboard.proofs.Standing.{found_stays}
use Rattle.mw_rel.specs.Free.{no_boundary, numbered}
use Rattle.mw_rel.specs.Job.{Job, IsJob}
use Rattle.mw_rel.proofs.Elements.{register_width, widths_count}
use Rattle.mw_rel.proofs.Standing.{dropped_at}
use Rattle.mw_symboard.proofs.VariableWidths.{not_behind}
use Rattle.mw_course.specs.Boundaries.{AreElements, AreWide, AreWideSoFar, IsStartKind}
use Rattle.mw_course.proofs.Boundaries.{board_wide, space_later}
use Rattle.mw_course.specs.Runs.{HasLine, IsTurned, IsUnder}

-- ---- the line of the first cycle

-- it stays
line_later : (K : WordKind → Type 0) (told tnew : Table) (wold wnew : List Word) (mold mnew : Memory)
    → GoesOn K told tnew wold wnew mold mnew → HasLine told wold → HasLine tnew wnew
line_later K told tnew wold wnew mold mnew goes line = record {
  line = line.line;
  is = subst (λ ws. term_of ws (Line 0) ≡ Some line.line) (sym goes.words)
      (found_stays wold goes.more (Line 0) line.line line.is);
  wide = width_later told tnew 1 line.line goes.later line.wide;
}

-- a cycle that asks for a bit has read its line
line_read : (job : Job) (t : Table) (words : List Word) (m : Memory) (o : Symbolic) (reading : Reading)
    → o.reading ≡ Some reading → IsSymbolic job.board job.store t words m o → o.place.side ≡ Board
    → o.place.line ≡ None → (0 < o.place.cycle → HasLine t words) → HasLine t words
line_read job t words m o reading begun symbolic side unlined before = elim (cases_lt 0 o.place.cycle) [
  | inl later ↦ before later
  | inr first ↦
      let read = subst (HasRead job.board job.store t words m o.place) begun symbolic.reading in
      let none : o.place.cycle ≡ 0 = omega arith in
      let line = reading.sources.line in
      let variable = subst (λ (there : Option ℕ).
      option_or there (term_of words (kind_of o.place.side SteadyLine o.place.cycle)) ≡ Some line) unlined read.0.line in
      record {
        line = line;
        is = subst (λ n. term_of words (Line n) ≡ Some line) none
            (subst (λ (own : Side). term_of words (kind_of own SteadyLine o.place.cycle) ≡ Some line) side variable);
        wide = read.0.sources.line;
      }
]

line_asked : (job : Job) (t : Table) (words : List Word) (m : Memory) (o : Symbolic) (registers : List ℕ)
    (kind : DecidedKind) (term : ℕ) → IsUnder job t words m o registers → Asks job.board job.store t words m o kind term
    → HasLine t words
line_asked job t words m o registers kind term under asks =
    line_read job t words m o asks.begun.0 asks.begun.1 under.symbolic under.side under.unlined
    (λ some. under.line (omega (arith, some)))

-- ---- the probe

-- a kind that no word behind a list has is found as before
-- where a run makes none, it is found as before
pub probe_kept : (K : WordKind → Type 0) (told tnew : Table) (wold wnew : List Word) (mold mnew : Memory)
    → GoesOn K told tnew wold wnew mold mnew → (K Probe → ⊥) → term_of wnew Probe ≡ term_of wold Probe
probe_kept K told tnew wold wnew mold mnew goes never =
    ap (λ (ws : List Word). term_of ws Probe) goes.words
    ∙ not_behind wold goes.more Probe
    (absent goes.more Probe (λ place term is. never (goes.kinds place term Probe is)))

-- and there is none later, where there was none
pub fresh_later : (K : WordKind → Type 0) (told tnew : Table) (wold wnew : List Word) (mold mnew : Memory)
    → GoesOn K told tnew wold wnew mold mnew → (K Probe → ⊥) → term_of wold Probe ≡ None → term_of wnew Probe ≡ None
fresh_later K told tnew wold wnew mold mnew goes never none =
    probe_kept K told tnew wold wnew mold mnew goes never ∙ none

-- a cycle makes none
no_probe_in : (side : Side) (cycle taken : ℕ) (line : Option ℕ) → IsCycleKind side cycle taken line Probe → ⊥
no_probe_in side cycle taken line kind = elim kind [
  | inl h ↦ elim h [
    | inl k ↦ let is : Probe ≡ Base k.0 = k.1 in absurd cc
    | inr is ↦ absurd cc
  ]
  | inr h ↦ no_variable side Probe h.0 cycle refl h.3
]

-- ---- turns

few_by : (o : Option Reading) → reads_by o ≤ 1
few_by None = omega arith
few_by (Some reading) = omega arith

-- a turn
pub turned : (job : Job) (told tnew : Table) (wold wnew : List Word) (mold mnew : Memory) (old new : Symbolic)
    (registers : List ℕ) (turn : Turn) → IsUnder job told wold mold old registers
    → GoesOn (IsCycleKind old.place.side old.place.cycle old.place.taken old.place.line) told tnew wold wnew mold mnew
    → IsTurn job.board job.store tnew wnew mold mnew old new turn → IsSymbolic job.board job.store tnew wnew mnew new
    → length mnew.reads ≤ length mold.reads + reads_to_come old
    → (turn ≡ Finished → length old.place.decided ≡ bits_before (microword_of job.board job.store old.place) + 12)
    → IsTurned job old.place tnew wnew mnew new registers turn
turned job told tnew wold wnew mold mnew old new registers (Ask kind term) under goes is symbolic reads all =
    let K = IsCycleKind old.place.side old.place.cycle old.place.taken old.place.line in
    let cycle : new.place.cycle ≡ old.place.cycle = ap (λ (p : Progress). p.cycle) is.0 in
    let taken : new.place.taken ≡ old.place.taken = ap (λ (p : Progress). p.taken) is.0 in
    let none : reads_to_come new ≡ 0 = ap reads_by is.3.begun.1 in
    let before : 0 < new.place.cycle → HasLine tnew wnew = λ some.
    line_later K told tnew wold wnew mold mnew goes (under.line (omega (arith, some, cycle))) in (
      record {
        space = space_later job told tnew wold wnew mold mnew goes.later goes.reads goes.workspace under.space;
        symbolic = symbolic;
        side = ap (λ (p : Progress). p.side) is.0 ∙ under.side;
        unlined = ap (λ (p : Progress). p.line) is.0 ∙ under.unlined;
        taken = omega (arith, cycle, taken, under.taken);
        reads = omega (arith, none, reads, under.reads, cycle);
        fresh =
            fresh_later K told tnew wold wnew mold mnew goes
            (no_probe_in old.place.side old.place.cycle old.place.taken old.place.line) under.fresh;
        line = λ some. line_read job tnew wnew mnew new is.3.begun.0 is.3.begun.1 symbolic
            (ap (λ (p : Progress). p.side) is.0 ∙ under.side) (ap (λ (p : Progress). p.line) is.0 ∙ under.unlined) before;
        count = under.count;
        wide = λ i inside. width_later told tnew _ _ goes.later (under.wide i inside);
      },
      is.0,
      is.3,
    )
turned job told tnew wold wnew mold mnew old new registers Finished under goes is symbolic reads all =
    let K = IsCycleKind old.place.side old.place.cycle old.place.taken old.place.line in
    let few : reads_to_come new ≤ 1 = few_by new.reading in
    let enough = all refl in (
      record {
        space = space_later job told tnew wold wnew mold mnew goes.later goes.reads goes.workspace under.space;
        symbolic = symbolic;
        side = is.4 ∙ under.side;
        unlined = is.5;
        taken = omega (arith, is.2, is.3, under.taken);
        reads = omega (arith, few, reads, under.reads, is.2);
        fresh =
            fresh_later K told tnew wold wnew mold mnew goes
            (no_probe_in old.place.side old.place.cycle old.place.taken old.place.line) under.fresh;
        line = λ some. line_later K told tnew wold wnew mold mnew goes (under.line (omega (arith, enough)));
        count = under.count;
        wide = λ i inside. width_later told tnew _ _ goes.later (under.wide i inside);
      },
      record { idle = is.0; cycles = is.2 },
    )

-- with a bit that was given
pub decided_under : (job : Job) (t : Table) (words : List Word) (m : Memory) (old new : Symbolic) (registers : List ℕ)
    (kind : DecidedKind) (value : Bool) (term : ℕ) → new ≡ decided_so old kind value
    → IsUnder job t words m old registers → Asks job.board job.store t words m old kind term
    → IsSymbolic job.board job.store t words m new → IsUnder job t words m new registers
decided_under job t words m old new registers kind value term is under asks symbolic =
    let cycle : new.place.cycle ≡ old.place.cycle = ap (λ (o : Symbolic). o.place.cycle) is in
    let taken : new.place.taken ≡ old.place.taken = ap (λ (o : Symbolic). o.place.taken) is in
    let reads : reads_to_come new ≡ reads_to_come old = ap (λ (o : Symbolic). reads_by o.reading) is in
    record {
      space = under.space;
      symbolic = symbolic;
      side = ap (λ (o : Symbolic). o.place.side) is ∙ under.side;
      unlined = ap (λ (o : Symbolic). o.place.line) is ∙ under.unlined;
      taken = omega (arith, cycle, taken, under.taken);
      reads = omega (arith, reads, under.reads, cycle);
      fresh = under.fresh;
      line = λ some. line_asked job t words m old registers kind term under asks;
      count = under.count;
      wide = under.wide;
    }

-- ---- before the first cycle

pub board_elements : (job : Job) (t : Table) (terms : List ℕ) → IsJob job → AreWide t job.relation.shape.widths terms
    → board.AreElements job.board t (take (element_count job.board) terms)
board_elements job t terms is wide n below =
    let each = wide.each n (omega (arith, widths_count job is, below)) in
    let same : slice_index (take (element_count job.board) terms) n ≡ slice_index terms n =
    get_or-take (element_count job.board) terms n 0 below in
    subst (λ w. IsOfWidth t w (slice_index (take (element_count job.board) terms) n)) (board_wide job n is below)
    (rw same each)

registers_wide : (job : Job) (t : Table) (terms : List ℕ) → IsJob job → AreWide t job.relation.shape.widths terms
    → AreWideSoFar t job.machine.shape.widths job.machine.registers (drop (element_count job.board) terms)
registers_wide job t terms is wide i below =
    let k = element_count job.board in
    let each = wide.each (k + i) (omega (arith, widths_count job is, below)) in
    subst (λ w. IsOfWidth t w (slice_index (drop k terms) i)) (register_width job is i below)
    (rw (dropped_at k terms i) each)

pub registers_count : (job : Job) (t : Table) (terms : List ℕ) → IsJob job → AreWide t job.relation.shape.widths terms
    → length (drop (element_count job.board) terms) ≡ job.machine.registers
registers_count job t terms is wide =
    omega (arith, length-drop (element_count job.board) terms, wide.count, widths_count job is)

-- no variable of an environment is there
started_named : (kind : WordKind) → IsStartKind kind → series_of_kind Board kind ≡ None
started_named (Element n) is = refl
started_named (Base n) is = refl
started_named other is = absurd is

not_started : (series : Series) (n : ℕ) → ¬ IsStartKind (kind_of Board series n)
not_started = no_kind Board IsStartKind started_named

start_without : (words : List Word) (series : Series) (n : ℕ) → HaveKinds IsStartKind words
    → term_of words (kind_of Board series n) ≡ None
start_without words series n kinds =
    absent words (kind_of Board series n) (λ place other at. not_started series n (kinds place other (kind_of Board series n) at))

pub start_widths : (parts : BoardParts) (t : Table) (words : List Word) → HaveKinds IsStartKind words
    → HaveWidths Board parts t words
start_widths parts t words kinds series n term is =
    let no : None ≡ Some term = sym (start_without words series n kinds) ∙ is in absurd cc

pub start_no_later : (words : List Word) → HaveKinds IsStartKind words → AreNoLater Board 0 words
start_no_later words kinds series by_cycle n from = start_without words series n kinds

pub address_at : (job : Job) (n : ℕ) → IsJob job → n < length job.relation.boundaries
    → (numbered job n).address < 2 ^ 12
address_at job n is below = (is.matched.relation.formed.boundaries n no_boundary below).address

pub pointer_at : (job : Job) (n : ℕ) → IsJob job → n < length job.relation.boundaries
    → (numbered job n).sp ≤ depth_of job.board
pointer_at job n is below = is.matched.parts.pointers n no_boundary below

-- a board that stands at a boundary
pub under_first : (job : Job) (t : Table) (words : List Word) (m : Memory) (o : Symbolic) (terms registers : List ℕ)
    → IsJob job → AreElements job t words m terms → IsSymbolic job.board job.store t words m o
    → o.place.side ≡ Board → o.place.line ≡ None → o.place.cycle ≡ 0
    → o.place.taken ≡ 0 → o.place.decided ≡ [] → registers ≡ drop (element_count job.board) terms
    → IsUnder job t words m o registers
under_first job t words m o terms registers is are symbolic side unlined cycle taken decided same =
    let few : reads_to_come o ≤ 1 = few_by o.reading in
    record {
      space = are.space;
      symbolic = symbolic;
      side = side;
      unlined = unlined;
      taken = omega (arith, cycle, taken);
      reads = omega (arith, few, are.few, cycle);
      fresh = absent words Probe (λ place other at. are.kinds place other Probe at);
      line = λ some. absurd (omega (arith, some, cycle, ap length decided));
      count = ap length same ∙ registers_count job t terms is are.wide;
      wide = subst (λ rs. AreWideSoFar t job.machine.shape.widths job.machine.registers rs) (sym same)
          (registers_wide job t terms is are.wide);
    }
