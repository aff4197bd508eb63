-- The turns of a step.
use Rattle.std.proofs.Common.{◌≡◌, ℕ, ◌+◌, ◌<◌, ◌≤◌, ◌^◌, List, [], ◌∷◌, length, map, Bool, true, false, refl, ap, ap₂}
use Rattle.std.proofs.Common.{arith, sym, subst, ◌∙◌}
use Rattle.std.specs.Prelude.{if◌then◌else◌, ◌==◌, Option, Some, None, slice_get}
use Rattle.mw_expr.specs.declared.shape.Shape.{Shape}
use Rattle.mw_expr.specs.Tree.{Tree}
use Rattle.mw_expr.specs.Values.{value}
use Rattle.mw_macro.specs.declared.counts.Counted.TheVariants.{Statements, Reads, Events}
use Rattle.mw_macro.specs.Branches.{branches_in, branches_of}
use Rattle.mw_macro.specs.Counts.{total}
use Rattle.mw_macro.specs.DescribedStep.{Now, now, after_all, begun, ended, step_of}
use Rattle.mw_macro.specs.Machine.{Description}
use Rattle.mw_macro.specs.State.{MachineState}
use Rattle.mw_macro.specs.Statements.{choose, Acts, next, nothing}
use Rattle.mw_symmem.specs.declared.turn.Turn.TheVariants.{Finished}
use Rattle.mw_term.specs.declared.decided.DecidedKind.TheVariants.{Branch}
use Rattle.mw_term.specs.Assigned.{Given}
use Rattle.mw_term.specs.Table.{Table}
use Rattle.mw_term.specs.declared.side.Side.TheVariants.{Machine}
use Rattle.mw_term.specs.declared.word.Word.{Word}
use Rattle.mw_symmem.specs.Memory.{Memory, held_by}
use Rattle.mw_symmem.specs.Workspace.{GoesOn}
use Rattle.mw_symmem.proofs.Later.{goes_then}
use Rattle.mw_symmach.specs.declared.machine.Pending.{Pending}
use Rattle.mw_symmach.specs.declared.machine.Pending.TheVariants as pendings
use Rattle.mw_symmach.specs.Places.{left_of, then_acts, reads_first, AsksNext, Carries, IsAtIf, Reaches, StopsAt}
use Rattle.mw_symmach.specs.Steps.{Parts, IsOfStep, Stands, now_of, event_of}
use Rattle.mw_symmach.specs.Turns.{Stepping, Scene, Asks, HasTerms, IsDecided, IsSaid, IsStart, IsStepping, IsTurn}
use Rattle.mw_symmach.specs.Turns.{StandsAtIf, bits_to_come, come_to, end_of, entered, entered_by, given_so, is_asked}
use Rattle.mw_symmach.specs.Turns.{left_by, left_in, now_in, reads_behind, reads_by, reads_to_come, turn_of, values_in}
use Rattle.mw_symmach.specs.Turns.{with_parts}
use Rattle.mw_symmach.proofs.AtIf.{at_if_within, left_at_if}
use Rattle.mw_symmach.specs.Walks.{Walks, asked_by, chosen, underway_in, underway_of}
use Rattle.mw_symmach.proofs.Carrying.{after_then, branches_then, total_then}

-- ---- a step at its start

pub starts : (d : Description) (t : Table) (m : Memory) (given : Given) (registers : List ℕ) (request : ℕ) (x : Scene)
    (s : MachineState) (bit : Bool) → IsStart t m given registers request x s bit
    → now (values_in d t given registers (Some request)) (held_by t given m Machine x.image) [] 0 ≡ begun d s bit
starts d t m given registers request x s bit start =
    rw (start.values, start.memory, start.line) refl

pub start_bits : (d : Description) (t : Table) (m : Memory) (given : Given) (registers : List ℕ) (request : ℕ)
    (x : Scene) (s : MachineState) (bit : Bool) → IsStart t m given registers request x s bit
    → branches_in d.shape x.inputs 0 d.acts
    (now (values_in d t given registers (Some request)) (held_by t given m Machine x.image) [] 0)
    ≡ branches_of d s bit x.inputs 0
unfolding branches_of
start_bits d t m given registers request x s bit start =
    ap (branches_in d.shape x.inputs 0 d.acts) (starts d t m given registers request x s bit start)

pub start_ends : (d : Description) (t : Table) (m : Memory) (given : Given) (registers : List ℕ) (request : ℕ)
    (x : Scene) (s : MachineState) (bit : Bool) → IsStart t m given registers request x s bit
    → ended d (after_all d.shape x.inputs 0 d.acts
    (now (values_in d t given registers (Some request)) (held_by t given m Machine x.image) [] 0))
    ≡ step_of d s bit x.inputs 0
unfolding step_of
start_ends d t m given registers request x s bit start =
    ap (λ n. ended d (after_all d.shape x.inputs 0 d.acts n)) (starts d t m given registers request x s bit start)

-- ---- where it stands

pub now_begun : (d : Description) (t : Table) (given : Given) (m : Memory) (image : List ℕ) (o : Stepping)
    → o.request ≡ None → now_in d t given m image o ≡ now_of t given m image o.parts
now_begun d t given m image o begun =
    ap (λ request. now (values_in d t given o.parts.values request) (held_by t given m Machine image)
    (map (event_of t given) o.parts.events) o.parts.taken) begun

pub entered_left : (d : Description) (o : Stepping) → is_asked o.pending ≡ false
    → left_of d.acts (entered o).levels (entered o).position ≡ left_in d o
entered_left d o idle = by o.pending idle
  where
    by : (p : Pending) → is_asked p ≡ false
        → left_of d.acts (entered_by p o).levels (entered_by p o).position ≡ left_by d.acts o.levels o.position p
    by pendings.Nothing idle = refl
    by pendings.Asked idle = absurd cc
    by (pendings.Answered first) idle = refl

pub entered_parts : (o : Stepping) → (entered o).parts ≡ o.parts
entered_parts o = by o.pending
  where
    by : (p : Pending) → (entered_by p o).parts ≡ o.parts
    by pendings.Nothing = refl
    by pendings.Asked = refl
    by (pendings.Answered first) = refl

pub entered_request : (o : Stepping) → (entered o).request ≡ o.request
entered_request o = by o.pending
  where
    by : (p : Pending) → (entered_by p o).request ≡ o.request
    by pendings.Nothing = refl
    by pendings.Asked = refl
    by (pendings.Answered first) = refl

idle_reads : (p : Pending) (left : Acts) → is_asked p ≡ false → reads_by p left ≡ total Reads left
idle_reads pendings.Nothing left idle = refl
idle_reads pendings.Asked left idle = absurd cc
idle_reads (pendings.Answered first) left idle = refl

pub reads_idle : (d : Description) (o : Stepping) → is_asked o.pending ≡ false
    → reads_to_come d o ≡ total Reads (left_in d o)
reads_idle d o idle = idle_reads o.pending (left_in d o) idle

-- ---- a turn

-- how often the condition that is asked for reads the memory
abbrev pub reads_asked : Option ℕ → Acts → ℕ
reads_asked None left = 0
reads_asked (Some term) left = reads_first left

pub carries_of : (s : Shape) (told tnew : Table) (wold wnew : List Word) (mold mnew : Memory) (pold pnew : Parts)
    (lold lnew : Acts) (asked : Option ℕ) → Reaches s told tnew wold wnew mold mnew pold pnew lold lnew asked
    → Carries s told tnew wold wnew mold mnew pold pnew lold lnew (reads_asked asked lnew)
carries_of s told tnew wold wnew mold mnew pold pnew lold lnew None reaches = reaches.0
carries_of s told tnew wold wnew mold mnew pold pnew lold lnew (Some term) reaches = reaches.0

-- A step began where it hadn't, went into a list where one was chosen, and went on in its statements.
pub record Went (d : Description) (t0 t1 t2 : Table) (w0 w2 : List Word) (m0 m2 : Memory) (old begun new : Stepping)
    (position : ℕ) (asked : Option ℕ) : Type 0 where
  pub idle : is_asked old.pending ≡ false
  pub same : (given : Given) (image : List ℕ) → now_in d t1 given m0 image begun ≡ now_in d t0 given m0 image old
  pub stands : begun ≡ with_parts old begun.parts None
  pub goes : GoesOn IsOfStep t0 t1 w0 w0 m0 m0
  pub stepping : IsStepping d t1 w0 m0 begun
  pub reaches : Reaches d.shape t1 t2 w0 w2 m0 m2 begun.parts new.parts (left_in d begun)
      (left_of d.acts new.levels position) asked
  pub stops : StopsAt d.acts new.levels position asked
  pub request : new.request ≡ None

left_before : (d : Description) (old begun : Stepping) → begun ≡ with_parts old begun.parts None
    → left_in d begun ≡ left_in d old
left_before d old begun stands = ap (left_in d) stands

request_before : (old begun : Stepping) → begun ≡ with_parts old begun.parts None → begun.request ≡ None
request_before old begun stands = ap (λ (o : Stepping). o.request) stands

-- it stands where it may go on
pub record MayGoOn (d : Description) (t : Table) (words : List Word) (m : Memory) (o : Stepping) : Type 0 where
  pub stands : Stands d.shape t words m o.parts
  pub few_reads : length m.reads + total Reads (left_of d.acts o.levels o.position) ≤ 2 ^ 32
  pub few_events : o.parts.taken + total Events (left_of d.acts o.levels o.position) < 2 ^ 32

begun_idle : (old begun : Stepping) → begun ≡ with_parts old begun.parts None → is_asked old.pending ≡ false
    → is_asked begun.pending ≡ false
begun_idle old begun stands idle = ap (λ (o : Stepping). is_asked o.pending) stands ∙ idle

pub may_go_on : (d : Description) (t : Table) (words : List Word) (m : Memory) (old begun o : Stepping)
    → is_asked old.pending ≡ false → begun ≡ with_parts old begun.parts None → IsStepping d t words m begun
    → length m.reads + reads_to_come d old ≤ 2 ^ 32 → o ≡ entered begun → MayGoOn d t words m o
may_go_on d t words m old begun o idle stands stepping few is =
    let left = entered_left d begun (begun_idle old begun stands idle) in
    let parts = entered_parts begun in
    let terms : Stands d.shape t words m begun.parts =
    subst (λ request. HasTerms d t words m begun.parts request) (request_before old begun stands) stepping.terms in
    rw is (record {
      stands = rw parts terms;
      few_reads =
          rw left (omega (arith, few, reads_idle d old idle, ap (total Reads) (left_before d old begun stands)));
      few_events = rw (parts, left) stepping.few;
    })

-- a run from where it went into a list is one from where it stood before
pub went_on : (d : Description) (t1 t2 : Table) (w0 w2 : List Word) (m0 m2 : Memory) (old begun o new : Stepping)
    (position : ℕ) (asked : Option ℕ) → is_asked old.pending ≡ false → begun ≡ with_parts old begun.parts None
    → o ≡ entered begun
    → Reaches d.shape t1 t2 w0 w2 m0 m2 o.parts new.parts (left_of d.acts o.levels o.position)
    (left_of d.acts new.levels position) asked
    → Reaches d.shape t1 t2 w0 w2 m0 m2 begun.parts new.parts (left_in d begun)
    (left_of d.acts new.levels position) asked
went_on d t1 t2 w0 w2 m0 m2 old begun o new position asked idle stands is reaches =
    let from = rw is at reaches in
    rw (entered_parts begun, entered_left d begun (begun_idle old begun stands idle)) at from

pub position_fits : (d : Description) (t : Table) (words : List Word) (m : Memory) (o : Stepping)
    → IsStepping d t words m o → total Statements d.acts ≤ 4096 → (first : Bool) → o.pending ≡ pendings.Answered first
    → o.position < 2 ^ 32
position_fits d t words m o stepping few first is =
    omega (
      arith,
      few,
      at_if_within d.acts o.levels o.position
          (subst (λ p. StandsAtIf d.acts o.levels o.position p) is stepping.at),
    )

pub come_left : (d : Description) (o : Stepping) (position : ℕ) (asked : Option ℕ)
    → left_in d (come_to o position asked) ≡ left_of d.acts o.levels position
come_left d o position None = refl
come_left d o position (Some term) = refl

come_parts : (o : Stepping) (position : ℕ) (asked : Option ℕ) → (come_to o position asked).parts ≡ o.parts
come_parts o position None = refl
come_parts o position (Some term) = refl

come_now : (d : Description) (t : Table) (given : Given) (m : Memory) (image : List ℕ) (o : Stepping) (position : ℕ)
    (asked : Option ℕ) → o.request ≡ None
    → now_in d t given m image (come_to o position asked) ≡ now_of t given m image o.parts
come_now d t given m image o position None begun = now_begun d t given m image o begun
come_now d t given m image o position (Some term) begun = now_begun d t given m image o begun

-- what is between two statements, where the run goes on from
before_now : (d : Description) (t0 t1 t2 : Table) (w0 w2 : List Word) (m0 m2 : Memory) (old begun new : Stepping)
    (position : ℕ) (asked : Option ℕ) (given : Given) (image : List ℕ)
    → Went d t0 t1 t2 w0 w2 m0 m2 old begun new position asked
    → now_of t1 given m0 image begun.parts ≡ now_in d t0 given m0 image old
before_now d t0 t1 t2 w0 w2 m0 m2 old begun new position asked given image went =
    sym (now_begun d t1 given m0 image begun (request_before old begun went.stands)) ∙ went.same given image

pub went_goes : (d : Description) (t0 t1 t2 : Table) (w0 w2 : List Word) (m0 m2 : Memory) (old begun new : Stepping)
    (position : ℕ) (asked : Option ℕ) → Went d t0 t1 t2 w0 w2 m0 m2 old begun new position asked
    → GoesOn IsOfStep t0 t2 w0 w2 m0 m2
went_goes d t0 t1 t2 w0 w2 m0 m2 old begun new position asked went =
    goes_then IsOfStep t0 t1 t2 w0 w0 w2 m0 m0 m2 went.goes
    (carries_of d.shape t1 t2 w0 w2 m0 m2 begun.parts new.parts (left_in d begun) (left_of d.acts new.levels position)
    asked went.reaches).goes

pub went_board : (d : Description) (t0 t1 t2 : Table) (w0 w2 : List Word) (m0 m2 : Memory) (old begun new : Stepping)
    (position : ℕ) (asked : Option ℕ) → Went d t0 t1 t2 w0 w2 m0 m2 old begun new position asked → m2.board ≡ m0.board
went_board d t0 t1 t2 w0 w2 m0 m2 old begun new position asked went =
    (carries_of d.shape t1 t2 w0 w2 m0 m2 begun.parts new.parts (left_in d begun) (left_of d.acts new.levels position)
    asked went.reaches).board

came : (d : Description) (new : Stepping) (t : Table) (m : Memory) (position : ℕ) (asked : Option ℕ) (given : Given)
    (x : Scene) → new.request ≡ None
    → bits_to_come d t given m x (come_to new position asked)
    ≡ branches_in d.shape x.inputs 0 (left_of d.acts new.levels position) (now_of t given m x.image new.parts)
came d new t m position asked given x begun =
    ap₂ (branches_in d.shape x.inputs 0) (come_left d new position asked)
    (come_now d t given m x.image new position asked begun)

came_ends : (d : Description) (new : Stepping) (t : Table) (m : Memory) (position : ℕ) (asked : Option ℕ)
    (given : Given) (x : Scene) → new.request ≡ None
    → end_of d t given m x (come_to new position asked)
    ≡ ended d (after_all d.shape x.inputs 0 (left_of d.acts new.levels position) (now_of t given m x.image new.parts))
came_ends d new t m position asked given x begun =
    ap₂ (λ left n. ended d (after_all d.shape x.inputs 0 left n)) (come_left d new position asked)
    (come_now d t given m x.image new position asked begun)

asked_says : (d : Description) (t : Table) (words : List Word) (m : Memory) (new : Stepping) (position term : ℕ)
    → new.request ≡ None → AsksNext d.shape t m new.parts (left_of d.acts new.levels position) term
    → Asks d t words m (come_to new position (Some term)) Branch term
asked_says d t words m new position term begun asks = record {
  branch = refl;
  asked = refl;
  wide = asks.bit;
  next = λ given x seen.
      ap (λ bits. slice_get bits 0) (came d new t m position (Some term) given x begun)
      ∙ ap (λ left. slice_get (branches_in d.shape x.inputs 0 left (now_of t given m x.image new.parts)) 0) asks.is
      ∙ ap (λ (v : ℕ). Some (v == 1)) (sym (asks.value given x.image seen.image seen.fit));
}

said : (d : Description) (t1 t2 : Table) (w0 w2 : List Word) (m0 m2 : Memory) (begun new : Stepping) (position : ℕ)
    (asked : Option ℕ) → new.request ≡ None
    → Reaches d.shape t1 t2 w0 w2 m0 m2 begun.parts new.parts (left_in d begun)
    (left_of d.acts new.levels position) asked
    → IsSaid d t2 w2 m2 (come_to new position asked) (turn_of asked)
said d t1 t2 w0 w2 m0 m2 begun new position None request reaches = record {
  idle = refl;
  bits = λ given x. came d new t2 m2 position None given x request
      ∙ ap (λ left. branches_in d.shape x.inputs 0 left (now_of t2 given m2 x.image new.parts)) reaches.1;
  ends = λ given x. came_ends d new t2 m2 position None given x request
      ∙ ap (λ left. ended d (after_all d.shape x.inputs 0 left (now_of t2 given m2 x.image new.parts))) reaches.1;
}
said d t1 t2 w0 w2 m0 m2 begun new position (Some term) request reaches =
    asked_says d t2 w2 m2 new position term request reaches.1

pub went_turn : (d : Description) (t0 t1 t2 : Table) (w0 w2 : List Word) (m0 m2 : Memory) (old begun new : Stepping)
    (position : ℕ) (asked : Option ℕ) → Went d t0 t1 t2 w0 w2 m0 m2 old begun new position asked
    → IsTurn d t0 t2 w2 m0 m2 old (come_to new position asked) (turn_of asked)
went_turn d t0 t1 t2 w0 w2 m0 m2 old begun new position asked went =
    let carries = carries_of d.shape t1 t2 w0 w2 m0 m2 begun.parts new.parts (left_in d begun)
    (left_of d.acts new.levels position) asked went.reaches in
    record {
      bits = λ given x seen.
          came d new t2 m2 position asked given x went.request
          ∙ carries.bits given x.image x.inputs seen.image seen.fit seen.inputs
          ∙ ap₂ (branches_in d.shape x.inputs 0) (left_before d old begun went.stands)
          (before_now d t0 t1 t2 w0 w2 m0 m2 old begun new position asked given x.image went);
      ends = λ given x seen.
          came_ends d new t2 m2 position asked given x went.request
          ∙ ap (ended d) (carries.ends given x.image x.inputs seen.image seen.fit seen.inputs
          ∙ ap₂ (after_all d.shape x.inputs 0) (left_before d old begun went.stands)
          (before_now d t0 t1 t2 w0 w2 m0 m2 old begun new position asked given x.image went));
      says = said d t1 t2 w0 w2 m0 m2 begun new position asked went.request went.reaches;
    }

-- the reads of a condition, and those behind it
reads_at_if : (left : Acts) (c : Tree) (one other rest : Acts) → left ≡ next (choose c one other) rest
    → reads_behind left + reads_first left ≡ total Reads left
reads_at_if left c one other rest is = rw is (omega arith)

come_reads : (d : Description) (t1 t2 : Table) (w0 w2 : List Word) (m0 m2 : Memory) (begun new : Stepping)
    (position : ℕ) (asked : Option ℕ)
    → Reaches d.shape t1 t2 w0 w2 m0 m2 begun.parts new.parts (left_in d begun)
    (left_of d.acts new.levels position) asked
    → reads_to_come d (come_to new position asked) + reads_asked asked (left_of d.acts new.levels position)
    ≡ total Reads (left_of d.acts new.levels position)
come_reads d t1 t2 w0 w2 m0 m2 begun new position None reaches = omega arith
come_reads d t1 t2 w0 w2 m0 m2 begun new position (Some term) reaches =
    let asks = reaches.1 in
    reads_at_if (left_of d.acts new.levels position) asks.condition asks.one asks.other asks.rest asks.is

pub went_few : (d : Description) (t0 t1 t2 : Table) (w0 w2 : List Word) (m0 m2 : Memory) (old begun new : Stepping)
    (position : ℕ) (asked : Option ℕ) → Went d t0 t1 t2 w0 w2 m0 m2 old begun new position asked
    → length m2.reads + reads_to_come d (come_to new position asked) ≤ length m0.reads + reads_to_come d old
went_few d t0 t1 t2 w0 w2 m0 m2 old begun new position asked went =
    let carries = carries_of d.shape t1 t2 w0 w2 m0 m2 begun.parts new.parts (left_in d begun)
    (left_of d.acts new.levels position) asked went.reaches in
    omega (
      arith,
      carries.few_reads,
      come_reads d t1 t2 w0 w2 m0 m2 begun new position asked went.reaches,
      reads_idle d old went.idle,
      ap (total Reads) (left_before d old begun went.stands),
    )

come_at : (acts : Acts) (o : Stepping) (position : ℕ) (asked : Option ℕ) → StopsAt acts o.levels position asked
    → StandsAtIf acts (come_to o position asked).levels (come_to o position asked).position
    (come_to o position asked).pending
come_at acts o position None stops = tt
come_at acts o position (Some term) stops = stops

come_terms : (d : Description) (t : Table) (words : List Word) (m : Memory) (o : Stepping) (position : ℕ)
    (asked : Option ℕ)
    → HasTerms d t words m o.parts o.request
    → HasTerms d t words m (come_to o position asked).parts (come_to o position asked).request
come_terms d t words m o position None has = has
come_terms d t words m o position (Some term) has = has

pub went_stepping : (d : Description) (t0 t1 t2 : Table) (w0 w2 : List Word) (m0 m2 : Memory) (old begun new : Stepping)
    (position : ℕ) (asked : Option ℕ) → Went d t0 t1 t2 w0 w2 m0 m2 old begun new position asked
    → IsStepping d t2 w2 m2 (come_to new position asked)
went_stepping d t0 t1 t2 w0 w2 m0 m2 old begun new position asked went =
    let carries = carries_of d.shape t1 t2 w0 w2 m0 m2 begun.parts new.parts (left_in d begun)
    (left_of d.acts new.levels position) asked went.reaches in
    let parts = come_parts new position asked in
    let left = come_left d new position asked in
    record {
      terms = come_terms d t2 w2 m2 new position asked
          (subst (λ request. HasTerms d t2 w2 m2 new.parts request) (sym went.request) carries.stands);
      few = rw (parts, left) (omega (arith, carries.few_events, went.stepping.few));
      at = come_at d.acts new position asked went.stops;
    }

-- ---- a bit that was given

asked_is : (p : Pending) → is_asked p ≡ true → p ≡ pendings.Asked
asked_is pendings.Nothing is = absurd cc
asked_is pendings.Asked is = refl
asked_is (pendings.Answered first) is = absurd cc

first_bit : (s : Shape) (inputs : List ℕ) (c : Tree) (one other behind : Acts) (n : Now) (bit : Bool)
    → slice_get (branches_in s inputs 0 (next (choose c one other) behind) n) 0 ≡ Some bit
    → (value s n.values n.memory c == 1) ≡ bit
first_bit s inputs c one other behind n bit is = cc

chosen_bits : (s : Shape) (inputs : List ℕ) (c : Tree) (one other behind : Acts) (n : Now) (bit : Bool)
    → (value s n.values n.memory c == 1) ≡ bit
    → branches_in s inputs 0 (next (choose c one other) behind) n
    ≡ bit ∷ branches_in s inputs 0 (then_acts (if bit then one else other) behind) n
chosen_bits s inputs c one other behind n true is =
    rw is (ap (λ bits. true ∷ bits) (sym (branches_then s inputs 0 one behind n)))
chosen_bits s inputs c one other behind n false is =
    rw is (ap (λ bits. false ∷ bits) (sym (branches_then s inputs 0 other behind n)))

chosen_ends : (s : Shape) (inputs : List ℕ) (c : Tree) (one other behind : Acts) (n : Now) (bit : Bool)
    → (value s n.values n.memory c == 1) ≡ bit
    → after_all s inputs 0 (then_acts (if bit then one else other) behind) n
    ≡ after_all s inputs 0 (next (choose c one other) behind) n
chosen_ends s inputs c one other behind n true is = rw is (after_then s inputs 0 one behind n)
chosen_ends s inputs c one other behind n false is = rw is (after_then s inputs 0 other behind n)

chosen_reads : (c : Tree) (one other behind : Acts) (bit : Bool)
    → total Reads (then_acts (if bit then one else other) behind) ≤ reads_behind (next (choose c one other) behind)
chosen_reads c one other behind true = omega (arith, total_then Reads one behind)
chosen_reads c one other behind false = omega (arith, total_then Reads other behind)

chosen_events : (c : Tree) (one other behind : Acts) (bit : Bool)
    → total Events (then_acts (if bit then one else other) behind) ≤ total Events (next (choose c one other) behind)
chosen_events c one other behind true = omega (arith, total_then Events one behind)
chosen_events c one other behind false = omega (arith, total_then Events other behind)

pub decided : (d : Description) (t : Table) (words : List Word) (m : Memory) (o : Stepping) (bit : Bool)
    → is_asked o.pending ≡ true → IsStepping d t words m o → IsDecided d t words m o (given_so o bit) bit
decided d t words m o bit asked stepping =
    let is = asked_is o.pending asked in
    let at : IsAtIf d.acts o.levels o.position =
    subst (λ p. StandsAtIf d.acts o.levels o.position p) is stepping.at in
    let left = left_at_if d.acts o.levels o.position at in
    let here : left_in d o ≡ next (choose at.condition at.one at.other) left.behind =
    ap (left_by d.acts o.levels o.position) is ∙ left.here in
    let next_is = left.within bit in
    let head : (given : Given) (x : Scene) → slice_get (bits_to_come d t given m x o) 0 ≡ Some bit
    → (value d.shape (now_in d t given m x.image o).values (now_in d t given m x.image o).memory at.condition
    == 1) ≡ bit =
    λ given x is_next.
    first_bit d.shape x.inputs at.condition at.one at.other left.behind (now_in d t given m x.image o) bit
    (rw here at is_next) in
    record {
      bits = λ given x is_next.
          ap (λ acts. branches_in d.shape x.inputs 0 acts (now_in d t given m x.image o)) here
          ∙ chosen_bits d.shape x.inputs at.condition at.one at.other left.behind (now_in d t given m x.image o) bit
          (head given x is_next)
          ∙ ap (λ acts. bit ∷ branches_in d.shape x.inputs 0 acts (now_in d t given m x.image o)) (sym next_is);
      ends = λ given x is_next.
          ap (λ acts. ended d (after_all d.shape x.inputs 0 acts (now_in d t given m x.image o))) next_is
          ∙ ap (ended d) (chosen_ends d.shape x.inputs at.condition at.one at.other left.behind
          (now_in d t given m x.image o) bit (head given x is_next))
          ∙ ap (λ acts. ended d (after_all d.shape x.inputs 0 acts (now_in d t given m x.image o))) (sym here);
      few = rw (next_is, ap₂ reads_by is here) (chosen_reads at.condition at.one at.other left.behind bit);
      stepping = record {
        terms = stepping.terms;
        few = rw next_is
            (omega (arith, rw here at stepping.few, chosen_events at.condition at.one at.other left.behind bit));
        at = at;
      };
    }

pub come_request : (o : Stepping) (position : ℕ) (asked : Option ℕ) → (come_to o position asked).request ≡ o.request
come_request o position None = refl
come_request o position (Some term) = refl

-- where a step says that it is done, nothing is left
pub went_done : (d : Description) (t1 t2 : Table) (w0 w2 : List Word) (m0 m2 : Memory) (pold pnew : Parts) (lold : Acts)
    (o : Stepping) (position : ℕ) (asked : Option ℕ)
    → Reaches d.shape t1 t2 w0 w2 m0 m2 pold pnew lold (left_of d.acts o.levels position) asked
    → turn_of asked ≡ Finished → left_in d (come_to o position asked) ≡ nothing
went_done d t1 t2 w0 w2 m0 m2 pold pnew lold o position None reaches finished = reaches.1
went_done d t1 t2 w0 w2 m0 m2 pold pnew lold o position (Some term) reaches finished = absurd cc

-- ---- the words of a turn

-- a bit that was given goes on in its list
pub left_given : (d : Description) (t : Table) (words : List Word) (m : Memory) (o : Stepping) (bit : Bool)
    → is_asked o.pending ≡ true → IsStepping d t words m o → left_in d (given_so o bit) ≡ chosen bit (left_in d o)
left_given d t words m o bit asked stepping =
    let is = asked_is o.pending asked in
    let at : IsAtIf d.acts o.levels o.position =
    subst (λ p. StandsAtIf d.acts o.levels o.position p) is stepping.at in
    let left = left_at_if d.acts o.levels o.position at in
    let here : left_in d o ≡ next (choose at.condition at.one at.other) left.behind =
    ap (left_by d.acts o.levels o.position) is ∙ left.here in
    left.within bit ∙ sym (ap (chosen bit) here)

asked_again : (asked : Option ℕ) → asked_by (turn_of asked) ≡ asked
asked_again None = refl
asked_again (Some term) = refl

pub went_listed : (d : Description) (t0 t1 t2 : Table) (w0 w2 : List Word) (m0 m2 : Memory) (old begun o new : Stepping)
    (position : ℕ) (asked : Option ℕ) → is_asked old.pending ≡ false → begun ≡ with_parts old begun.parts None
    → o ≡ entered begun → underway_in t1 w0 m0 begun.parts ≡ underway_of d t0 w0 m0 old
    → Walks d.shape (underway_in t1 w0 m0 o.parts) (underway_in t2 w2 m2 new.parts) (left_of d.acts o.levels o.position)
    (left_of d.acts new.levels position) asked
    → Walks d.shape (underway_of d t0 w0 m0 old) (underway_in t2 w2 m2 (come_to new position asked).parts)
    (left_in d old) (left_in d (come_to new position asked)) (asked_by (turn_of asked))
went_listed d t0 t1 t2 w0 w2 m0 m2 old begun o new position asked idle stands is listed walks =
    let from = rw is at walks in
    let inside = rw (
      entered_parts begun,
      entered_left d begun (begun_idle old begun stands idle),
      left_before d old begun stands,
      listed,
    ) at from in
    rw (come_parts new position asked, come_left d new position asked, asked_again asked) inside
