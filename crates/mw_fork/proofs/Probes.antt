-- For each start and each address there is an assignment whose probe is that address; and the ground of a run stays
-- while both sides are compared.
use Rattle.std.proofs.Common.{◌≡◌, ℕ, ◌+◌, ◌<◌, ◌%◌, ◌^◌, List, ◌++◌, ap, sym, subst, ◌∙◌, arith, refl}
use Rattle.std.specs.Prelude.{◌==◌, if◌then◌else◌, None}
use Rattle.std.proofs.Math.Nat.{mod-eq_of_lt}
use Rattle.std.proofs.lemmas.Bool.Decides.{nat_tests}
use Rattle.mw_term.specs.declared.side.Side.TheVariants.{Board}
use Rattle.mw_board.specs.declared.parts.BoardParts.{BoardParts}
use Rattle.mw_cycle.specs.SteadySeries.{Series}
use Rattle.mw_cycle.specs.SteadySeries.{kind_of, series_of_kind, width_of}
use Rattle.mw_cycle.proofs.Named.{no_kind, no_variable}
use Rattle.mw_term.specs.declared.kinds.WordKind.{WordKind}
use Rattle.mw_term.specs.declared.kinds.WordKind.TheVariants.{Base, Element, Probe}
use Rattle.mw_term.specs.declared.word.Word.{Word}
use Rattle.mw_term.specs.Assigned.{Given}
use Rattle.mw_term.specs.Table.{Table}
use Rattle.mw_term.specs.Values.{term_value}
use Rattle.mw_symmem.specs.Memory.{IsBaseNumber, IsOfWidth}
use Rattle.mw_symmem.specs.Words.{HaveOwnKinds, IsVariable}
use Rattle.mw_symmem.specs.Workspace.{HaveKinds, IsLater}
use Rattle.mw_symboard.specs.Variables.{HaveVariables, IsOutsideKind, IsOutsideNumber}
use Rattle.mw_symboard.proofs.Environments.{variables_have_values}
use Rattle.mw_rel.specs.SteadyCase.{IsStartAt}
use Rattle.mw_rel.specs.InRelation.{values_of}
use Rattle.mw_rel.specs.Job.{Job, IsJob}
use Rattle.mw_rel.specs.SteadyStart.{Start}
use Rattle.mw_space.specs.declared.space.Space.{Space}
use Rattle.mw_fork.specs.Comparing.{GoesComparing, IsComparedKind}
use Rattle.mw_course.specs.OnWay.{ground_in}
use Rattle.mw_course.specs.Starts.{GoesTo, Ground, IsGround, StandsForStart}
use Rattle.mw_course.proofs.FreeValues.{same_kind, with_values}
use Rattle.mw_course.proofs.Grounds.{reached_from}
use Rattle.mw_course.proofs.Growing.{goes_to, ground_later, none_later, start_before, width_kept}

-- ---- the probe's number is no other variable's

probe_outside : ¬ IsOutsideKind Board Probe
probe_outside is = no_variable Board Probe is.0 is.1 refl is.2

probe_inside : (words : List Word) (place term : ℕ) → IsVariable words place term Probe
    → ¬ IsOutsideNumber Board words (place + 1)
probe_inside words place term is other =
    probe_outside
    (subst (IsOutsideKind Board) (sym (same_kind words place other.place term other.term Probe other.kind other.number is
    other.is)) other.outside)

probe_no_base : (words : List Word) (place term : ℕ) → IsVariable words place term Probe
    → ¬ IsBaseNumber words (place + 1)
probe_no_base words place term is other =
    let e : Probe ≡ Base other.k =
    same_kind words place other.place term other.term Probe (Base other.k) other.number is other.is in cc

probe_no_element : (words : List Word) (i j a b n : ℕ) → IsVariable words i a Probe → IsVariable words j b (Element n)
    → ¬ (i + 1 ≡ j + 1)
probe_no_element words i j a b n is other same =
    let e : Probe ≡ Element n = same_kind words i j a b Probe (Element n) same is other in cc

-- ---- each address is the probe's

-- an assignment with another value for a number
with_number : (number value : ℕ) → Given → Given
with_number number value given n = if n == number then value else given n

own_number : (number value : ℕ) (given : Given) → with_number number value given number ≡ value
unfolding with_number
own_number number value given = grind (arith, nat_tests)

other_number : (number value : ℕ) (given : Given) (n : ℕ) → ¬ (number ≡ n) → with_number number value given n ≡ given n
unfolding with_number
other_number number value given n other = grind (arith, nat_tests)

pub reached_at : (job : Job) (number : ℕ) (g : Ground) (place probe address : ℕ) → IsJob job → IsGround job number g
    → IsVariable g.words place probe Probe → IsOfWidth g.table g.memory.address probe → address < 2 ^ g.memory.address
    → (start : Start) → IsStartAt job number start
    → (given : Given) × StandsForStart job number g given start × (term_value g.table given probe ≡ address)
reached_at job number g place probe address is ground at wide less start starts =
    let work = ground.space.workspace in
    let width = g.memory.address in
    let values = with_values g.words (values_of job.board start.pair) in
    let reached = reached_from job number g is ground start starts (with_number (place + 1) address values)
    (λ other term n element.
    other_number (place + 1) address values (other + 1)
    (probe_no_element g.words place other probe term n at element)) in
    let has : reached.0 (place + 1) ≡ address =
    reached.2 (place + 1) (probe_inside g.words place probe at) (probe_no_base g.words place probe at)
    ∙ own_number (place + 1) address values in (
      reached.0,
      reached.1,
      variables_have_values g.table g.words place probe Probe width reached.0 work.table work.of at wide
          ∙ ap (λ v. v % 2 ^ width) has ∙ mod-eq_of_lt less,
    )

-- ---- the ground while both sides are compared

compared_named : (kind : WordKind) → IsComparedKind kind → series_of_kind Board kind ≡ None
compared_named Probe is = refl
compared_named (Base n) is = refl
compared_named other is = absurd is

not_compared : (series : Series) (n : ℕ) → ¬ IsComparedKind (kind_of Board series n)
not_compared = no_kind Board IsComparedKind compared_named

-- the variables of the cycles stay all that there are
cycles_compared : (board : BoardParts) (told tnew : Table) (wold wnew more : List Word) (cycles : ℕ) → IsLater told tnew
    → wnew ≡ wold ++ more → HaveKinds IsComparedKind more → HaveVariables Board board told wold cycles
    → HaveVariables Board board tnew wnew cycles
cycles_compared board told tnew wold wnew more cycles later words kinds has = record {
  widths = λ series n term is.
      width_kept IsComparedKind told tnew wold wnew more (kind_of Board series n) (width_of board.width series) term later
      words kinds (not_compared series n) (has.widths series n) is;
  none = λ series by_cycle n past.
      none_later IsComparedKind wold wnew more (kind_of Board series n) words kinds (not_compared series n)
      (has.none series by_cycle n past);
}

-- what a comparison works on went on
pub goes_compared : (old new : Space) (elements : List ℕ) → GoesComparing old new → HaveOwnKinds new.words
    → GoesTo (ground_in old elements) (ground_in new elements)
goes_compared old new elements compared own = goes_to IsComparedKind old new elements compared.goes own

pub ground_compared : (job : Job) (number : ℕ) (old new : Space) (elements : List ℕ) → IsJob job
    → IsGround job number (ground_in old elements) → GoesComparing old new → HaveOwnKinds new.words
    → IsGround job number (ground_in new elements)
ground_compared job number old new elements is ground compared own =
    let goes = compared.goes in
    ground_later job number (ground_in old elements) (ground_in new elements) ground.cycles is ground
    (goes_compared old new elements compared own)
    (cycles_compared job.board old.terms new.terms old.words new.words goes.more ground.cycles goes.later goes.words
    goes.kinds ground.variables)

-- a start over what there is after a comparison was one before
pub start_compared : (job : Job) (number : ℕ) (old new : Space) (elements : List ℕ) (given : Given) (start : Start)
    → IsJob job → IsGround job number (ground_in old elements) → GoesComparing old new → HaveOwnKinds new.words
    → StandsForStart job number (ground_in new elements) given start
    → StandsForStart job number (ground_in old elements) given start
start_compared job number old new elements given start is ground compared own one =
    start_before job number (ground_in old elements) (ground_in new elements) given start is ground
    (goes_compared old new elements compared own) one
