-- The comparison of both sides of a case that isn't late: whether they are unlike, and what it says of the case.
use Rattle.std.proofs.Common.{◌≡◌, ℕ, List, [], Bool, true, false, not, ◌&&◌, ◌||◌, ◌==◌, Option, Some, None, refl, ap}
use Rattle.std.proofs.Common.{ap₂, sym, subst, ◌∙◌, arith}
use Rattle.std.specs.Prelude.{All, Err, IfSome, Ok, Result, if◌then◌else◌}
use Rattle.std.proofs.lemmas.Bool.{eq-eqb, eqb-true}
use Rattle.mw_term.specs.declared.side.Side.TheVariants.{Board}
use Rattle.mw_symmem.specs.Memory.{writes_of}
use Rattle.mw_term.specs.declared.decided.Decided.{Decided}
use Rattle.mw_term.specs.Assigned.{Numbers, given_by}
use Rattle.mw_term.specs.declared.event.SymEvent.{SymEvent}
use Rattle.mw_term.specs.Functions.{Function}
use Rattle.mw_dd.specs.Diagrams.{IsFirst}
use Rattle.mw_blast.specs.Numbers.{OverHaveNumbers}
use Rattle.mw_symmem.specs.Words.{HaveOwnKinds}
use Rattle.mw_symboard.specs.Turns.{Symbolic}
use Rattle.mw_symmach.specs.Turns.{Stepping}
use Rattle.mw_symmach.specs.Walks.{underway_in}
use Rattle.mw_rel.specs.CaseWords.{CaseWords, bit_values, case_words, sides_of, whole}
use Rattle.mw_rel.specs.PathWords.{tree_of}
use Rattle.mw_rel.specs.Certified.{boundary_at}
use Rattle.mw_rel.specs.ComparisonWords.{Sides, all_compared, are_alike, compared_in, is_unlike}
use Rattle.mw_rel.specs.Job.{Job, IsJob}
use Rattle.mw_rel.specs.Lines.{Line}
use Rattle.mw_rel.specs.Relation.{Boundary}
use Rattle.mw_rel.specs.Rules.{IsLineOf}
use Rattle.mw_fork.specs.Comparing.{AreApart, AreSidesOn, Compares, GoesComparing, HaveCompared, IsOutcome}
use Rattle.mw_fork.specs.Comparing.{compared_all}
use Rattle.mw_space.specs.declared.space.Space.{Space}
use Rattle.mw_fork.specs.Faults.{RunStop}
use Rattle.mw_fork.specs.Failing.{ComparisonStops, ComparisonsAreWithin, IsFound}
use Rattle.mw_course.specs.Listed.{list_of_space, standing_on}
use Rattle.mw_fork.proofs.CaseCompared.{IsEnded, found_apart, found_on_path, prefix_of_case, unlike_differs}
use Rattle.mw_fork.proofs.CaseCompared.{words_compared}
use Rattle.mw_fork.proofs.Budgets.{comparison_stops}
use Rattle.mw_fork.proofs.Numbered.{AreNumbered, numbered_whole}
use Rattle.mw_compare.proofs.OverCompared.{stops_comparing, within_all, within_none}
use Rattle.mw_fork.proofs.Sides.{terms_at_end}

-- both sides, in the words of the case
abbrev pub ends_of : Job → Space → Symbolic → Stepping → Sides
ends_of job space board step =
    sides_of job (standing_on space board) (underway_in space.terms space.words space.memory step.parts)

-- ---- whether they are unlike

test_is : (alike sp : Bool) → not (alike && sp) ≡ (not alike || not sp)
test_is true sp = refl
test_is false sp = refl

-- the test that is made is that of the words
pub unlike_as : (job : Job) (space : Space) (board : Symbolic) (step : Stepping) (reached : Boundary)
    (alike : Bool) (sp : ℕ)
    (test : Bool) → alike ≡ are_alike board.events step.parts.events → sp ≡ board.place.sp
    → (not alike || not (sp == reached.sp)) ≡ test → is_unlike reached (ends_of job space board step) ≡ test
unlike_as job space board step reached alike sp test one other is =
    ap₂ (λ (a : Bool) (n : ℕ). not (a && (n == reached.sp))) (sym one) (sym other)
    ∙ test_is alike (sp == reached.sp) ∙ is

both_hold : (a b : Bool) → not (a && b) ≡ false → (a ≡ true) × (b ≡ true)
both_hold true true is = (refl, refl)
both_hold true false is = absurd cc
both_hold false b is = absurd cc

-- where they aren't, the events are alike, and the stack pointer is that of the boundary reached
pub alike_at : (job : Job) (space : Space) (board : Symbolic) (step : Stepping) (reached : Boundary)
    → is_unlike reached (ends_of job space board step) ≡ false
    → (are_alike board.events step.parts.events ≡ true) × (board.place.sp ≡ reached.sp)
alike_at job space board step reached is =
    let both = both_hold (are_alike board.events step.parts.events) (board.place.sp == reached.sp) is in
    (both.0, eqb-true board.place.sp reached.sp both.1)

-- and where they are, not both is so
not_alike : (job : Job) (space : Space) (board : Symbolic) (step : Stepping) (reached : Boundary)
    → is_unlike reached (ends_of job space board step) ≡ true → are_alike board.events step.parts.events ≡ true
    → board.place.sp ≡ reached.sp → ⊥
not_alike job space board step reached is alike sp =
    let both : false ≡ true =
    sym (ap₂ (λ (a b : Bool). not (a && b)) alike (eq-eqb board.place.sp reached.sp sp)) ∙ is in
    absurd cc

-- ---- the words

-- what is compared of the case
pub words_at_end : (job : Job) (number : ℕ) (elements : List ℕ) (bits : List Decided) (cycles : ℕ) (space : Space)
    (path : Function) (board : Symbolic) (step : Stepping) (reached : Boundary) (test : Bool)
    → IsEnded job number elements bits cycles space path board step → boundary_at job board.place.at ≡ Some reached
    → is_unlike reached (ends_of job space board step) ≡ test
    → case_words job number bits
    ≡ whole (list_of_space space) (if test then compared_in (list_of_space space) []
    else all_compared job.relation.shape reached (ends_of job space board step) (list_of_space space))
words_at_end job number elements bits cycles space path board step reached test is there unlike =
    is.ended.listed
    ∙ ap (whole (list_of_space space)) (words_compared job (standing_on space board)
    (underway_in space.terms space.words space.memory step.parts) reached test there unlike)

-- ---- where they are unlike

pub unlike_within : (job : Job) (number nodes : ℕ) (elements : List ℕ) (bits : List Decided)
    (cycles : ℕ) (space : Space)
    (path : Function) (board : Symbolic) (step : Stepping) (reached : Boundary)
    → IsEnded job number elements bits cycles space path board step → boundary_at job board.place.at ≡ Some reached
    → is_unlike reached (ends_of job space board step) ≡ true → ComparisonsAreWithin job number nodes bits
unlike_within job number nodes elements bits cycles space path board step reached is there unlike =
    within_none (tree_of job number) nodes bits (ap (λ (w : CaseWords). w.comparisons)
    (words_at_end job number elements bits cycles space path board step reached true is there unlike))

pub unlike_found : (job : Job) (number : ℕ) (elements : List ℕ) (bits : List Decided) (cycles : ℕ) (space : Space)
    (path : Function) (board : Symbolic) (step : Stepping) (reached : Boundary) (numbers : Numbers) → IsJob job
    → IsEnded job number elements bits cycles space path board step → All (IsLineOf job.relation.shape) reached.lines
    → boundary_at job board.place.at ≡ Some reached → is_unlike reached (ends_of job space board step) ≡ true
    → IsFirst path numbers → IsFound job number elements bits space numbers
unlike_found job number elements bits cycles space path board step reached numbers valid is formed there unlike first =
    found_on_path job number elements bits space path numbers is.stands is.written is.whole
    (words_at_end job number elements bits cycles space path board step reached true is there unlike) first
    (λ start one on.
    unlike_differs job number elements bits cycles space path board step reached
    (given_by numbers) start valid is formed there
    on (not_alike job space board step reached unlike) one)

-- ---- where all is compared

-- no comparison so far
none_so_far : (map : List ℕ) (nodes : ℕ) (space : Space) (path : Function)
    → HaveCompared map nodes space path (compared_in (list_of_space space) [])
none_so_far map nodes space path = record {
  list = refl;
  none = λ i d inside. absurd (omega (arith, inside));
  within = λ i d inside. absurd (omega (arith, inside));
}

sides_on : (job : Job) (space : Space) (board : Symbolic) (step : Stepping) → board.place.side ≡ Board
    → AreSidesOn (terms_at_end job board step) space (ends_of job space board step)
sides_on job space board step side = record {
  elements_are = refl;
  writes = record { board = ap (writes_of space.memory) side; machine = refl };
}

-- a result says of all comparisons of sides with these terms, lines and events
abbrev pub CompareAll : Job → (nodes : ℕ) → (old new : Space) → (path : Function) → Result (Option Numbers) RunStop
    → (elements : List ℕ) → List Line → (board machine : List SymEvent) → Type 0
CompareAll job nodes old new path result elements lines board machine =
    (sides : Sides) → AreSidesOn elements old sides
    → Compares nodes old new path (compared_all job.relation.shape sides lines board machine) result

-- so it says it of those of the case
at_end : (job : Job) (nodes : ℕ) (old new : Space) (path : Function) (board : Symbolic) (step : Stepping)
    (reached : Boundary) (result : Result (Option Numbers) RunStop) → board.place.side ≡ Board
    → CompareAll job nodes old new path result (terms_at_end job board step) reached.lines board.events
    step.parts.events
    → IsOutcome old.terms.map nodes new path
    (all_compared job.relation.shape reached (ends_of job old board step) (list_of_space old)) result
at_end job nodes old new path board step reached result side compared =
    compared (ends_of job old board step) (sides_on job old board step side) (compared_in (list_of_space old) [])
    (none_so_far old.terms.map nodes old path)

-- the same of equal terms, lines and events
pub same_ends : {T L E : Type 0} (P : T → L → E → E → Type 0) (t u : T) (l k : L) (b c m n : E)
    → t ≡ u → l ≡ k → b ≡ c → m ≡ n → P t l b m → P u k c n
same_ends P t u l k b c m n terms lines board machine holds =
    subst (λ x. P u k c x) machine
    (subst (λ x. P u k x m) board (subst (λ x. P u x b m) lines (subst (λ x. P x l b m) terms holds)))

-- where nothing was found, all are within the budget
pub alike_within : (job : Job) (number nodes : ℕ) (elements : List ℕ) (bits : List Decided)
    (cycles : ℕ) (old new : Space)
    (path : Function) (board : Symbolic) (step : Stepping) (reached : Boundary)
    → IsEnded job number elements bits cycles old path board step → boundary_at job board.place.at ≡ Some reached
    → is_unlike reached (ends_of job old board step) ≡ false
    → CompareAll job nodes old new path (Ok None) (terms_at_end job board step) reached.lines board.events
    step.parts.events
    → ComparisonsAreWithin job number nodes bits
alike_within job number nodes elements bits cycles old new path board step reached is there alike compared =
    within_all (tree_of job number) nodes bits old.terms.map new path _ is.stands.space.map
    (words_at_end job number elements bits cycles old path board step reached false is there alike) is.written
    (at_end job nodes old new path board step reached (Ok None) is.ended.of_board.side compared)

-- what was found is the first that is sought
pub alike_found : (job : Job) (number nodes : ℕ) (elements : List ℕ) (bits : List Decided)
    (cycles : ℕ) (old new : Space)
    (path : Function) (board : Symbolic) (step : Stepping) (reached : Boundary) (numbers : Numbers) → IsJob job
    → IsEnded job number elements bits cycles old path board step → GoesComparing old new → HaveOwnKinds new.words
    → All (IsLineOf job.relation.shape) reached.lines → boundary_at job board.place.at ≡ Some reached
    → is_unlike reached (ends_of job old board step) ≡ false
    → CompareAll job nodes old new path (Ok (Some numbers)) (terms_at_end job board step) reached.lines board.events
    step.parts.events
    → AreApart job.relation.shape new (given_by numbers) (terms_at_end job board step) reached.lines board.events
    step.parts.events
    → IsFound job number elements bits new numbers
alike_found job number nodes elements bits cycles old new path board step reached numbers valid is goes
    own formed there alike compared two =
    found_apart job number elements bits cycles old new path board step reached _ numbers valid is goes own formed there
    (words_at_end job number elements bits cycles old path board step reached false is there alike)
    (at_end job nodes old new path board step reached (Ok (Some numbers)) is.ended.of_board.side compared) two

-- what follows from two things that are so of what was found
pub some_both : {A : Type 0} (P : Option A → Type 0) (Q R : A → Type 0) (o : Option A)
    → ((x : A) → P (Some x) → Q x → R x) → P o → IfSome o Q → IfSome o R
some_both P Q R None each one other = other
some_both P Q R (Some x) each one other = each x one other

-- where the comparison stops, an operation of the case is over the budget
pub alike_stops : (job : Job) (number nodes : ℕ) (elements : List ℕ) (bits : List Decided)
    (cycles : ℕ) (old new : Space)
    (path : Function) (board : Symbolic) (step : Stepping) (reached : Boundary) (stop : RunStop)
    → OverHaveNumbers → AreNumbered
    → IsEnded job number elements bits cycles old path board step → boundary_at job board.place.at ≡ Some reached
    → is_unlike reached (ends_of job old board step) ≡ false
    → CompareAll job nodes old new path (Err stop) (terms_at_end job board step) reached.lines board.events
    step.parts.events
    → ComparisonStops job number nodes bits stop
alike_stops job number nodes elements bits cycles old new path board step reached stop law laws is there alike
    compared =
    comparison_stops job number nodes bits stop (prefix_of_case job number bits is.feasible)
    (stops_comparing (tree_of job number) nodes bits old.terms.map new path _ stop law
    (numbered_whole laws job number (bit_values bits)) is.stands.space.map
    (words_at_end job number elements bits cycles old path board step reached false is there alike) is.written
    (at_end job nodes old new path board step reached (Err stop) is.ended.of_board.side compared))
