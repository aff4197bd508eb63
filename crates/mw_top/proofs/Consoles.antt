-- The start that a counter gives, and what is printed of it.
use Rattle.std.proofs.Common.{◌≡◌, ℕ, ◌<◌, List, ◌++◌, append_assoc, ap, ◌∙◌, codes, length, refl, subst}
use Rattle.mw_board.specs.declared.parts.BoardParts.{BoardParts}
use Rattle.mw_check.specs.declared.comparison.Compared.TheVariants.{Same}
use Rattle.mw_rel.specs.Begin.{Begin, IsCompleted}
use Rattle.mw_rel.specs.Free.{numbered}
use Rattle.mw_rel.specs.InRelation.{Pair}
use Rattle.mw_rel.specs.Job.{Job, IsJob}
use Rattle.mw_rel.specs.Start.{Start}
use Rattle.mw_replay.specs.Counter.{Counter, IsStartOf}
use Rattle.mw_replay.specs.CounterPrinted.{environment_lines}
use Rattle.mw_replay.proofs.Starts.{starts_are_one}
use Rattle.mw_top.specs.Commands.Compare.{compare_report}
use Rattle.mw_top.specs.Commands.Pal.{pal_report, printed_lines, start_text}
use Rattle.mw_sim.specs.StateText.{state_text}

-- the start of a counter with this pair
abbrev pub start_of : Job → Counter → Pair → Start
start_of job counter pair =
    record { boundary = numbered job counter.boundary; pair = pair; env = counter.begin.env }

-- it is the one that the counter gives, where the pair is the one in relation
pub completed_is : (job : Job) (counter : Counter) (pair : Pair) (start : Start) → IsJob job
    → counter.boundary < length job.relation.boundaries
    → IsCompleted job (numbered job counter.boundary) counter.begin pair → IsStartOf job counter start
    → start_of job counter pair ≡ start
completed_is job counter pair start is there completed its =
    starts_are_one job counter (start_of job counter pair) start is there
    (record { boundary = refl; pair = completed; env = refl }) its

-- the report of steps of which none differs, behind a text
pub same_behind : (t : List ℕ) (job : Job) (steps : ℕ) (text : List ℕ) (start : Start)
    → (((t ++ codes "; ") ++ compare_report job steps Same) ++ printed_lines text) ++ start_text job start
    ≡ t ++ pal_report job steps text start Same
unfolding pal_report
same_behind t job steps text start =
    let a = codes "; " in
    let b = compare_report job steps Same in
    let c = printed_lines text in
    let d = start_text job start in
    let front : ((t ++ a) ++ b) ++ c ≡ t ++ ((a ++ b) ++ c) =
    ap (λ (x : List ℕ). x ++ c) (append_assoc t a b) ∙ append_assoc t (a ++ b) c in
    ap (λ (x : List ℕ). x ++ d) front ∙ append_assoc t ((a ++ b) ++ c) d

-- a state and the lists of an environment behind a text, of another pair and another choice that are the same
pub state_behind : (old text : List ℕ) (board : BoardParts) (p q : Pair) (b e : Begin)
    → text ≡ (old ++ state_text board p.board) ++ environment_lines b.env → p ≡ q → b ≡ e
    → text ≡ old ++ (state_text board q.board ++ environment_lines e.env)
state_behind old text board p q b e is pairs begins =
    subst (λ (x : Pair). text ≡ old ++ (state_text board x.board ++ environment_lines e.env)) pairs
    (subst (λ (y : Begin). text ≡ old ++ (state_text board p.board ++ environment_lines y.env)) begins
    (is ∙ append_assoc old (state_text board p.board) (environment_lines b.env)))
