-- Where a run comes to in its segment.
use Rattle.std.proofs.Common.{◌≡◌, ℕ, ◌+◌, ◌<◌, List, ap, sym, subst}
use Rattle.std.specs.Prelude.{true, false}
use Rattle.mw_term.specs.declared.decided.Decided.{Decided}
use Rattle.mw_cycle.specs.Boundary.{is_named}
use Rattle.mw_rel.specs.Free.{numbered}
use Rattle.mw_rel.specs.Job.{Job}
use Rattle.mw_rel.specs.Start.{addresses_of}
use Rattle.mw_symmem.specs.declared.turn.Turn.{Turn}
use Rattle.mw_symmem.specs.declared.turn.Turn.TheVariants.{Ask, Finished}
use Rattle.mw_symboard.specs.Seen.{Progress}
use Rattle.mw_term.specs.declared.decided.DecidedKind.{DecidedKind}
use Rattle.mw_course.specs.declared.run.Run.{Run}
use Rattle.mw_course.specs.OnWay.{HasFinished, HasMetSegment, IsOnRun, IsRunOf, IsTurnedOnRun, Turns}
use Rattle.mw_course.specs.Runs.{IsIdle, IsTurned}
use Rattle.mw_course.proofs.MetSegment.{late, next_of_segment, reached}
use Rattle.mw_term.specs.Functions.{Function}

-- A run that was on its way in the segment is so still, where it has come to.
abbrev pub StaysOnRun : Job → (number : ℕ) → (before after : Run) → Type 0
StaysOnRun job number before after =
    (elements : List ℕ) (bits : List Decided) (path : Function)
    → IsOnRun job number elements bits path before before.board.place.cycle
    → IsOnRun job number elements bits path after after.board.place.cycle

-- after a cycle of it
abbrev pub FinishesOnRun : Job → (number : ℕ) → (before after : Run) → (count : ℕ) → Type 0
FinishesOnRun job number before after count =
    (elements : List ℕ) (bits : List Decided) (path : Function)
    → IsOnRun job number elements bits path before before.board.place.cycle
    → IsOnRun job number elements bits path after count × HasFinished job number elements bits path after

pub finishes : (job : Job) (number : ℕ) (before run after : Run) (turn : Turn) → turn ≡ Finished
    → StaysOnRun job number before run → Turns job run after turn
    → FinishesOnRun job number before after run.board.place.cycle
finishes job number before run after turn is stays turns elements bits path on =
    subst (λ (t : Turn). IsTurnedOnRun job number elements bits path after run.board.place.cycle t) is
    (turns number elements bits path (stays elements bits path on))

-- at no boundary, before the bound
pub stays_next : (job : Job) (number n : ℕ) (before after : Run) → after.board.place.cycle ≡ n + 1
    → is_named (addresses_of job) after.board.place.at ≡ false → n + 1 < (numbered job number).bound
    → FinishesOnRun job number before after n → StaysOnRun job number before after
stays_next job number n before after made none below finishes elements bits path on =
    let both = finishes elements bits path on in
    subst (λ (m : ℕ). IsOnRun job number elements bits path after m) (sym made)
    (next_of_segment job number n elements bits path after made none below both.0 both.1)

-- ---- how it ended

-- it waits for the next bit, in the same cycle
pub asks : (job : Job) (number : ℕ) (before run after : Run) (turn : Turn) (kind : DecidedKind) (term : ℕ)
    → turn ≡ Ask kind term
    → IsTurned job run.board.place after.space.terms after.space.words after.space.memory after.board after.registers
    turn → StaysOnRun job number before run → Turns job run after turn
    → (elements : List ℕ) (bits : List Decided) (path : Function)
    → IsOnRun job number elements bits path before before.board.place.cycle
    → IsTurnedOnRun job number elements bits path after after.board.place.cycle (Ask kind term)
asks job number before run after turn kind term is turned stays turns elements bits path on =
    let same = (subst (IsTurned job run.board.place after.space.terms after.space.words after.space.memory after.board
    after.registers) is turned).1 in
    subst (λ (n : ℕ). IsTurnedOnRun job number elements bits path after n (Ask kind term))
    (sym (ap (λ (p : Progress). p.cycle) same))
    (subst (λ (t : Turn). IsTurnedOnRun job number elements bits path after run.board.place.cycle t) is
    (turns number elements bits path (stays elements bits path on)))

-- its cycle is finished
pub finished : (job : Job) (run after : Run) (turn : Turn) → turn ≡ Finished
    → IsTurned job run.board.place after.space.terms after.space.words after.space.memory after.board after.registers
    turn → IsRunOf job after × IsIdle after.board (run.board.place.cycle + 1)
finished job run after turn is turned =
    subst (IsTurned job run.board.place after.space.terms after.space.words after.space.memory after.board
    after.registers) is turned

-- at a boundary
pub at_boundary : (job : Job) (number n : ℕ) (before after : Run) → IsRunOf job after → after.board.place.cycle ≡ n + 1
    → is_named (addresses_of job) after.board.place.at ≡ true → n < (numbered job number).bound
    → FinishesOnRun job number before after n
    → (elements : List ℕ) (bits : List Decided) (path : Function)
    → IsOnRun job number elements bits path before before.board.place.cycle
    → HasMetSegment job number elements after.board.place.cycle false bits path after
at_boundary job number n before after under made named below finishes elements bits path on =
    let both = finishes elements bits path on in
    subst (λ (m : ℕ). HasMetSegment job number elements m false bits path after) (sym made)
    (reached job number n elements bits path after under made named below both.0 both.1)

-- late
pub at_bound : (job : Job) (number n : ℕ) (before after : Run) → IsRunOf job after → after.board.place.cycle ≡ n + 1
    → is_named (addresses_of job) after.board.place.at ≡ false → n + 1 ≡ (numbered job number).bound
    → FinishesOnRun job number before after n
    → (elements : List ℕ) (bits : List Decided) (path : Function)
    → IsOnRun job number elements bits path before before.board.place.cycle
    → HasMetSegment job number elements after.board.place.cycle true bits path after
at_bound job number n before after under made none bound finishes elements bits path on =
    let both = finishes elements bits path on in
    subst (λ (m : ℕ). HasMetSegment job number elements m true bits path after) (sym made)
    (late job number n elements bits path after under made none bound both.0 both.1)
