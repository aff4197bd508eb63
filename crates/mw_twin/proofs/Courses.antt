-- A course goes on through both segments of a case.
use Rattle.std.proofs.Common.{◌≡◌, ℕ, ◌<◌, ◌≤◌, List, Bool, true, false, Option, Some, None, refl, sym, subst}
use Rattle.std.proofs.Common.{arith}
use Rattle.std.specs.Prelude.{is_some}
use Rattle.mw_revise.specs.declared.programs.Side.TheVariants.{New, Old}
use Rattle.mw_segment.specs.declared.cycles.Came.{Came}
use Rattle.mw_segment.specs.declared.cycles.Came.TheVariants.{Asks, Reached, Late}
use Rattle.mw_segment.specs.Segments.{HasCome}
use Rattle.mw_space.specs.declared.space.Space.{Space}
use Rattle.mw_symboard.specs.Turns.{Symbolic}
use Rattle.mw_symmem.specs.declared.turn.Turn.{Turn}
use Rattle.mw_symmem.specs.declared.turn.Turn.TheVariants.{Ask, Finished}
use Rattle.mw_term.specs.declared.decided.Decided.{Decided}
use Rattle.mw_term.specs.declared.decided.DecidedKind.{DecidedKind}
use Rattle.mw_term.specs.Functions.{Function}
use Rattle.mw_twin.specs.Comes.{ComesInNew, ComesInOld}
use Rattle.mw_twin.specs.Courses.{GoesOnCourse, HasMetCase, HasRun, HaveCome, IsOnCourse, IsReadyIn, came_of, end_of}
use Rattle.mw_twin.specs.Courses.{WaitsIn, WaitsOnCourse}
use Rattle.mw_twin.specs.declared.course.Course.{Course}
use Rattle.mw_twin.specs.OnTwins.{Behind, HasMetNew, HasMetOld, IsOnNew, IsOnOld}
use Rattle.mw_twin.specs.Programs.{program_on}
use Rattle.mw_twin.specs.Ready.{IsInNew, IsInOld}
use Rattle.mw_twin.specs.RevisedBlocks.{RevisedBlock}

-- there is no new board before
none_before : (after : Option Symbolic) → is_some after ≡ false → after ≡ None
none_before None is = refl
none_before (Some o) is = absurd cc

-- the old segment goes on, on the paths through what was there, where the new board's elements have these terms
abbrev pub GoesWith : RevisedBlock → (old : Course) → (elements : List ℕ) → Space → Symbolic → Came → Type 0
GoesWith s old elements space o came = (own : List ℕ) (bits : List Decided) (path : Function)
    → IsOnOld s.revision s.block old.space own elements old.old_board bits path
    → ComesInOld s space own elements o bits path came

-- the same for a course's own terms
abbrev pub GoesInOld : RevisedBlock → (old : Course) → Space → Symbolic → Came → Type 0
GoesInOld s old space o came = GoesWith s old old.new_elements.items space o came

-- behind it the new segment begins, on each path on which it has ended at a boundary
abbrev pub BeginsWith : RevisedBlock → (elements : List ℕ) → Space → (o after : Symbolic) → Type 0
BeginsWith s elements space o after = (own : List ℕ) (bits : List Decided) (path : Function)
    → HasMetOld s.revision s.block space own elements o bits path
    → (b : Behind) × (b.board ≡ o) × IsOnNew s.revision s.block space own elements b after bits path

-- a course whose old segment went on
abbrev pub gone_with : Course → Space → Symbolic → (late : Bool) → (after : Option Symbolic) → Course
gone_with old space o late after =
    record {
      space = space;
      old_elements = old.old_elements;
      new_elements = old.new_elements;
      old_board = o;
      new_board = after;
      late = late;
    }

abbrev pub gone_on : Course → Space → Symbolic → Course
gone_on old space o = gone_with old space o old.late old.new_board

-- it waits for a bit
pub asks_on : (s : RevisedBlock) (old : Course) (space : Space) (o : Symbolic) (to : Came) (kind : DecidedKind) (term : ℕ)
    → to ≡ Asks kind term → is_some old.new_board ≡ false → IsInOld s space o old.new_elements.items
    → HasCome (program_on Old s.revision) s.block.bound space o to → GoesInOld s old space o to
    → WaitsIn s (gone_on old space o) old.new_board kind term
    × ((bits : List Decided) (path : Function) → IsOnCourse s bits path old old.new_board
    → WaitsOnCourse s bits path (gone_on old space o) old.new_board kind term)
asks_on s old space o to kind term is none in_old come goes =
    subst (λ (after : Option Symbolic). WaitsIn s (gone_on old space o) after kind term
    × ((bits : List Decided) (path : Function) → IsOnCourse s bits path old after
    → WaitsOnCourse s bits path (gone_on old space o) after kind term)) (sym (none_before old.new_board none)) (
      (in_old, subst (HasCome (program_on Old s.revision) s.block.bound space o) is come),
      λ bits path on.
          subst (ComesInOld s space old.old_elements.items old.new_elements.items o bits path) is
          (goes old.old_elements.items bits path on),
    )

-- it is late
pub late_on : (s : RevisedBlock) (old : Course) (space : Space) (o : Symbolic) (to : Came) → to ≡ Late
    → is_some old.new_board ≡ false → IsInOld s space o old.new_elements.items
    → HasCome (program_on Old s.revision) s.block.bound space o to → GoesInOld s old space o to
    → HasRun s (gone_with old space o true old.new_board)
    × ((bits : List Decided) (path : Function) → IsOnCourse s bits path old old.new_board
    → HasMetCase s bits path (gone_with old space o true old.new_board) old.new_board)
late_on s old space o to is none in_old come goes =
    let late = subst (HasCome (program_on Old s.revision) s.block.bound space o) is come in
    subst (λ (after : Option Symbolic). HasRun s (gone_with old space o true after)
    × ((bits : List Decided) (path : Function) → IsOnCourse s bits path old after
    → HasMetCase s bits path (gone_with old space o true after) after)) (sym (none_before old.new_board none)) (
      record {
        stands = (in_old, late, refl);
        few = omega (arith, in_old.reads, late.2, in_old.revised.block_is.most);
        fresh = in_old.fresh;
      },
      λ bits path on.
          subst (ComesInOld s space old.old_elements.items old.new_elements.items o bits path) is
          (goes old.old_elements.items bits path on),
    )

-- a course whose new segment has begun
abbrev pub begun_on : Course → Space → (o after : Symbolic) → Course
begun_on old space o after = gone_with old space o old.late (Some after)

-- the new segment begins
pub reached_on : (s : RevisedBlock) (old : Course) (space : Space) (o after : Symbolic) (to : Came) → to ≡ Reached
    → is_some old.new_board ≡ false → GoesInOld s old space o to → IsInNew s space o after → after.asked ≡ None
    → after.place.cycle < s.block.bound → BeginsWith s old.new_elements.items space o after
    → (next : Symbolic) × (Some after ≡ Some next) × IsReadyIn s (begun_on old space o after) (Some next)
    × ((bits : List Decided) (path : Function) → IsOnCourse s bits path old old.new_board
    → IsOnCourse s bits path (begun_on old space o after) (Some next))
reached_on s old space o after to is none goes in_new idle below begins = (
  after,
  refl,
  (in_new, idle, below),
  λ bits path.
      subst (λ (there : Option Symbolic). IsOnCourse s bits path old there
      → IsOnCourse s bits path (begun_on old space o after) (Some after)) (sym (none_before old.new_board none))
      (λ on. begins old.old_elements.items bits path
      (subst (ComesInOld s space old.old_elements.items old.new_elements.items o bits path) is
      (goes old.old_elements.items bits path on))),
)

-- ---- the new segment

-- the new segment goes on, on the paths through what was there
abbrev pub GoesInNew : RevisedBlock → (old : Course) → (before : Symbolic) → Space → (after : Symbolic) → Came → Type 0
GoesInNew s old before space after came =
    (own elements : List ℕ) (b : Behind) (bits : List Decided) (path : Function) → b.board ≡ old.old_board
    → IsOnNew s.revision s.block old.space own elements b before bits path
    → ComesInNew s space own elements b after bits path came

-- a course whose new segment went on
abbrev pub further_on : Course → Space → (after : Symbolic) → (late : Bool) → Course
further_on old space after late = gone_with old space old.old_board late (Some after)

ended_within : (s : RevisedBlock) (space : Space) (after : Symbolic) (late : Bool)
    → HasCome (program_on New s.revision) s.block.bound space after (came_of late) → after.place.cycle ≤ s.block.bound
ended_within s space after true come = omega (arith, come.2)
ended_within s space after false come = come.3

-- it has ended
pub new_ended : (s : RevisedBlock) (old : Course) (space : Space) (after : Symbolic) (to : Came) (late : Bool)
    → to ≡ came_of late → IsInNew s space old.old_board after
    → HasCome (program_on New s.revision) s.block.bound space after to → HasRun s (further_on old space after late)
new_ended s old space after to late is in_new come =
    let came = subst (HasCome (program_on New s.revision) s.block.bound space after) is come in
    record {
      stands = (in_new, came);
      few = omega (arith, in_new.reads, ended_within s space after late came, in_new.revised.block_is.most);
      fresh = in_new.fresh;
    }

-- it waits for a bit
pub new_asks_on : (s : RevisedBlock) (old : Course) (before : Symbolic) (space : Space) (after : Symbolic) (to : Came)
    (kind : DecidedKind) (term : ℕ) → to ≡ Asks kind term → old.new_board ≡ Some before
    → GoesInNew s old before space after to → GoesOnCourse s old (further_on old space after old.late) (Ask kind term)
new_asks_on s old before space after to kind term is there goes bits path on =
    let at = subst (IsOnCourse s bits path old) there on in (
      at.0,
      at.1,
      subst (ComesInNew s space old.old_elements.items old.new_elements.items at.0 after bits path) is
          (goes old.old_elements.items old.new_elements.items at.0 bits path at.1 at.2),
    )

met_new : (s : RevisedBlock) (space : Space) (own elements : List ℕ) (b : Behind) (after : Symbolic) (bits : List Decided)
    (path : Function) (late : Bool) → ComesInNew s space own elements b after bits path (came_of late)
    → HasMetNew s.revision s.block space own elements b after bits path (end_of late after)
met_new s space own elements b after bits path true met = met
met_new s space own elements b after bits path false met = met

-- it has ended, and met all bits
pub new_gone_on : (s : RevisedBlock) (old : Course) (before : Symbolic) (space : Space) (after : Symbolic) (to : Came)
    (late : Bool) → to ≡ came_of late → old.new_board ≡ Some before → GoesInNew s old before space after to
    → GoesOnCourse s old (further_on old space after late) Finished
new_gone_on s old before space after to late is there goes bits path on =
    let at = subst (IsOnCourse s bits path old) there on in (
      at.0,
      at.1,
      met_new s space old.old_elements.items old.new_elements.items at.0 after bits path late
          (subst (ComesInNew s space old.old_elements.items old.new_elements.items at.0 after bits path) is
          (goes old.old_elements.items old.new_elements.items at.0 bits path at.1 at.2)),
    )

-- ---- behind the old segment

pub come_on : (s : RevisedBlock) (old new : Course) (o : Option Turn) → o ≡ None → HaveCome s old new o
    → (bits : List Decided) (path : Function) → IsOnCourse s bits path old old.new_board
    → IsOnCourse s bits path new new.new_board
come_on s old new o none come bits path on =
    let is = subst (HaveCome s old new) none come in
    subst (λ (after : Option Symbolic). IsOnCourse s bits path new after) (sym is.1) (is.3 bits path on)
