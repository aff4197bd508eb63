use Rattle.std.proofs.Common.{List, subst}
use Rattle.std.specs.Prelude.{Bool}
use Rattle.mw_cycle.specs.SegmentWords.{Segment}
use Rattle.mw_segment.specs.Left.{ComesAlong, IsAlongSegment}
use Rattle.mw_segment.specs.Programs.{Program}
use Rattle.mw_segment.specs.Segments.{ComesOnPath, IsOnSegment}
use Rattle.mw_symboard.specs.Paths.{Origin}
use Rattle.mw_term.specs.declared.decided.Decided.{Decided}
use Rattle.mw_term.specs.Functions.{Function}
use Rattle.mw_twin.specs.RevisedBlocks.{RevisedBlock}
use Rattle.mw_twin.proofs.segments.go.Goals as goal

pub returns-clause-paths : goal.returns-clause-paths
returns-clause-paths c =
    let new = c.segment.new in
    let came = c.in_ok-came.came in
    subst (λ (p : Program). (b : Origin) (bits : List Decided) (path : Function)
    → IsOnSegment p c.args.space.now b c.args.board.now bits path
    → ComesOnPath p c.args.revised.now.block.bound new.space b new.board bits path came) c.program-program.ensures
    (subst (λ (s : RevisedBlock). (b : Origin) (bits : List Decided) (path : Function)
    → IsOnSegment c.program-program.result c.args.space.now b c.args.board.now bits path
    → ComesOnPath c.program-program.result s.block.bound new.space b new.board bits path came) c.revised.view_is
    c.in_ok-came.ensures.paths)

pub returns-clause-listed : goal.returns-clause-listed
returns-clause-listed c =
    let new = c.segment.new in
    let came = c.in_ok-came.came in
    subst (λ (p : Program). (whole : List Bool → Segment) (bits : List Bool)
    → IsAlongSegment p c.args.revised.now.block.bound whole bits c.args.space.now c.args.board.now
    → ComesAlong p c.args.revised.now.block.bound whole bits new.space new.board came) c.program-program.ensures
    (subst (λ (s : RevisedBlock). (whole : List Bool → Segment) (bits : List Bool)
    → IsAlongSegment c.program-program.result s.block.bound whole bits c.args.space.now c.args.board.now
    → ComesAlong c.program-program.result s.block.bound whole bits new.space new.board came) c.revised.view_is
    c.in_ok-came.ensures.listed)
