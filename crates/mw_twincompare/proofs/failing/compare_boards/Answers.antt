use Rattle.std.proofs.Common.{◌≡◌, List, true, ap, sym, subst, ◌∙◌, refl}
use Rattle.std.specs.Prelude.{All, None, Some}
use Rattle.std.proofs.lemmas.Option.{IfSome_then}
use Rattle.mw_board.specs.declared.parts.BoardParts.{BoardParts}
use Rattle.mw_path.proofs.Grown.{stays_itself}
use Rattle.mw_path.specs.Paths.{path_in}
use Rattle.mw_revise.specs.declared.keep.KeepLine.{KeepLine}
use Rattle.mw_revise.specs.declared.programs.Side.TheVariants.{Old}
use Rattle.mw_revise.specs.Kept.{IsLine}
use Rattle.mw_revise.specs.Revision.{Revision, block_at}
use Rattle.mw_twin.specs.Origins.{ground_in}
use Rattle.mw_twin.specs.RevisedBlocks.{RevisedBlock}
use Rattle.mw_twincompare.proofs.BoardsCompared.{IsOfAll, MayAgree, all_same, at_boundary, found_so, none_so, stops_so}
use Rattle.mw_twincompare.proofs.BoardsCompared.{within_so}
use Rattle.mw_twincompare.proofs.CaseCompared.{lines_at, nowhere_none, unlike_found, unlike_within}
use Rattle.mw_twincompare.proofs.failing.compare_boards.Given.{Over}
use Rattle.mw_twincompare.proofs.failing.compare_boards.Goals as goal

pub unreachable-requires : goal.unreachable-requires
unreachable-requires g c =
    let is = c.requires.ended in
    at_boundary c.args.revised.now is.0 (path_in c.args.paths.now) c.args.space.now is.1 is.2 c.args.old_board.now
    c.args.new_board.now is.3
    (ap (block_at Old c.args.revised.now.revision) (sym c.at.ensures)
    ∙ subst (λ (r : RevisedBlock). block_at Old r.revision c.at.result ≡ None) c.revised.view_is
    (c.in_default.ensures.none refl))

pub returns-then-not-may_agree-clause-paths : goal.returns-then-not-may_agree-clause-paths
returns-then-not-may_agree-clause-paths g c =
    record { made = c.requires.paths.share.bits; stay = stays_itself c.args.paths.now }

pub returns-then-not-may_agree-clause-none : goal.returns-then-not-may_agree-clause-none
returns-then-not-may_agree-clause-none g c = λ none bits old_elements new_elements is.
    nowhere_none c.args.revised.now (ground_in c.args.space.now old_elements new_elements) bits
    (path_in c.args.paths.now) is.revised is.on (c.in_ok-first_assignment.ensures.none none)

pub returns-then-not-may_agree-clause-within : goal.returns-then-not-may_agree-clause-within
returns-then-not-may_agree-clause-within g c = λ none bits old_elements new_elements is.
    unlike_within c.args.revised.now bits (path_in c.args.paths.now) c.args.space.now old_elements new_elements
    c.args.old_board.now c.args.new_board.now c.in-Some.reached.now is c.requires.kept
    (ap (block_at Old c.args.revised.now.revision) (sym c.at.ensures)
    ∙ subst (λ (r : RevisedBlock). block_at Old r.revision c.at.result ≡ Some c.in-Some.reached.now) c.revised.view_is
    c.in-Some.ensures.some) c.args.nodes (sym c.may_agree.ensures ∙ c.if-not-may_agree.true)

pub returns-then-not-may_agree-clause-found : goal.returns-then-not-may_agree-clause-found
returns-then-not-may_agree-clause-found g c =
    IfSome_then c.in_ok-first_assignment.field-0 c.in_ok-first_assignment.ensures.first
    (λ numbers first bits old_elements new_elements is.
    unlike_found c.args.revised.now bits (path_in c.args.paths.now) c.args.space.now old_elements new_elements
    c.args.old_board.now c.args.new_board.now c.in-Some.reached.now is c.requires.kept
    (ap (block_at Old c.args.revised.now.revision) (sym c.at.ensures)
    ∙ subst (λ (r : RevisedBlock). block_at Old r.revision c.at.result ≡ Some c.in-Some.reached.now) c.revised.view_is
    c.in-Some.ensures.some) numbers
    (sym c.may_agree.ensures ∙ c.if-not-may_agree.true) first)

pub compare_all-requires-clause-lines : goal.compare_all-requires-clause-lines
compare_all-requires-clause-lines g c =
    let s = c.args.revised.now in
    let there : block_at Old s.revision c.at.result ≡ Some c.in-Some.reached.now =
    subst (λ (r : RevisedBlock). block_at Old r.revision c.at.result ≡ Some c.in-Some.reached.now) c.revised.view_is
    c.in-Some.ensures.some in
    let board = ap (λ (r : Revision). r.board) c.revision.view_is
    ∙ ap (λ (r : RevisedBlock). r.revision.board) c.revised.view_is in
    subst (λ (b : BoardParts). All (IsLine b) c.as_slice.result.now) (sym board)
    (subst (λ (ls : List KeepLine). All (IsLine s.revision.board) ls) (sym c.as_slice.ensures)
    (lines_at s.revision c.at.result c.in-Some.reached.now c.requires.kept there))

-- ---- where all was compared

-- the block that the old board has reached
there_is : (g : Over) (c : goal.After-compare_all g)
    → block_at Old c.args.revised.now.revision c.args.old_board.now.place.at ≡ Some c.in-Some.reached.now
there_is g c =
    ap (block_at Old c.args.revised.now.revision) (sym c.at.ensures)
    ∙ subst (λ (r : RevisedBlock). block_at Old r.revision c.at.result ≡ Some c.in-Some.reached.now) c.revised.view_is
    c.in-Some.ensures.some

may_be : (g : Over) (c : goal.After-compare_all g)
    → MayAgree c.in-Some.reached.now c.args.old_board.now c.args.new_board.now ≡ true
may_be g c = sym c.may_agree.ensures ∙ c.if-not-may_agree.false

all_is : (g : Over) (c : goal.After-compare_all g)
    → IsOfAll c.args.revised.now.revision.board c.in-Some.reached.now.lines c.args.nodes c.args.space.now
    c.compare_all.new.space (path_in c.args.paths.now) c.args.old_board.now c.args.new_board.now c.compare_all.result
all_is g c =
    let e = c.compare_all.ensures in
    all_same _ _ _ _ c.args.nodes c.args.space.now c.compare_all.new.space (path_in c.args.paths.now)
    c.args.old_board.now c.args.new_board.now c.compare_all.result
    (ap (λ (r : Revision). r.board) c.revision.view_is
    ∙ ap (λ (r : RevisedBlock). r.revision.board) c.revised.view_is) c.as_slice.ensures
    (record { goes = e.goes; own = e.own; compared = e.compared; same = e.same; apart = e.apart })

pub returns-clause-none : goal.returns-clause-none
returns-clause-none g c =
    none_so c.args.revised.now (path_in c.args.paths.now) c.args.space.now c.compare_all.new.space c.args.old_board.now
    c.args.new_board.now c.in-Some.reached.now c.args.nodes c.requires.kept (there_is g c) (may_be g c)
    c.compare_all.result (all_is g c)

pub returns-clause-within : goal.returns-clause-within
returns-clause-within g c =
    within_so c.args.revised.now (path_in c.args.paths.now) c.args.space.now c.compare_all.new.space
    c.args.old_board.now c.args.new_board.now c.in-Some.reached.now c.args.nodes c.requires.kept (there_is g c)
    (may_be g c) c.compare_all.result (all_is g c)

pub returns-clause-found : goal.returns-clause-found
returns-clause-found g c =
    found_so c.args.revised.now (path_in c.args.paths.now) c.args.space.now c.compare_all.new.space c.args.old_board.now
    c.args.new_board.now c.in-Some.reached.now c.args.nodes c.requires.kept (there_is g c) (may_be g c)
    c.compare_all.result (all_is g c)

pub returns-clause-over : goal.returns-clause-over
returns-clause-over g c =
    stops_so c.args.revised.now (path_in c.args.paths.now) c.args.space.now c.compare_all.new.space c.args.old_board.now
    c.args.new_board.now c.in-Some.reached.now c.args.nodes c.requires.kept (there_is g c) (may_be g c)
    c.compare_all.result c.over_have_numbers.ensures.over (all_is g c)
