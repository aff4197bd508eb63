use Rattle.std.proofs.Common.{◌≡◌, ℕ, List, ◌<◌, ◌≤◌, ◌^◌, ap, arith, drop, length, length-take-le, slice_index, subst}
use Rattle.std.proofs.Common.{sym, take, ◌∙◌}
use Rattle.std.specs.Prelude.{None}
use Rattle.mw_term.specs.declared.side.Side.TheVariants.{Board}
use Rattle.mw_board.specs.Depth.{depth_of}
use Rattle.mw_board.specs.Elements.{element_count}
use Rattle.mw_cycle.specs.BoardTerms.{term_of_part}
use Rattle.mw_cycle.specs.Elements.{element_of}
use Rattle.mw_symboard.specs.Laws.{IsBeginning}
use Rattle.mw_symboard.specs.Parts as board
use Rattle.mw_rel.specs.Relation.{Boundary}
use Rattle.mw_rel.specs.Views.{job_of}
use Rattle.mw_rel.proofs.Elements.{widths_count}
use Rattle.mw_course.proofs.FirstListed.{first_listed}
use Rattle.mw_course.proofs.OnRun.{path_begins}
use Rattle.mw_course.proofs.Runs.{address_at, board_elements, pointer_at, start_widths, start_no_later, under_first}
use Rattle.mw_course.proofs.run.Run.new.Goals as goal

pub new-requires : goal.new-requires
new-requires c =
    let job = job_of c.args.job.now in
    let are = c.in_ok-start.ensures.elements in
    let k = element_count job.board in
    record {
      elements = ap length (c.board_terms.ensures ∙ ap (take k) c.deref.ensures.value)
          ∙ length-take-le k c.in_ok-start.start.terms.items
          (omega (arith, are.wide.count, widths_count job c.args.job.now.is_job));
    }

pub returns-clause-under : goal.returns-clause-under
returns-clause-under c =
    let job = job_of c.args.job.now in
    let valid = c.args.job.now.is_job in
    let are = c.in_ok-start.ensures.elements in
    let start = c.in_ok-start.start in
    let t = start.space.terms in
    let words = start.space.words in
    let k = element_count job.board in
    let here = c.boundary-at.ensures in
    let address = subst (λ (b : Boundary). b.address < 2 ^ 12) (sym here)
    (address_at job c.args.boundary valid c.requires.boundary) in
    let pointer = subst (λ (b : Boundary). b.sp ≤ depth_of job.board) (sym here)
    (pointer_at job c.args.boundary valid c.requires.boundary) in
    let same : c.board_terms.result.now ≡ take k start.terms.items =
    c.board_terms.ensures ∙ ap (take k) c.deref.ensures.value in
    let elements = subst (λ xs. board.AreElements job.board t xs) (sym same)
    (board_elements job t start.terms.items valid are.wide) in
    let e = c.in_ok-board.ensures in
    let symbolic = e.symbolic job.store t words start.space.memory address pointer elements
    (start_widths job.board t words are.kinds) (start_no_later words are.kinds) in
    under_first job t words start.space.memory _ start.terms.items _ valid are symbolic e.begins.side_is
    e.begins.line_is e.begins.cycle e.begins.taken e.begins.decided
    (c.in_ok-registers.ensures ∙ c.register_terms.ensures ∙ ap (drop k) c.deref-2.ensures.value)

pub returns-clause-first : goal.returns-clause-first
returns-clause-first c =
    let job = job_of c.args.job.now in
    let k = element_count job.board in
    let start = c.in_ok-start.start in
    let terms = start.terms.items in
    let e = c.in_ok-board.ensures in
    let same : c.board_terms.result.now ≡ take k terms = c.board_terms.ensures ∙ ap (take k) c.deref.ensures.value in
    let here = c.boundary-at.ensures in
    let none = c.in_ok-start.ensures.unwritten.0 in
    let registers = c.in_ok-registers.ensures ∙ c.register_terms.ensures ∙ ap (drop k) c.deref-2.ensures.value in
    let has = subst (λ (ts : List ℕ). board.HasElements job.board ts c.in_ok-board.board.place.parts) same e.elements in
    let new = subst (λ (b : Boundary). IsBeginning Board b.address b.sp None c.in_ok-board.board) here e.begins in (
      terms,
      λ path always. record {
        stands = c.in_ok-start.ensures.stands;
        everywhere = always;
        in_run = path_begins job c.args.boundary start.space terms c.in_ok-board.board _ c.args.job.now.is_job
            c.in_ok-start.ensures.elements has new none always;
        unwritten = c.in_ok-start.ensures.unwritten.1;
        registers = registers;
        listed = first_listed job c.args.boundary start.space terms _ c.in_ok-board.board
            (omega (arith, c.in_ok-start.ensures.elements.wide.count, widths_count job c.args.job.now.is_job))
            (returns-clause-under c).symbolic.parts has new none registers c.in_ok-start.ensures.listed;
        before = c.in_ok-board.ensures.begins.reading;
      },
    )
