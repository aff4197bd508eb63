use Rattle.std.proofs.Common.{sym, ◌≡◌, ◌∙◌}
use Rattle.std.proofs.lemmas.Result.{on_ok_weaker}
use Rattle.mw_rel.specs.ComparisonWords.{line, with_line}
use Rattle.mw_rel.specs.Seen.{line_of}
use Rattle.mw_rel.specs.Views.{job_of}
use Rattle.mw_rel.proofs.Standing.{board_address}
use Rattle.mw_symmach.specs.Expressions.{IsBase}
use Rattle.mw_term.specs.declared.kinds.WordKind.TheVariants.{Probe}
use Rattle.mw_term.specs.WordList.{term_of}
use Rattle.mw_space.specs.declared.space.Space.{Space}
use Rattle.mw_fork.specs.Comparing.{GoesComparing}
use Rattle.mw_path.specs.Paths.{path_in}
use Rattle.mw_course.proofs.Boundaries.{machine_word}
use Rattle.mw_compare.proofs.ComparingOn.{compares_later, comparing_paths, comparing_then}
use Rattle.mw_fork.proofs.LineCompared.{HasMadeRight, base_goes, both_wide, left_at, line_ends, line_fails}
use Rattle.mw_fork.proofs.LineCompared.{line_holds, line_ready, shape_is}
use Rattle.mw_compare.proofs.MemoryCompared.{not_base}
use Rattle.mw_course.proofs.Runs.{probe_kept}
use Rattle.mw_fork.proofs.comparing.compare_line.Given.{Over}
use Rattle.mw_fork.proofs.comparing.compare_line.Goals as goal

pub expr_term-requires : goal.expr_term-requires
expr_term-requires g c =
    let job = job_of c.args.job.now in
    let valid = c.args.job.now.is_job in
    line_ready job.relation.shape c.args.space.now c.args.elements.now (line_of c.args.line.now) c.requires.line_of
    c.requires.space.workspace c.requires.wide
    (shape_is job.relation.shape c.args.space.now.terms c.args.elements.now c.args.space.now.memory c.requires.wide
    (board_address job valid ∙ sym c.requires.space.address)
    (machine_word job valid ∙ valid.matched.word ∙ sym c.requires.space.word)) c.requires.few

pub apart-requires-clause-paths : goal.apart-requires-clause-paths
apart-requires-clause-paths g c =
    let mid : Space =
    record { terms = c.expr_term.new.terms; words = c.expr_term.new.words; memory = c.expr_term.new.memory } in
    comparing_paths c.args.space.now mid c.args.paths.now
    (base_goes c.args.space.now mid _ c.in_ok-right.ensures.made.runs)
    c.requires.paths

pub apart-requires-clause-wide : goal.apart-requires-clause-wide
apart-requires-clause-wide g c =
    let job = job_of c.args.job.now in
    let valid = c.args.job.now.is_job in
    let mid : Space =
    record { terms = c.expr_term.new.terms; words = c.expr_term.new.words; memory = c.expr_term.new.memory } in
    both_wide job.relation.shape c.args.space.now mid c.args.elements.now (line_of c.args.line.now)
    c.index-elements-line.result c.in_ok-right.right c.requires.line_of
    (record {
      workspace = c.requires.space.workspace;
      shape = shape_is job.relation.shape c.args.space.now.terms c.args.elements.now c.args.space.now.memory
          c.requires.wide (board_address job valid ∙ sym c.requires.space.address)
          (machine_word job valid ∙ valid.matched.word ∙ sym c.requires.space.word);
      wide = c.requires.wide;
      made = c.in_ok-right.ensures.made;
      listed = c.in_ok-right.ensures.listed;
    })
    (left_at (job_of c.args.job.now).relation.shape c.args.space.now.terms c.args.elements.now
    (line_of c.args.line.now) _
    c.requires.line_of c.requires.wide c.index-elements-line.is)

abbrev mid_space : (g : Over) (c : goal.After-apart g) → Space
mid_space g c = record { terms = c.expr_term.new.terms; words = c.expr_term.new.words; memory = c.expr_term.new.memory }

right_made : (g : Over) (c : goal.After-apart g)
    → HasMadeRight (job_of c.args.job.now).relation.shape c.args.space.now (mid_space g c) c.args.elements.now
    (line_of c.args.line.now) c.in_ok-right.right
right_made g c =
    let job = job_of c.args.job.now in
    let valid = c.args.job.now.is_job in
    record {
      workspace = c.requires.space.workspace;
      shape = shape_is job.relation.shape c.args.space.now.terms c.args.elements.now c.args.space.now.memory
          c.requires.wide (board_address job valid ∙ sym c.requires.space.address)
          (machine_word job valid ∙ valid.matched.word ∙ sym c.requires.space.word);
      wide = c.requires.wide;
      made = c.in_ok-right.ensures.made;
      listed = c.in_ok-right.ensures.listed;
    }

to_apart : (g : Over) (c : goal.After-apart g) → GoesComparing c.args.space.now (mid_space g c)
to_apart g c = base_goes c.args.space.now (mid_space g c) _ c.in_ok-right.ensures.made.runs

pub returns-clause-goes : goal.returns-clause-goes
returns-clause-goes g c =
    on_ok_weaker c.apart.result (comparing_then c.args.space.now (mid_space g c) c.apart.new.space (to_apart g c))
    c.apart.ensures.goes

-- the right side has base reads, but no probe
pub returns-clause-probe : goal.returns-clause-probe
returns-clause-probe g c =
    let old = c.args.space.now in
    let mid = mid_space g c in
    on_ok_weaker c.apart.result
    (λ (same : term_of c.apart.new.space.words Probe ≡ term_of mid.words Probe).
    same ∙ probe_kept IsBase old.terms mid.terms old.words mid.words old.memory mid.memory
    c.in_ok-right.ensures.made.runs.goes (λ is. not_base is.0 is.1))
    c.apart.ensures.probe

pub returns-clause-compared : goal.returns-clause-compared
returns-clause-compared g c = λ sides on.
    let s = (job_of c.args.job.now).relation.shape in
    let l = line_of c.args.line.now in
    compares_later c.args.nodes c.args.space.now (mid_space g c) c.apart.new.space (path_in c.args.paths.now)
    (line l.left) c.index-elements-line.result c.in_ok-right.right (with_line s sides l) c.apart.result
    (to_apart g c).goes.later.extends.map
    (λ so_far same. line_ends s c.args.space.now (mid_space g c) c.args.elements.now l c.index-elements-line.result
    c.in_ok-right.right sides so_far (right_made g c) (left_at s c.args.space.now.terms c.args.elements.now l _
    c.requires.line_of c.requires.wide c.index-elements-line.is) on same)
    (c.apart.ensures.compared (line l.left))

pub returns-clause-same : goal.returns-clause-same
returns-clause-same g c =
    line_holds (job_of c.args.job.now).relation.shape c.args.space.now (mid_space g c) c.apart.new.space
    (path_in c.args.paths.now) c.args.elements.now (line_of c.args.line.now) c.index-elements-line.result
    c.in_ok-right.right c.apart.result (right_made g c) (left_at
    (job_of c.args.job.now).relation.shape c.args.space.now.terms c.args.elements.now (line_of c.args.line.now) _
    c.requires.line_of c.requires.wide c.index-elements-line.is) c.apart.ensures.goes c.apart.ensures.same

pub returns-clause-apart : goal.returns-clause-apart
returns-clause-apart g c =
    line_fails (job_of c.args.job.now).relation.shape c.args.space.now (mid_space g c) c.apart.new.space
    c.args.elements.now (line_of c.args.line.now) c.index-elements-line.result c.in_ok-right.right c.apart.result
    (right_made g c) (left_at (job_of c.args.job.now).relation.shape c.args.space.now.terms c.args.elements.now
    (line_of c.args.line.now) _
    c.requires.line_of c.requires.wide c.index-elements-line.is) c.apart.ensures.goes c.apart.ensures.apart
