-- Each assignment is that of a start, and each start has an assignment.
use Rattle.std.proofs.Common.{◌≡◌, ℕ, ◌+◌, ◌<◌, ◌^◌, List, take, length, map, refl, ap, sym, ◌∙◌, subst, arith}
use Rattle.std.specs.Prelude.{Some, slice_get, slice_index}
use Rattle.std.proofs.lemmas.Grind.{same_number_lists}
use Rattle.std.proofs.lemmas.List.{get_or-map, get_or-take, length-map}
use Rattle.std.proofs.lemmas.Option.{get_or_from_slice_get, slice_get-get_or}
use Rattle.mw_term.specs.declared.side.Side.TheVariants.{Board}
use Rattle.mw_board.specs.Elements.{element_count}
use Rattle.mw_cycle.specs.Elements.{element}
use Rattle.mw_cycle.specs.SteadyEnvironment.{Environment}
use Rattle.mw_cycle.specs.Thinned.{never_waiting}
use Rattle.mw_expr.specs.declared.shape.Shape.{Shape}
use Rattle.mw_expr.specs.Values as expr
use Rattle.mw_term.specs.Assigned.{Given}
use Rattle.mw_term.specs.declared.kinds.WordKind.TheVariants.{Element}
use Rattle.mw_term.specs.Values.{term_value}
use Rattle.mw_symmem.specs.Memory.{FitImage, IsBaseNumber, IsImage}
use Rattle.mw_symmem.specs.Words.{IsVariable}
use Rattle.mw_symmem.proofs.Reached.{images_are_reached}
use Rattle.mw_symmem.proofs.There.{images_are_there}
use Rattle.mw_symboard.specs.Laws.{IsEnvironmentOf}
use Rattle.mw_symboard.specs.Variables.{IsOutsideNumber}
use Rattle.mw_symboard.proofs.Environments.{environments_are_reached, environments_are_there, environments_stay}
use Rattle.mw_symmach.specs.Expressions.{values_at}
use Rattle.mw_rel.specs.Begin.{Begin}
use Rattle.mw_rel.specs.SteadyCase.{IsStartAt}
use Rattle.mw_rel.specs.Free.{no_boundary, numbered}
use Rattle.mw_rel.specs.InRelation.{InRelation, Pair, values_of}
use Rattle.mw_rel.specs.Job.{Job, IsJob, shape_of}
use Rattle.mw_rel.specs.Relation.{Boundary}
use Rattle.mw_rel.specs.SteadyStart.{Start}
use Rattle.mw_rel.proofs.Choices.{each_choice_gives_a_pair}
use Rattle.mw_rel.proofs.Elements.{board_value, pair_words, register_value, widths_count}
use Rattle.mw_rel.proofs.Standing.{board_address, dropped_at}
use Rattle.mw_ready.specs.Thinned.{always_ready}
use Rattle.mw_ready.proofs.Alike.{always_at}
use Rattle.mw_course.specs.Begins.{IsChosen}
use Rattle.mw_course.specs.Starts.{Ground, HaveAll, HaveFree, HaveStarts, IsGround, StandsForStart, registers_of}
use Rattle.mw_course.proofs.FreeValues.{begin_of, completed_free, element_inside, element_no_base, element_value}
use Rattle.mw_course.proofs.FreeValues.{outside_no_base, terms_begin, with_values}
use Rattle.mw_course.proofs.Runs.{registers_count}

-- ---- memories

board_word : (job : Job) → IsJob job → job.relation.shape.word ≡ job.board.width
unfolding shape_of
board_word job is = ap (λ (s : Shape). s.word) is.matched.parts.shape ∙ is.matched.word

-- an image of a run's memory is one of the job's
image_of_job : (job : Job) (number : ℕ) (g : Ground) (image : List ℕ) → IsJob job → IsGround job number g
    → IsImage g.memory image → expr.IsImage job.relation.shape image
image_of_job job number g image is ground has = record {
  size = has.size ∙ ap (λ n. 2 ^ n) (ground.space.address ∙ sym (board_address job is));
  words = λ i. subst (λ w. slice_index image i < 2 ^ w) (ground.space.word ∙ sym (board_word job is)) (has.words i);
}

-- the memory of a board that fits is an image of the run's
image_of_pair : (job : Job) (number : ℕ) (g : Ground) (boundary : Boundary) (pair : Pair) → IsGround job number g
    → InRelation job boundary pair → IsImage g.memory pair.board.memory
image_of_pair job number g boundary pair ground related = record {
  size = related.board_fits.size ∙ ap (λ n. 2 ^ n) (sym ground.space.address);
  words = λ i.
      subst (λ w. slice_index pair.board.memory i < 2 ^ w) (sym ground.space.word) (related.board_fits.memory i);
}

-- ---- a start

-- the boundary with a number is there
pub numbered_is : (job : Job) (number : ℕ) → number < length job.relation.boundaries
    → slice_get job.relation.boundaries number ≡ Some (numbered job number)
numbered_is job number inside = slice_get-get_or job.relation.boundaries number no_boundary inside

-- the boundary of a start
pub boundary_is : (job : Job) (number : ℕ) (start : Start) → IsStartAt job number start
    → numbered job number ≡ start.boundary
boundary_is job number start starts =
    get_or_from_slice_get job.relation.boundaries number start.boundary no_boundary starts.there

related_at : (job : Job) (number : ℕ) (start : Start) → IsStartAt job number start
    → InRelation job (numbered job number) start.pair
related_at job number start starts =
    subst (λ (b : Boundary). InRelation job b start.pair) (sym (boundary_is job number start starts))
    starts.begins.related

registers_are : (job : Job) (number : ℕ) (g : Ground) (given : Given) (pair : Pair) → IsJob job
    → IsGround job number g → InRelation job (numbered job number) pair → HaveAll job g given pair
    → pair.machine.registers ≡ values_at g.table given (registers_of job g.elements)
registers_are job number g given pair is ground related all =
    let k = element_count job.board in
    let terms = registers_of job g.elements in
    let value : ℕ → ℕ = λ term. term_value g.table given term in
    let size : length terms ≡ job.machine.registers = registers_count job g.table g.elements is ground.wide in
    let fit : length pair.machine.registers ≡ job.machine.registers = related.machine_fits.count in
    same_number_lists pair.machine.registers (map value terms) (fit ∙ sym size ∙ sym (length-map terms value))
    (λ i below.
    let inside : i < length terms = omega (arith, size, fit, below) in
    let within : k + i < length job.relation.shape.widths = omega (arith, widths_count job is, size, inside) in
    sym (register_value job.board pair.board pair.machine.registers i) ∙ all (k + i) within
    ∙ ap value (sym (dropped_at k g.elements i)) ∙ sym (get_or-map value terms i 0 0 inside))

elements_are : (job : Job) (number : ℕ) (g : Ground) (given : Given) (pair : Pair) (n : ℕ) → IsJob job
    → HaveAll job g given pair → n < element_count job.board
    → element job.board pair.board n
    ≡ term_value g.table given (slice_index (take (element_count job.board) g.elements) n)
elements_are job number g given pair n is all below =
    let inside : n < length job.relation.shape.widths = omega (arith, widths_count job is, below) in
    sym (board_value job.board pair.board pair.machine.registers n below) ∙ all n inside
    ∙ ap (λ term. term_value g.table given term) (sym (get_or-take (element_count job.board) g.elements n 0 below))

-- A start is that of an assignment under which its free elements have the values of their terms, its memory fits the
-- base reads, and its environment has the values of the variables.
start_of : (job : Job) (number : ℕ) (g : Ground) (given : Given) (start : Start) → IsJob job → IsGround job number g
    → IsStartAt job number start → HaveFree job number g given start.pair
    → FitImage g.table given g.memory.reads start.pair.board.memory
    → IsEnvironmentOf Board job.board g.table g.words given start.env → StandsForStart job number g given start
start_of job number g given start is ground starts free fit outside =
    let pair = start.pair in
    let related = related_at job number start starts in
    let image = image_of_pair job number g (numbered job number) pair ground related in
    let all : HaveAll job g given pair = ground.values given pair related image fit free in
    record {
      starts = starts;
      board = record {
        fits = record { image = image; fit = fit; outside = outside };
        begins = record {
          fits = related.board_fits;
          address = related.at;
          depth = related.sp;
          elements = λ n below. elements_are job number g given pair n is all below;
          memory = refl;
          first_line = λ term is. absurd cc;
        };
      };
      registers = registers_are job number g given pair is ground related all;
    }

-- ---- each assignment is that of a start

-- A start with an image that the base reads fit, and with an environment that has the values of the variables: what the
-- values of the free elements' terms, the image and the environment choose.
pub start_with : (job : Job) (number : ℕ) (g : Ground) → IsJob job → IsGround job number g → (given : Given)
    (image : List ℕ) (env : Environment) → IsImage g.memory image → FitImage g.table given g.memory.reads image
    → IsEnvironmentOf Board job.board g.table g.words given env
    → (start : Start)
    × IsChosen job number (begin_of job (numbered job number) g.table given g.elements image (never_waiting env))
    (always_ready start)
    × StandsForStart job number g given start
start_with job number g is ground given image env fits fit outside =
    let boundary = numbered job number in
    let waiting = never_waiting env in
    let begin : Begin = begin_of job boundary g.table given g.elements image waiting in
    let choice = terms_begin job boundary g.table given g.elements image waiting ground.space.workspace.table
    ground.wide
    (image_of_job job number g image is ground fits) in
    let pair = each_choice_gives_a_pair job number begin is ground.there choice in
    let memory : pair.0.board.memory ≡ image = pair.1.related.memory ∙ pair.1.memory in
    let there = numbered_is job number ground.there in
    let start : Start = record { boundary = boundary; pair = pair.0; env = env } in
    let starts : IsStartAt job number start = record {
      begins = record { boundary = (number, there); related = pair.1.related; env = outside.within };
      there = there;
    } in (
      start,
      record { starts = always_at job number start starts; pair = pair.1; env = refl },
      start_of job number g given start is ground starts
          (λ n below free.
          completed_free job boundary g.table given g.elements image waiting pair.0 n pair.1 below free)
          (subst (λ xs. FitImage g.table given g.memory.reads xs) (sym memory) fit) outside,
    )

start_there : (job : Job) (number : ℕ) (g : Ground) → IsJob job → IsGround job number g
    → (given : Given) → (start : Start) × StandsForStart job number g given start
start_there job number g is ground given =
    let work = ground.space.workspace in
    let image = images_are_there g.table g.words g.memory given work.table work.memory in
    let env =
    environments_are_there Board job.board g.table g.words ground.cycles given work.table ground.own ground.variables in
    let one = start_with job number g is ground given image.0 env.0 image.1 image.2 env.1 in
    (one.0, one.2)

-- ---- each start has an assignment

-- an assignment gives the variable of each element its value at a start
abbrev pub HasElements : Job → Ground → Given → Start → Type 0
HasElements job g given start = (place term n : ℕ) → IsVariable g.words place term (Element n)
    → given (place + 1) ≡ with_values g.words (values_of job.board start.pair) (place + 1)

-- From such an assignment comes one of the start, which differs from it in the variables of base reads and of the
-- environment alone.
pub reached_from : (job : Job) (number : ℕ) (g : Ground) → IsJob job → IsGround job number g → (start : Start)
    → IsStartAt job number start → (first : Given) → HasElements job g first start
    → (given : Given) × StandsForStart job number g given start
    × ((n : ℕ) → ¬ IsOutsideNumber Board g.words n → ¬ IsBaseNumber g.words n → given n ≡ first n)
reached_from job number g is ground start starts first has =
    let work = ground.space.workspace in
    let related = related_at job number start starts in
    let image = image_of_pair job number g (numbered job number) start.pair ground related in
    let values = values_of job.board start.pair in
    let words = pair_words job start.pair is (record { board = related.board_fits; machine = related.machine_fits }) in
    let second =
    environments_are_reached Board job.board g.table g.words ground.cycles first start.env work.table work.of ground.own
    ground.variables starts.begins.env in
    let third =
    images_are_reached g.table g.words g.memory start.pair.board.memory second.0 work.table work.memory image in
    let outside = environments_stay Board job.board g.table g.words second.0 third.0 start.env work.table work.of
    (λ n at. third.2 n (outside_no_base g.words n at)) second.1 in
    let free : HaveFree job number g third.0 start.pair = λ n below at.
    (let v = ground.free n below at in
    let term = slice_index g.elements n in
    element_value g.table g.words v.0 term n (slice_index job.relation.shape.widths n) values third.0
    work.table work.of v.1 (ground.wide.each n below) (words.each n below)
    (third.2 (v.0 + 1) (element_no_base g.words v.0 term n v.1)
    ∙ second.2 (v.0 + 1) (element_inside g.words v.0 term n v.1) ∙ has v.0 term n v.1)) in (
      third.0,
      start_of job number g third.0 start is ground starts free third.1 outside,
      λ n inside read. third.2 n read ∙ second.2 n inside,
    )

start_reached : (job : Job) (number : ℕ) (g : Ground) → IsJob job → IsGround job number g
    → (start : Start) → IsStartAt job number start → (given : Given) × StandsForStart job number g given start
start_reached job number g is ground start starts =
    let reached =
    reached_from job number g is ground start starts (with_values g.words (values_of job.board start.pair))
    (λ place term n at. refl) in
    (reached.0, reached.1)

pub have_starts : (job : Job) (number : ℕ) (g : Ground) → IsJob job → IsGround job number g → HaveStarts job number g
have_starts job number g is ground = record {
  there = start_there job number g is ground;
  reached = start_reached job number g is ground;
}
