-- What is known of starts stays as a run goes on.
use Rattle.std.proofs.Common.{◌≡◌, inl, inr, ℕ, ◌+◌, ◌<◌, List, ◌++◌, length, length-drop, slice_index, ap, sym}
use Rattle.std.proofs.Common.{subst, ◌∙◌, arith, refl}
use Rattle.std.specs.Prelude.{true, Some, None}
use Rattle.std.proofs.lemmas.Option.{same_Some}
use Rattle.mw_term.specs.declared.side.Side.TheVariants.{Board}
use Rattle.mw_board.specs.Elements.{element_count}
use Rattle.mw_term.specs.declared.decided.Decided.{Decided}
use Rattle.mw_term.specs.Assigned.{Given}
use Rattle.mw_term.specs.declared.kinds.WordKind.{WordKind}
use Rattle.mw_term.specs.declared.kinds.WordKind.TheVariants.{Element}
use Rattle.mw_term.specs.declared.word.Word.{Word}
use Rattle.mw_term.specs.Functions.{Function}
use Rattle.mw_term.specs.Table.{Table}
use Rattle.mw_term.specs.Values.{term_value}
use Rattle.mw_term.specs.WordList.{term_of, variable}
use Rattle.mw_symmem.specs.Memory.{IsOfWidth}
use Rattle.mw_symmem.specs.Words.{HaveOwnKinds, IsVariable}
use Rattle.mw_symmem.specs.Workspace.{GoesOn, HaveKinds, IsLater}
use Rattle.mw_symmem.proofs.Later.{image_before, images_fit_before, width_later}
use Rattle.mw_symmem.proofs.Lists.{behind}
use Rattle.mw_symboard.specs.Paths.{IsOneOf}
use Rattle.mw_symboard.specs.Variables.{HaveVariables}
use Rattle.mw_symboard.proofs.Runs.{runs_fit_before}
use Rattle.mw_symboard.proofs.Standing.{found_stays}
use Rattle.mw_symboard.proofs.Variables.{none_both, none_kind}
use Rattle.mw_symmach.specs.Expressions.{AreTerms, values_at}
use Rattle.mw_symmach.proofs.Making.{values_same}
use Rattle.mw_rel.specs.Job.{Job, IsJob}
use Rattle.mw_rel.specs.SteadyStart.{Start}
use Rattle.mw_rel.proofs.Standing.{dropped_at}
use Rattle.mw_symboard.proofs.Environments.{either}
use Rattle.mw_course.specs.Boundaries.{AreWide}
use Rattle.mw_course.specs.CasePaths.{IsCasePath, OnPath}
use Rattle.mw_space.specs.declared.space.Space.{Space}
use Rattle.mw_course.specs.OnWay.{IsOnWay, ground_in}
use Rattle.mw_course.specs.Starts.{GoesTo, Ground, HaveValues, IsGround, StandsForStart, course_of, origin_of}
use Rattle.mw_course.specs.Starts.{registers_of}
use Rattle.mw_course.proofs.Boundaries.{space_later}
use Rattle.mw_course.proofs.Runs.{board_elements}

-- ---- a start

-- the registers' terms are terms of the table
registers_there : (job : Job) (number : ℕ) (g : Ground) → IsGround job number g
    → AreTerms g.table (registers_of job g.elements)
registers_there job number g ground i inside =
    let k = element_count job.board in
    let there = ground.wide.each (k + i)
    (omega (arith, length-drop k g.elements, inside, ground.wide.count)) in
    rw (dropped_at k g.elements i) there.there

-- a start of what a run went on to was one before
pub start_before : (job : Job) (number : ℕ) (old new : Ground) (given : Given) (start : Start) → IsJob job
    → IsGround job number old → GoesTo old new → StandsForStart job number new given start
    → StandsForStart job number old given start
start_before job number old new given start is ground goes one =
    let before = runs_fit_before Board job.board old.table new.table old.words new.words goes.more old.memory new.memory given
    (course_of start) ground.space.workspace goes.later goes.words goes.reads in
    let origin = origin_of job number old.elements in
    let same : origin_of job number new.elements ≡ origin = ap (origin_of job number) goes.elements in
    let board =
    subst (λ b. IsOneOf job.board new.table new.words new.memory b given (course_of start)) same one.board in
    let registers = subst (λ xs. start.pair.machine.registers ≡ values_at new.table given (registers_of job xs))
    goes.elements one.registers in
    record {
      starts = one.starts;
      board = record {
        fits = before.0 board.fits;
        begins = before.1 origin.terms origin.at origin.sp origin.line
            (board_elements job old.table old.elements is ground.wide) (λ term own. absurd cc) board.begins;
      };
      registers = registers
          ∙ values_same old.table new.table given (registers_of job old.elements) goes.later.keeps
          (registers_there job number old ground);
    }

-- ---- the ground

-- what a run works on went on
pub goes_to : (K : WordKind → Type 0) (old new : Space) (elements : List ℕ)
    → GoesOn K old.terms new.terms old.words new.words old.memory new.memory → HaveOwnKinds new.words
    → GoesTo (ground_in old elements) (ground_in new elements)
goes_to K old new elements goes own = record {
  later = goes.later;
  more = goes.more;
  words = goes.words;
  reads = goes.reads;
  workspace = goes.workspace;
  elements = refl;
  own = own;
}

wide_later : (told tnew : Table) (widths old new : List ℕ) → IsLater told tnew → new ≡ old → AreWide told widths old
    → AreWide tnew widths new
wide_later told tnew widths old new later same wide =
    subst (AreWide tnew widths) (sym same) (record {
      count = wide.count;
      each = λ i below. width_later told tnew (slice_index widths i) (slice_index old i) later (wide.each i below);
    })

-- the value of an element's term is what it was
value_before : (job : Job) (number : ℕ) (old new : Ground) (given : Given) (n : ℕ) → IsGround job number old
    → GoesTo old new → n < length job.relation.shape.widths
    → term_value new.table given (slice_index new.elements n) ≡ term_value old.table given (slice_index old.elements n)
value_before job number old new given n ground goes below =
    ap (λ xs. term_value new.table given (slice_index xs n)) goes.elements
    ∙ goes.later.keeps.values given (slice_index old.elements n) (ground.wide.each n below).there

values_later : (job : Job) (number : ℕ) (old new : Ground) → IsGround job number old → GoesTo old new
    → HaveValues job number new
values_later job number old new ground goes given pair related image fits free n below =
    ground.values given pair related (image_before old.memory new.memory pair.board.memory goes.reads image)
    (images_fit_before old.table new.table old.words old.memory new.memory given pair.board.memory goes.later
    ground.space.workspace.memory goes.reads fits)
    (λ k inside is. free k inside is ∙ value_before job number old new given k ground goes inside) n below
    ∙ sym (value_before job number old new given n ground goes below)

pub ground_later : (job : Job) (number : ℕ) (old new : Ground) (cycles : ℕ) → IsJob job → IsGround job number old
    → GoesTo old new → HaveVariables Board job.board new.table new.words cycles → IsGround job number new
ground_later job number old new cycles is ground goes have = record {
  there = ground.there;
  space = space_later job old.table new.table old.words new.words old.memory new.memory goes.later goes.reads
      goes.workspace ground.space;
  wide = wide_later old.table new.table job.relation.shape.widths old.elements new.elements goes.later goes.elements
      ground.wide;
  free = λ n below free.
      let own = ground.free n below free in
      let term = slice_index old.elements n in (
        own.0,
        subst (λ xs. IsVariable new.words own.0 (slice_index xs n) (Element n)) (sym goes.elements)
            (subst (λ ws. IsVariable ws own.0 term (Element n)) (sym goes.words)
            (behind old.words goes.more own.0 (variable term (Element n)) own.1)),
      );
  values = values_later job number old new ground goes;
  cycles = cycles;
  variables = have;
  own = goes.own;
}

-- ---- variables among words that are added

-- a kind that isn't there, and that no word more has, isn't there still
pub none_later : (K : WordKind → Type 0) (wold wnew more : List Word) (kind : WordKind) → wnew ≡ wold ++ more
    → HaveKinds K more → ¬ K kind → term_of wold kind ≡ None → term_of wnew kind ≡ None
none_later K wold wnew more kind words kinds other none =
    ap (λ (ws : List Word). term_of ws kind) words ∙ none_both wold more kind none (none_kind K more kind kinds other)

-- the variable of a kind that no word more has is the one that there was, and has its width
pub width_kept : (K : WordKind → Type 0) (told tnew : Table) (wold wnew more : List Word) (kind : WordKind)
    (width term : ℕ) → IsLater told tnew → wnew ≡ wold ++ more → HaveKinds K more → ¬ K kind
    → ((own : ℕ) → term_of wold kind ≡ Some own → IsOfWidth told width own) → term_of wnew kind ≡ Some term
    → IsOfWidth tnew width term
width_kept K told tnew wold wnew more kind width term later words kinds other wide is =
    elim (either (term_of wold kind)) [
      | inl none ↦
          let no : None ≡ Some term = sym (none_later K wold wnew more kind words kinds other none) ∙ is in absurd cc
      | inr some ↦
          let there : term_of wnew kind ≡ Some some.0 =
          ap (λ (ws : List Word). term_of ws kind) words ∙ found_stays wold more kind some.0 some.1 in
          subst (IsOfWidth tnew width) (same_Some some.0 term (sym there ∙ is))
          (width_later told tnew width some.0 later (wide some.0 some.1))
    ]

-- ---- what holds on a path

pub on_path_later : (job : Job) (number : ℕ) (old new : Ground) (path : Function) (Holds : Start → Type 0) → IsJob job
    → IsGround job number old → GoesTo old new → OnPath job number old path Holds → OnPath job number new path Holds
on_path_later job number old new path Holds is ground goes holds given start one true_there =
    holds given start (start_before job number old new given start is ground goes one) true_there

pub on_path_narrower : (job : Job) (number : ℕ) (g : Ground) (path next : Function) (Holds : Start → Type 0)
    → ((given : Given) → next given ≡ true → path given ≡ true) → OnPath job number g path Holds
    → OnPath job number g next Holds
on_path_narrower job number g path next Holds narrower holds given start one true_there =
    holds given start one (narrower given true_there)

cases_later : (job : Job) (number : ℕ) (old new : Ground) (bits : List Decided) (path : Function) → IsJob job
    → IsGround job number old → GoesTo old new → IsCasePath job number old bits path
    → IsCasePath job number new bits path
cases_later job number old new bits path is ground goes cases = record {
  first = λ given start one.
      cases.first given start (start_before job number old new given start is ground goes one);
  only = λ given start one.
      cases.only given start (start_before job number old new given start is ground goes one);
}

pub way_later : (job : Job) (number : ℕ) (old new : Ground) (bits : List Decided) (path : Function)
    (cycles : ℕ) → IsJob job → GoesTo old new → HaveVariables Board job.board new.table new.words cycles
    → IsOnWay job number old bits path → IsOnWay job number new bits path
way_later job number old new bits path cycles is goes have on = record {
  stands = ground_later job number old new cycles is on.stands goes have;
  written = on.written;
  cases = cases_later job number old new bits path is on.stands goes on.cases;
  feasible = on.feasible;
}
