-- The start that an assignment gives: the values of the variables of free elements, an image that the base reads fit,
-- and an environment with the values of its variables.
use Rattle.std.proofs.Common.{◌≡◌, ℕ, ◌<◌, ◌^◌, List, [], length, map, slice_index, ap, sym, subst, ◌∙◌, arith, refl}
use Rattle.std.specs.Prelude.{true, Option, Some, None}
use Rattle.std.proofs.lemmas.Nat.{pow_pos}
use Rattle.mw_term.specs.declared.side.Side.{Side}
use Rattle.mw_term.specs.declared.side.Side.TheVariants.{Board}
use Rattle.mw_board.specs.declared.parts.BoardParts.{BoardParts}
use Rattle.mw_cycle.specs.Environment.{Environment, values_of}
use Rattle.mw_cycle.specs.SteadyEnvironment.{values_of as steady_values_of}
use Rattle.mw_cycle.specs.SteadySeries.{Series, Inputs, Line, Noise, among_all, kind_of, width_of}
use Rattle.mw_cycle.specs.Thinned.{never_waiting}
use Rattle.mw_cycle.specs.Trimmed.{IsTrimmed}
use Rattle.mw_term.specs.declared.kinds.WordKind.{WordKind}
use Rattle.mw_term.specs.declared.kinds.WordKind.TheVariants.{Element}
use Rattle.mw_term.specs.declared.word.Word.{Word}
use Rattle.mw_term.specs.Assigned.{Given}
use Rattle.mw_term.specs.Table.{Table, IsTable, table_of}
use Rattle.mw_term.specs.WordList.{table_in, term_of}
use Rattle.mw_symmem.specs.Memory.{FitImage, IsImage, IsOfWidth, base_word}
use Rattle.mw_symmem.specs.Words.{HaveOwnKinds}
use Rattle.mw_symmem.proofs.Images.{value_within}
use Rattle.mw_symboard.specs.Laws.{IsEnvironmentOf}
use Rattle.mw_symboard.specs.Variables.{HaveVariables}
use Rattle.mw_rel.specs.Begin.{Begin, free_elements}
use Rattle.mw_rel.specs.Free.{is_free, numbered}
use Rattle.mw_rel.specs.Job.{Job, IsJob}
use Rattle.mw_ready.specs.Thinned.{always_ready}
use Rattle.mw_rel.specs.SteadyStart.{Start}
use Rattle.mw_symboard.proofs.Environments.{own_found}
use Rattle.mw_space.specs.declared.space.Space.{Space}
use Rattle.mw_course.specs.Begins.{IsAssigned, IsChosen, kind_value, value_or_zero}
use Rattle.mw_course.specs.Boundaries.{IsSpace}
use Rattle.mw_space.specs.Entries.{HasEntries, but_waits}
use Rattle.mw_course.specs.Listed.{list_of_space}
use Rattle.mw_course.specs.OnWay.{ground_in}
use Rattle.mw_course.specs.Starts.{Ground, IsGround, StandsForStart}
use Rattle.mw_course.proofs.FreeValues.{term_at}
use Rattle.mw_course.proofs.Grounds.{start_with}
use Rattle.mw_space.proofs.Environments.{environment_of, listed}
use Rattle.mw_course.proofs.Taking.{free_same}

-- the value of an element's variable
abbrev pub own_value : Table → List Word → Given → (e : ℕ) → ℕ
own_value t words given e = value_or_zero t given (term_of words (Element e))

-- where no clock waits, they are all that it has
without_waits : (env : Environment) → env.wait ≡ [] → never_waiting (but_waits env) ≡ env
without_waits env none = rw none refl

-- the variables of the free elements have the values of their terms
free_are : (job : Job) (number : ℕ) (g : Ground) (given : Given) → IsGround job number g
    → map (own_value g.table g.words given) (free_elements job (numbered job number))
    ≡ map (term_at g.table given g.elements) (free_elements job (numbered job number))
free_are job number g given ground =
    free_same (is_free (numbered job number)) (own_value g.table g.words given) (term_at g.table given g.elements) 0
    (length job.relation.shape.widths)
    (λ e below free.
    let own = ground.free e (omega (arith, below)) free in
    ap (value_or_zero g.table given) (own_found g.words own.0 (slice_index g.elements e) (Element e) ground.own own.1))

-- the start that they choose is one of the assignment
pub start_begun : (job : Job) (number : ℕ) (space : Space) (elements : List ℕ) (given : Given) (begin : Begin)
    → IsJob job
    → IsGround job number (ground_in space elements)
    → begin.values ≡ map (own_value space.terms space.words given) (free_elements job (numbered job number))
    → IsImage space.memory begin.memory → FitImage space.terms given space.memory.reads begin.memory
    → HasEntries Board space.terms space.words given begin.env → begin.env.wait ≡ []
    → (start : Start) × IsChosen job number begin (always_ready start)
    × StandsForStart job number (ground_in space elements) given start
start_begun job number space elements given begin is ground values image fit entries none =
    let g = ground_in space elements in
    let outside = environment_of Board job.board g.table g.words ground.cycles given begin.env ground.space.workspace.table
    ground.own ground.variables entries in
    let one = start_with job number g is ground given begin.memory (but_waits begin.env) image fit outside in
    let same : map (term_at g.table given elements) (free_elements job (numbered job number)) ≡ begin.values =
    sym (values ∙ free_are job number g given ground) in (
      one.0,
      subst
          (λ e. IsChosen job number (record { values = begin.values; memory = begin.memory; env = e })
          (always_ready one.0)) (without_waits begin.env none)
          (subst
          (λ vs. IsChosen job number
          (record { values = vs; memory = begin.memory; env = never_waiting (but_waits begin.env) })
          (always_ready one.0)) same one.1),
      one.2,
    )

-- the table of a space is that of its list
table_is : (job : Job) (space : Space) → IsSpace job space.terms space.words space.memory
    → table_in job.board.map_entries (list_of_space space) ≡ space.terms
table_is job space is = ap (table_of space.terms.ops) (sym is.map)

-- what an assignment gives by the list of a space
pub assigned_by : (job : Job) (number : ℕ) (space : Space) (given : Given) (begin : Begin)
    → IsSpace job space.terms space.words space.memory
    → begin.values ≡ map (own_value space.terms space.words given) (free_elements job (numbered job number))
    → ((address : ℕ) → slice_index begin.memory address ≡ base_word space.terms given space.memory.reads address)
    → HasEntries Board space.terms space.words given begin.env → begin.env.wait ≡ [] → IsTrimmed begin.env
    → IsAssigned job number (list_of_space space) given begin
assigned_by job number space given begin is values memory entries none trimmed =
    let l = list_of_space space in
    let table = sym (table_is job space is) in
    let free = free_elements job (numbered job number) in
    record {
      values = values ∙ ap (λ (t : Table). map (λ e. kind_value t l given (Element e)) free) table;
      memory = λ address. memory address ∙ ap (λ (t : Table). base_word t given l.reads address) table;
      lists = λ series n.
          listed Board space.terms space.words given begin.env series n entries
          ∙ ap (λ (t : Table). kind_value t l given (kind_of Board series n)) table;
      wait = none;
      trimmed = trimmed;
    }
