-- What is known of the starts without waits at a boundary as a run goes on, and which assignments stand for which.
use Rattle.std.specs.Prelude.{◌≡◌, ℕ, ◌<◌, ◌++◌, List, drop, length, take, true, slice_index}
use Rattle.std.specs.Prelude.{None}
use Rattle.mw_term.specs.declared.side.Side.TheVariants.{Board}
use Rattle.mw_board.specs.Elements.{element_count}
use Rattle.mw_term.specs.Assigned.{Given}
use Rattle.mw_term.specs.declared.kinds.WordKind.TheVariants.{Element}
use Rattle.mw_term.specs.declared.word.Word.{Word}
use Rattle.mw_term.specs.Table.{Table}
use Rattle.mw_term.specs.Values.{term_value}
use Rattle.mw_symmem.specs.Memory.{Memory, IsImage, FitImage}
use Rattle.mw_symmem.specs.Words.{HaveOwnKinds, IsVariable}
use Rattle.mw_symmem.specs.Workspace.{IsLater, IsWorkspace, ReadsMore}
use Rattle.mw_symboard.specs.Laws.{Course}
use Rattle.mw_symboard.specs.Paths.{IsOneOf, Origin}
use Rattle.mw_symboard.specs.Variables.{HaveVariables}
use Rattle.mw_symmach.specs.Expressions.{values_at}
use Rattle.mw_rel.specs.SteadyCase.{IsStartAt}
use Rattle.mw_rel.specs.Free.{is_free, numbered}
use Rattle.mw_rel.specs.InRelation.{Pair, InRelation, values_of}
use Rattle.mw_rel.specs.Job.{Job}
use Rattle.mw_rel.specs.SteadyStart.{Start}
use Rattle.mw_course.specs.Boundaries.{AreWide, IsSpace}

-- what a run works on: a table of terms, the words of the case, a memory over them, and the terms of all elements at
-- the start, by their numbers
pub record Ground : Type 0 where
  pub table : Table
  pub words : List Word
  pub memory : Memory
  pub elements : List ℕ

-- a ground of these
abbrev pub ground_of : Table → List Word → Memory → (elements : List ℕ) → Ground
ground_of table words memory elements =
    record { table = table; words = words; memory = memory; elements = elements }

-- the run of the board from a start
abbrev pub course_of : Start → Course
course_of start = record { image = start.pair.board.memory; env = start.env; start = start.pair.board }

-- what a board begins with at the boundary with a number
abbrev pub origin_of : Job → (number : ℕ) → (elements : List ℕ) → Origin
origin_of job number elements = record {
  side = Board;
  terms = take (element_count job.board) elements;
  at = (numbered job number).address;
  sp = (numbered job number).sp;
  line = None;
}

-- the terms of the machine's registers at the start
abbrev pub registers_of : Job → (elements : List ℕ) → List ℕ
registers_of job elements = drop (element_count job.board) elements

-- Under an assignment, terms and what was read so far have the values of a start at the boundary.
pub record StandsForStart (job : Job) (number : ℕ) (g : Ground) (given : Given) (start : Start) : Type 0 where
  pub starts : IsStartAt job number start
  pub board : IsOneOf job.board g.table g.words g.memory (origin_of job number g.elements) given (course_of start)
  pub registers : start.pair.machine.registers ≡ values_at g.table given (registers_of job g.elements)

-- each assignment is that of a start without waits at the boundary, and each of these has an assignment
pub record HaveStarts (job : Job) (number : ℕ) (g : Ground) : Type 0 where
  pub there : (given : Given) → (start : Start) × StandsForStart job number g given start
  pub reached : (start : Start) → IsStartAt job number start → (given : Given) × StandsForStart job number g given start

-- the free elements of a pair have the values of their terms
abbrev pub HaveFree : Job → (number : ℕ) → Ground → Given → Pair → Type 0
HaveFree job number g given pair = (n : ℕ) → n < length job.relation.shape.widths
    → is_free (numbered job number) n ≡ true
    → slice_index (values_of job.board pair) n ≡ term_value g.table given (slice_index g.elements n)

-- each element of a pair has the value of its term
abbrev pub HaveAll : Job → Ground → Given → Pair → Type 0
HaveAll job g given pair = (n : ℕ) → n < length job.relation.shape.widths
    → slice_index (values_of job.board pair) n ≡ term_value g.table given (slice_index g.elements n)

-- Under each assignment, and over each image that the base reads fit, a pair in relation at the boundary whose free
-- elements have the values of their terms, and whose memory is the image, has the values of all terms.
abbrev pub HaveValues : Job → (number : ℕ) → Ground → Type 0
HaveValues job number g = (given : Given) (pair : Pair) → InRelation job (numbered job number) pair
    → IsImage g.memory pair.board.memory → FitImage g.table given g.memory.reads pair.board.memory
    → HaveFree job number g given pair → HaveAll job g given pair

-- What there is between a boundary of a job and what a run from it works on, so that there are its starts: the terms of
-- the free elements are variables, the other elements have the values of their right sides, the variables of the first
-- cycles are there, and of no later one, and no two variables have one kind.
pub record IsGround (job : Job) (number : ℕ) (g : Ground) : Type 0 where
  pub there : number < length job.relation.boundaries
  pub space : IsSpace job g.table g.words g.memory
  pub wide : AreWide g.table job.relation.shape.widths g.elements
  pub free : (n : ℕ) → n < length job.relation.shape.widths → is_free (numbered job number) n ≡ true
      → (place : ℕ) × IsVariable g.words place (slice_index g.elements n) (Element n)
  pub values : HaveValues job number g
  pub cycles : ℕ
  pub variables : HaveVariables Board job.board g.table g.words cycles
  pub own : HaveOwnKinds g.words

-- A run went on: terms, words and base reads were added behind those that there were, and no two variables have one
-- kind.
pub record GoesTo (old new : Ground) : Type 0 where
  pub later : IsLater old.table new.table
  pub more : List Word
  pub words : new.words ≡ old.words ++ more
  pub reads : ReadsMore old.memory new.memory
  pub workspace : IsWorkspace new.table new.words new.memory
  pub elements : new.elements ≡ old.elements
  pub own : HaveOwnKinds new.words
