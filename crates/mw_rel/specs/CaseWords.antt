-- The words of a case: those of its start, of the cycles of its segment, of its described step and of its comparison,
-- along the decided bits that are known.
use Rattle.std.specs.Prelude.{ℕ, zero, suc, ◌+◌, List, [], ◌++◌, drop, length, map, take, Bool, if◌then◌else◌, Option}
use Rattle.std.specs.Prelude.{Some, None, slice_index}
use Rattle.std.specs.Option.{unwrap_or}
use Rattle.mw_board.specs.declared.parts.BoardParts.{BoardParts}
use Rattle.mw_board.specs.Depth.{depth_of}
use Rattle.mw_board.specs.Elements.{element_count}
use Rattle.mw_term.specs.declared.decided.Decided.{Decided}
use Rattle.mw_cycle.specs.BoardTerms.{Parts, Standing, term_of_part}
use Rattle.mw_cycle.specs.Boundary.{is_named, numbers}
use Rattle.mw_cycle.specs.CycleWords as cycles
use Rattle.mw_cycle.specs.CycleWords.{cycle_words}
use Rattle.mw_cycle.specs.Elements.{element_of, pc_number}
use Rattle.mw_macro.specs.StepWords.{Underway, step_words}
use Rattle.mw_rel.specs.Certified.{boundary_at}
use Rattle.mw_rel.specs.ComparisonWords.{Compared, Comparison, Sides, compared_in, comparison_words}
use Rattle.mw_rel.specs.Free.{no_boundary, numbered}
use Rattle.mw_rel.specs.Job.{Job}
use Rattle.mw_rel.specs.Relation.{Boundary}
use Rattle.mw_rel.specs.Start.{addresses_of}
use Rattle.mw_rel.specs.StartWords.{start_words}
use Rattle.mw_term.specs.declared.kinds.WordKind.TheVariants.{Line}
use Rattle.mw_term.specs.declared.side.Side.TheVariants.{Board}
use Rattle.mw_term.specs.WordList.{WordList, term_of}

-- How far a case has come: the words so far, and of a whole case those of its comparison too; where it wants another
-- decided bit, the term of that; the words without those of the comparison; and where it is whole, what is compared.
pub record CaseWords : Type 0 where
  pub list : WordList
  pub asked : Option ℕ
  pub uncompared : WordList
  pub comparisons : List Comparison

-- it stops at a bit
abbrev pub stopped : (term : ℕ) → WordList → CaseWords
stopped term l = record { list = l; asked = Some term; uncompared = l; comparisons = [] }

-- it is whole: its list before the comparison, and what the comparison comes to
abbrev pub whole : (uncompared : WordList) → Compared → CaseWords
whole uncompared c =
    record { list = c.list; asked = None; uncompared = uncompared; comparisons = c.comparisons }

-- ---- where it begins

-- the parts of a board whose elements have these terms, by their numbers
abbrev pub parts_with : BoardParts → (terms : List ℕ) → Parts
parts_with board terms = record {
  regs = take 16 terms;
  q = slice_index terms 16;
  mar = slice_index terms 17;
  ir = slice_index terms 18;
  flips = take (length board.flipflop) (drop 19 terms);
  pc = slice_index terms (pc_number board);
  r = slice_index terms (pc_number board + 1);
  stack = take (depth_of board) (drop (pc_number board + 2) terms);
}

-- where the board is at a boundary, at which all elements have these terms
abbrev pub standing_at : BoardParts → Boundary → (terms : List ℕ) → Standing
standing_at board boundary terms = record {
  side = Board;
  at = boundary.address;
  sp = boundary.sp;
  parts = parts_with board terms;
  writes = [];
  events = [];
  cycle = 0;
  taken = 0;
  line = None;
}

-- ---- its comparison

-- the terms of all elements by number, where a board has these parts and a machine these terms in its registers
abbrev pub terms_with : BoardParts → Parts → (registers : List ℕ) → List ℕ
terms_with board parts registers =
    map (λ n. term_of_part parts (element_of board n)) (numbers 0 (element_count board)) ++ registers

-- both sides, where the board stands behind its segment and the step has ended
abbrev pub sides_of : Job → Standing → Underway → Sides
sides_of job s u = record {
  board_events = s.events;
  machine_events = u.events;
  elements = terms_with job.board s.parts (take job.machine.registers u.elements);
  board_writes = s.writes;
  machine_writes = u.writes;
  sp = s.sp;
}

-- the comparison at the boundary reached, behind the step; where every start differs nothing is compared
abbrev pub with_comparisons : Job → Standing → Underway → Compared
with_comparisons job s u =
    unwrap_or
    (comparison_words job.relation.shape (unwrap_or (boundary_at job s.at) no_boundary) (sides_of job s u) u.list)
    (compared_in u.list [])

-- ---- its step

-- behind the step, or at the bit that it wants
abbrev pub behind_step : Job → Standing → (asked : Option ℕ) → Underway → CaseWords
behind_step job s (Some term) u = stopped term u.list
behind_step job s None u = whole u.list (with_comparisons job s u)

-- the described step from the terms of the registers at the start: the request is the line of the first cycle
abbrev pub along_step : Job → (registers : List ℕ) → Standing → List Bool → WordList → CaseWords
along_step job registers s bits l =
    let come = step_words job.machine registers (unwrap_or (term_of l.words (Line 0)) 0) [] bits l in
    behind_step job s come.asked come.to

-- ---- its segment

-- Behind a cycle, or at the bit that it wants: at a boundary stands the step, and else what is further.
abbrev pub behind_cycle : Job → (registers : List ℕ) → (asked : Option ℕ) → cycles.Come
    → (further : Standing → List Bool → WordList → CaseWords) → CaseWords
behind_cycle job registers (Some term) come further = stopped term come.list
behind_cycle job registers None come further =
    if is_named (addresses_of job) come.to.at then along_step job registers come.to come.bits come.list
    else further come.to come.bits come.list

-- so many cycles, where no boundary comes before; a late case has no words behind them
abbrev pub along_cycles : Job → (registers : List ℕ) → (count : ℕ) → Standing → List Bool → WordList → CaseWords
along_cycles job registers zero s bits l = whole l (compared_in l [])
along_cycles job registers (suc count) s bits l =
    let come = cycle_words job.board job.store s bits l in
    behind_cycle job registers come.asked come (along_cycles job registers count)

-- ---- the whole

-- the terms of the machine's registers among those of all elements
abbrev pub registers_in : BoardParts → (terms : List ℕ) → List ℕ
registers_in board terms = drop (element_count board) terms

-- the words of a case of the boundary with a number, along the values of its decided bits
unfoldable pub words_along : Job → (number : ℕ) → List Bool → CaseWords
words_along job number bits =
    let start = start_words job.relation.shape (numbered job number) in
    along_cycles job (registers_in job.board start.terms) (numbered job number).bound
    (standing_at job.board (numbered job number) start.terms) bits start.list

-- the values of decided bits
abbrev pub bit_values : List Decided → List Bool
bit_values bits = map (λ bit. bit.value) bits

-- The word list of decided bits: up to the word that the next one asks, or through the comparison where they are
-- a whole case.
abbrev pub case_words : Job → (number : ℕ) → List Decided → CaseWords
case_words job number bits = words_along job number (bit_values bits)
