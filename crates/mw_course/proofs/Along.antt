-- What is left of the word list, as the board of a run goes on.
use Rattle.std.proofs.Common.{◌≡◌, ℕ, ◌+◌, ◌-◌, ◌<◌, List, [], ◌∷◌, ◌++◌, append-nil, ap, sym, ◌∙◌, arith, refl}
use Rattle.std.specs.Prelude.{suc, Bool, true, false, Option, None, if◌then◌else◌}
use Rattle.mw_term.specs.declared.side.Side.{Side}
use Rattle.mw_symmem.specs.Memory.{writes_of}
use Rattle.mw_term.specs.declared.decided.Decided.{Decided}
use Rattle.mw_cycle.specs.Boundary.{is_named}
use Rattle.mw_cycle.specs.CycleWords.{done, Come}
use Rattle.mw_cycle.specs.Decided.{decided}
use Rattle.mw_term.specs.declared.decided.DecidedKind.{DecidedKind}
use Rattle.mw_term.specs.MemoryRead.{Held}
use Rattle.mw_symboard.specs.Along.{Ends, StopsAt, left_by, standing_in, words_left}
use Rattle.mw_symboard.specs.declared.reading.Reading.{Reading}
use Rattle.mw_symboard.specs.Turns.{Symbolic, decided_so}
use Rattle.mw_rel.specs.CaseWords.{CaseWords, along_cycles, behind_cycle, bit_values, case_words, whole, words_along}
use Rattle.mw_rel.specs.ComparisonWords.{compared_in}
use Rattle.mw_rel.specs.Free.{numbered}
use Rattle.mw_rel.specs.Job.{Job}
use Rattle.mw_rel.specs.Start.{addresses_of}
use Rattle.mw_space.specs.declared.space.Space.{Space}
use Rattle.mw_course.specs.declared.run.Run.{Run}
use Rattle.mw_course.specs.Listed.{ComesTo, left_behind_cycle, left_in_cycle, left_of_cycles, left_of_step}
use Rattle.mw_course.specs.Listed.{list_of_space}
use Rattle.mw_course.specs.OnWay.{AsksInCycle}

-- ---- along bits

-- the values of bits with one more
values_more : (bits : List Decided) (kind : DecidedKind) (value : Bool) (further : List Bool)
    → bit_values (bits ++ decided kind value ∷ []) ++ further ≡ bit_values bits ++ value ∷ further
values_more [] kind value further = refl
values_more (b ∷ bits) kind value further =
    ap (λ (rest : List Bool). b.value ∷ rest) (values_more bits kind value further)

-- with one bit more the list comes to what is left along it
pub comes_with : (job : Job) (number : ℕ) (bits : List Decided) (kind : DecidedKind) (value : Bool)
    (left next : List Bool → CaseWords) → ((further : List Bool) → left (value ∷ further) ≡ next further)
    → ComesTo job number bits left → ComesTo job number (bits ++ decided kind value ∷ []) next
comes_with job number bits kind value left next goes comes = λ further.
    ap (words_along job number) (values_more bits kind value further) ∙ comes (value ∷ further) ∙ goes further

-- where no further bit is known, it is what is left without one
pub comes_here : (job : Job) (number : ℕ) (bits : List Decided) (left : List Bool → CaseWords)
    → ComesTo job number bits left → case_words job number bits ≡ left []
comes_here job number bits left comes =
    ap (words_along job number) (sym (append-nil (bit_values bits))) ∙ comes []

-- ---- in a cycle

-- what is behind words of a cycle, where so many cycles have begun
abbrev behind_words : Job → (number : ℕ) → (registers : List ℕ) → (begun : ℕ) → Come → CaseWords
behind_words job number registers begun come =
    behind_cycle job registers come.asked come (along_cycles job registers ((numbered job number).bound - begun))

-- it asks for a bit
pub asks_in_cycle : (job : Job) (number : ℕ) (bits : List Decided) (old : Run) (space : Space) (board : Symbolic)
    (kind : DecidedKind)
    (term : ℕ) → board.place.cycle ≡ old.board.place.cycle → board.place.side ≡ old.board.place.side
    → writes_of space.memory old.board.place.side ≡ writes_of old.space.memory old.board.place.side
    → StopsAt job.board job.store (writes_of old.space.memory old.board.place.side) old.board board (list_of_space old.space) (list_of_space space)
    kind term → ComesTo job number bits (left_in_cycle job number old.space old.registers old.board)
    → AsksInCycle job number bits (record old { space = space; board = board }) kind term
asks_in_cycle job number bits old space board kind term cycle side writes stops comes =
    let registers = old.registers in
    let count = old.board.place.cycle + 1 in
    let left = left_in_cycle job number old.space registers old.board in
    record {
      here = comes_here job number bits left comes ∙ ap (behind_words job number registers count) stops.here;
      on = λ value.
          let now = decided_so board kind value in
          comes_with job number bits kind value left (left_in_cycle job number space registers now) (λ further.
          ap (behind_words job number registers count) (stops.on value further)
          ∙ ap (λ (held : List Held). behind_words job number registers count
          (words_left job.board job.store now held further (list_of_space space)))
          (sym (ap (writes_of space.memory) side ∙ writes))
          ∙ ap (λ (n : ℕ). behind_words job number registers (n + 1)
          (words_left job.board job.store now (writes_of space.memory board.place.side) further (list_of_space space)))
          (sym cycle)) comes;
    }

-- it is done: what is left is what is behind it
pub left_finished : (job : Job) (number : ℕ) (bits : List Decided) (registers : List ℕ) (old space : Space)
    (before after : Symbolic) → after.place.side ≡ before.place.side → after.place.cycle ≡ before.place.cycle + 1
    → Ends job.board job.store old.memory space.memory before after (list_of_space old) (list_of_space space)
    → ComesTo job number bits (left_in_cycle job number old registers before)
    → ComesTo job number bits (left_behind_cycle job number space registers after)
left_finished job number bits registers old space before after side cycle ends comes = λ further.
    comes further ∙ ap (behind_words job number registers (before.place.cycle + 1)) (ends.here further)
    ∙ ap (λ (own : Side). behind_words job number registers (before.place.cycle + 1) (done further
    (record { list = list_of_space space; standing = standing_in after (writes_of space.memory own) }))) (sym side)
    ∙ ap (λ (n : ℕ). if is_named (addresses_of job) after.place.at then left_of_step job space registers after further
    else left_of_cycles job space registers after ((numbered job number).bound - n) further) (sym cycle)

-- ---- between two cycles

-- where none has begun, the words of some cycles are those of the next one, and of the others
left_of_next : (job : Job) (number : ℕ) (space : Space) (registers : List ℕ) (o : Symbolic) (further : List Bool)
    → o.reading ≡ None
    → left_of_cycles job space registers o (suc ((numbered job number).bound - (o.place.cycle + 1))) further
    ≡ left_in_cycle job number space registers o further
left_of_next job number space registers o further before =
    ap (λ (r : Option Reading). behind_words job number registers (o.place.cycle + 1)
    (left_by job.board job.store o.place (standing_in o (writes_of space.memory o.place.side)) r o.leaving further (list_of_space space)))
    (sym before)

-- so the list comes to the next one, where there is one
pub comes_to_next : (job : Job) (number count : ℕ) (bits : List Decided) (space : Space)
    (registers : List ℕ) (o : Symbolic)
    → o.reading ≡ None → count ≡ (numbered job number).bound - o.place.cycle
    → o.place.cycle < (numbered job number).bound
    → ComesTo job number bits (left_of_cycles job space registers o count)
    → ComesTo job number bits (left_in_cycle job number space registers o)
comes_to_next job number count bits space registers o before is some comes = λ further.
    let more : count ≡ suc ((numbered job number).bound - (o.place.cycle + 1)) = omega (arith, is, some) in
    comes further ∙ ap (λ (n : ℕ). left_of_cycles job space registers o n further) more
    ∙ left_of_next job number space registers o further before

-- behind a cycle that ended at no boundary
pub left_at_none : (job : Job) (number : ℕ) (bits : List Decided) (space : Space) (registers : List ℕ) (o : Symbolic)
    → is_named (addresses_of job) o.place.at ≡ false
    → ComesTo job number bits (left_behind_cycle job number space registers o)
    → ComesTo job number bits (left_of_cycles job space registers o ((numbered job number).bound - o.place.cycle))
left_at_none job number bits space registers o none comes = λ further.
    comes further
    ∙ ap (λ (named : Bool). if named then left_of_step job space registers o further
    else left_of_cycles job space registers o ((numbered job number).bound - o.place.cycle) further) none

-- behind one that ended at a boundary
pub left_at_boundary : (job : Job) (number : ℕ) (bits : List Decided) (space : Space)
    (registers : List ℕ) (o : Symbolic)
    → is_named (addresses_of job) o.place.at ≡ true
    → ComesTo job number bits (left_behind_cycle job number space registers o)
    → ComesTo job number bits (left_of_step job space registers o)
left_at_boundary job number bits space registers o named comes = λ further.
    comes further
    ∙ ap (λ (is : Bool). if is then left_of_step job space registers o further
    else left_of_cycles job space registers o ((numbered job number).bound - o.place.cycle) further) named

-- where no cycle is left, the list is whole
pub left_at_end : (job : Job) (number : ℕ) (bits : List Decided) (space : Space) (registers : List ℕ) (o : Symbolic)
    → (numbered job number).bound - o.place.cycle ≡ 0
    → ComesTo job number bits (left_of_cycles job space registers o ((numbered job number).bound - o.place.cycle))
    → case_words job number bits ≡ whole (list_of_space space) (compared_in (list_of_space space) [])
left_at_end job number bits space registers o none comes =
    comes_here job number bits
    (left_of_cycles job space registers o ((numbered job number).bound - o.place.cycle)) comes
    ∙ ap (λ (n : ℕ). left_of_cycles job space registers o n []) none
