-- The text of a counter is read back.
use Rattle.std.proofs.Common.{◌≡◌, ℕ, ◌+◌, ◌<◌, ◌≤◌, ◌^◌, List, [], ◌∷◌, ◌++◌, codes, map, drop, replicate}
use Rattle.std.proofs.Common.{length, slice_index, Bool, true, false, Ok, lit≤, append_assoc}
use Rattle.std.proofs.Common.{refl, sym, ap, ◌∙◌, subst, arith}
use Rattle.std.specs.List.{range_with_len}
use Rattle.std.proofs.Math.Pow.{pow_mono}
use Rattle.std.proofs.Math.Seq.{drop-append_seam}
use Rattle.std.proofs.lemmas.List.{drop-drop, take_all}
use Rattle.std.proofs.lemmas.List.FromFn.{get_or-map-range_with_len}
use Rattle.mw_base.specs.declared.line.Line.{Line}
use Rattle.mw_base.specs.declared.refusal.TextFault.{TextFault}
use Rattle.mw_base.specs.declared.token.Kind.TheVariants.{Name}
use Rattle.mw_base.specs.Lines.{lines_of}
use Rattle.mw_base.specs.Symbols.{spelled}
use Rattle.mw_base.specs.TokenLines.{lines_from}
use Rattle.mw_board.specs.declared.parts.BoardParts.{BoardParts}
use Rattle.mw_board.specs.Check.{check_of}
use Rattle.mw_board.specs.Valid.{IsBoard}
use Rattle.mw_asm.specs.declared.assembled.Label.{Label}
use Rattle.mw_cycle.specs.Environment.{Environment, no_values}
use Rattle.mw_cycle.specs.Trimmed.{shortened}
use Rattle.mw_expr.specs.Values.{IsImage}
use Rattle.mw_rel.specs.Begin.{Begin, IsBegin, free_elements}
use Rattle.mw_rel.specs.Completed.{free_before, free_value}
use Rattle.mw_rel.specs.Free.{is_free, no_boundary, numbered}
use Rattle.mw_rel.specs.Job.{Job, IsJob, shape_of}
use Rattle.mw_rel.specs.Relation.{Boundary}
use Rattle.mw_rel.proofs.Completed.{given_values}
use Rattle.mw_rel.proofs.Standing.{board_address}
use Rattle.mw_sim.specs.declared.settings.Settable.{Settable}
use Rattle.mw_sim.specs.Settings.{Settings, nothing_given, with_line}
use Rattle.mw_sim.specs.Start.{environment_with}
use Rattle.mw_replay.specs.Counter.{Counter, IsCounter}
use Rattle.mw_sim.specs.Texts.{memory_lines, word_line}
use Rattle.mw_replay.specs.CounterPrinted.{AreShort, MayFollow, counter_text, environment_lines, in_short}
use Rattle.mw_replay.specs.CounterPrinted.{no_lines, set_line, set_lines}
use Rattle.mw_replay.specs.CounterText.{counter_in, counter_of, counter_with, settables_of}
use Rattle.mw_replay.proofs.Fillings.{filled, made_by_number}
use Rattle.mw_replay.proofs.Heads.{behind_first, behind_second, difference_bytes, difference_has, difference_line}
use Rattle.mw_replay.proofs.Heads.{difference_plain, difference_word, head_bytes, head_has, head_line, head_plain}
use Rattle.mw_replay.proofs.Heads.{head_says, head_short, head_tokens, head_word, no_has, no_line, not_difference}
use Rattle.mw_replay.proofs.Heads.{not_no, number_is, text_says}
use Rattle.mw_replay.proofs.Lines.{Goes, first_read}
use Rattle.mw_replay.proofs.ListsBack.{lists_go}
use Rattle.mw_replay.proofs.Owned.{is_settable}
use Rattle.mw_replay.proofs.SeriesLines.{given_with}
use Rattle.mw_replay.proofs.Sets.{set_fills, word_fills, written_with}
use Rattle.mw_replay.proofs.Settables.{settables_count}
use Rattle.mw_replay.proofs.Statements.{spelled_at}
use Rattle.mw_replay.proofs.Tokens.{token}
use Rattle.mw_replay.proofs.Trimmed.{shortened_once}

-- ---- what is given in the end

-- the value of each element where it is free, and 0 elsewhere
abbrev all_values : Job → Boundary → List ℕ → List ℕ
all_values job boundary values =
    map (free_value (is_free boundary) values) (range_with_len 0 (length job.relation.shape.widths))

free_on : (p : ℕ → Bool) (values : List ℕ) (e : ℕ) → p e ≡ true
    → free_value p values e ≡ slice_index values (free_before p e)
free_on p values e is = rw is refl

values_are : (job : Job) (boundary : Boundary) (begin : Begin) → IsBegin job boundary begin
    → map (slice_index (all_values job boundary begin.values)) (free_elements job boundary) ≡ begin.values
values_are job boundary begin is =
    let p = is_free boundary in
    let count = length job.relation.shape.widths in
    let value = free_value p begin.values in
    given_values p (slice_index (all_values job boundary begin.values)) begin.values count
    (λ e below free.
    get_or-map-range_with_len value 0 count e e 0 below (omega arith) ∙ free_on p begin.values e free)
    (omega (arith, is.count))
    ∙ take_all (free_before p count) begin.values (omega (arith, is.count))

counter_made : ℕ → (values memory : List ℕ) → Environment → Counter
counter_made n values memory env =
    record { boundary = n; begin = record { values = values; memory = memory; env = env } }

counter_parts : (n : ℕ) (values same memory : List ℕ) (env other : Environment) → values ≡ same → env ≡ other
    → counter_made n values memory env ≡ counter_made n same memory other
counter_parts n values same memory env other one two = rw (one, two) refl

end_is : (job : Job) (counter : Counter) (written set : List Bool) → IsCounter job counter
    → counter_with job counter.boundary
    (given_with counter.begin.memory written (shortened counter.begin.env)
    (all_values job (numbered job counter.boundary) counter.begin.values) set)
    ≡ in_short counter
unfolding counter_made environment_with
end_is job counter written set is =
    let boundary = numbered job counter.boundary in
    let values = all_values job boundary counter.begin.values in
    counter_parts counter.boundary (map (slice_index values) (free_elements job boundary)) counter.begin.values
    counter.begin.memory _ (shortened counter.begin.env) (values_are job boundary counter.begin is.begin)
    (shortened_once counter.begin.env)

-- ---- elements and memory

memory_size : (job : Job) (memory : List ℕ) → IsJob job → IsImage job.relation.shape memory
    → length memory ≡ 2 ^ job.board.address
memory_size job memory is image = image.size ∙ ap (λ n. 2 ^ n) (board_address job is)

memory_words : (job : Job) (memory : List ℕ) (a : ℕ) → IsJob job → IsImage job.relation.shape memory
    → slice_index memory a < 2 ^ job.board.width
unfolding shape_of
memory_words job memory a is image =
    let word : job.relation.shape.word ≡ job.board.width =
    ap (λ s. s.word) is.matched.parts.shape ∙ is.matched.word in
    subst (λ w. slice_index memory a < 2 ^ w) word (image.words a)

-- the lines of a memory of a board
pub memory_go : (P : Settings → Type 0) (board : BoardParts) (elements : List Settable)
    (text rest memory values : List ℕ) (set : List Bool) → IsBoard board → length memory ≡ 2 ^ board.address
    → ((a : ℕ) → slice_index memory a < 2 ^ board.width)
    → ((written : List Bool) → Goes P (with_line elements board.width text) text rest
    (given_with memory written no_values values set))
    → Goes P (with_line elements board.width text) text (memory_lines memory ++ rest)
    (given_with (replicate (2 ^ board.address) 0) (replicate (2 ^ board.address) false) no_values values set)
memory_go P board elements text rest memory values set is size words next =
    let width = board.width in
    let step = with_line elements width text in
    let make = written_with values set no_values in
    let most : 2 ^ board.address ≤ 2 ^ 16 = pow_mono is.sizes.address_most in
    let whole : map (slice_index memory) (range_with_len 0 (length memory)) ≡ memory =
    made_by_number memory 0 (slice_index memory) (λ i.
    let place : 0 + i ≡ i = omega arith in
    ap (slice_index memory) place) in
    subst
    (λ count. Goes P step text (memory_lines memory ++ rest) (make (replicate count 0) (replicate count false))) size
    (filled P step text (λ address. word_line address (slice_index memory address)) (slice_index memory) make
    (length memory)
    (λ address inside.
    let low : address < 2 ^ 32 = omega arith in
    word_fills P elements width text memory address values set no_values low (words address) is.sizes.most)
    0 (length memory) (omega arith) [] [] rest refl refl
    (λ written. subst (λ words. Goes P step text rest (make words written)) (sym whole) (next written)))

sets_go : (P : Settings → Type 0) (job : Job) (boundary : Boundary) (text rest : List ℕ) (begin : Begin)
    (memory : List ℕ) (written : List Bool) → IsJob job → check_of job.board ≡ Ok tt → IsBegin job boundary begin
    → ((set : List Bool) → Goes P (with_line (settables_of job boundary) job.board.width text) text rest
    (given_with memory written no_values (all_values job boundary begin.values) set))
    → Goes P (with_line (settables_of job boundary) job.board.width text) text
    (set_lines job boundary begin.values ++ rest)
    (given_with memory written no_values (replicate (length job.relation.shape.widths) 0)
    (replicate (length job.relation.shape.widths) false))
sets_go P job boundary text rest begin memory written is checked starts next =
    let elements = settables_of job boundary in
    let width = job.board.width in
    let count = length job.relation.shape.widths in
    let value = free_value (is_free boundary) begin.values in
    filled P (with_line elements width text) text (λ e. set_line job e (value e)) value
    (given_with memory written no_values) count
    (λ e below.
    set_fills P job elements width text value e memory written no_values
    (is_settable job boundary begin e is checked starts below))
    0 count (omega arith) [] [] rest refl refl next

-- ---- the whole

-- what stands behind the head
behind : Job → Counter → List ℕ
behind job counter =
    set_lines job (numbered job counter.boundary) counter.begin.values
    ++ (memory_lines counter.begin.memory ++ environment_lines counter.begin.env)

behind_goes : (job : Job) (counter : Counter) (text : List ℕ) → IsJob job → check_of job.board ≡ Ok tt
    → IsCounter job counter → AreShort (shortened counter.begin.env)
    → Goes (λ end. counter_with job counter.boundary end ≡ in_short counter)
    (with_line (settables_of job (numbered job counter.boundary)) job.board.width text) text (behind job counter)
    (nothing_given (length (settables_of job (numbered job counter.boundary))) (2 ^ job.board.address))
unfolding behind
behind_goes job counter text is checked counts short =
    let P = λ (end : Settings). counter_with job counter.boundary end ≡ in_short counter in
    let boundary = numbered job counter.boundary in
    let begin = counter.begin in
    let values = all_values job boundary begin.values in
    let words = 2 ^ job.board.address in
    let step = with_line (settables_of job boundary) job.board.width text in
    subst (λ count. Goes P step text (behind job counter) (nothing_given count words))
    (sym (settables_count job boundary))
    (sets_go P job boundary text _ begin (replicate words 0) (replicate words false) is checked counts.begin
    (λ set. memory_go P job.board (settables_of job boundary) text _ begin.memory values set is.board
    (memory_size job begin.memory is counts.begin.memory)
    (λ a. memory_words job begin.memory a is counts.begin.memory)
    (λ written. lists_go P job.board (settables_of job boundary) text begin.env begin.memory written values set
    is.board.sizes.most counts.env short (end_is job counter written set counts))))

regrouped : (head s m e : List ℕ) → head ++ 10 ∷ [] ++ s ++ m ++ e ≡ head ++ 10 ∷ (s ++ (m ++ e))
regrouped head s m e = simp append_assoc

text_is : (job : Job) (counter : Counter)
    → counter_text job counter
    ≡ head_bytes (numbered job counter.boundary).address ++ 10 ∷ behind job counter
unfolding counter_text behind
text_is job counter =
    regrouped (head_bytes (numbered job counter.boundary).address)
    (set_lines job (numbered job counter.boundary) counter.begin.values) (memory_lines counter.begin.memory)
    (environment_lines counter.begin.env)

boundary_low : (job : Job) (n : ℕ) → IsJob job → n < length job.relation.boundaries
    → (numbered job n).address < 2 ^ 12
boundary_low job n is below = (is.matched.relation.formed.boundaries n no_boundary below).address

-- the lines of a counter at the end of a text, from one with this number on, give the counter
record Stands (job : Job) (counter : Counter) (labels : List Label) (text : List ℕ) (number start : ℕ) : Type 0 where
  others : List Line
  are :
      lines_from number start (lines_of (head_bytes (numbered job counter.boundary).address ++ 10 ∷ behind job counter))
      ≡ Ok (head_line number start (numbered job counter.boundary).address ∷ others)
  says : (fault : TextFault) → counter_in job labels text fault
      (head_line number start (numbered job counter.boundary).address ∷ others) ≡ Ok (in_short counter)

stands : (job : Job) (counter : Counter) (labels : List Label) (text : List ℕ) (number start : ℕ) → IsJob job
    → check_of job.board ≡ Ok tt → IsCounter job counter → AreShort (shortened counter.begin.env)
    → drop start text ≡ head_bytes (numbered job counter.boundary).address ++ 10 ∷ behind job counter
    → Stands job counter labels text number start
stands job counter labels text number start is checked counts short at =
    let n = counter.boundary in
    let address = (numbered job n).address in
    let head = head_bytes address in
    let rest = behind job counter in
    let low = boundary_low job n is counts.there in
    let size = length (head ++ 10 ∷ []) in
    let next : drop (start + size) text ≡ rest = sym (drop-drop size start text)
    ∙ ap (drop size) (at ∙ sym (append_assoc head (10 ∷ []) rest)) ∙ drop-append_seam (head ++ 10 ∷ []) rest in
    let body = behind_goes job counter text is checked counts short (number + 1) (start + size) next in
    record {
      others = body.lines;
      are = first_read number start head rest (head_tokens number start address) body.lines (head_plain address)
          (head_short address (omega arith)) (head_has number start address (omega arith)) body.are;
      says = λ fault.
          head_says job labels text fault number start n body.lines body.end low (number_is job n is counts.there)
          (head_word text (10 ∷ rest) number start address at) body.give
          ∙ ap Ok body.so;
    }

-- the text of a counter alone
pub reads_back : (job : Job) (counter : Counter) (labels : List Label) → IsJob job → check_of job.board ≡ Ok tt
    → IsCounter job counter → AreShort (shortened counter.begin.env)
    → counter_of job labels (counter_text job counter) ≡ Ok (in_short counter)
reads_back job counter labels is checked counts short =
    let address = (numbered job counter.boundary).address in
    let text = counter_text job counter in
    let whole = text_is job counter in
    let made = stands job counter labels text 1 0 is checked counts short whole in
    let word = head_word text (10 ∷ behind job counter) 1 0 address whole in
    let lines = head_line 1 0 address ∷ made.others in
    text_says job labels text lines lines lines (in_short counter)
    (ap (λ text. lines_from 1 0 (lines_of text)) whole ∙ made.are) (not_no text 1 0 address made.others word)
    (not_difference text 1 0 address made.others word) made.says

-- ---- behind the lines of a no

in_report : (difference head rest : List ℕ)
    → codes "no" ++ 10 ∷ [] ++ (codes "difference " ++ difference ++ 10 ∷ []) ++ (head ++ 10 ∷ rest)
    ≡ codes "no" ++ 10 ∷ (difference_bytes difference ++ 10 ∷ (head ++ 10 ∷ rest))
in_report difference head rest = simp append_assoc

pub reads_back_in_report : (job : Job) (counter : Counter) (labels : List Label) (difference : List ℕ) → IsJob job
    → check_of job.board ≡ Ok tt → IsCounter job counter → AreShort (shortened counter.begin.env)
    → MayFollow difference
    → counter_of job labels (no_lines difference ++ counter_text job counter) ≡ Ok (in_short counter)
reads_back_in_report job counter labels difference is checked counts short follows =
    let address = (numbered job counter.boundary).address in
    let text = no_lines difference ++ counter_text job counter in
    let middle = difference_bytes difference in
    let rest = head_bytes address ++ 10 ∷ behind job counter in
    let after = middle ++ 10 ∷ rest in
    let whole : text ≡ codes "no" ++ 10 ∷ after =
    ap (λ (end : List ℕ). no_lines difference ++ end) (text_is job counter)
    ∙ in_report difference (head_bytes address) (behind job counter) in
    let second : drop 3 text ≡ after = ap (drop 3) whole in
    let size = length (middle ++ 10 ∷ []) in
    let third : drop (3 + size) text ≡ rest = sym (drop-drop size 3 text)
    ∙ ap (drop size) (second ∙ sym (append_assoc middle (10 ∷ []) rest)) ∙ drop-append_seam (middle ++ 10 ∷ []) rest in
    let made = stands job counter labels text 3 (3 + size) is checked counts short third in
    let found = follows.tokens 2 3 11 in
    let head = head_line 3 (3 + size) address in
    let line = difference_line 2 3 difference found.0 in
    let lines = no_line 1 0 ∷ line ∷ head ∷ made.others in
    let first_word : spelled text (token 1 0 0 Name 2) ≡ codes "no" =
    spelled_at text (codes "no") (10 ∷ after) (0 + 0) whole in
    let second_word = difference_word text difference (10 ∷ rest) 2 3 second in
    text_says job labels text lines (line ∷ head ∷ made.others) (head ∷ made.others) (in_short counter)
    (ap (λ text. lines_from 1 0 (lines_of text)) whole
    ∙ first_read 1 0 (codes "no") after (token 1 0 0 Name 2 ∷ []) (line ∷ head ∷ made.others) refl
    (lit≤ tt) (no_has 1 0)
    (first_read 2 3 middle rest (token 2 3 0 Name 10 ∷ found.0) (head ∷ made.others)
    (difference_plain difference follows.plain) follows.short (difference_has 2 3 difference found.0 found.1) made.are))
    (behind_first text 1 0 2 3 difference found.0 (head ∷ made.others) first_word)
    (behind_second text 2 3 difference found.0 3 (3 + size) address made.others second_word) made.says
