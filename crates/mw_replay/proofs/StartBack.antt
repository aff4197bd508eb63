-- The lines of a state and of an environment are read back.
use Rattle.std.proofs.Common.{◌≡◌, ◌≢◌, ℕ, zero, suc, ◌+◌, ◌<◌, ◌≤◌, ◌^◌, List, [], ◌∷◌, ◌++◌, codes, map, drop, replicate}
use Rattle.std.proofs.Common.{length, slice_get, slice_index, Bool, true, false, not, ◌==◌, Some, option_map}
use Rattle.std.proofs.Common.{Ok, lit≤, append_assoc, refl, sym, ap, ap₂, ◌∙◌, subst, inl, inr, arith, zero-add}
use Rattle.std.specs.Prelude.{◌&&◌, nat_lt, if◌then◌else◌, unwrap_or}
use Rattle.std.specs.List.{flat_map, range_with_len}
use Rattle.std.specs.Str.{bytes_eq}
use Rattle.std.proofs.Math.Seq.{drop-append_seam}
use Rattle.std.proofs.lemmas.Bool.{cases_lt, le-ltb, lt-ltb}
use Rattle.std.proofs.lemmas.Iterator.Adapters.{position_from-zero}
use Rattle.std.proofs.lemmas.List.{drop-drop}
use Rattle.std.proofs.lemmas.List.FromFn.{get_or-map-range_with_len}
use Rattle.mw_base.specs.declared.cause.Cause.TheVariants.{BadSyntax}
use Rattle.mw_base.specs.declared.line.Line.{Line}
use Rattle.mw_base.specs.declared.place.Place.{Place}
use Rattle.mw_base.specs.declared.place.Place.TheVariants.{Address}
use Rattle.mw_base.specs.declared.refusal.TextFault.{TextFault}
use Rattle.mw_base.specs.declared.token.Kind.TheVariants.{Name, Number}
use Rattle.mw_base.specs.declared.token.Token.{Token}
use Rattle.mw_base.specs.Cursors.{at_line, end_at, first_word, place_at}
use Rattle.mw_base.specs.Lines.{lines_of}
use Rattle.mw_base.specs.Names.{is_spelled_as_name}
use Rattle.mw_base.specs.Numbers.{hex}
use Rattle.mw_base.specs.Places.{address_of}
use Rattle.mw_base.specs.Symbols.{spelled, symbol_of}
use Rattle.mw_base.specs.TokenLines.{lines_from, text_end, token_lines}
use Rattle.mw_board.specs.declared.parts.BoardParts.{BoardParts}
use Rattle.mw_board.specs.Check.{check_of}
use Rattle.mw_board.specs.Depth.{depth_of}
use Rattle.mw_board.specs.Elements.{Element, element_count, element_name, element_width, elements_of, stack_pointer_name}
use Rattle.mw_board.specs.Valid.{IsBoard}
use Rattle.mw_board.proofs.Elements.{words_few}
use Rattle.mw_board.proofs.Valid.{is_board}
use Rattle.mw_asm.specs.declared.assembled.Label.{Label}
use Rattle.mw_asm.specs.Labels.{label_named}
use Rattle.mw_cycle.specs.Elements.{bits_of, element, element_of}
use Rattle.mw_cycle.specs.Environment.{Environment, IsEnvironment, no_values}
use Rattle.mw_cycle.specs.State.{BoardState, Fits}
use Rattle.mw_cycle.specs.Trimmed.{shortened}
use Rattle.mw_cycle.proofs.Values.{width_is}
use Rattle.mw_sim.specs.declared.settings.Owner.TheVariants.{Board}
use Rattle.mw_sim.specs.declared.settings.Settable.{Settable}
use Rattle.mw_sim.specs.Settings.{Settings, given_by, number_named, nothing_given, owner_text, with_line}
use Rattle.mw_sim.specs.Start.{Start, at_of, environment_with, settable, settables_of, stack_pointer}
use Rattle.mw_sim.specs.Start.{start_in, start_of, state_with}
use Rattle.mw_sim.specs.StateText.{element_lines, set_line, state_text}
use Rattle.mw_sim.specs.Texts.{memory_lines, value_line}
use Rattle.mw_sim.proofs.NumberedLines.{numbered_more}
use Rattle.mw_sim.proofs.Starts.{settable_count, width_few}
use Rattle.mw_replay.specs.CounterPrinted.{AreShort, environment_lines}
use Rattle.mw_replay.specs.Laws.{StartsReadBack}
use Rattle.mw_replay.proofs.Fillings.{Fills, filled}
use Rattle.mw_replay.proofs.Heads.{first_in}
use Rattle.mw_replay.proofs.Lines.{Goes, first_read, line_with}
use Rattle.mw_replay.proofs.ListsBack.{lists_go}
use Rattle.mw_replay.proofs.Names.{board_count, board_name, board_names, board_once, board_spelled, no_pointer}
use Rattle.mw_replay.proofs.Names.{other_bytes, same_bytes}
use Rattle.mw_replay.proofs.Owned.{spelled_short, two_names}
use Rattle.mw_replay.proofs.ReadBack.{memory_go}
use Rattle.mw_replay.proofs.SeriesLines.{given_with}
use Rattle.mw_replay.proofs.Sets.{IsSettable, hex_plain, letter_of, one_set}
use Rattle.mw_replay.proofs.Settables.{bound_most}
use Rattle.mw_replay.proofs.Spelled.{hex_short}
use Rattle.mw_replay.proofs.Starts.{there}
use Rattle.mw_replay.proofs.StateBack.{made_again, value_in}
use Rattle.mw_replay.proofs.Statements.{has_last, spelled_at}
use Rattle.mw_replay.proofs.Tokens.{Has, has_blank, has_name, token}
use Rattle.mw_replay.proofs.Trimmed.{shortened_once}

-- ---- what lines may set, by number: the elements of the board, and behind them the stack pointer

abbrev name_at : BoardParts → ℕ → List ℕ
name_at board n =
    if nat_lt n (element_count board) then unwrap_or (element_name board n) [] else stack_pointer_name

abbrev bound_at : BoardParts → ℕ → ℕ
bound_at board n =
    if nat_lt n (element_count board) then 2 ^ unwrap_or (element_width board n) 0 else depth_of board + 1

abbrev value_at : BoardParts → BoardState → ℕ → ℕ
value_at board s n = if nat_lt n (element_count board) then element board s n else s.seq.sp

abbrev settable_at : BoardParts → ℕ → Settable
settable_at board n =
    record { owner = Board; name = name_at board n; bound = bound_at board n; is_free = true }

no_element : Element
no_element = record { name = []; width = 0 }

front_there : (xs : List Element) (rest : List Settable) (n : ℕ) → n < length xs
    → slice_get (map settable xs ++ rest) n ≡ option_map settable (slice_get xs n)
front_there [] rest n below = absurd (omega arith)
front_there (x ∷ xs) rest zero below = refl
front_there (x ∷ xs) rest (suc n) below = front_there xs rest n (omega arith)

last_there : (board : BoardParts) (xs : List Element)
    → slice_get (map settable xs ++ (stack_pointer board ∷ [])) (length xs) ≡ Some (stack_pointer board)
last_there board [] = refl
last_there board (x ∷ xs) = last_there board xs

element_there : (board : BoardParts) (n : ℕ) (x : Element) → n < element_count board
    → slice_get (elements_of board) n ≡ Some x
    → option_map settable (slice_get (elements_of board) n) ≡ Some (settable_at board n)
element_there board n x below at = rw (lt-ltb n (element_count board) below, at) refl

settable_there : (board : BoardParts) (n : ℕ) → n < element_count board + 1
    → slice_get (settables_of board) n ≡ Some (settable_at board n)
settable_there board n below = elim (cases_lt n (element_count board)) [
  | inl here ↦ front_there (elements_of board) (stack_pointer board ∷ []) n here
      ∙ element_there board n _ here (there (elements_of board) n no_element here)
  | inr past ↦ (let last : element_count board ≡ n = omega arith in
      subst (λ n. slice_get (settables_of board) n ≡ Some (settable_at board n)) last
      (last_there board (elements_of board) ∙ rw (le-ltb (element_count board) (element_count board) (omega arith)) refl))
]

-- ---- names

board_named : (board : BoardParts) (n : ℕ) → n < element_count board
    → slice_get (board_names board) n ≡ Some (name_at board n)
board_named board n below =
    let names = board_names board in
    let at = there names n [] (omega (arith, board_count board)) in
    at ∙ rw (lt-ltb n (element_count board) below, board_name board n, at) refl

pointer_named : (board : BoardParts) (n : ℕ) → element_count board ≤ n → name_at board n ≡ stack_pointer_name
pointer_named board n past = rw (le-ltb n (element_count board) past) refl

not_true : (b : Bool) → not b ≡ true → b ≡ false
not_true true is = absurd cc
not_true false is = refl

not_pointer : (board : BoardParts) (k : ℕ) → check_of board ≡ Ok tt → k < element_count board
    → stack_pointer_name ≢ name_at board k
not_pointer board k checked below same =
    let other : bytes_eq (name_at board k) stack_pointer_name ≡ false =
    not_true _ (no_pointer board checked k (name_at board k) (board_named board k below)) in
    let is : bytes_eq (name_at board k) stack_pointer_name ≡ true =
    subst (λ (name : List ℕ). bytes_eq name stack_pointer_name ≡ true) same (same_bytes stack_pointer_name) in
    cc

apart : (board : BoardParts) (k e : ℕ) → check_of board ≡ Ok tt → k < e → e < element_count board + 1
    → name_at board e ≢ name_at board k
apart board k e checked before below = elim (cases_lt e (element_count board)) [
  | inl here ↦ two_names (board_names board) k e (name_at board k) (name_at board e) (board_once board checked) before
      (board_named board k (omega arith)) (board_named board e here)
  | inr past ↦ (λ same. not_pointer board k checked (omega arith) (sym (pointer_named board e past) ∙ same))
]

-- whether an element is the one with a number
is_it : BoardParts → ℕ → Settable → Bool
is_it board e element = bytes_eq (codes "b") (owner_text element.owner) && bytes_eq (name_at board e) element.name

some_same : (x y : Settable) → Some x ≡ Some y → x ≡ y
some_same x y is = cc

named : (board : BoardParts) (e : ℕ) → check_of board ≡ Ok tt → e < element_count board + 1
    → number_named (settables_of board) (codes "b") (name_at board e) ≡ Some e
unfolding is_it
named board e checked below =
    let all = settables_of board in
    let count = settable_count board in
    let is : (k : ℕ) (x : Settable) → k ≤ e → slice_get all k ≡ Some x → settable_at board k ≡ x =
    λ k x within at. some_same _ x (sym (settable_there board k (omega arith)) ∙ at) in
    position_from-zero (is_it board e) all
    ∙ first_in (is_it board e) 0 e all (omega arith)
    (λ k x before at.
    subst (λ (x : Settable). is_it board e x ≡ false) (is k x (omega arith) at)
    (other_bytes (name_at board e) (name_at board k) (apart board k e checked before below)))
    (λ x at.
    subst (λ (x : Settable). is_it board e x ≡ true) (is e x (omega arith) at)
    (same_bytes (name_at board e)))
    ∙ ap Some (zero-add e)

named_well : (board : BoardParts) (e : ℕ) → check_of board ≡ Ok tt → e < element_count board + 1
    → (is_spelled_as_name (name_at board e) ≡ true) × (length (name_at board e) ≤ 64)
named_well board e checked below = elim (cases_lt e (element_count board)) [
  | inl here ↦ spelled_short (name_at board e) (board_spelled board checked e (name_at board e) (board_named board e
      here))
  | inr past ↦ subst (λ (name : List ℕ). (is_spelled_as_name name ≡ true) × (length name ≤ 64))
      (sym (pointer_named board e past)) (refl, lit≤ tt)
]

-- ---- values

-- a value is below the bound of what it is a value of, and has at most 32 bits
value_fits : (board : BoardParts) (s : BoardState) (e : ℕ) → IsBoard board → Fits board s
    → e < element_count board + 1
    → (value_at board s e < bound_at board e) × (value_at board s e < 2 ^ 32)
value_fits board s e is fits below = elim (cases_lt e (element_count board)) [
  | inl here ↦ (let bits = bits_of board (element_of board e) in
      let width = width_is board e here in
      let small = value_in board s (element_of board e) fits in
      let most = bound_most bits (width_few board e bits is width) in
      rw (lt-ltb e (element_count board) here, width) (small, omega arith))
  | inr past ↦ (let few = words_few board in
      let most : 10 ≤ 2 ^ 32 = lit≤ tt in
      rw (le-ltb e (element_count board) past) (omega (arith, fits.seq.sp), omega (arith, fits.seq.sp)))
]

settable_is : (board : BoardParts) (s : BoardState) (e : ℕ) → IsBoard board → check_of board ≡ Ok tt → Fits board s
    → e < element_count board + 1
    → IsSettable Board (name_at board e) (settables_of board) (value_at board s e) e
settable_is board s e is checked fits below =
    let at = settable_there board e below in
    let well = named_well board e checked below in
    let value = value_fits board s e is fits below in
    record {
      named = named board e checked below;
      spelled = well.0;
      short = well.1;
      few = value.1;
      free = λ other. rw at refl;
      below = rw at value.0;
    }

-- ---- the lines of what has a number

abbrev line_at : BoardParts → BoardState → ℕ → List ℕ
line_at board s n = set_line (name_at board n) (value_at board s n)

line_fills : (P : Settings → Type 0) (board : BoardParts) (s : BoardState) (text : List ℕ) (e : ℕ)
    (memory : List ℕ) (written : List Bool) (env : Environment) → IsBoard board → check_of board ≡ Ok tt → Fits board s
    → e < element_count board + 1
    → Fills P (with_line (settables_of board) board.width text) text (line_at board s) (value_at board s)
    (given_with memory written env) e
unfolding value_line letter_of
line_fills P board s text e memory written env is checked fits below before after flags later rest size flagged next =
    let value = value_at board s e in
    one_set P Board (name_at board e) (settables_of board) board.width text value e memory written env before after
    flags later rest (settable_is board s e is checked fits below) size flagged next (value == 0) refl

same_lines : (f g : ℕ → List ℕ) (from count : ℕ) → ((n : ℕ) → n < from + count → f n ≡ g n)
    → flat_map f (range_with_len from count) ≡ flat_map g (range_with_len from count)
same_lines f g from zero same = refl
same_lines f g from (suc count) same =
    ap₂ (λ (x y : List ℕ). x ++ y) (same from (omega arith))
    (same_lines f g (from + 1) count (λ n below. same n (omega arith)))

lines_are : (board : BoardParts) (s : BoardState)
    → flat_map (line_at board s) (range_with_len 0 (element_count board + 1))
    ≡ element_lines board s ++ set_line stack_pointer_name s.seq.sp
lines_are board s =
    let count = element_count board in
    let front = same_lines (line_at board s)
    (λ n. set_line (unwrap_or (element_name board n) []) (element board s n)) 0 count
    (λ n below. let inside : n < count = omega arith in rw (lt-ltb n count inside) refl) in
    let last : line_at board s count ≡ set_line stack_pointer_name s.seq.sp =
    rw (le-ltb count count (omega arith)) refl in
    sym (numbered_more (line_at board s) count [] _ _ refl refl)
    ∙ ap₂ (λ (x y : List ℕ). x ++ y) front last

-- ---- what is given in the end

abbrev all_values : BoardParts → BoardState → List ℕ
all_values board s = map (value_at board s) (range_with_len 0 (element_count board + 1))

value_is : (board : BoardParts) (s : BoardState) (n : ℕ) → n < element_count board + 1
    → slice_index (all_values board s) n ≡ value_at board s n
value_is board s n below =
    get_or-map-range_with_len (value_at board s) 0 (element_count board + 1) n n 0 below (zero-add n)

start_made : BoardState → Environment → Start
start_made state env = record { state = state; env = env }

end_is : (board : BoardParts) (s : BoardState) (env : Environment) (written set : List Bool) → IsBoard board
    → Fits board s
    → start_made (state_with board s.at (given_with s.memory written (shortened env) (all_values board s) set))
    (environment_with (given_with s.memory written (shortened env) (all_values board s) set))
    ≡ start_made s (shortened env)
unfolding environment_with
end_is board s env written set is fits =
    let count = element_count board in
    let given = given_with s.memory written (shortened env) (all_values board s) set in
    let state : state_with board s.at given ≡ s = made_again board s given is.few_flipflops fits refl
    (λ k below. value_is board s k (omega arith) ∙ rw (lt-ltb k count below) refl)
    (value_is board s count (omega arith) ∙ rw (le-ltb count count (omega arith)) refl) in
    ap₂ start_made state (shortened_once env)

-- ---- the lines behind the first

behind : BoardParts → BoardState → Environment → List ℕ
behind board s env =
    flat_map (line_at board s) (range_with_len 0 (element_count board + 1))
    ++ (memory_lines s.memory ++ environment_lines env)

one_more : {A : Type 0} (n : ℕ) (x : A) → replicate (n + 1) x ≡ x ∷ replicate n x
one_more n x =
    let more : n + 1 ≡ suc n = omega arith in
    ap (λ n. replicate n x) more

behind_goes : (board : BoardParts) (s : BoardState) (env : Environment) (text : List ℕ) → IsBoard board
    → check_of board ≡ Ok tt → Fits board s → IsEnvironment board env → AreShort (shortened env)
    → Goes (λ end. start_made (state_with board s.at end) (environment_with end) ≡ start_made s (shortened env))
    (with_line (settables_of board) board.width text) text (behind board s env)
    (nothing_given (length (settables_of board)) (2 ^ board.address))
unfolding behind
behind_goes board s env text is checked fits valid short =
    let P = λ (end : Settings).
    start_made (state_with board s.at end) (environment_with end) ≡ start_made s (shortened env) in
    let elements = settables_of board in
    let step = with_line elements board.width text in
    let count = element_count board + 1 in
    let words = 2 ^ board.address in
    subst (λ count. Goes P step text (behind board s env) (nothing_given count words)) (sym (settable_count board))
    (filled P step text (line_at board s) (value_at board s)
    (given_with (replicate words 0) (replicate words false) no_values) count
    (λ e below. line_fills P board s text e (replicate words 0) (replicate words false) no_values is checked fits below)
    0 count (omega arith) [] [] _ refl refl
    (λ set. memory_go P board elements text _ s.memory (all_values board s) set is fits.size fits.memory
    (λ written. lists_go P board elements text env s.memory written (all_values board s) set is.sizes.most valid short
    (end_is board s env written set is fits))))

-- ---- the first line

abbrev head_bytes : ℕ → List ℕ
head_bytes address = codes "at " ++ hex address

abbrev head_tokens : (number start address : ℕ) → List Token
head_tokens number start address =
    token number start 0 Name 2 ∷ token number start 3 (Number address) (length (hex address)) ∷ []

head_has : (number start address : ℕ) → address < 2 ^ 128
    → Has number start 0 (head_bytes address) (head_tokens number start address)
head_has number start address low =
    has_name number start 0 (codes "at") (32 ∷ hex address) _ refl refl
    (has_blank number start 2 (hex address) _ (has_last number start 3 address low))

head_short : (address : ℕ) → address < 2 ^ 32 → length (head_bytes address) ≤ 4096
head_short address low = omega (arith, hex_short address low)

abbrev head_line : ℕ → Line
head_line address = line_with 1 (head_bytes address) (head_tokens 1 0 address)

abbrev head_place : ℕ → Place
head_place address =
    Address (record { token = token 1 0 3 (Number address) (length (hex address)); value = address })

place_is : (text : List ℕ) (address : ℕ) → spelled text (token 1 0 0 Name 2) ≡ codes "at"
    → at_of (at_line text (head_line address) BadSyntax) ≡ Ok (head_place address)
unfolding at_of first_word place_at end_at symbol_of
place_is text address word = rw word refl

address_is : (text : List ℕ) (labels : List Label) (address : ℕ) → address < 4096
    → address_of text (label_named labels) (head_place address) ≡ Ok address
unfolding address_of
address_is text labels address low = rw (lt-ltb address 4096 low) refl

-- what the lines say
says : (board : BoardParts) (labels : List Label) (text : List ℕ) (fault : TextFault) (address : ℕ)
    (others : List Line) (end : Settings) → address < 4096 → spelled text (token 1 0 0 Name 2) ≡ codes "at"
    → given_by board (settables_of board) text others ≡ Ok end
    → start_in board labels text fault (head_line address ∷ others)
    ≡ Ok (start_made (state_with board address end) (environment_with end))
unfolding start_made
says board labels text fault address others end low word given =
    rw (place_is text address word) (rw (address_is text labels address low) (rw given refl))

read : (board : BoardParts) (labels : List Label) (text : List ℕ) (address : ℕ) (others : List Line) (start : Start)
    → token_lines text ≡ Ok (head_line address ∷ others)
    → ((fault : TextFault) → start_in board labels text fault (head_line address ∷ others) ≡ Ok start)
    → start_of board labels text ≡ Ok start
unfolding start_of
read board labels text address others start lines says = rw lines (says (text_end (head_line address ∷ others) BadSyntax))

-- ---- the whole

regrouped : (head e p m v : List ℕ) → ((head ++ 10 ∷ []) ++ e ++ p ++ m) ++ v ≡ head ++ 10 ∷ ((e ++ p) ++ (m ++ v))
regrouped head e p m v = simp append_assoc

text_is : (board : BoardParts) (s : BoardState) (env : Environment)
    → state_text board s ++ environment_lines env ≡ head_bytes s.at ++ 10 ∷ behind board s env
unfolding state_text behind
text_is board s env =
    regrouped (head_bytes s.at) (element_lines board s) (set_line stack_pointer_name s.seq.sp) (memory_lines s.memory)
    (environment_lines env)
    ∙ ap (λ (lines : List ℕ). head_bytes s.at ++ 10 ∷ (lines ++ (memory_lines s.memory ++ environment_lines env)))
    (sym (lines_are board s))

pub starts_read_back : StartsReadBack
unfolding start_made
starts_read_back board labels s env checked fits valid short =
    let is = is_board board checked in
    let text = state_text board s ++ environment_lines env in
    let head = head_bytes s.at in
    let rest = behind board s env in
    let whole : text ≡ head ++ 10 ∷ rest = text_is board s env in
    let size = length (head ++ 10 ∷ []) in
    let next : drop (0 + size) text ≡ rest = sym (drop-drop size 0 text)
    ∙ ap (drop size) (whole ∙ sym (append_assoc head (10 ∷ []) rest)) ∙ drop-append_seam (head ++ 10 ∷ []) rest in
    let body = behind_goes board s env text is checked fits valid short 2 (0 + size) next in
    let word : spelled text (token 1 0 0 Name 2) ≡ codes "at" =
    spelled_at text (codes "at") (32 ∷ hex s.at ++ 10 ∷ rest) (0 + 0) whole in
    let low : s.at < 4096 = fits.at in
    read board labels text s.at body.lines (start_made s (shortened env))
    (ap (λ text. lines_from 1 0 (lines_of text)) whole
    ∙ first_read 1 0 head rest (head_tokens 1 0 s.at) body.lines (hex_plain s.at) (head_short s.at (omega (arith, low)))
    (head_has 1 0 s.at (omega (arith, low))) body.are)
    (λ fault. says board labels text fault s.at body.lines body.end low word body.give ∙ ap Ok body.so)
