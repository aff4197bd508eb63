-- The counter that a START or COUNTER file gives.
use Rattle.std.specs.Prelude.{ℕ, ◌-◌, ◌^◌, List, [], ◌∷◌, codes, length, map, slice_index, slice_index_or, Bool, is_ok}
use Rattle.std.specs.Prelude.{if◌then◌else◌, nat_lt, ◌==◌, ok_or, unwrap_or, Option, Result, Ok, Err}
use Rattle.std.specs.List.{position}
use Rattle.mw_base.specs.declared.cause.Cause.TheVariants.{BadSyntax, ValueTooWide}
use Rattle.mw_base.specs.declared.line.Line.{Line}
use Rattle.mw_base.specs.declared.place.Place.{Place}
use Rattle.mw_base.specs.declared.place.Place.TheVariants.{Label as AtLabel, Address}
use Rattle.mw_base.specs.declared.refusal.TextFault.{TextFault}
use Rattle.mw_base.specs.declared.token.Token.{Token}
use Rattle.mw_base.specs.Cursors.{Cursor, at_line, end_at, first_word, place_at}
use Rattle.mw_base.specs.Places.{address_of}
use Rattle.mw_base.specs.Reading.{◌>>=◌}
use Rattle.mw_base.specs.TokenLines.{fault_on, token_lines, text_end}
use Rattle.mw_board.specs.Elements.{element_count, element_name}
use Rattle.mw_cycle.specs.Boundary.{numbers}
use Rattle.mw_asm.specs.declared.assembled.Label.{Label}
use Rattle.mw_rel.specs.Begin.{free_elements}
use Rattle.mw_rel.specs.Free.{is_free, numbered}
use Rattle.mw_rel.specs.Job.{Job}
use Rattle.mw_rel.specs.Relation.{Boundary}
use Rattle.mw_sim.specs.declared.settings.Owner.{Owner}
use Rattle.mw_sim.specs.declared.settings.Owner.TheVariants.{Board, Machine}
use Rattle.mw_sim.specs.declared.settings.Settable.{Settable}
use Rattle.mw_sim.specs.Settings.{Settings, given_by}
use Rattle.mw_asm.specs.Labels.{label_named}
use Rattle.mw_sim.specs.Start.{environment_with, from_first}
use Rattle.mw_replay.specs.Counter.{Counter}

-- ---- what a line may set

-- whose the element with a number is
abbrev pub owner_of : Job → ℕ → Owner
owner_of job e = if nat_lt e (element_count job.board) then Board else Machine

-- its name: the machine's registers are behind the elements of the board
abbrev pub name_of : Job → ℕ → List ℕ
name_of job e =
    if nat_lt e (element_count job.board) then unwrap_or (element_name job.board e) []
    else slice_index_or job.machine.names (e - element_count job.board) []

-- the element with a number as a line may set it at a boundary: where it is free there, to a word of its width
abbrev pub settable : Job → Boundary → ℕ → Settable
settable job boundary e = record {
  owner = owner_of job e;
  name = name_of job e;
  bound = 2 ^ slice_index job.relation.shape.widths e;
  is_free = is_free boundary e;
}

-- the elements of both sides, by number
abbrev pub settables_of : Job → Boundary → List Settable
settables_of job boundary = map (settable job boundary) (numbers 0 (length job.relation.shape.widths))

-- ---- the head

-- a line begins with this word
abbrev pub begins_with : List ℕ → Cursor → Bool
begins_with word line = is_ok (first_word word line)

-- the lines behind a line `no`, where they begin with one: nothing else stands on it
abbrev pub behind_no : List ℕ → List Line → Result (List Line) TextFault
behind_no text [] = Ok []
behind_no text (line ∷ rest) =
    if begins_with (codes "no") (at_line text line BadSyntax)
    then (end_at 1 (at_line text line BadSyntax) >>= λ end. Ok (from_first rest))
    else Ok (line ∷ rest)

-- the lines behind a line `difference ..`, where they begin with one: anything may stand on it
abbrev pub behind_difference : List ℕ → List Line → List Line
behind_difference text [] = []
behind_difference text (line ∷ rest) =
    if begins_with (codes "difference") (at_line text line BadSyntax) then from_first rest else line ∷ rest

-- boundary PLACE
unfoldable pub boundary_place : Cursor → Result Place TextFault
boundary_place line = do
  first ← first_word (codes "boundary") line
  place ← place_at 1 line
  end ← end_at 2 line
  Ok place

-- the token of a PLACE
abbrev pub token_of : Place → Token
token_of (AtLabel token) = token
token_of (Address numeral) = numeral.token

-- the number of the boundary at a control address
abbrev pub number_at : Job → ℕ → Option ℕ
number_at job at = position (λ (boundary : Boundary). boundary.address == at) job.relation.boundaries

-- the number of the boundary at a PLACE, which has to be the address of one
unfoldable pub boundary_at_place : Job → List Label → List ℕ → Place → Result ℕ TextFault
boundary_at_place job labels text place = do
  address ← address_of text (label_named labels) place
  ok_or (number_at job address) (fault_on (token_of place) ValueTooWide)

-- ---- the whole

-- the counter of a boundary with what is given there: the values of its free elements, the memory, and the environment
-- without the zeros at its lists' ends
abbrev pub counter_with : Job → ℕ → Settings → Counter
counter_with job n given = record {
  boundary = n;
  begin = record {
    values = map (slice_index given.values) (free_elements job (numbered job n));
    memory = given.memory;
    env = environment_with given;
  };
}

-- what lines say from the line `boundary PLACE` on: behind it stands what is given
abbrev pub counter_in : Job → List Label → List ℕ → TextFault → List Line → Result Counter TextFault
counter_in job labels text end [] = Err end
counter_in job labels text end (head ∷ rest) =
    boundary_place (at_line text head BadSyntax) >>= λ place.
    boundary_at_place job labels text place >>= λ n.
    given_by job.board (settables_of job (numbered job n)) text rest >>= λ given.
    Ok (counter_with job n given)

-- the counter that a START or COUNTER file gives, or its first fault: a line `no` and a line `difference ..` may stand
-- at its head, each alone, in this order
unfoldable pub counter_of : Job → List Label → List ℕ → Result Counter TextFault
counter_of job labels text = do
  lines ← token_lines text
  rest ← behind_no text (from_first lines)
  counter_in job labels text (text_end lines BadSyntax) (behind_difference text rest)
