-- The text of a counter, as reports print it, and what is left of a counter in it.
use Rattle.std.specs.Prelude.{◌≡◌, ℕ, true, not, ◌&&◌, Ok, ◌+◌, ◌*◌, ◌/◌, ◌≤◌, List, [], ◌++◌, codes, length, take}
use Rattle.std.specs.Prelude.{drop, if◌then◌else◌, ◌==◌}
use Rattle.std.specs.List.{flat_map, list_all, range_with_len}
use Rattle.mw_base.specs.declared.token.Token.{Token}
use Rattle.mw_base.specs.Numbers.{hex}
use Rattle.mw_base.specs.Tokens.{tokens_from}
use Rattle.mw_cycle.specs.Environment.{Environment, values_of}
use Rattle.mw_cycle.specs.Trimmed.{shortened, trimmed}
use Rattle.mw_cycle.specs.declared.series.Series.{Series}
use Rattle.mw_cycle.specs.Series.{all_series, keyword_of}
use Rattle.mw_rel.specs.Completed.{free_value}
use Rattle.mw_rel.specs.Free.{is_free, numbered}
use Rattle.mw_rel.specs.Job.{Job}
use Rattle.mw_rel.specs.Relation.{Boundary}
use Rattle.mw_sim.specs.Settings.{owner_text}
use Rattle.mw_sim.specs.Texts.{line, memory_lines}
use Rattle.mw_replay.specs.Counter.{Counter}
use Rattle.mw_replay.specs.CounterText.{owner_of, name_of}

-- ---- lines

-- boundary PLACE: the place is its control address
abbrev pub boundary_line : Boundary → List ℕ
boundary_line boundary = line (codes "boundary " ++ hex boundary.address)

-- set ELEMENT VALUE, of the element with a number; none where the value is 0
unfoldable pub set_line : Job → ℕ → ℕ → List ℕ
set_line job e value =
    if value == 0 then []
    else line (codes "set " ++ owner_text (owner_of job e) ++ codes "." ++ name_of job e ++ codes " " ++ hex value)

-- the lines of the elements that are free at a boundary, by number
abbrev pub set_lines : Job → Boundary → List ℕ → List ℕ
set_lines job boundary values =
    flat_map (λ e. set_line job e (free_value (is_free boundary) values e))
    (range_with_len 0 (length job.relation.shape.widths))

-- a value of a list, behind a blank
abbrev pub value_text : ℕ → List ℕ
value_text value = codes " " ++ hex value

-- a list's keyword, and VALUE ..
abbrev pub series_line : List ℕ → List ℕ → List ℕ
series_line keyword values = line (keyword ++ flat_map value_text values)

-- how many lines so many values need, sixteen to a line
abbrev pub line_count : ℕ → ℕ
line_count values = (values + 15) / 16

-- the values of the line of a list with a number, from 0
abbrev pub values_at : List ℕ → ℕ → List ℕ
values_at values n = take 16 (drop (16 * n) values)

-- the lines of values, behind a list's keyword
abbrev pub values_lines : List ℕ → List ℕ → List ℕ
values_lines keyword values =
    flat_map (λ n. series_line keyword (values_at values n)) (range_with_len 0 (line_count (length values)))

-- the lines of a list without the zeros at its end
abbrev pub series_lines : Environment → Series → List ℕ
series_lines env series = values_lines (keyword_of series) (trimmed (values_of env series))

-- ---- the whole

-- the lists of an environment, in the order of the table
abbrev pub environment_lines : Environment → List ℕ
environment_lines env = flat_map (series_lines env) all_series

-- the boundary, the free elements, the memory, and the environment: what isn't 0 of each
unfoldable pub counter_text : Job → Counter → List ℕ
counter_text job counter =
    boundary_line (numbered job counter.boundary)
    ++ set_lines job (numbered job counter.boundary) counter.begin.values
    ++ memory_lines counter.begin.memory
    ++ environment_lines counter.begin.env

-- ---- what is read back

-- a counter whose environment's lists have no zeros at their ends, which gives a run the same at each clock
abbrev pub in_short : Counter → Counter
in_short counter = record {
  boundary = counter.boundary;
  begin = record {
    values = counter.begin.values;
    memory = counter.begin.memory;
    env = shortened counter.begin.env;
  };
}

-- each list of an environment has at most 65,536 entries
abbrev pub AreShort : Environment → Type 0
AreShort env = (series : Series) → length (values_of env series) ≤ 65536

-- bytes that may stand behind the word of a line `difference ..`: they have tokens wherever they stand, end no line,
-- and the line isn't too long
pub record MayFollow (bytes : List ℕ) : Type 0 where
  pub plain : list_all (λ c. not (c == 10) && not (c == 13)) bytes ≡ true
  pub tokens : (number start at : ℕ) → (found : List Token) × (tokens_from number start at 0 bytes ≡ Ok found)
  pub short : length (codes "difference " ++ bytes) ≤ 4096

-- the lines before a counter in the report of a no: `no`, and `difference` with these bytes
abbrev pub no_lines : List ℕ → List ℕ
no_lines difference = line (codes "no") ++ line (codes "difference " ++ difference)
