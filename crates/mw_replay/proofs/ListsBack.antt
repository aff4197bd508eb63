-- The lines of an environment's lists are read back.
use Rattle.std.proofs.Common.{◌≡◌, ℕ, ◌+◌, ◌*◌, ◌<◌, ◌≤◌, ◌^◌, List, [], ◌++◌, take, drop, length, Bool, true}
use Rattle.std.proofs.Common.{lit≤, refl, subst, arith}
use Rattle.std.specs.Prelude.{All}
use Rattle.std.specs.List.{list_all}
use Rattle.std.proofs.Math.Pow.{pow_mono}
use Rattle.std.proofs.lemmas.List.{length-drop, length-take}
use Rattle.std.proofs.lemmas.List.Elements.{All-weaker}
use Rattle.std.proofs.lemmas.Nat.{pow_pos}
use Rattle.mw_board.specs.declared.parts.BoardParts.{BoardParts}
use Rattle.mw_cycle.specs.declared.series.Series.{Series}
use Rattle.mw_cycle.specs.declared.series.Series.TheVariants.{Inputs, Line, Noise, Wait}
use Rattle.mw_cycle.specs.Environment.{Environment, IsEnvironment, no_values, values_of}
use Rattle.mw_cycle.specs.Trimmed.{shortened, trimmed}
use Rattle.mw_cycle.specs.Environment.{with_values}
use Rattle.mw_cycle.specs.Series.{keyword_of, width_of}
use Rattle.mw_cycle.proofs.Lists.{behind_again, behind_length, lists_back, none_behind, trimmed_below, widths_most}
use Rattle.mw_cycle.proofs.Lists.{widths_within}
use Rattle.mw_sim.specs.declared.settings.Settable.{Settable}
use Rattle.mw_sim.specs.Settings.{Settings, with_line}
use Rattle.mw_replay.specs.CounterPrinted.{AreShort, environment_lines, line_count, values_at, values_lines}
use Rattle.mw_replay.proofs.Chunks.{values_go, values_some, values_within}
use Rattle.mw_replay.proofs.Lines.{Gives, Goes, end_goes, is_plain}
use Rattle.mw_replay.proofs.SeriesLines.{given_with, series_bytes, series_gives}
use Rattle.mw_replay.proofs.Trimmed.{trimmed_within}

chunk_room : (xs : List ℕ) (n : ℕ) → length xs ≤ 65536
    → length (take (16 * n) xs) + length (values_at xs n) ≤ 65536
chunk_room xs n few =
    omega (arith, length-take (16 * n) xs, length-take 16 (drop (16 * n) xs), length-drop (16 * n) xs)

below_more : (v bound most : ℕ) → v < bound → bound ≤ most → v < most
below_more v bound most below less = omega arith

wider : (bound most : ℕ) (xs : List ℕ) → bound ≤ most → All (λ v. v < bound) xs → All (λ v. v < most) xs
wider bound most xs less all =
    All-weaker (λ v. v < bound) (λ v. v < most) (λ v below. below_more v bound most below less) xs all

-- no value of a list has over 32 bits
narrow_list : (width : ℕ) (series : Series) → width ≤ 32 → width_of width series ≤ 32
narrow_list width series narrow = omega (arith, widths_within width series narrow, widths_most series)

keyword_plain : (series : Series) → list_all is_plain (keyword_of series) ≡ true
keyword_plain Inputs = refl
keyword_plain Line = refl
keyword_plain Noise = refl
keyword_plain Wait = refl

keyword_short : (series : Series) → length (keyword_of series) ≤ 64
keyword_short Inputs = lit≤ tt
keyword_short Line = lit≤ tt
keyword_short Noise = lit≤ tt
keyword_short Wait = lit≤ tt

-- the lines of a list that has no values before them
list_go : (P : Settings → Type 0) (width : ℕ) (elements : List Settable) (text rest memory : List ℕ)
    (written : List Bool) (env : Environment) (values : List ℕ) (set : List Bool) (series : Series) (xs : List ℕ)
    → width ≤ 32
    → All (λ v. v < 2 ^ width_of width series) xs → length xs ≤ 65536
    → length (values_of env series) ≡ 0
    → Goes P (with_line elements width text) text rest
    (given_with memory written (with_values series xs env) values set)
    → Goes P (with_line elements width text) text
    (values_lines (keyword_of series) xs ++ rest) (given_with memory written env values set)
list_go P width elements text rest memory written env values set series xs narrow below short none next =
    let bits = width_of width series in
    let step = with_line elements width text in
    let keyword = keyword_of series in
    let given = λ (env : Environment). given_with memory written env values set in
    let make = λ (xs : List ℕ). given (with_values series xs env) in
    let few = wider (2 ^ bits) (2 ^ 32) xs (pow_mono (narrow_list width series narrow)) below in
    let fewer = wider (2 ^ 32) (2 ^ 128) xs (lit≤ tt) few in
    subst (λ env. Goes P step text (values_lines keyword xs ++ rest) (given env)) (none_behind series env)
    (values_go P step text keyword xs rest make (keyword_plain series) (keyword_short series) few
    (λ n more number start inside at.
    let front = take (16 * n) xs in
    let chunk = values_at xs n in
    let size = behind_length series front env in
    let room : length (values_of (with_values series front env) series) + length chunk ≤ 65536 =
    omega (arith, size, none, chunk_room xs n short) in
    subst (λ env. Gives step number start (series_bytes keyword chunk) (make front) (given env))
    (behind_again series front chunk env)
    (series_gives elements width series text more chunk number start (make front) (values_some xs n inside) at
    (values_within (2 ^ 128) xs n fewer) (values_within (2 ^ bits) xs n below) room))
    next 0 (line_count (length xs)) (omega arith))

-- a list without the zeros at its end has the widths of its values
list_below : (board : BoardParts) (env : Environment) (series : Series) → IsEnvironment board env
    → All (λ v. v < 2 ^ width_of board.width series) (trimmed (values_of env series))
list_below board env series is =
    trimmed_within (2 ^ width_of board.width series) (values_of env series) (pow_pos (width_of board.width series))
    (is.values series)

-- and it isn't too long
list_short : (board : BoardParts) (env : Environment) (series : Series) → IsEnvironment board env
    → AreShort (shortened env) → length (trimmed (values_of env series)) ≤ 65536
list_short board env series is short =
    subst (λ (xs : List ℕ). length xs ≤ 65536)
    (lists_back (λ series. trimmed (values_of env series)) board.width series
    (trimmed_below (2 ^ width_of board.width series) (values_of env series) (pow_pos (width_of board.width series))
    (is.values series)))
    (short series)

-- the lines of all lists
pub lists_go : (P : Settings → Type 0) (board : BoardParts) (elements : List Settable) (text : List ℕ)
    (env : Environment) (memory : List ℕ) (written : List Bool) (values : List ℕ) (set : List Bool)
    → board.width ≤ 32 → IsEnvironment board env → AreShort (shortened env)
    → P (given_with memory written (shortened env) values set)
    → Goes P (with_line elements board.width text) text (environment_lines env)
    (given_with memory written no_values values set)
lists_go P board elements text env memory written values set narrow is short so =
    let step = with_line elements board.width text in
    let kept = λ (series : Series). trimmed (values_of env series) in
    let one = with_values Inputs (kept Inputs) no_values in
    let two = with_values Line (kept Line) one in
    let three = with_values Noise (kept Noise) two in
    let go = λ (series : Series) (rest : List ℕ) (before : Environment).
    list_go P board.width elements text rest memory written before values set series (kept series) narrow
    (list_below board env series is) (list_short board env series is short) in
    go Inputs _ no_values refl
    (go Line _ one refl
    (go Noise _ two refl
    (go Wait [] three refl (end_goes P step text (given_with memory written (shortened env) values set) so))))
