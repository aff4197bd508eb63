-- What the lines of an environment's lists say, as they are printed.
use Rattle.std.proofs.Common.{◌≡◌, ℕ, ◌+◌, ◌<◌, ◌≤◌, ◌^◌, List, [], ◌∷◌, ◌++◌, map, drop, length, true}
use Rattle.std.proofs.Common.{Bool, Ok, append_assoc, append-nil, zero-add, refl, sym, ap, ◌∙◌}
use Rattle.std.proofs.Common.{subst, arith}
use Rattle.std.specs.Prelude.{All, nat_lt}
use Rattle.std.specs.List.{flat_map}
use Rattle.std.proofs.lemmas.Bool.{lt-ltb}
use Rattle.std.proofs.lemmas.List.Elements.{All-tail}
use Rattle.mw_base.specs.declared.cause.Cause.TheVariants.{BadSyntax}
use Rattle.mw_base.specs.declared.cursor.Numeral.{Numeral}
use Rattle.mw_base.specs.declared.line.Line.{Line as TextLine}
use Rattle.mw_base.specs.declared.refusal.TextFault.{TextFault}
use Rattle.mw_base.specs.declared.token.Kind.TheVariants.{Name, Number}
use Rattle.mw_base.specs.declared.token.Token.{Token}
use Rattle.mw_base.specs.Cursors.{Cursor, after, at_line}
use Rattle.mw_base.specs.Names.{is_spelled_as_name}
use Rattle.mw_base.specs.Numbers.{hex}
use Rattle.mw_base.specs.Reading.{◌>>=◌}
use Rattle.mw_base.specs.Steps.{steps}
use Rattle.mw_base.specs.Symbols.{spelled, symbol_of}
use Rattle.mw_base.proofs.Results.{ok_of}
use Rattle.mw_cycle.specs.declared.series.Series.{Series}
use Rattle.mw_cycle.specs.declared.series.Series.TheVariants.{Inputs, Line, Noise, Wait}
use Rattle.mw_cycle.specs.Environment.{Environment, values_of, with_values}
use Rattle.mw_cycle.specs.Series.{keyword_of as series_keyword, series_named, width_of}
use Rattle.mw_cycle.proofs.Lists.{behind_again, behind_length, none_behind}
use Rattle.mw_sim.specs.declared.settings.Settable.{Settable}
use Rattle.mw_sim.specs.Settings.{Settings, with_entry, with_line}
use Rattle.mw_sim.specs.Lines.{numbers_of, series_of, statement_in, statement_of, with_number}
use Rattle.mw_replay.specs.CounterPrinted.{value_text}
use Rattle.mw_replay.proofs.Lines.{Gives, line_with}
use Rattle.mw_replay.proofs.Statements.{further, spelled_at}
use Rattle.mw_replay.proofs.Tokens.{Has, has_name, has_values, numerals, token, values_stop}

-- ---- numbers

tokens_of : (number start at : ℕ) → List ℕ → List Token
tokens_of number start at values = map (λ (numeral : Numeral). numeral.token) (numerals number start at values)

numbers_are : (line : Cursor) (done : List Numeral) (number start at : ℕ) (values : List ℕ)
    → steps (with_number line) done (tokens_of number start at values) ≡ Ok (done ++ numerals number start at values)
unfolding steps with_number symbol_of tokens_of
numbers_are line done number start at [] = ap Ok (sym (append-nil done))
numbers_are line done number start at (v ∷ vs) =
    let first = numerals number start at (v ∷ []) in
    let others = numerals number start (at + 1 + length (hex v)) vs in
    numbers_are line (done ++ first) number start (at + 1 + length (hex v)) vs
    ∙ ap Ok (append_assoc done first others)

-- the tokens of a line of a list
series_tokens : (number start : ℕ) (keyword values : List ℕ) → List Token
series_tokens number start keyword values =
    token number start 0 Name (length keyword) ∷ tokens_of number start (length keyword) values

numbers_behind : (line : Cursor) (number start v : ℕ) (keyword vs : List ℕ)
    → line.tokens ≡ series_tokens number start keyword (v ∷ vs)
    → numbers_of (after 1 line) ≡ Ok (numerals number start (length keyword) (v ∷ vs))
unfolding numbers_of series_tokens tokens_of
numbers_behind line number start v keyword vs is =
    ap (λ (tokens : List Token). numbers_of (record line { tokens = drop 1 tokens })) is
    ∙ numbers_are (record line { tokens = tokens_of number start (length keyword) (v ∷ vs) }) [] number start
    (length keyword) (v ∷ vs)

-- ---- entries

-- what lines gave
abbrev pub given_with : (memory : List ℕ) (written : List Bool) (env : Environment) → List ℕ
    → List Bool → Settings
given_with memory written env values set = record {
  values = values;
  set = set;
  memory = memory;
  written = written;
  env = env;
}

-- what is given with another environment
abbrev pub with_env : Settings → Environment → Settings
with_env given env = record given { env = env }

-- values that are entries of a list
entries_are : (width : ℕ) (series : Series) (number start at : ℕ) (values : List ℕ) (given : Settings)
    → All (λ value. value < 2 ^ width_of width series) values
    → length (values_of given.env series) + length values ≤ 65536
    → steps (with_entry width series) given (numerals number start at values)
    ≡ Ok (with_env given (with_values series values given.env))
unfolding steps with_entry
entries_are width series number start at [] given all few =
    ap (λ (env : Environment). ok_of {F = TextFault} (with_env given env)) (sym (none_behind series given.env))
entries_are width series number start at (v ∷ vs) given all few =
    let numeral : Numeral = record {
      token = token number start (at + 1) (Number v) (length (hex v));
      value = v;
    } in
    let room : nat_lt (length (values_of given.env series)) 65536 ≡ true =
    lt-ltb (length (values_of given.env series)) 65536 (omega arith) in
    let small : nat_lt v (2 ^ width_of width series) ≡ true =
    lt-ltb v (2 ^ width_of width series) (all 0 v (omega arith)) in
    let next = with_env given (with_values series (v ∷ []) given.env) in
    let one : with_entry width series given numeral ≡ Ok next = rw (room, small) refl in
    let fewer : length (values_of next.env series) + length vs ≤ 65536 =
    omega (arith, behind_length series (v ∷ []) given.env) in
    ap
    (λ made. made >>= λ more. steps (with_entry width series) more (numerals number start (at + 1 + length (hex v)) vs))
    one
    ∙ entries_are width series number start (at + 1 + length (hex v)) vs next
    (All-tail (λ value. value < 2 ^ width_of width series) v vs all) fewer
    ∙ ap (λ (env : Environment). ok_of {F = TextFault} (with_env given env)) (behind_again series (v ∷ []) vs given.env)

-- ---- lines

abbrev pub series_bytes : (keyword values : List ℕ) → List ℕ
series_bytes keyword values = keyword ++ flat_map value_text values

series_has : (number start : ℕ) (keyword values : List ℕ) → is_spelled_as_name keyword ≡ true
    → All (λ value. value < 2 ^ 128) values
    → Has number start 0 (series_bytes keyword values) (series_tokens number start keyword values)
unfolding series_tokens tokens_of
series_has number start keyword values is all =
    has_name number start 0 keyword (flat_map value_text values) _ is (values_stop values)
    (subst (λ at. Has number start at (flat_map value_text values) (tokens_of number start (length keyword) values))
    (sym (zero-add (length keyword))) (has_values number start (length keyword) values all))

series_line_with : (number start : ℕ) (keyword values : List ℕ) → TextLine
series_line_with number start keyword values =
    line_with number (series_bytes keyword values) (series_tokens number start keyword values)

keyword_at : (text keyword values rest : List ℕ) (number start : ℕ)
    → drop start text ≡ series_bytes keyword values ++ rest
    → spelled text (token number start 0 Name (length keyword)) ≡ keyword
keyword_at text keyword values rest number start at =
    let behind = flat_map value_text values ++ rest in
    spelled_at text keyword behind (start + 0)
    (further text (series_bytes keyword values ++ rest) (keyword ++ behind) start 0 at
    (append_assoc keyword (flat_map value_text values) rest))

-- what a line says that begins with a list's keyword
statement_is : (line : Cursor) (first : Token) (rest : List Token) (series : Series)
    → spelled line.text first ≡ series_keyword series → statement_in line (first ∷ rest) ≡ series_of series line
unfolding series_named
statement_is line first rest Inputs is = rw is refl
statement_is line first rest Line is = rw is refl
statement_is line first rest Noise is = rw is refl
statement_is line first rest Wait is = rw is refl

keyword_spelled : (series : Series) → is_spelled_as_name (series_keyword series) ≡ true
keyword_spelled Inputs = refl
keyword_spelled Line = refl
keyword_spelled Noise = refl
keyword_spelled Wait = refl

pub series_gives : (elements : List Settable) (width : ℕ) (series : Series) (text rest values : List ℕ)
    (number start : ℕ) (given : Settings)
    → 0 < length values → drop start text ≡ series_bytes (series_keyword series) values ++ rest
    → All (λ value. value < 2 ^ 128) values → All (λ value. value < 2 ^ width_of width series) values
    → length (values_of given.env series) + length values ≤ 65536
    → Gives (with_line elements width text) number start (series_bytes (series_keyword series) values) given
    (with_env given (with_values series values given.env))
unfolding with_line statement_of series_of series_tokens tokens_of series_line_with
series_gives elements width series text rest [] number start given some at few below room = absurd (omega arith)
series_gives elements width series text rest (v ∷ vs) number start given some at few below room =
    let keyword = series_keyword series in
    let line = at_line text (series_line_with number start keyword (v ∷ vs)) BadSyntax in
    let word = keyword_at text keyword (v ∷ vs) rest number start at in
    record {
      tokens = series_tokens number start keyword (v ∷ vs);
      has = series_has number start keyword (v ∷ vs) (keyword_spelled series) few;
      gives =
          rw (
            statement_is line (token number start 0 Name (length keyword))
                (tokens_of number start (length keyword) (v ∷ vs)) series word,
            numbers_behind line number start v keyword vs refl,
          )
          (entries_are width series number start (length keyword) (v ∷ vs) given below room);
    }
