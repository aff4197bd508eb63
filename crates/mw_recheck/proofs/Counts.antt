-- A log has as many boundaries as it was read for.
use Rattle.std.proofs.Common.{◌≡◌, ℕ, ◌≤◌, List, [], ◌∷◌, ◌++◌, length, refl, subst, arith}
use Rattle.std.specs.Prelude.{Bool, true, false, codes, if◌then◌else◌, nat_lt, slice_get, Option, Some, None, Ok, Err}
use Rattle.std.specs.Str.{bytes_eq}
use Rattle.std.proofs.lemmas.Bool.{ltb-true, ltb-false}
use Rattle.std.proofs.lemmas.List.{length-append}
use Rattle.mw_base.specs.declared.cause.Cause.TheVariants.{BadSyntax, BadCount}
use Rattle.mw_base.specs.declared.line.Line.{Line}
use Rattle.mw_base.specs.declared.refusal.TextFault.{TextFault}
use Rattle.mw_base.specs.declared.token.Token.{Token}
use Rattle.mw_base.specs.Cursors.{Cursor, at_line, end_at}
use Rattle.mw_base.specs.Reading.{◌>>=◌}
use Rattle.mw_base.specs.Symbols.{spelled}
use Rattle.mw_base.specs.TokenLines.{token_lines, fault_on, text_end}
use Rattle.mw_base.proofs.Results.{ok_of, ok_is, bind_ok, if_ok}
use Rattle.mw_base.proofs.Steps.{steps_keep}
use Rattle.mw_recheck.specs.declared.line.LogLine.{LogLine}
use Rattle.mw_recheck.specs.LogText.{Reading, at_first, all_lines, last_lines, with_line, with_boundary, in_last}
use Rattle.mw_recheck.specs.LogText.{with_tokens, read_on, all_read, finished, log_of}

-- no more boundaries than these were read
abbrev AreWithin : ℕ → Reading → Type 0
AreWithin n reading = length (all_lines reading) ≤ n

boundary_within : (n : ℕ) (cursor : Cursor) (first : Token) (before after : Reading)
    → with_boundary n cursor first before ≡ Ok after → AreWithin n after
unfolding with_boundary
boundary_within n cursor first before after is =
    let all = all_lines before in
    let next : Reading = record { before = all; last = Some [] } in
    let ended = bind_ok (end_at 1 cursor)
    (λ end. if nat_lt (length all) n then ok_of {F = TextFault} next else Err (fault_on first BadCount)) after is in
    let one = if_ok (nat_lt (length all) n) next after (fault_on first BadCount) ended.2 in
    let few : length (all ++ [] ∷ []) ≤ n =
    omega (arith, ltb-true (length all) n one.0, length-append all ([] ∷ [])) in
    subst (AreWithin n) one.1 few

last_within : (n : ℕ) (cursor : Cursor) (first : Token) (before : List (List LogLine))
    (last : Option (List LogLine)) (after : Reading) → in_last cursor first before last ≡ Ok after
    → length (before ++ last_lines last) ≤ n → AreWithin n after
last_within n cursor first before None after is few = absurd cc
last_within n cursor first before (Some lines) after is few =
    let next : List LogLine → Reading = λ more. record { before = before; last = Some more } in
    let more = bind_ok (with_line cursor first lines) (λ more. ok_of {F = TextFault} (next more)) after is in
    let size : length (before ++ more.0 ∷ []) ≤ n =
    omega (arith, few, length-append before (lines ∷ []), length-append before (more.0 ∷ [])) in
    subst (AreWithin n) (ok_is {F = TextFault} (next more.0) after more.2) size

line_within : (n : ℕ) (cursor : Cursor) (first : Token) (before after : Reading) (b : Bool)
    → (if b then with_boundary n cursor first before else in_last cursor first before.before before.last) ≡ Ok after
    → AreWithin n before → AreWithin n after
line_within n cursor first before after true is few = boundary_within n cursor first before after is
line_within n cursor first before after false is few =
    last_within n cursor first before.before before.last after is few

tokens_within : (n : ℕ) (cursor : Cursor) (before after : Reading) (first : Option Token)
    → with_tokens n cursor before first ≡ Ok after → AreWithin n before → AreWithin n after
tokens_within n cursor before after None is few = subst (AreWithin n) (ok_is {F = TextFault} before after is) few
tokens_within n cursor before after (Some first) is few =
    line_within n cursor first before after (bytes_eq (spelled cursor.text first) (codes "boundary")) is few

read_within : (n : ℕ) (text : List ℕ) (before after : Reading) (line : Line)
    → read_on n text before line ≡ Ok after → AreWithin n before → AreWithin n after
unfolding read_on
read_within n text before after line =
    tokens_within n (at_line text line BadSyntax) before after (slice_get line.tokens 0)

finished_is : (n : ℕ) (lines : List Line) (reading : Reading) (log : List (List LogLine)) (b : Bool)
    → nat_lt (length (all_lines reading)) n ≡ b
    → (if b then Err (text_end lines BadCount) else ok_of {F = TextFault} (all_lines reading)) ≡ Ok log
    → AreWithin n reading → length log ≡ n
finished_is n lines reading log true less is few = absurd cc
finished_is n lines reading log false less is few =
    let enough = ltb-false (length (all_lines reading)) n less in
    subst (λ (all : List (List LogLine)). length all ≡ n) (ok_is {F = TextFault} (all_lines reading) log is)
    (omega (arith, enough, few))

pub count_is : (n : ℕ) (text : List ℕ) (log : List (List LogLine)) → log_of n text ≡ Ok log → length log ≡ n
unfolding log_of finished
count_is n text log is =
    let lines =
    bind_ok (token_lines text) (λ lines. all_read n text lines >>= λ reading. finished n lines reading) log is in
    let reading = bind_ok (all_read n text lines.0) (λ reading. finished n lines.0 reading) log lines.2 in
    let few = steps_keep (AreWithin n) (read_on n text) (read_within n text) at_first reading.0 lines.0 reading.1
    (omega arith) in
    finished_is n lines.0 reading.0 log (nat_lt (length (all_lines reading.0)) n) refl reading.2 few
