-- The lines of a text, each with its tokens, as grammars read them: `Lines` cuts the bytes into lines, `Tokens` reads
-- one of them.
use Rattle.std.specs.Prelude.{ℕ, ◌+◌, ◌-◌, List, [], ◌∷◌, length, slice_get, Option, Some, None, Result, Ok}
use Rattle.std.specs.List.{flat_map}
use Rattle.mw_base.specs.declared.cause.Cause.{Cause}
use Rattle.mw_base.specs.declared.line.Line.{Line}
use Rattle.mw_base.specs.declared.refusal.TextFault.{TextFault}
use Rattle.mw_base.specs.declared.token.Token.{Token}
use Rattle.mw_base.specs.Lines.{lines_of, content}
use Rattle.mw_base.specs.Reading.{◌>>=◌, with_front}
use Rattle.mw_base.specs.Tokens.{line_tokens}

-- a line with its tokens, or the first fault of its bytes; it has this number, begins at this place of the text and
-- ends just past its last byte
unfoldable pub line_of : ℕ → ℕ → List ℕ → Result Line TextFault
line_of number start line = do
  tokens ← line_tokens number start line
  Ok (record { number = number; end = length line + 1; tokens = tokens })

-- lines with their tokens, or their first fault; the first has this number and begins at this place of the text
unfoldable pub lines_from : ℕ → ℕ → List (List ℕ) → Result (List Line) TextFault
lines_from number start [] = Ok []
lines_from number start (line ∷ rest) = do
  first ← line_of number start (content line)
  with_front (first ∷ []) (lines_from (number + 1) (start + length line) rest)

-- the lines of a text, each with its tokens, or the first fault of its bytes
abbrev pub token_lines : List ℕ → Result (List Line) TextFault
token_lines text = lines_from 1 0 (lines_of text)

-- the tokens of lines, in order
abbrev pub tokens_in : List Line → List Token
tokens_in lines = flat_map (λ (line : Line). line.tokens) lines

-- the tokens of a text, in order, or the first fault of its bytes
abbrev pub tokens_of : List ℕ → Result (List Token) TextFault
tokens_of text = do
  lines ← token_lines text
  Ok (tokens_in lines)

-- a fault at a token
abbrev pub fault_on : Token → Cause → TextFault
fault_on token cause = record { line = token.line; column = token.column; cause = cause }

-- a fault at the end of a line
abbrev pub end_fault : Line → Cause → TextFault
end_fault line cause = record { line = line.number; column = line.end; cause = cause }

-- a fault at the end of this line, or where there is none at line 1 and column 1
abbrev pub last_fault : Option Line → Cause → TextFault
last_fault (Some line) cause = end_fault line cause
last_fault None cause = record { line = 1; column = 1; cause = cause }

-- a fault at the end of a text of these lines: at the end of its last
abbrev pub text_end : List Line → Cause → TextFault
text_end lines cause = last_fault (slice_get lines (length lines - 1)) cause
