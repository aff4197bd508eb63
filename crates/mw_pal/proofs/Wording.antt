-- One token of a statement of words.
use Rattle.std.proofs.Common.{◌≡◌, ℕ, ◌+◌, ◌≤◌, List, [], ◌∷◌, ◌++◌, Some, None, Ok, Err, refl, drop, length}
use Rattle.mw_base.specs.declared.token.Token.{Token}
use Rattle.mw_base.specs.Cursors.{Cursor, misplaced}
use Rattle.mw_base.specs.Steps.{steps}
use Rattle.mw_base.specs.Symbols.{spelled}
use Rattle.mw_base.proofs.Steps.{goes_on, fails, done}
use Rattle.mw_pal.specs.declared.joins.Spelled.{Spelled}
use Rattle.mw_pal.specs.declared.operation.Operation.{Operation}
use Rattle.mw_pal.specs.declared.statement.Instruction.TheVariants.{Operate}
use Rattle.mw_pal.specs.Operations.{operation_named}
use Rattle.mw_pal.specs.Statements.{with_operation, operate_of}

-- a token that is a word
pub adds : (line : Cursor) (words : List Spelled) (n : ℕ) (token : Token) (operation : Operation)
    → drop n line.tokens ≡ token ∷ drop (n + 1) line.tokens
    → Some operation ≡ operation_named (spelled line.text token)
    → steps (with_operation line) words (drop n line.tokens) ≡ steps (with_operation line) [] line.tokens
    → steps (with_operation line) (words ++ record { token = token; operation = operation } ∷ [])
    (drop (n + 1) line.tokens)
    ≡ steps (with_operation line) [] line.tokens
unfolding with_operation
adds line words n token operation at is so_far =
    let more : List Spelled = words ++ record { token = token; operation = operation } ∷ [] in
    let goes : with_operation line words token ≡ Ok more = rw (← is) refl in
    goes_on (with_operation line) words more line.tokens n token _ at goes so_far

-- a token that is none
pub stops : (line : Cursor) (words : List Spelled) (n : ℕ) (token : Token)
    → drop n line.tokens ≡ token ∷ drop (n + 1) line.tokens → None ≡ operation_named (spelled line.text token)
    → steps (with_operation line) words (drop n line.tokens) ≡ steps (with_operation line) [] line.tokens
    → operate_of line ≡ Err (misplaced token line)
unfolding with_operation operate_of
stops line words n token at is so_far =
    let fault : with_operation line words token ≡ Err (misplaced token line) = rw (← is) refl in
    rw (fails (with_operation line) words (misplaced token line) line.tokens n token _ at fault so_far) refl

-- no token more
pub ends : (line : Cursor) (words : List Spelled) (n : ℕ) → length line.tokens ≤ n
    → steps (with_operation line) words (drop n line.tokens) ≡ steps (with_operation line) [] line.tokens
    → operate_of line ≡ Ok (Operate words)
unfolding operate_of
ends line words n past so_far = rw (done (with_operation line) words line.tokens n _ past so_far) refl
