use Rattle.std.proofs.Common.{◌≡◌, List, [], ◌∷◌, ap, true, refl, sym, inl, inr, ◌∙◌, rules}
use Rattle.std.specs.Prelude.{◌≢◌}
use Rattle.clap.proofs.OnLiterals.{clap_on_literals}
use Rattle.clap.specs.Kinds.{Kinds, HasKind, IsAmong}
use Rattle.clap.specs.declared.error.Error.{Error}
use Rattle.clap.specs.declared.error.kind.ErrorKind.{ErrorKind}
use Rattle.clap.specs.declared.error.kind.ErrorKind.TheVariants.{OutOfMemory}
use Rattle.clap.specs.declared.parser.matches.ArgMatches.{ArgMatches}
use Rattle.clap.specs.Words.{App, HasMatchesOf, Text, fault_of, found_of, is_simple, is_simple_and_free, kind_of}
use Rattle.clap.specs.Words.{matches_of, rows_of}
use Rattle.mw_top.specs.Line.{line}
use Rattle.mw_top.proofs.request.line.read_line.Goals as goal

line_is_free : is_simple_and_free line ≡ true
unfolding clap_on_literals line
line_is_free = refl

line_is_simple : is_simple line ≡ true
unfolding clap_on_literals line
line_is_simple = refl

-- one of the kinds of a list: there is one
among_some : (kind : ErrorKind) (kinds : Kinds) → IsAmong kind kinds → kinds ≢ []
among_some kind [] h = absurd h
among_some kind (k ∷ ks) h = λ e. cc

-- the kinds of a parse, at the line
ok_kinds : (app : App) (words : List Text) (matches : ArgMatches) → app ≡ line
    → (is_simple_and_free app ≡ true → fault_of app words ≡ []) → HasMatchesOf app words matches
    → (fault_of line words ≡ []) × (rows_of (found_of matches) ≡ matches_of line words)
ok_kinds app words matches is kinds has =
    let fine : fault_of app words ≡ [] = kinds (ap is_simple_and_free is ∙ line_is_free) in
    let rows = (has (ap is_simple is ∙ line_is_simple)).0 in
    (ap (λ (a : App). fault_of a words) (sym is) ∙ fine, rows ∙ ap (λ (a : App). matches_of a words) is)

err_kinds : (app : App) (words : List Text) (error : Error) → app ≡ line → kind_of error ≢ OutOfMemory
    → (is_simple_and_free app ≡ true → HasKind (fault_of app words) error) → fault_of line words ≢ []
err_kinds app words error is other kinds = elim (kinds (ap is_simple_and_free is ∙ line_is_free)) [
  | inl memory ↦ absurd (other memory)
  | inr among ↦
      λ none. among_some (kind_of error) (fault_of app words) among (ap (λ (a : App). fault_of a words) is ∙ none)
]

pub returns-in-Ok : goal.returns-in-Ok
returns-in-Ok c =
    ok_kinds _ _ c.in-Ok.matches c.in_ok-line.ensures c.in-Ok.ensures.kinds c.in-Ok.ensures.matches

pub returns : goal.returns
returns c = err_kinds _ _ c.in-Err.error c.in_ok-line.ensures (search rules) c.in-Err.ensures.kinds
