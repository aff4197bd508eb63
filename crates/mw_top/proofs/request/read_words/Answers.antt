use Rattle.std.proofs.Common.{◌≡◌, List, [], ◌∷◌, None, refl, map, string_bytes}
use Rattle.std.specs.Prelude.{◌≢◌}
use Rattle.clap.specs.Kinds.{Kinds}
use Rattle.clap.specs.Words.{Row, fault_of, matches_of}
use Rattle.mw_top.specs.Line.{line}
use Rattle.mw_top.specs.Request.{request_of, unless_refused}
use Rattle.mw_top.proofs.request.read_words.Goals as goal

-- words that are refused make no request
none_refused : (kinds : Kinds) (matches : List Row) → kinds ≢ [] → None ≡ unless_refused kinds matches
none_refused [] matches some = absurd (some refl)
none_refused (kind ∷ kinds) matches some = refl

pub returns-in-Refused-clause-exact : goal.returns-in-Refused-clause-exact
unfolding request_of
returns-in-Refused-clause-exact c =
    let words = map string_bytes c.args.words.now in
    none_refused (fault_of line words) (matches_of line words) (rw c.in-Refused.is at c.in_ok-line.ensures)
