use Rattle.std.proofs.Common.{◌∙◌, rules, tests, sym}
use Rattle.std.specs.Borrow.{Bor}
use Rattle.std.specs.Prelude.{List, ℕ}
use Rattle.std.specs.Str.{bytes_eq}
use Rattle.std.proofs.lemmas.Iterator.Search.{position_from_yields_List}
use Rattle.std.proofs.lemmas.Iterator.{YieldsList-from_slice}
use Rattle.mw_board.proofs.Elements.{position-map}
use Rattle.mw_board.proofs.element.place_of.Goals as goal

pub returns : goal.returns
returns c =
    position_from_yields_List (λ (other : Bor (List ℕ)). bytes_eq c.args.name.now other.now) _ _ c.position.result
    c.position.ensures.ran (YieldsList-from_slice _ c.iter.ensures.rest) (λ x b q k. search (rules, tests))
    ∙ sym (position-map (bytes_eq c.args.name.now) (λ (other : Bor (List ℕ)). other.now) c.args.names.now)
