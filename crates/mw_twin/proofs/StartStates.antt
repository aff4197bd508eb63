-- The states of both programs' boards that an assignment gives.
use Rattle.std.proofs.Common.{◌≡◌, ℕ, ◌<◌, ◌≤◌, ◌^◌, List, ap, refl, sym, subst, ◌∙◌}
use Rattle.std.specs.Prelude.{IfSome, Option}
use Rattle.mw_board.specs.declared.parts.BoardParts.{BoardParts}
use Rattle.mw_board.specs.Depth.{depth_of}
use Rattle.mw_board.specs.Elements.{element_count}
use Rattle.mw_cycle.specs.Elements.{IsValueOf, bits_of, element, element_of}
use Rattle.mw_cycle.specs.State.{BoardState, Fits}
use Rattle.mw_cycle.proofs.Values.{width_is}
use Rattle.mw_rel.specs.Completed.{standing}
use Rattle.mw_twin.specs.Assigned.{IsStateWith}
use Rattle.mw_twin.proofs.StatesOf.{IsMemoryOf, standing_fits, stands_same}

-- a value of an element's width is one that it can have
pub value_fits : (board : BoardParts) (n v : ℕ) → n < element_count board → v < 2 ^ bits_of board (element_of board n)
    → IsValueOf board n v
value_fits board n v there below =
    subst (λ (o : Option ℕ). IfSome o (λ width. v < 2 ^ width)) (sym (width_is board n there)) below

-- a state with some values of its elements has them still where it stands, with a memory
pub standing_with : (board : BoardParts) (values : ℕ → ℕ) (at sp : ℕ) (shown memory : List ℕ) (old new : BoardState)
    → new ≡ standing old at sp shown → shown ≡ memory → Fits board old
    → ((n : ℕ) → n < element_count board → element board old n ≡ values n) → at < 2 ^ 12 → sp ≤ depth_of board
    → IsMemoryOf board memory → IsStateWith board values at sp memory new
standing_with board values at sp shown memory old new is same fits set address pointer image =
    subst (IsStateWith board values at sp memory)
    (sym (is ∙ ap (λ (xs : List ℕ). standing old at sp xs) same))
    (record {
      fits = standing_fits board old at sp memory fits address pointer image;
      at_is = refl;
      sp_is = refl;
      memory_is = refl;
      elements = λ n below. stands_same old at sp memory (element_of board n) ∙ set n below;
    })
