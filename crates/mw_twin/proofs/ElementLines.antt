-- The widths of elements, and the lines of a block about them.
use Rattle.std.proofs.Common.{◌≡◌, ℕ, suc, ◌<◌, ◌≤◌, ◌^◌, List, [], ◌∷◌, Bool, true, false, cond, ◌==◌, refl, ap, sym}
use Rattle.std.proofs.Common.{subst, ◌∙◌, arith, Some}
use Rattle.std.specs.Prelude.{All, IfSome, unwrap_or}
use Rattle.std.proofs.lemmas.Bool.{eqb-true}
use Rattle.std.proofs.lemmas.Option.{same_Some}
use Rattle.mw_board.specs.declared.parts.BoardParts.{BoardParts}
use Rattle.mw_board.specs.Elements.{element_count, element_width}
use Rattle.mw_board.specs.Valid.{IsBoard}
use Rattle.mw_board.proofs.Elements.{count_of, words_few}
use Rattle.mw_cycle.specs.declared.elements.Element.{Element}
use Rattle.mw_cycle.specs.declared.elements.Element.TheVariants.{Register, Q, Mar, Ir, FlipFlop, Pc, R, StackWord}
use Rattle.mw_cycle.specs.Elements.{bits_of, element_of}
use Rattle.mw_cycle.proofs.Values.{width_is}
use Rattle.mw_revise.specs.declared.keep.KeepLine.{KeepLine}
use Rattle.mw_revise.specs.declared.keep.KeepLine.TheVariants.{Equal, Fixed}
use Rattle.mw_revise.specs.Elements.{element_in, line_about}
use Rattle.mw_revise.specs.Kept.{IsLine}
use Rattle.mw_term.specs.Table.{IsWidth}
use Rattle.mw_twin.specs.ElementTerms.{HasValuesBelow}

-- ---- elements

pub few_elements : (board : BoardParts) → IsBoard board → element_count board ≤ 46
few_elements board good = omega (arith, count_of board, words_few board, good.few_flipflops)

bits_wide : (board : BoardParts) (e : Element) → IsBoard board → IsWidth (bits_of board e)
bits_wide board (Register n) good = (omega (arith, good.sizes.least), omega (arith, good.sizes.most))
bits_wide board Q good = (omega (arith, good.sizes.least), omega (arith, good.sizes.most))
bits_wide board Mar good = (omega (arith, good.sizes.address_some), omega (arith, good.sizes.address_most))
bits_wide board Ir good = (omega (arith, good.sizes.least), omega (arith, good.sizes.most))
bits_wide board (FlipFlop n) good = (omega arith, omega arith)
bits_wide board Pc good = (omega arith, omega arith)
bits_wide board R good = (omega arith, omega arith)
bits_wide board (StackWord n) good = (omega arith, omega arith)

-- what the table says is how many bits an element has
pub bits_are : (board : BoardParts) (n width : ℕ) → n < element_count board → element_width board n ≡ Some width
    → width ≡ bits_of board (element_of board n)
bits_are board n width there is = same_Some width (bits_of board (element_of board n)) (sym is ∙ width_is board n there)

pub wide_element : (board : BoardParts) (n width : ℕ) → IsBoard board → n < element_count board
    → width ≡ unwrap_or (element_width board n) 0 → IsWidth width
wide_element board n width good there is =
    subst IsWidth (sym (is ∙ ap (λ o. unwrap_or o 0) (width_is board n there))) (bits_wide board (element_of board n) good)

-- ---- lines

values_fit : (board : BoardParts) (line : KeepLine) (number width : ℕ) → IsLine board line → element_in line ≡ number
    → element_width board number ≡ Some width → HasValuesBelow (2 ^ width) line
values_fit board (Equal element) number width is same wide = tt
values_fit board (Fixed element old_value new_value) number width is same wide =
    let bound : 2 ^ unwrap_or (element_width board element) 0 ≡ 2 ^ width =
    ap (λ n. 2 ^ unwrap_or (element_width board n) 0) same ∙ ap (λ o. 2 ^ unwrap_or o 0) wide in (
      subst (λ b. old_value < b) bound is.1,
      subst (λ b. new_value < b) bound is.2,
    )

-- the line about an element has values of its width
pub line_fits : (board : BoardParts) (lines : List KeepLine) (number width : ℕ) → All (IsLine board) lines
    → element_width board number ≡ Some width → IfSome (line_about lines number) (HasValuesBelow (2 ^ width))
line_fits board [] number width each wide = tt
line_fits board (line ∷ rest) number width each wide =
    by (element_in line == number) refl
    (line_fits board rest number width (λ i d inside. each (suc i) d (omega (arith, inside))) wide)
  where
    by : (b : Bool) → (element_in line == number) ≡ b → IfSome (line_about rest number) (HasValuesBelow (2 ^ width))
        → IfSome (cond b (Some line) (line_about rest number)) (HasValuesBelow (2 ^ width))
    by true same others =
        values_fit board line number width (each 0 line (omega arith)) (eqb-true (element_in line) number same) wide
    by false other others = others
