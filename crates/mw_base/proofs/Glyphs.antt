-- The digits of a number, printed.
use Rattle.std.proofs.Common.{◌≡◌, ℕ, ◌/◌, ◌%◌, ◌<◌, ◌≤◌, List, [], ◌∷◌, ◌++◌, map, refl, ap, ◌∙◌}
use Rattle.std.specs.Int.Digits.{digits_of}
use Rattle.std.proofs.lemmas.Int.Digits.{digits_of_step}
use Rattle.mw_base.specs.Numbers.{glyph}

map-append : (f : ℕ → ℕ) (xs ys : List ℕ) → map f (xs ++ ys) ≡ map f xs ++ map f ys
map-append f [] ys = refl
map-append f (x ∷ xs) ys = ap (λ (zs : List ℕ). f x ∷ zs) (map-append f xs ys)

-- the last glyph
pub glyphs_step : (base n : ℕ) → 2 ≤ base → 0 < n
    → map glyph (digits_of base n) ≡ map glyph (digits_of base (n / base)) ++ glyph (n % base) ∷ []
glyphs_step base n b h =
    ap (map glyph) (digits_of_step base n b h) ∙ map-append glyph (digits_of base (n / base)) (n % base ∷ [])
