-- The Am2902: carries looked ahead over four slices, or over four groups of slices. These are logic values, without the
-- polarity of the pins (AMD Am2900 Family Data Book, Am2902).
use Rattle.std.specs.Prelude.{ℕ, Bool, false, ◌&&◌, ◌||◌, List, ◌==◌, if◌then◌else◌, slice_index_or}
use Rattle.mw_slice.specs.declared.am2902.Look.{Look}

-- G = G3 or P3G2 or P3P2G1 or P3P2P1G0: one of the four generates a carry, and all above it propagate it
abbrev pub group_generate : (ℕ → Bool) → (ℕ → Bool) → Bool
group_generate g p = g 3 || p 3 && g 2 || p 3 && p 2 && g 1 || p 3 && p 2 && p 1 && g 0

-- P = P3P2P1P0: all four propagate a carry
abbrev pub group_propagate : (ℕ → Bool) → Bool
group_propagate p = p 3 && p 2 && p 1 && p 0

-- Cx = G0 or P0C, Cy = G1 or P1G0 or P1P0C, Cz = G2 or P2G1 or P2P1G0 or P2P1P0C, and G and P of the four
abbrev pub looked : (ℕ → Bool) → (ℕ → Bool) → Bool → Look
looked g p c = record {
  x = g 0 || p 0 && c;
  y = g 1 || p 1 && g 0 || p 1 && p 0 && c;
  z = g 2 || p 2 && g 1 || p 2 && p 1 && g 0 || p 2 && p 1 && p 0 && c;
  g = group_generate g p;
  p = group_propagate p;
}

-- the carry into each of the four: C into the first, then Cx, Cy and Cz
abbrev pub carry_to : Look → Bool → ℕ → Bool
carry_to look c i = if i == 0 then c else (if i == 1 then look.x else (if i == 2 then look.y else look.z))

-- the carry out of the four: G or PC
abbrev pub carry_out_of : Look → Bool → Bool
carry_out_of look c = look.g || look.p && c

-- the level of one line of several
abbrev pub line : List Bool → ℕ → Bool
line lines i = slice_index_or lines i false

-- the Am2902 over four lines G and four lines P
unfoldable pub lookahead_of : List Bool → List Bool → Bool → Look
lookahead_of g p c = looked (line g) (line p) c
