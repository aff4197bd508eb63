-- A word that begins as a name is a name.
use Rattle.std.proofs.Common.{◌≡◌, ℕ, suc, ◌+◌, ◌≤◌, List, [], ◌∷◌, Bool, true, false, take, length, slice_index, cond}
use Rattle.std.proofs.Common.{refl, arith}
use Rattle.std.specs.Prelude.{◌||◌}
use Rattle.std.specs.List.{list_all}
use Rattle.std.specs.Char.{is_ascii_digit}
use Rattle.mw_base.specs.Names.{is_name_start, is_word_byte, is_spelled_as_name}
use Rattle.mw_base.specs.Pieces.{word_length}

passes : (test : ℕ → Bool) (c n : ℕ) (rest : List ℕ) (b : Bool) → test c ≡ b → list_all test (take n rest) ≡ true
    → list_all test (take (cond b (1 + n) 0) (c ∷ rest)) ≡ true
passes test c n rest true is all =
    let e : 1 + n ≡ suc n = omega arith in
    rw (e, is, all) refl
passes test c n rest false is all = refl

word_passes : (line : List ℕ) → list_all is_word_byte (take (word_length line) line) ≡ true
word_passes [] = refl
word_passes (c ∷ rest) = passes is_word_byte c (word_length rest) rest (is_word_byte c) refl (word_passes rest)

begun : (starts digit : Bool) (c n : ℕ) (rest : List ℕ) → starts ≡ true → is_name_start c ≡ true
    → list_all is_word_byte (take n rest) ≡ true
    → is_spelled_as_name (take (cond (starts || digit) (1 + n) 0) (c ∷ rest)) ≡ true
begun true digit c n rest is start all =
    let e : 1 + n ≡ suc n = omega arith in
    rw (e, start, all) refl
begun false digit c n rest is start all = cc

pub name_spelled : (line : List ℕ) → 1 ≤ length line → is_name_start (slice_index line 0) ≡ true
    → is_spelled_as_name (take (word_length line) line) ≡ true
name_spelled [] some start = absurd (omega arith)
name_spelled (c ∷ rest) some start =
    begun (is_name_start c) (is_ascii_digit c) c (word_length rest) rest start start (word_passes rest)
