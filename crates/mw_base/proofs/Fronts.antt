-- The sign at the front of a line is spelled there.
use Rattle.std.proofs.Common.{◌≡◌, ℕ, ◌≤◌, List, [], ◌∷◌, Bool, true, false, Option, Some, None, take, length}
use Rattle.std.proofs.Common.{length-take, min, cond, refl, ◌∙◌, arith}
use Rattle.std.specs.Option.{option_or}
use Rattle.std.specs.List.{find}
use Rattle.std.specs.Str.{bytes_eq}
use Rattle.std.proofs.lemmas.Slice.Eq.{bytes_eq-Decides}
use Rattle.std.proofs.lemmas.List.{take_min}
use Rattle.mw_base.specs.declared.sign.Sign.{Sign}
use Rattle.mw_base.specs.Signs.{bytes_of, signs, sign_of, sign_at}

-- what is found passes its test
passes : {A : Type 0} (test : A → Bool) (x y : A) (b : Bool) (rest : Option A) → test y ≡ b
    → (rest ≡ Some x → test x ≡ true) → cond b (Some y) rest ≡ Some x → test x ≡ true
passes test x y true rest is later found = let same : y ≡ x = cc in rw (← same) is
passes test x y false rest is later found = later found

found_passes : {A : Type 0} (test : A → Bool) (xs : List A) (x : A) → find test xs ≡ Some x → test x ≡ true
found_passes test [] x found = absurd cc
found_passes test (y ∷ ys) x found = passes test x y (test y) (find test ys) refl (found_passes test ys x) found

-- the sign of some bytes has these bytes
pub spelled_so : (bytes : List ℕ) (sign : Sign) → sign_of bytes ≡ Some sign → bytes_of sign ≡ bytes
unfolding sign_of
spelled_so bytes sign is =
    (bytes_eq-Decides (bytes_of sign) bytes).0 (found_passes (λ sign. bytes_eq (bytes_of sign) bytes) signs sign is)

-- what the sign at the front of a line is there
pub record BeginsWithSign (line : List ℕ) (sign : Sign) : Type 0 where
  pub front : take (length (bytes_of sign)) line ≡ bytes_of sign
  pub spelled : sign_of (bytes_of sign) ≡ Some sign
  pub within : length (bytes_of sign) ≤ length line

stands : (n : ℕ) (line : List ℕ) (sign : Sign) → sign_of (take n line) ≡ Some sign → BeginsWithSign line sign
stands n line sign is =
    let bytes = spelled_so (take n line) sign is in
    let size : length (take n line) ≡ min n (length line) = length-take n line in
    record {
      front = rw bytes (rw size (take_min n line));
      spelled = rw bytes is;
      within = rw bytes (omega (arith, size));
    }

either : (line : List ℕ) (sign : Sign) (two one : Option Sign) → sign_of (take 2 line) ≡ two
    → sign_of (take 1 line) ≡ one
    → option_or two one ≡ Some sign → BeginsWithSign line sign
either line sign (Some other) one first second is = stands 2 line sign (first ∙ is)
either line sign None one first second is = stands 1 line sign (second ∙ is)

pub stands_at_front : (line : List ℕ) (sign : Sign) → sign_at line ≡ Some sign → BeginsWithSign line sign
stands_at_front line sign is = either line sign (sign_of (take 2 line)) (sign_of (take 1 line)) refl refl is
