-- Lists of words.
use Rattle.std.proofs.Common.{◌≡◌, ℕ, zero, suc, ◌<◌, ◌^◌, List, [], ◌∷◌, length, refl, arith, ◌∙◌}
use Rattle.std.specs.Prelude.{replicate, slice_index, slice_set, nat_le, Bool, true, Result, Ok, Err, IsOk, IfOk}
use Rattle.std.specs.Prelude.{IsTrue, ◌↔◌}
use Rattle.std.proofs.lemmas.Bool.{and_parts}
use Rattle.std.proofs.lemmas.Bool.Decides.{nat_tests}
use Rattle.std.proofs.lemmas.List.{length-replicate}
use Rattle.std.proofs.lemmas.Nat.{pow_pos}
use Rattle.std.specs.List.{list_all}
use Rattle.mw_base.specs.Names.{is_name, is_spelled_as_name}
use Rattle.mw_base.specs.declared.cause.Cause.{Cause}
use Rattle.mw_expr.specs.declared.shape.Shape.{Shape}
use Rattle.mw_expr.specs.Values.{AreWords, IsImage}
use Rattle.mw_macro.specs.Right.{is_asked}
use Rattle.mw_macro.specs.Machine.{Description}
use Rattle.mw_macro.specs.State.{MachineState, Fits, cleared}

-- past the end of a list its words are 0
pub words_everywhere : (xs : List ℕ) (w : ℕ) → ((i : ℕ) → i < length xs → slice_index xs i < 2 ^ w) → (i : ℕ)
    → slice_index xs i < 2 ^ w
words_everywhere [] w each i = pow_pos w
words_everywhere (x ∷ rest) w each zero = each 0 (omega arith)
words_everywhere (x ∷ rest) w each (suc i) = words_everywhere rest w (λ k below. each (suc k) (omega arith)) i

pub zeros : (n i : ℕ) → slice_index (replicate n 0) i ≡ 0
zeros zero i = refl
zeros (suc n) zero = refl
zeros (suc n) (suc i) = zeros n i

pub zero_below : (n i w : ℕ) → slice_index (replicate n 0) i < 2 ^ w
zero_below n i w = omega (arith, zeros n i, pow_pos w)

pub cleared_fits : (m : Description) → Fits m (cleared m)
cleared_fits m = record {
  count = length-replicate m.registers 0;
  registers = λ i below. zero_below m.registers i (slice_index m.shape.widths i);
  size = length-replicate (2 ^ m.shape.address) 0;
  memory = λ i. zero_below (2 ^ m.shape.address) i m.shape.word;
}

-- a state fits where its lists have their lengths and the numbers in them their widths
pub fits_if : (m : Description) (s : MachineState) (words : Bool)
    → length s.registers ≡ m.registers → length s.memory ≡ 2 ^ m.shape.address
    → ((i : ℕ) → i < length s.registers → slice_index s.registers i < 2 ^ slice_index m.shape.widths i)
    → (IsTrue words ↔ ((i : ℕ) → i < length s.memory → slice_index s.memory i < 2 ^ m.shape.word))
    → IsTrue words ↔ Fits m s
fits_if m s words count size registers memory = (
  (λ yes. record {
    count = count;
    registers = λ i below. registers i (omega arith);
    size = size;
    memory = words_everywhere s.memory m.shape.word (memory.0 yes);
  }),
  (λ fits. memory.1 (λ i below. fits.memory i)),
)

-- a word put into a list is where it was put, and nowhere else
pub set_below : (xs : List ℕ) (n v i most : ℕ)
    → slice_index xs i < most → v < most → slice_index (slice_set xs n v) i < most
set_below [] n v i most old new = old
set_below (x ∷ rest) zero v zero most old new = new
set_below (x ∷ rest) zero v (suc i) most old new = old
set_below (x ∷ rest) (suc n) v zero most old new = old
set_below (x ∷ rest) (suc n) v (suc i) most old new = set_below rest n v i most old new

pub set_each : (xs ws : List ℕ) (n v i : ℕ) → slice_index xs i < 2 ^ slice_index ws i → v < 2 ^ slice_index ws n
    → slice_index (slice_set xs n v) i < 2 ^ slice_index ws i
set_each [] ws n v i old new = old
set_each (x ∷ rest) [] zero v zero old new = new
set_each (x ∷ rest) [] zero v (suc i) old new = old
set_each (x ∷ rest) [] (suc n) v zero old new = old
set_each (x ∷ rest) [] (suc n) v (suc i) old new = set_each rest [] n v i old new
set_each (x ∷ rest) (w ∷ ws) zero v zero old new = new
set_each (x ∷ rest) (w ∷ ws) zero v (suc i) old new = old
set_each (x ∷ rest) (w ∷ ws) (suc n) v zero old new = old
set_each (x ∷ rest) (w ∷ ws) (suc n) v (suc i) old new = set_each rest ws n v i old new

pub length_set : (xs : List ℕ) (n v : ℕ) → length (slice_set xs n v) ≡ length xs
length_set [] n v = refl
length_set (x ∷ rest) zero v = refl
length_set (x ∷ rest) (suc n) v = omega (arith, length_set rest n v)

pub set_words : (widths values : List ℕ) (n v : ℕ) → AreWords widths values → v < 2 ^ slice_index widths n
    → AreWords widths (slice_set values n v)
set_words widths values n v fits below = record {
  count = length_set values n v ∙ fits.count;
  each = λ i inside. set_each values widths n v i (fits.each i inside) below;
}

pub set_image : (s : Shape) (image : List ℕ) (n v : ℕ)
    → IsImage s image → v < 2 ^ s.word → IsImage s (slice_set image n v)
set_image s image n v fits below = record {
  size = length_set image n v ∙ fits.size;
  words = λ i. set_below image n v i (2 ^ s.word) (fits.words i) below;
}

-- an expression that has the width asked for
pub asked_ok : (asked : ℕ) (r : Result ℕ Cause) → is_asked asked r ≡ true → IsOk r
asked_ok asked (Ok w) h = refl
asked_ok asked (Err cause) h = cc

pub asked_below : (asked v : ℕ) (r : Result ℕ Cause) → is_asked asked r ≡ true → IfOk r (λ w. v < 2 ^ w) → v < 2 ^ asked
asked_below asked v (Ok w) h below =
    let same : w ≡ asked = grind (arith, nat_tests) in
    rw same at below
asked_below asked v (Err cause) h below = cc

-- a name is spelled as one
pub spelled_all : (names : List (List ℕ)) → list_all is_name names ≡ true → list_all is_spelled_as_name names ≡ true
unfolding is_name
spelled_all [] h = refl
spelled_all (name ∷ rest) h =
    let both = and_parts (is_name name) (list_all is_name rest) h in
    let spelled = (and_parts (is_spelled_as_name name) (nat_le (length name) 64) both.0).0 in
    let others = spelled_all rest both.1 in
    cc
