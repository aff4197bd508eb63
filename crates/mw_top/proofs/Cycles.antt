-- Bits of cycles, one cycle after another.
use Rattle.std.proofs.Common.{◌≡◌, ℕ, suc, ◌+◌, ◌<◌, min, List, [], ◌∷◌, ◌++◌, codes, Bool, true, false, cond, nat_lt}
use Rattle.std.proofs.Common.{Some, None, refl, subst, arith, length, take, drop}
use Rattle.std.specs.List.{flat_map, position, position_or_len}
use Rattle.std.proofs.lemmas.Bool.Decides.{nat_tests}
use Rattle.mw_term.specs.declared.decided.Decided.{Decided}
use Rattle.mw_top.specs.PrefixText.{cycle_by_cycle, cycle_text, is_last}

-- the first bits, so many, are those of the first cycle
abbrev pub Cuts : ℕ → List Decided → Type 0
Cuts n bits = cycle_by_cycle bits ≡ take n bits ∷ cycle_by_cycle (drop n bits)

-- a bit is the last one of a cycle
abbrev ends : Decided → Bool
ends bit = is_last bit.kind

-- how many bits those of the first cycle are: up to and with the first that is a last one, or all
abbrev first_length : List Decided → ℕ
first_length bits = min (length bits) (position_or_len ends bits + 1)

-- a bit before others, by whether it is the last one of its cycle
cuts_by : (last : Bool) (n : ℕ) (bit : Decided) (bits : List Decided) → ends bit ≡ last → n ≡ first_length (bit ∷ bits)
    → (0 < length bits → Cuts (first_length bits) bits) → Cuts n (bit ∷ bits)
cuts_by true n bit bits is length_is rest = let one : n ≡ 1 = omega (arith, rw is at length_is) in rw (one, is)
cuts_by false n bit [] is length_is rest = let one : n ≡ 1 = omega (arith, rw is at length_is) in rw (one, is)
cuts_by false n bit (next ∷ bits) is length_is rest =
    let more : n ≡ suc (first_length (next ∷ bits)) = omega (arith, rw is at length_is) in
    rw (more, is, rest (omega arith))

-- how many of some bits those are
cuts : (bits : List Decided) → 0 < length bits → Cuts (first_length bits) bits
cuts [] some = absurd (omega (arith, some))
cuts (bit ∷ bits) some = cuts_by (ends bit) _ bit bits refl refl (cuts bits)

-- a place that is found is the first one
place_is : (test : Bool) (n size place : ℕ) → nat_lt n size ≡ test → cond test (Some n) None ≡ Some place
    → min size (n + 1) ≡ place + 1
place_is true n size place within found = let same : n ≡ place = cc in grind (arith, nat_tests)
place_is false n size place within found = absurd cc

-- and where none is found there is none
size_is : (test : Bool) (n size : ℕ) → nat_lt n size ≡ test → cond test (Some n) None ≡ None → min size (n + 1) ≡ size
size_is true n size within found = absurd cc
size_is false n size within found = grind (arith, nat_tests)

-- those up to and with the first that is a last one
pub cuts_found : (bits : List Decided) (place : ℕ) → 0 < length bits
    → position (λ (bit : Decided). is_last bit.kind) bits ≡ Some place → Cuts (place + 1) bits
cuts_found bits place some found =
    let size = place_is _ (position_or_len ends bits) (length bits) place refl found in
    subst (λ (n : ℕ). Cuts n bits) size (cuts bits some)

-- all, where none is a last one
pub cuts_all : (bits : List Decided) → 0 < length bits → position (λ (bit : Decided). is_last bit.kind) bits ≡ None
    → Cuts (length bits) bits
cuts_all bits some found =
    let size = size_is _ (position_or_len ends bits) (length bits) refl found in
    subst (λ (n : ℕ). Cuts n bits) size (cuts bits some)

-- the pieces of cycles behind a text, with a space between two
abbrev pub pieces : List ℕ → List (List Decided) → List ℕ
pieces front [] = []
pieces front (cycle ∷ cycles) = front ++ cycle_text cycle ++ flat_map (λ later. codes " " ++ cycle_text later) cycles
