-- The field that a search finds among those of a board.
use Rattle.std.proofs.Common.{ℕ, ◌+◌, ◌≤◌, List, [], ◌∷◌, Bool, true, false, cond, Some, arith, IfSome}
use Rattle.std.specs.List.{All, find}
use Rattle.std.specs.Option.{option_map}
use Rattle.std.proofs.lemmas.List.Elements.{All-head, All-tail, All-weaker}
use Rattle.mw_board.specs.declared.field.Field.{Field}
use Rattle.mw_board.specs.declared.field.NamedField.{NamedField}
use Rattle.mw_board.specs.Valid.{IsField}
use Rattle.mw_asm.specs.ItemBits.{FitsWord}

-- what is so of each field is so of the one that is found
found_kept : (P : Field → Type 0) (fields : List NamedField) (test : NamedField → Bool)
    → All (λ f. P f.field) fields → IfSome (option_map (λ (f : NamedField). f.field) (find test fields)) P
found_kept P [] test each = tt
found_kept P (f ∷ rest) test each =
    let here = All-head (λ (g : NamedField). P g.field) f rest each in
    let later = found_kept P rest test (All-tail (λ (g : NamedField). P g.field) f rest each) in
    elim (test f) as (λ b. IfSome (option_map (λ (g : NamedField). g.field) (cond b (Some f) (find test rest))) P) [
      | true ↦ here
      | false ↦ later
    ]

-- a field of a microword of so many bits
pub found_within : (bits : ℕ) (fields : List NamedField) (test : NamedField → Bool) → All (IsField bits) fields
    → IfSome (option_map (λ (f : NamedField). f.field) (find test fields)) (λ field. field.low + field.width ≤ bits)
found_within bits fields test each =
    found_kept (λ field. field.low + field.width ≤ bits) fields test
    (All-weaker (IsField bits) (λ f. f.field.low + f.field.width ≤ bits) (λ f is. is.within) fields each)

fits_word : (bits : ℕ) → bits ≤ 128 → (f : NamedField) → IsField bits f → FitsWord f.field
fits_word bits few f is =
    let within = is.within in
    record { some = is.some; wide = is.most; within = omega (arith, within, few) }

-- a field of one of at most 128
pub found_fits : (bits : ℕ) (fields : List NamedField) (test : NamedField → Bool) → bits ≤ 128
    → All (IsField bits) fields → IfSome (option_map (λ (f : NamedField). f.field) (find test fields)) FitsWord
found_fits bits fields test few each =
    found_kept FitsWord fields test (All-weaker (IsField bits) (λ f. FitsWord f.field) (fits_word bits few) fields each)
