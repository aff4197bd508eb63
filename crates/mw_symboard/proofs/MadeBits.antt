-- The bits that were made, with one more.
use Rattle.std.proofs.Common.{◌≡◌, inl, inr, ℕ, List, [], ◌∷◌, ◌++◌, subst, ◌∙◌}
use Rattle.std.specs.Prelude.{Some, slice_get, Result, Ok, Err, OnOk}
use Rattle.mw_board.specs.declared.bit.Bit.{Bit}
use Rattle.mw_board.specs.declared.parts.BoardParts.{BoardParts}
use Rattle.mw_term.specs.declared.op.Op.{Op}
use Rattle.mw_term.specs.Table.{Table, width_over}
use Rattle.mw_term.specs.Values.{IsTermOf}
use Rattle.mw_symmem.specs.Memory.{IsOfWidth}
use Rattle.mw_term.specs.declared.word.Word.{Word}
use Rattle.mw_symmem.proofs.Lists.{pushed}
use Rattle.mw_symboard.proofs.Standing.{early_bits_stay, late_bits_stay, bits_stay}
use Rattle.mw_cycle.specs.ReadingWords.{MadeBit, Bits, made_term}
use Rattle.mw_symboard.proofs.SameBit.{made_there}
use Rattle.mw_symboard.specs.declared.bits.Sources.{Sources}
use Rattle.mw_symboard.specs.Bits.{AreBits, AreEarlyBits, AreLateBits}
use Rattle.mw_symboard.specs.Growth.{Grew}
use Rattle.mw_symboard.specs.Made.{IsEarlyBit, IsBitTerm}
use Rattle.mw_cycle.specs.BoardTerms.{Parts}

pub early_bits_push : (board : BoardParts) (t : Table) (p : Parts) (sp line : ℕ) (made : List MadeBit) (m : MadeBit)
    → AreEarlyBits board t p sp line made → IsOfWidth t 1 m.term → IsEarlyBit board t p sp line m.bit m.term
    → AreEarlyBits board t p sp line (made ++ m ∷ [])
early_bits_push board t p sp line made m are wide is = λ k found at. elim (pushed made m k found at) [
  | inl h ↦ are k found h.1
  | inr h ↦ rw (← h.1) (wide, is)
]

pub late_bits_push : (board : BoardParts) (t : Table) (p : Parts) (sp : ℕ) (n : Sources) (made : List MadeBit)
    (m : MadeBit) → AreLateBits board t p sp n made → IsOfWidth t 1 m.term → IsBitTerm board t p sp n m.bit m.term
    → AreLateBits board t p sp n (made ++ m ∷ [])
late_bits_push board t p sp n made m are wide is = λ k found at. elim (pushed made m k found at) [
  | inl h ↦ are k found h.1
  | inr h ↦ rw (← h.1) (wide, is)
]

-- a term that was made of an op of one bit is a bit
pub wide_bit : (told tnew : Table) (op : Op) (term : ℕ) → IsTermOf told tnew op term → width_over told op ≡ 1
    → IsOfWidth tnew 1 term
wide_bit told tnew op term made one = record { there = made.there; width_is = made.width ∙ one }

-- a bit that was made once was found
pub found_early : (board : BoardParts) (t : Table) (p : Parts) (sp line : ℕ) (made : List MadeBit) (bit : Bit)
    (term : ℕ)
    → AreEarlyBits board t p sp line made
    → Some term ≡ made_term made bit
    → IsOfWidth t 1 term × IsEarlyBit board t p sp line bit term
found_early board t p sp line made bit term are there =
    let found = made_there made bit term there in
    let m = found.1 in
    let is = are found.0 m found.2 in (
      subst (λ x. IsOfWidth t 1 x) found.4 is.0,
      subst (λ x. IsEarlyBit board t p sp line x term) found.3
          (subst (λ x. IsEarlyBit board t p sp line m.bit x) found.4 is.1),
    )

pub found_late : (board : BoardParts) (t : Table) (p : Parts) (sp : ℕ) (n : Sources) (made : List MadeBit) (bit : Bit)
    (term : ℕ) → AreLateBits board t p sp n made
    → Some term ≡ made_term made bit
    → IsOfWidth t 1 term × IsBitTerm board t p sp n bit term
found_late board t p sp n made bit term are there =
    let found = made_there made bit term there in
    let m = found.1 in
    let is = are found.0 m found.2 in (
      subst (λ x. IsOfWidth t 1 x) found.4 is.0,
      subst (λ x. IsBitTerm board t p sp n x term) found.3
          (subst (λ x. IsBitTerm board t p sp n m.bit x) found.4 is.1),
    )

-- ---- all bits, after one call

after_late_ok : (board : BoardParts) (told tnew : Table) (old new : List Word) (p : Parts) (sp : ℕ) (n : Sources)
    (before now : Bits) → now.early ≡ before.early → AreBits board told p sp n before
    → AreLateBits board tnew p sp n now.late → Grew told tnew old new → AreBits board tnew p sp n now
after_late_ok board told tnew old new p sp n before now early are late grew = record {
  early = rw early (early_bits_stay board told tnew p sp n.line before.early grew.1.extends grew.1.keeps are.early);
  late = late;
}

pub after_late : {X Y : Type 0} (r : Result X Y) (board : BoardParts) (told tnew : Table) (old new : List Word)
    (p : Parts) (sp : ℕ) (n : Sources) (before now : Bits)
    → now.early ≡ before.early → AreBits board told p sp n before
    → OnOk r (AreLateBits board tnew p sp n now.late) → OnOk r (Grew told tnew old new)
    → OnOk r (AreBits board tnew p sp n now)
after_late (Ok x) board told tnew old new p sp n before now early are late grew =
    after_late_ok board told tnew old new p sp n before now early are late grew
after_late (Err x) board told tnew old new p sp n before now early are late grew = tt

after_early_ok : (board : BoardParts) (told tnew : Table) (old new : List Word) (p : Parts) (sp : ℕ) (n : Sources)
    (before now : Bits) → now.late ≡ before.late → AreBits board told p sp n before
    → AreEarlyBits board tnew p sp n.line now.early → Grew told tnew old new → AreBits board tnew p sp n now
after_early_ok board told tnew old new p sp n before now late are early grew = record {
  early = early;
  late = rw late (late_bits_stay board told tnew p sp n before.late grew.1.extends grew.1.keeps are.late);
}

pub after_early : {X Y : Type 0} (r : Result X Y) (board : BoardParts) (told tnew : Table) (old new : List Word)
    (p : Parts) (sp : ℕ) (n : Sources) (before now : Bits) → now.late ≡ before.late → AreBits board told p sp n before
    → OnOk r (AreEarlyBits board tnew p sp n.line now.early) → OnOk r (Grew told tnew old new)
    → OnOk r (AreBits board tnew p sp n now)
after_early (Ok x) board told tnew old new p sp n before now late are early grew =
    after_early_ok board told tnew old new p sp n before now late are early grew
after_early (Err x) board told tnew old new p sp n before now late are early grew = tt

-- and after a constant
pub after_constant : {X Y : Type 0} (r : Result X Y) (board : BoardParts) (told tnew : Table) (p : Parts) (sp line : ℕ)
    (made : List MadeBit) → AreEarlyBits board told p sp line made
    → OnOk r ((words : List Word) → Grew told tnew words words) → OnOk r (AreEarlyBits board tnew p sp line made)
after_constant (Ok x) board told tnew p sp line made are grew =
    early_bits_stay board told tnew p sp line made (grew []).1.extends (grew []).1.keeps are
after_constant (Err x) board told tnew p sp line made are grew = tt

-- and after a word
pub after_word : {X Y : Type 0} (r : Result X Y) (board : BoardParts) (told tnew : Table) (old new : List Word)
    (p : Parts) (sp : ℕ) (n : Sources) (b : Bits)
    → AreBits board told p sp n b → OnOk r (Grew told tnew old new)
    → OnOk r (AreBits board tnew p sp n b)
after_word (Ok x) board told tnew old new p sp n b are grew =
    bits_stay board told tnew p sp n b grew.1.extends grew.1.keeps are
after_word (Err x) board told tnew old new p sp n b are grew = tt
