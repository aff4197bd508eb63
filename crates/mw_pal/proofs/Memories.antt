-- Words of 12 bits, and memories of them.
use Rattle.std.proofs.Common.{◌≡◌, ◌<◌, ◌^◌, ℕ, List, [], ◌∷◌, true, refl, arith, set, nat_lt, ◌∙◌}
use Rattle.std.specs.Prelude.{bit_or}
use Rattle.std.specs.List.{fold}
use Rattle.std.proofs.lemmas.Bool.Decides.{nat_tests}
use Rattle.std.proofs.lemmas.List.{length-set, length-replicate}
use Rattle.std.proofs.lemmas.List.Elements.{All-set, All-replicate}
use Rattle.std.proofs.lemmas.Nat.{or_lt}
use Rattle.mw_pal.specs.declared.joins.Spelled.{Spelled}
use Rattle.mw_pal.specs.declared.operation.Operation.{Operation}
use Rattle.mw_pal.specs.declared.operation.Operation.TheVariants.{Cla}
use Rattle.mw_pal.specs.Joins.{ored}
use Rattle.mw_pal.specs.Operations.{added}
use Rattle.mw_pal.specs.Source.{IsMemory, no_words}

-- what a word adds to a code has 12 bits
added_fits : (operation : Operation) → nat_lt (added operation) 4096 ≡ true
added_fits Cla = refl
added_fits operation = refl

added_low : (operation : Operation) → added operation < 2 ^ 12
added_low operation = grind (arith, nat_tests, added_fits operation)

ored_from : (words : List Spelled) (code : ℕ) → code < 2 ^ 12
    → fold (λ code (word : Spelled). bit_or code (added word.operation)) code words < 2 ^ 12
ored_from [] code low = low
ored_from (word ∷ rest) code low =
    let more = or_lt 12 code (added word.operation) low (added_low word.operation) in
    ored_from rest (bit_or code (added word.operation)) more

-- what words add together has 12 bits
pub ored_low : (words : List Spelled) → ored words < 4096
ored_low words = ored_from words 0 (omega arith)

-- the memory that is 0 everywhere
pub cleared : IsMemory no_words
unfolding no_words
cleared =
    let none : ℕ = 0 in
    record { whole = length-replicate 4096 none; words = All-replicate (λ word. word < 4096) 4096 none (omega arith) }

-- a memory with a word more
pub with_word_right : (memory : List ℕ) (address word : ℕ) → word < 4096 → IsMemory memory
    → IsMemory (set memory address word)
with_word_right memory address word low is = record {
  whole = length-set memory address word ∙ is.whole;
  words = All-set (λ word. word < 4096) memory address word low is.words;
}
