-- One word of the second pass.
use Rattle.std.proofs.Common.{◌≡◌, ℕ, List, Result, ap, set}
use Rattle.mw_base.specs.declared.refusal.TextFault.{TextFault}
use Rattle.mw_base.specs.Reading.{◌>>=◌}
use Rattle.mw_board.specs.declared.parts.BoardParts.{BoardParts}
use Rattle.mw_asm.specs.declared.bits.SetBits.{SetBits}
use Rattle.mw_asm.specs.declared.first_pass.Word.{Word}
use Rattle.mw_asm.specs.declared.names.Scope.TheVariants as scopes
use Rattle.mw_asm.specs.Bits.{no_bits, word_of}
use Rattle.mw_asm.specs.ItemBits.{bits_of}
use Rattle.mw_asm.specs.Microprogram.{with_made}
use Rattle.mw_asm.specs.Names.{Names}
use Rattle.mw_base.proofs.Results.{ok_of}

-- the store with the word of these bits, or their fault
pub made : (board : BoardParts) (text : List ℕ) (names : Names) (store : List ℕ) (word : Word)
    (read : Result SetBits TextFault)
    → read ≡ bits_of board.fields text names scopes.Word no_bits word.items
    → (read >>= (λ (bits : SetBits). ok_of {F = TextFault} (set store word.address (word_of board.unset bits))))
    ≡ with_made board text names store word
unfolding with_made
made board text names store word read is =
    ap (λ (r : Result SetBits TextFault).
    r >>= (λ (bits : SetBits). ok_of {F = TextFault} (set store word.address (word_of board.unset bits)))) is
