-- The document of a file's bytes, and what its reader answers where there is none.
use Rattle.std.proofs.Common.{◌≡◌, ◌≢◌, ℕ, List, Bool, true, false, Some, None, Result, Err, refl}
use Rattle.std.specs.Str.{is_utf8, IsUtf8}
use Rattle.std.proofs.lemmas.Str.{IsUtf8-from_is_utf8, is_utf8-from_IsUtf8}
use Rattle.toml.specs.Data.{Members}
use Rattle.toml.specs.Parse.{parse_document}
use Rattle.mw_base.specs.declared.refusal.Refused.{Refused}
use Rattle.mw_base.specs.declared.refusal.Refused.TheVariants.{At, NoMemory}
use Rattle.mw_base.specs.Reading.{Fails, Refuses}
use Rattle.mw_boardfile.specs.Document.{document_of}

by_test : {P : Type 0} (b : Bool) → (b ≡ true → P) → (b ≡ false → P) → P
by_test true f g = f refl
by_test false f g = g refl

-- text that spells no document, and what is no text
pub none_from : (bytes : List ℕ) → (IsUtf8 bytes → parse_document bytes ≡ None) → document_of bytes ≡ None
unfolding document_of
none_from bytes h = by_test (is_utf8 bytes) (λ e. rw e (h (IsUtf8-from_is_utf8 bytes e))) (λ e. rw e refl)

-- text that spells a document
pub document_from : (bytes : List ℕ) (document : Members) → IsUtf8 bytes → parse_document bytes ≡ Some document
    → document_of bytes ≡ Some document
unfolding document_of
document_from bytes document utf8 parsed = rw (is_utf8-from_IsUtf8 bytes utf8, parsed) refl

-- a refusal that is no want of memory is the fault of bytes that spell no document
pub fails_from : {Y F : Type 0} (refusal : Refused F) (fault : F) (read : Result Y F)
    → Refuses refusal fault → (refusal ≢ NoMemory → read ≡ Err fault) → Fails refusal read
fails_from NoMemory fault read is none = tt
fails_from (At first) fault read is none = rw is (none (λ e. cc))
