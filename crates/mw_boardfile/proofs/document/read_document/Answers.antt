use Rattle.std.proofs.Common.{refl}
use Rattle.std.proofs.lemmas.Str.{is_utf8-from_IsUtf8}
use Rattle.mw_boardfile.specs.Document.{document_of, document_or_fault, no_document}
use Rattle.mw_boardfile.proofs.Documents.{none_from, fails_from}
use Rattle.mw_boardfile.proofs.document.read_document.Goals as goal

pub returns-in-Ok : goal.returns-in-Ok
unfolding document_of
returns-in-Ok c = rw (is_utf8-from_IsUtf8 _ c.in-Ok.ensures.ok.0, c.in-Ok.ensures.ok.1) refl

pub returns-in-Err : goal.returns-in-Err
returns-in-Err c =
    fails_from c.refusal_of.result no_document
    (document_or_fault (document_of c.args.bytes.now)) c.refusal_of.ensures.refused
    (λ other.
    rw (none_from c.args.bytes.now (c.in-Err.ensures.refused (λ memory. other (c.refusal_of.ensures.memory memory))))
    refl)
