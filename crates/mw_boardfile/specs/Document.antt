-- The document of a file's bytes.
use Rattle.std.specs.Prelude.{ℕ, List, codes, Option, Some, None, Result, Ok, Err, if◌then◌else◌}
use Rattle.std.specs.Str.{is_utf8}
use Rattle.toml.specs.Parse.{parse_document}
use Rattle.toml.specs.Data.{Members}
use Rattle.mw_base.specs.declared.cause.Cause.TheVariants.{NotToml}
use Rattle.mw_boardfile.specs.declared.fault.KeyFault.{KeyFault}

-- the bytes as a TOML document, or nothing; bytes that are no UTF-8 are nothing
unfoldable pub document_of : List ℕ → Option Members
document_of bytes = if is_utf8 bytes then parse_document bytes else None

-- cause 20, whose key is -
abbrev pub no_document : KeyFault
no_document = record { cause = NotToml; key = codes "-" }

-- the document; or that fault, where the bytes spell none
abbrev pub document_or_fault : Option Members → Result Members KeyFault
document_or_fault (Some document) = Ok document
document_or_fault None = Err no_document
