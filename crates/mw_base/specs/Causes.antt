-- The numbers of the causes of refusal.
use Rattle.std.specs.Prelude.{ℕ}
use Rattle.mw_base.specs.declared.cause.Cause.{Cause}
use Rattle.mw_base.specs.declared.cause.Cause.TheVariants.{BadByte, BadNumber, TooWide, LineTooLong, FileTooLong}
use Rattle.mw_base.specs.declared.cause.Cause.TheVariants.{FieldOutside, SelectTooWide, BadWidth, MapSize, TooMany}
use Rattle.mw_base.specs.declared.cause.Cause.TheVariants.{NotToml, MissingKey, UnknownKey, WrongKind, BadValue}
use Rattle.mw_base.specs.declared.cause.Cause.TheVariants.{UnknownName, Twice, FieldConflict, ValueTooWide, StoreFull}
use Rattle.mw_base.specs.declared.cause.Cause.TheVariants.{Overlap, BadLine, UnknownElement, WidthsDiffer, TooDeep}
use Rattle.mw_base.specs.declared.cause.Cause.TheVariants.{LeftTwice, LeftUsedOnRight, NoStackPointer, NoBoundary}
use Rattle.mw_base.specs.declared.cause.Cause.TheVariants.{BadBound, ShapesDiffer, NotFree, BadSyntax, BadCommand}
use Rattle.mw_base.specs.declared.cause.Cause.TheVariants.{NoSuchElement, NothingToUndo, BadNode, BadFact, BadCount}
use Rattle.mw_base.specs.declared.cause.Cause.TheVariants.{NotPdp8, OffPage, MixedWords}

-- the number of a cause, which its reports print
abbrev pub cause_number : Cause → ℕ
cause_number BadByte = 1
cause_number BadNumber = 2
cause_number TooWide = 3
cause_number LineTooLong = 4
cause_number FileTooLong = 5
cause_number FieldOutside = 10
cause_number SelectTooWide = 11
cause_number BadWidth = 12
cause_number MapSize = 13
cause_number TooMany = 14
cause_number NotToml = 20
cause_number MissingKey = 21
cause_number UnknownKey = 22
cause_number WrongKind = 23
cause_number BadValue = 24
cause_number UnknownName = 30
cause_number Twice = 31
cause_number FieldConflict = 32
cause_number ValueTooWide = 33
cause_number StoreFull = 34
cause_number Overlap = 35
cause_number BadLine = 36
cause_number UnknownElement = 40
cause_number WidthsDiffer = 41
cause_number TooDeep = 42
cause_number LeftTwice = 50
cause_number LeftUsedOnRight = 51
cause_number NoStackPointer = 52
cause_number NoBoundary = 53
cause_number BadBound = 54
cause_number ShapesDiffer = 55
cause_number NotFree = 56
cause_number BadSyntax = 60
cause_number BadCommand = 70
cause_number NoSuchElement = 71
cause_number NothingToUndo = 72
cause_number BadNode = 80
cause_number BadFact = 81
cause_number BadCount = 82
cause_number NotPdp8 = 83
cause_number OffPage = 84
cause_number MixedWords = 85
