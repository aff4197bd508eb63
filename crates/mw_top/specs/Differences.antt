-- Differences that name something of a job.
use Rattle.std.specs.Prelude.{◌<◌, ◌^◌, length}
use Rattle.mw_rel.specs.declared.difference.Difference.{Difference}
use Rattle.mw_rel.specs.declared.difference.Difference.TheVariants.{Event, Element, Memory}
use Rattle.mw_rel.specs.Job.{Job}

-- the number of an event, or an address, has at most 32 bits
abbrev pub AreOf32Bits : Difference → Type 0
AreOf32Bits (Event n) = n < 2 ^ 32
AreOf32Bits (Memory a) = a < 2 ^ 32
AreOf32Bits other = Unit {0}

-- an element that a difference names is one of the job's, and any other number of it has at most 32 bits
abbrev pub IsDifferenceOf : Job → Difference → Type 0
IsDifferenceOf job (Element e) = e < length job.relation.shape.widths
IsDifferenceOf job other = AreOf32Bits other
