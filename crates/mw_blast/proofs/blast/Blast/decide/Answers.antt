use Rattle.std.proofs.Common.{◌≡◌, ◌<◌, length, slice_index, arith}
use Rattle.std.proofs.lemmas.List.{get_or_read}
use Rattle.mw_term.specs.Rows.{bit}
use Rattle.mw_dd.specs.Nodes.{function_of}
use Rattle.mw_blast.specs.Bits.{StandsFor}
use Rattle.mw_blast.specs.Splits.{IsSplitCause}
use Rattle.mw_blast.proofs.Bits.{stays, stands_itself}
use Rattle.mw_blast.proofs.Kept.{stays_with_diagrams}
use Rattle.mw_blast.proofs.Operations.{handed_on}
use Rattle.mw_blast.proofs.Reached.{bit_cause, path_cause}
use Rattle.mw_blast.proofs.blast.Blast.decide.Goals as goal

pub returns-in_err-make_all-clause-over : goal.returns-in_err-make_all-clause-over
returns-in_err-make_all-clause-over c =
    let path = function_of c.args.dds.now c.args.path in
    handed_on c.from_residual.result c.in_err-make_all.field-0.0 (λ x. Unit {0})
    (IsSplitCause c.args.terms.now path c.args.term c.args.budget) c.from_residual.ensures.1
    (bit_cause c.args.terms.now path c.args.term c.args.budget c.in_err-make_all.field-0.0
    c.in_err-make_all.ensures.over)

pub bits_of-requires-clause-of : goal.bits_of-requires-clause-of
bits_of-requires-clause-of c = (c.make_all.new.dds, c.make_all.ensures.of)

pub divide-requires-clause-path : goal.divide-requires-clause-path
divide-requires-clause-path c = c.make_all.ensures.keeps.there _ c.requires.path

pub returns-in-Ok-clause-split : goal.returns-in-Ok-clause-split
returns-in-Ok-clause-split c =
    let now = c.make_all.new.dds in
    let path = function_of c.args.dds.now c.args.path in
    let b = bit c.args.terms.now c.args.term 0 in
    let xs = c.bits_of.result.now in
    let are = c.bits_of.ensures.are now c.make_all.ensures.of in
    let inside : 0 < length xs = omega (arith, are.count, c.requires.one) in
    let at : c.index-bits_of-0.result ≡ slice_index xs 0 =
    get_or_read xs 0 c.index-bits_of-0.result inside c.index-bits_of-0.is 0 in
    let stands : StandsFor now c.index-bits_of-0.result b = rw at (are.each 0 inside) in
    c.in-Ok.ensures.made path b
    (stays c.args.dds.now now c.args.path path c.make_all.ensures.keeps
    (stands_itself c.args.dds.now c.args.path c.requires.path)) stands

pub returns-in-Ok-clause-of : goal.returns-in-Ok-clause-of
returns-in-Ok-clause-of c =
    stays_with_diagrams c.args.terms.now c.make_all.new.dds c.divide.new.dds c.make_all.new.self c.divide.ensures.keeps
    c.make_all.ensures.of

pub returns-in-Err-clause-over : goal.returns-in-Err-clause-over
returns-in-Err-clause-over c =
    let now = c.make_all.new.dds in
    let path = function_of c.args.dds.now c.args.path in
    let b = bit c.args.terms.now c.args.term 0 in
    let xs = c.bits_of.result.now in
    let are = c.bits_of.ensures.are now c.make_all.ensures.of in
    let inside : 0 < length xs = omega (arith, are.count, c.requires.one) in
    let at : c.index-bits_of-0.result ≡ slice_index xs 0 =
    get_or_read xs 0 c.index-bits_of-0.result inside c.index-bits_of-0.is 0 in
    let stands : StandsFor now c.index-bits_of-0.result b = rw at (are.each 0 inside) in
    rw (c.of.ensures, c.at.ensures)
    (path_cause c.args.terms.now path c.args.term c.args.budget c.in-Err.fault
    (c.in-Err.ensures.made path b
    (stays c.args.dds.now now c.args.path path c.make_all.ensures.keeps
    (stands_itself c.args.dds.now c.args.path c.requires.path)) stands))

pub returns-in-Err-clause-of : goal.returns-in-Err-clause-of
returns-in-Err-clause-of c =
    stays_with_diagrams c.args.terms.now c.make_all.new.dds c.divide.new.dds c.make_all.new.self c.divide.ensures.keeps
    c.make_all.ensures.of
