use Rattle.std.proofs.Common.{◌≡◌, ◌<◌, length, slice_index, arith}
use Rattle.std.proofs.lemmas.List.{get_or_read}
use Rattle.mw_term.specs.Rows.{bit}
use Rattle.mw_dd.specs.Nodes.{function_of}
use Rattle.mw_blast.specs.Bits.{StandsFor}
use Rattle.mw_blast.proofs.Bits.{stays, stands_itself}
use Rattle.mw_blast.proofs.Written.{path_reached, written_path_cause}
use Rattle.mw_blast.proofs.shared.Shared.decide.Goals as goal

pub returns-in-Ok-clause-split : goal.returns-in-Ok-clause-split
returns-in-Ok-clause-split g c =
    let now = c.bits.new.dds in
    let path = function_of c.args.dds.now c.args.path in
    let b = bit c.args.written.now c.args.term 0 in
    let xs = c.in_ok-bits.bits.items in
    let are = c.in_ok-bits.ensures.bits in
    let inside : 0 < length xs = omega (arith, are.count, c.requires.one) in
    let at : c.index.result.now ≡ slice_index xs 0 = get_or_read xs 0 c.index.result.now inside c.index.ensures 0 in
    let stands : StandsFor now c.index.result.now b = rw at (are.each 0 inside) in
    c.in-Ok.ensures.made path b
    (stays c.args.dds.now now c.args.path path c.bits.ensures.keeps
    (stands_itself c.args.dds.now c.args.path c.requires.path)) stands

pub returns-clause-over : goal.returns-clause-over
returns-clause-over g c =
    let now = c.bits.new.dds in
    let path = function_of c.args.dds.now c.args.path in
    let b = bit c.args.written.now c.args.term 0 in
    let xs = c.in_ok-bits.bits.items in
    let are = c.in_ok-bits.ensures.bits in
    let inside : 0 < length xs = omega (arith, are.count, c.requires.one) in
    let at : c.index.result.now ≡ slice_index xs 0 = get_or_read xs 0 c.index.result.now inside c.index.ensures 0 in
    let stands : StandsFor now c.index.result.now b = rw at (are.each 0 inside) in
    rw (c.of.ensures, c.at.ensures)
    (written_path_cause c.args.written.now c.bits.new.places path c.args.term c.args.budget c.in-Err.fault
    (c.in-Err.ensures.made path b
    (stays c.args.dds.now now c.args.path path c.bits.ensures.keeps
    (stands_itself c.args.dds.now c.args.path c.requires.path)) stands))

pub returns-clause-reached : goal.returns-clause-reached
returns-clause-reached g c =
    let placed = c.in_ok-bits.ensures.placed in
    rw (c.of.ensures, c.at.ensures)
    (path_reached c.bits.new.self.terms c.bits.new.places c.args.term placed.0 c.in-Err.fault placed.1)
