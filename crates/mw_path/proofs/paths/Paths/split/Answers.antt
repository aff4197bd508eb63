use Rattle.std.proofs.Common.{◌≡◌, ap, arith, subst, sym, ◌∙◌, slice_index}
use Rattle.std.specs.Prelude.{IfErr}
use mathlib.Core.Path.{fun_ext}
use Rattle.mw_term.specs.Functions.{Function}
use Rattle.mw_term.specs.Rows.{bit}
use Rattle.mw_dd.specs.Nodes.{function_of}
use Rattle.mw_blast.specs.Bits.{StandsFor}
use Rattle.mw_blast.specs.Shared.{IsWrittenSplitCause}
use Rattle.mw_path.specs.declared.paths.Paths.{Paths}
use Rattle.mw_path.proofs.Grown.{grown_in_table, grown_then}
use Rattle.mw_path.proofs.paths.Paths.split.Goals as goal

pub returns-in-Some-clause-split : goal.returns-in-Some-clause-split
returns-in-Some-clause-split g c =
    let b = bit c.args.written.now c.args.term 0 in
    let are = c.in_ok-bits.ensures.bits in
    let first = are.each 0 (omega (arith, are.count, c.requires.wide.width_is)) in
    let at : c.only-bit.result ≡ slice_index c.in_ok-bits.bits.items 0 =
    c.only-bit.ensures ∙ ap (λ xs. slice_index xs 0) c.deref.ensures.value in
    let path = c.args.self.now.path in
    let keeps = c.bits.ensures.keeps in
    let old : StandsFor c.bits.new.dds path (function_of c.args.self.now.dds path) =
    record { there = keeps.there path c.requires.paths.there; exact = keeps.same path c.requires.paths.there } in
    c.in-Some.ensures (function_of c.args.self.now.dds path) b c.args.nodes old
    (subst (λ x. StandsFor c.bits.new.dds x b) (sym at) first)

pub returns-clause-over : goal.returns-clause-over
returns-clause-over g c =
    let path = c.args.self.now.path in
    let same = fun_ext (c.bits.ensures.keeps.same path c.requires.paths.there) in
    subst (λ (f : Function). IfErr c.decide.result
    (IsWrittenSplitCause c.args.written.now c.decide.new.places f c.args.term c.args.nodes)) same c.decide.ensures.over

pub returns-clause-grown : goal.returns-clause-grown
returns-clause-grown g c =
    let old = c.args.self.now in
    let mid : Paths =
    record { dds = c.bits.new.dds; shared = c.bits.new.self; places = c.bits.new.places; path = old.path } in
    let new : Paths =
    record { dds = c.decide.new.dds; shared = c.decide.new.self; places = c.decide.new.places; path = old.path } in
    grown_then old mid new (grown_in_table old mid c.bits.ensures.more c.bits.ensures.keeps)
    (grown_in_table mid new c.decide.ensures.more c.decide.ensures.keeps)
