use Rattle.mw_macro.specs.Statements.{acts}
use Rattle.mw_symmach.specs.Places.{dropped, Carries}
use Rattle.std.specs.Prelude.{None}
use Rattle.mw_symmach.specs.Walks.{Walks, underway_in}
use Rattle.mw_symmach.proofs.parts.Parts.go_through.Given as goal

abbrev pub invariant-loop-position : goal.invariant-loop-position
invariant-loop-position l = record {
  carries : Carries l.shape l.fn.terms l.terms l.fn.words l.words l.fn.memory l.memory l.fn.self l.self
      (dropped l.from (acts l.statements)) (dropped l.position (acts l.statements)) 0;
  listed : Walks l.shape (underway_in l.fn.terms l.fn.words l.fn.memory l.fn.self)
      (underway_in l.terms l.words l.memory l.self)
      (dropped l.from (acts l.statements)) (dropped l.position (acts l.statements)) None;
}
