use Rattle.std.proofs.Common.{◌≡◌, ◌+◌, ◌≤◌, true, drop, vec_len}
use Rattle.std.specs.Prelude.{vec_capacity}
use Rattle.mw_expr.specs.Values.{AreWords, IsImage}
use Rattle.mw_macro.specs.declared.counts.Counted.TheVariants.{Events}
use Rattle.mw_macro.specs.Counts.{total}
use Rattle.mw_macro.specs.DescribedStep.{now, after_all}
use Rattle.mw_macro.specs.Right.{are_right}
use Rattle.mw_macro.specs.Statements.{acts}
use Rattle.mw_macro.proofs.one_step.+runs.Given as goal

abbrev pub invariant-run_all-loop-statement : goal.invariant-run_all-loop-statement
invariant-run_all-loop-statement l =
    let rest = acts (drop l.statement-index l.statements) in
    let shape = l.given.shape.now in
    record {
      right : are_right shape rest ≡ true;
      values : AreWords shape.widths l.values;
      image : IsImage shape l.memory;
      len : vec_len l.events + total Events rest ≤ vec_len l.fn.events + total Events (acts l.statements);
      capacity : vec_capacity l.fn.events ≤ vec_capacity l.events;
      few : l.so_far + total Events rest ≤ l.taken + total Events (acts l.statements);
      told : after_all shape l.given.inputs.now l.given.first rest (now l.values l.memory l.events.items l.so_far)
          ≡ after_all shape l.given.inputs.now l.given.first (acts l.statements)
          (now l.fn.values l.fn.memory l.fn.events.items l.taken);
    }
