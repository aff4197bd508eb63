use Rattle.std.proofs.lemmas.Result.{err_from_is_err_and}
use Rattle.mw_base.proofs.Lists.{next}
use Rattle.mw_base.proofs.Steps.{goes_on, refused, done}
use Rattle.mw_pal.proofs.source.second_pass.Goals as goal

pub returns-in_err-put_word-clause-gives : goal.returns-in_err-put_word-clause-gives
returns-in_err-put_word-clause-gives c =
    let p = err_from_is_err_and c.from_residual.result c.from_residual.ensures.1 in
    rw (p.1, p.2) (refused _ c.loop-cell.memory.items c.in_err-put_word.field-0.0 c.args.cells.now
    c.loop-cell.cell-index c.cell-item.result _ (next _ _ _ c.loop-cell-test.true c.cell-item.is)
    c.in_err-put_word.ensures.gives c.loop-cell.invariant.puts)

pub loop-cell-preserved : goal.loop-cell-preserved
loop-cell-preserved c = record {
  puts = goes_on _ c.loop-cell.memory.items c.put_word.new.memory.items c.args.cells.now c.loop-cell.cell-index
      c.cell-item.result _ (next _ _ _ c.loop-cell-test.true c.cell-item.is) c.in_ok-put_word.ensures.gives
      c.loop-cell.invariant.puts;
  valid = c.in_ok-put_word.ensures.valid;
}

pub returns-clause-gives : goal.returns-clause-gives
returns-clause-gives c =
    done _ c.loop-cell.memory.items c.args.cells.now c.loop-cell.cell-index _ c.loop-cell-test.false
    c.loop-cell.invariant.puts
