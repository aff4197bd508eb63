use Rattle.std.proofs.Common.{Ok, Err, sym, ◌∙◌}
use Rattle.std.proofs.lemmas.List.{length-set}
use Rattle.mw_base.proofs.Lists.{next}
use Rattle.mw_base.proofs.Steps.{goes_on, fails, done}
use Rattle.mw_asm.proofs.WordSteps.{made}
use Rattle.mw_asm.proofs.second_pass.second_pass.Goals as goal

pub returns-in-Err : goal.returns-in-Err
returns-in-Err c =
    let read = rw (c.as_slice.ensures) at c.in-Err.ensures in
    let faulty =
    made c.args.board.now c.args.text.now _ c.loop-word.store.items c.word-item.result (Err c.in-Err.fault) read in
    fails _ c.loop-word.store.items c.in-Err.fault c.args.words.now c.loop-word.word-index c.word-item.result _
    (next _ _ _ c.loop-word-test.true c.word-item.is) (sym faulty) c.loop-word.invariant.puts

pub loop-word-preserved : goal.loop-word-preserved
loop-word-preserved c =
    let read = rw (c.as_slice.ensures) at c.in-Ok.ensures in
    let makes =
    made c.args.board.now c.args.text.now _ c.loop-word.store.items c.word-item.result (Ok c.in-Ok.bits) read in
    record {
      puts = rw (c.word.ensures, c.from.ensures, c.parts.ensures.exact)
          (goes_on _ c.loop-word.store.items _ c.args.words.now c.loop-word.word-index c.word-item.result _
          (next _ _ _ c.loop-word-test.true c.word-item.is) (sym makes) c.loop-word.invariant.puts);
      sized = length-set _ _ _ ∙ c.loop-word.invariant.sized;
    }

pub returns : goal.returns
returns c =
    done _ c.loop-word.store.items c.args.words.now c.loop-word.word-index _ c.loop-word-test.false
    c.loop-word.invariant.puts
