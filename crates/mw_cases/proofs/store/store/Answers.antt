use Rattle.mw_cases.specs.Words.{IsWordAt}
use Rattle.mw_cases.proofs.Pushed.{all_behind, one_more}
use Rattle.mw_cases.proofs.store.store.Goals as goal

pub loop-address-preserved : goal.loop-address-preserved
loop-address-preserved c =
    let before = c.loop-address.invariant in
    record {
      count = rw c.in_ok-push.ensures.items
          (one_more c.loop-address.words.items c.loop-address.address c.word_at.result before.count);
      words =
          rw c.in_ok-push.ensures.items (all_behind (IsWordAt c.args.instructions.now.number) c.loop-address.words.items
          c.loop-address.address c.word_at.result before.count before.words c.word_at.ensures);
    }
