use Rattle.std.proofs.Common.{◌+◌, Ok, arith, ap}
use Rattle.std.proofs.lemmas.Result.{err_from_is_err_and}
use Rattle.mw_base.specs.Reading.{◌>>=◌}
use Rattle.mw_base.proofs.Lists.{next_or}
use Rattle.mw_base.proofs.Steps.{goes_on, refused, done}
use Rattle.mw_sim.specs.Settings.{Writing, with_more_words, with_next_word}
use Rattle.mw_sim.specs.Views.{given_seen}
use Rattle.mw_sim.proofs.Kept.{image_keeps, next_fails, next_is, more_fail}
use Rattle.mw_sim.proofs.settings.Settings.add_more_words.Goals as goal

pub returns-in_err-add_word : goal.returns-in_err-add_word
returns-in_err-add_word c =
    let p = err_from_is_err_and c.from_residual.result c.from_residual.ensures.1 in
    let now : Writing = record { given = given_seen c.loop-word.self; next = c.loop-word.next } in
    rw (p.1, p.2) (more_fail c.args.board.now.width c.args.address c.args.words.now (given_seen c.args.self.now)
    c.in_err-add_word.field-0.0
    (refused (with_next_word c.args.board.now.width) now c.in_err-add_word.field-0.0 c.args.words.now
    c.loop-word.word-index _ _ (next_or _ _ _ c.loop-word-test.true)
    (next_fails c.args.board.now.width now _ c.in_err-add_word.field-0.0 c.in_err-add_word.ensures.gives)
    c.loop-word.invariant.so_far))

pub loop-word-preserved : goal.loop-word-preserved
loop-word-preserved c =
    let now : Writing = record { given = given_seen c.loop-word.self; next = c.loop-word.next } in
    let after : Writing = record { given = given_seen c.add_word.new.self; next = c.loop-word.next + 1 } in
    record {
      so_far = goes_on (with_next_word c.args.board.now.width) now after c.args.words.now c.loop-word.word-index _ _
          (next_or _ _ _ c.loop-word-test.true)
          (next_is c.args.board.now.width now (given_seen c.add_word.new.self) _ c.in_ok-add_word.ensures.gives)
          c.loop-word.invariant.so_far;
      image = image_keeps c.args.board.now _ _ _ _ _ c.in_ok-add_word.ensures.gives c.loop-word.invariant.image;
      low = omega (arith, c.in_ok-add_word.ensures.low);
    }

pub returns : goal.returns
unfolding with_more_words
returns c =
    let now : Writing = record { given = given_seen c.loop-word.self; next = c.loop-word.next } in
    ap (λ read. read >>= λ (writing : Writing). Ok writing.given)
    (done (with_next_word c.args.board.now.width) now c.args.words.now c.loop-word.word-index _ c.loop-word-test.false
    c.loop-word.invariant.so_far)
