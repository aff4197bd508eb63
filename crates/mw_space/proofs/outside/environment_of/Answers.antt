use Rattle.std.proofs.Common.{ap, sym, take, ◌∙◌, arith}
use Rattle.std.specs.Prelude.{if◌then◌else◌}
use Rattle.mw_cycle.specs.SteadySeries.{kind_of}
use Rattle.mw_term.specs.Assigned.{given_by}
use Rattle.mw_term.specs.Values.{term_value}
use Rattle.mw_term.specs.WordList.{is_of, term_of}
use Rattle.mw_symboard.proofs.Environments.{own_found}
use Rattle.mw_space.specs.Entries.{value_or_zero}
use Rattle.mw_space.proofs.Taking.{entry_fresh, new_at, taken_next, value_fits, value_next, word_named}
use Rattle.mw_space.proofs.Taking.{word_read}
use Rattle.mw_space.proofs.outside.environment_of.Goals as goal

pub take_word-requires-clause-fresh : goal.take_word-requires-clause-fresh
take_word-requires-clause-fresh c = λ kind is.
    let words = c.args.space.now.words in
    let i = c.loop-word.word-index in
    let w = c.word-item.result in
    let slice = c.as_slice-word-items in
    let at = word_read words slice.result.now i w slice.ensures.exact c.loop-word-test.true c.word-item.is in
    entry_fresh c.args.side _ c.args.space.now.terms (given_by c.args.given.now) (take i words) kind c.loop-word.invariant.entries
    (new_at words i w kind slice.ensures.own at is)

pub take_word-requires-clause-width : goal.take_word-requires-clause-width
take_word-requires-clause-width c = λ series n is.
    let words = c.args.space.now.words in
    let i = c.loop-word.word-index in
    let w = c.word-item.result in
    let slice = c.as_slice-word-items in
    let at = word_read words slice.result.now i w slice.ensures.exact c.loop-word-test.true c.word-item.is in
    let have = c.requires.variables in
    let kind = kind_of c.args.side series n in
    value_fits c.args.side have.0 c.args.space.now.terms words have.1 w.term (given_by c.args.given.now) series n have.2
    c.requires.workspace.table have.3 (own_found words i w.term kind slice.ensures.own (word_named words i w kind at is))

pub loop-word-preserved : goal.loop-word-preserved
loop-word-preserved c =
    let t = c.args.space.now.terms in
    let given = given_by c.args.given.now in
    let words = c.args.space.now.words in
    let i = c.loop-word.word-index in
    let w = c.word-item.result in
    let slice = c.as_slice-word-items in
    let at = word_read words slice.result.now i w slice.ensures.exact c.loop-word-test.true c.word-item.is in
    let ensures = c.in_ok-take_word.ensures in
    record {
      entries = λ kind outside.
          ensures.took kind outside
          ∙ ap (λ v. if is_of w.kind kind then term_value t given w.term else v)
          (c.loop-word.invariant.entries kind outside)
          ∙ sym (value_next t given (take i words) w kind (λ k is. new_at words i w k slice.ensures.own at is))
          ∙ ap (λ ws. value_or_zero t given (term_of ws kind)) (sym (taken_next words i w at));
      wait = ensures.wait ∙ c.loop-word.invariant.wait;
      trimmed = ensures.trimmed c.loop-word.invariant.trimmed;
    }
