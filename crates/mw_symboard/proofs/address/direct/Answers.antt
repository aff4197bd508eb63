use Rattle.std.proofs.Common.{◌≡◌, ap, sym, ◌∙◌}
use Rattle.mw_term.specs.WordList.{with_constant}
use Rattle.mw_board.specs.declared.parts.BoardParts.{BoardParts}
use Rattle.mw_seq.specs.Instruction.{instruction_of}
use Rattle.mw_seq.specs.declared.instruction.Instruction.TheVariants.{Cjv}
use Rattle.mw_cycle.specs.LeavingWords.{direct_words}
use Rattle.mw_symboard.proofs.Listing.{constant_lists, branch_words}
use Rattle.mw_symboard.proofs.address.direct.Goals as goal

pub returns-in-Cjv-clause-listed : goal.returns-in-Cjv-clause-listed
returns-in-Cjv-clause-listed c =
    let board = c.args.board.now in
    let is : instruction_of c.args.microword.now.sequencer ≡ Cjv = sym c.of.ensures ∙ c.in-Cjv.is in
    let vector : c.from.result ≡ board.vector =
    c.from.ensures ∙ ap (λ (p : BoardParts). p.vector) c.parts.ensures.exact in
    constant_lists c.constant.result c.from.result 12 _ c.args.terms.now c.constant.new.terms c.args.words.now
    (λ l. ap (λ n. with_constant n 12 l) vector
    ∙ sym (ap (λ i. direct_words i board c.args.microword.now c.args.ir l) is)) c.constant.ensures.listed

pub returns-in_default-clause-listed : goal.returns-in_default-clause-listed
returns-in_default-clause-listed c =
    let m = c.args.microword.now in
    constant_lists c.constant-in_default.result c.from-in_default.result 12 _ c.args.terms.now
    c.constant-in_default.new.terms c.args.words.now
    (λ l. ap (λ n. with_constant n 12 l) c.from-in_default.ensures
    ∙ branch_words (instruction_of m.sequencer) c.args.board.now m c.args.ir l
    (λ is. c.in_default.not-Jmap (c.of.ensures ∙ is)) (λ is. c.in_default.not-Cjv (c.of.ensures ∙ is)))
    c.constant-in_default.ensures.listed
