use Rattle.std.proofs.Common.{ap, ◌∙◌}
use Rattle.std.proofs.lemmas.Result.{on_ok_weaker}
use Rattle.mw_cycle.specs.ReadingWords.{all_read_words, bits_of_words}
use Rattle.std.specs.Prelude.{map}
use Rattle.mw_board.specs.declared.bit.Bit.TheVariants.{Ir}
use Rattle.mw_cycle.specs.Boundary.{numbers}
use Rattle.mw_symboard.proofs.Listing.{read_behind}
use Rattle.mw_symboard.specs.Made.{sources_of}
use Rattle.mw_symboard.proofs.Growing.{grew_then}
use Rattle.mw_symboard.specs.Listed.{bits_made}
use Rattle.mw_symboard.proofs.reading.make_bits.Goals as goal

pub returns-clause-listed : goal.returns-clause-listed
returns-clause-listed c =
    on_ok_weaker c.make_ir_bits.result
    (λ two. λ reads.
    (let read = all_read_words c.args.board.now c.args.microword.now c.args.place.now.parts c.args.place.now.sp
    (sources_of c.args.sources.now) in
    read_behind c.args.board.now c.args.microword.now c.args.place.now.parts c.args.place.now.sp
    (sources_of c.args.sources.now) bits_of_words (map Ir (numbers 0 c.args.board.now.width))
    (bits_made c.args.terms.now c.args.words.now reads c.args.bits.now)
    ∙ ap (read (map Ir (numbers 0 c.args.board.now.width))) (c.in_ok-make_all.ensures.listed reads) ∙ two reads))
    c.make_ir_bits.ensures.listed

pub returns-clause-grew : goal.returns-clause-grew
returns-clause-grew c =
    on_ok_weaker c.make_ir_bits.result
    (λ two.
    grew_then c.args.terms.now c.make_all.new.terms c.make_ir_bits.new.terms c.args.words.now c.make_all.new.words
    c.make_ir_bits.new.words c.in_ok-make_all.ensures.grew two)
    c.make_ir_bits.ensures.grew
