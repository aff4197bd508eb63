use Rattle.std.proofs.Common.{ap, ◌-◌, ◌≡◌, arith, ◌∙◌}
use Rattle.mw_symboard.proofs.Growing.{grew_none, grew_then}
use Rattle.mw_symboard.proofs.Listing.{read_ir}
use Rattle.mw_symboard.specs.Made.{sources_of}
use Rattle.std.specs.Prelude.{map}
use Rattle.mw_board.specs.declared.bit.Bit.TheVariants.{Ir}
use Rattle.mw_cycle.specs.Boundary.{numbers}
use Rattle.mw_cycle.specs.ReadingWords.{all_read_words}
use Rattle.mw_symboard.specs.Listed.{bits_made}
use Rattle.mw_symboard.proofs.reading.make_ir_bits.Goals as goal

pub loop-number-init : goal.loop-number-init
loop-number-init c = record {
  grew = grew_none c.args.terms.now c.args.words.now;
  right = c.requires.right;
  so_far = λ reads.
      (let width : c.args.board.now.width ≡ c.args.board.now.width - 0 = omega arith in
      ap (λ w. all_read_words c.args.board.now c.args.microword.now c.args.place.now.parts c.args.place.now.sp
      (sources_of c.args.sources.now) (map Ir (numbers 0 w))
      (bits_made c.args.terms.now c.args.words.now reads c.args.bits.now)) width);
}

pub loop-number-preserved : goal.loop-number-preserved
loop-number-preserved c =
    let e = c.in_ok-make_read.ensures in
    let before = c.loop-number.invariant in
    let width : c.bits-number-end.result ≡ c.args.board.now.width =
    c.bits-number-end.ensures.exact ∙ c.width.ensures.exact in
    record {
      grew = grew_then c.args.terms.now c.loop-number.terms c.make_read.new.terms c.args.words.now c.loop-number.words
          c.make_read.new.words before.grew e.grew;
      right = e.right;
      so_far = λ reads.
          (before.so_far reads
          ∙ read_ir c.args.board.now c.args.microword.now c.args.place.now.parts c.args.place.now.sp
          (sources_of c.args.sources.now) c.loop-number.number _ _ (omega (arith, width, c.loop-number-test.true))
          (e.listed reads));
    }
