use Rattle.std.proofs.Common.{refl, ◌∙◌}
use Rattle.mw_symboard.proofs.Growing.{grew_none, grew_then}
use Rattle.mw_symboard.proofs.Listing.{read_on, read_all}
use Rattle.mw_symboard.specs.Made.{sources_of}
use Rattle.mw_board.specs.declared.bit.Bit.TheVariants.{Zero}
use Rattle.mw_symboard.proofs.reading.make_all.Goals as goal

pub loop-bit-init : goal.loop-bit-init
loop-bit-init c = record {
  grew = grew_none c.args.terms.now c.args.words.now;
  right = c.requires.right;
  so_far = λ reads. refl;
}

pub loop-bit-preserved : goal.loop-bit-preserved
loop-bit-preserved c =
    let e = c.in_ok-make_read.ensures in
    let before = c.loop-bit.invariant in
    record {
      grew = grew_then c.args.terms.now c.loop-bit.terms c.make_read.new.terms c.args.words.now c.loop-bit.words
          c.make_read.new.words before.grew e.grew;
      right = e.right;
      so_far = λ reads.
          (before.so_far reads
          ∙ read_on c.args.board.now c.args.microword.now c.args.place.now.parts c.args.place.now.sp
          (sources_of c.args.sources.now) c.args.in_order.now c.loop-bit.bit-index Zero _ _ c.loop-bit-test.true
          (e.listed reads));
    }

pub returns-clause-listed : goal.returns-clause-listed
returns-clause-listed c = λ reads.
    (c.loop-bit.invariant.so_far reads
    ∙ read_all c.args.board.now c.args.microword.now c.args.place.now.parts c.args.place.now.sp
    (sources_of c.args.sources.now) c.args.in_order.now c.loop-bit.bit-index _ c.loop-bit-test.false)
