use Rattle.std.proofs.Common.{◌<◌, ◌≤◌, ◌^◌, arith}
use Rattle.mw_base.specs.Words.{num}
use Rattle.mw_cycle.proofs.Ranges.{short_below, bit_below}
use Rattle.mw_cycle.proofs.one_cycle.from_source.Goals as goal

pub returns-in-Mar-clause-below : goal.returns-in-Mar-clause-below
returns-in-Mar-clause-below c =
    let word : c.args.state.now.mar < 2 ^ c.args.board.now.width =
    short_below _ _ _ c.width.ensures.valid.sizes.address_within c.requires.fits.mar in
    grind arith

pub returns-in-Flip-clause-below : goal.returns-in-Flip-clause-below
returns-in-Flip-clause-below c =
    let some : 1 ≤ c.args.board.now.width = omega (arith, c.width.ensures.valid.sizes.least) in
    let word : num c.flip.result < 2 ^ c.args.board.now.width = bit_below c.flip.result c.args.board.now.width some in
    rw (c.from-in-Flip.ensures, c.bit_number.ensures) word
