use Rattle.std.specs.Str.{bytes_eq}
use Rattle.mw_asm.specs.ItemBits.{field_named}
use Rattle.mw_asm.proofs.Fields.{found_fits}
use Rattle.mw_asm.proofs.item_bits.field_of_board.Goals as goal

pub returns-clause-fits : goal.returns-clause-fits
unfolding field_named
returns-clause-fits c =
    rw (c.field_named.ensures, c.as_slice.ensures, c.parts.ensures.exact)
    (found_fits c.args.board.now.microword c.args.board.now.fields (λ f. bytes_eq f.name c.args.name.now)
    c.parts.ensures.valid.sizes.microword_most c.parts.ensures.valid.fields)
