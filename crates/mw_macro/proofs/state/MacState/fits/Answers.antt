use Rattle.std.proofs.Common.{◌≡◌, ◌^◌, length, arith, rules}
use Rattle.mw_macro.specs.Described.{description_of}
use Rattle.mw_macro.proofs.Words.{fits_if}
use Rattle.mw_macro.proofs.state.MacState.fits.Goals as goal

pub returns-then-have_widths : goal.returns-then-have_widths
returns-then-have_widths c =
    let inside = c.self.inside in
    let m = description_of c.args.machine.now in
    let registers = rw (c.deref.ensures.value, c.as_slice.ensures, c.shape-shape.ensures) at c.if-have_widths.ensures in
    let memory = rw (c.deref-then-have_widths.ensures.value, c.shape-shape.ensures) at c.have_bits.ensures in
    let counted = rw c.deref.ensures.value at c.deref.ensures.len in
    let sized = rw c.deref-then-have_widths.ensures.value at c.deref-then-have_widths.ensures.len in
    let count : length inside.registers.items ≡ m.registers = omega (arith, counted) in
    let size : length inside.memory.items ≡ 2 ^ m.shape.address = omega (arith, sized) in
    rw (← c.self.view_is)
    (fits_if m (record {
      registers = inside.registers.items;
      memory = inside.memory.items;
    }) c.have_bits.result count size (registers.0 (search rules)) memory)
