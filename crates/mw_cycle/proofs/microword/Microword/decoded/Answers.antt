use Rattle.std.proofs.Common.{length, ap, ◌∙◌}
use Rattle.mw_board.specs.declared.bit.Bit.TheVariants as bits
use Rattle.mw_board.specs.declared.parts.BoardParts.{BoardParts}
use Rattle.mw_board.specs.Valid.{IsBit, IsSource}
use Rattle.mw_cycle.specs.Microword.{no_source}
use Rattle.mw_cycle.proofs.Ranges.{picked_is}
use Rattle.mw_cycle.proofs.microword.Microword.decoded.Goals as goal

pub returns-clause-valid : goal.returns-clause-valid
returns-clause-valid c =
    let same = c.parts-parts.ensures.exact in
    let lists = c.parts-parts.ensures.valid.lists in
    let is_bit = IsBit c.args.board.now.width (length c.args.board.now.flipflop) in
    let is_source =
    IsSource c.args.board.now.width (length c.args.board.now.fields) (length c.args.board.now.flipflop) in
    record {
      instruction = c.instruction.ensures.below;
      a_address = c.four_bits.ensures.below;
      b_address = c.four_bits-2.ensures.below;
      carry_in = picked_is is_bit bits.Zero _ c.args.board.now.carry_in _ _
          (c.as_slice.ensures ∙ ap (λ (p : BoardParts). p.carry_in) same)
          c.chosen.ensures lists.carry_in.some lists.carry_in.entries;
      d = picked_is is_source no_source _ c.args.board.now.d _ _
          (c.as_slice-2.ensures ∙ ap (λ (p : BoardParts). p.d) same) c.chosen-2.ensures lists.d.some lists.d.entries;
      condition = picked_is is_bit bits.Zero _ c.args.board.now.condition _ _
          (c.as_slice-3.ensures ∙ ap (λ (p : BoardParts). p.condition) same)
          c.chosen-3.ensures lists.condition.some lists.condition.entries;
      sequencer = c.four_bits-3.ensures.below;
      branch = c.point.ensures.below;
      ram_link = picked_is is_bit bits.Zero _ c.args.board.now.ram_link _ _
          (c.as_slice-4.ensures ∙ ap (λ (p : BoardParts). p.ram_link) same)
          c.chosen-4.ensures lists.ram_link.some lists.ram_link.entries;
      q_link = picked_is is_bit bits.Zero _ c.args.board.now.q_link _ _
          (c.as_slice-5.ensures ∙ ap (λ (p : BoardParts). p.q_link) same)
          c.chosen-5.ensures lists.q_link.some lists.q_link.entries;
    }
