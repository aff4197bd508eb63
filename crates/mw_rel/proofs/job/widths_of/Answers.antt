use Rattle.std.proofs.Common.{◌<◌, ◌++◌, [], ◌∷◌, map, length, ap, arith, ◌∙◌}
use Rattle.std.specs.Prelude.{unwrap_or}
use Rattle.std.proofs.lemmas.List.{length-map}
use Rattle.mw_board.specs.Elements.{Element, elements_of}
use Rattle.mw_rel.proofs.Seen.{width_more}
use Rattle.mw_rel.proofs.job.widths_of.Goals as goal

pub loop-number-preserved : goal.loop-number-preserved
loop-number-preserved c =
    let board = c.args.board.now in
    let within : c.loop-number.number < length (map (λ (e : Element). e.width) (elements_of board)) =
    omega (
      arith,
      length-map (elements_of board) (λ (e : Element). e.width),
      c.loop-number-test.true,
      c.loop-number.auto.number-end,
    ) in
    c.in_ok-push.ensures.items
    ∙ ap (λ width. c.loop-number.widths.items ++ width ∷ []) (c.unwrap_or.ensures
    ∙ ap (λ width. unwrap_or width 0) c.element_width.ensures)
    ∙ width_more board c.loop-number.number c.loop-number.widths.items within c.loop-number.invariant
