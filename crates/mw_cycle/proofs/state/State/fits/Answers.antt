use Rattle.std.proofs.Common.{◌≡◌, ◌&&◌, ap₂, sym, ◌∙◌}
use Rattle.mw_cycle.specs.State.{are_words, is_sized}
use Rattle.mw_cycle.proofs.Fitting.{in_range_fits, fits_in_range}
use Rattle.mw_cycle.proofs.state.State.fits.Goals as goal

pub returns : goal.returns
returns c =
    let tests : (c.are_words.result && c.is_sized.result)
    ≡ (are_words c.args.board.now c.args.self.now && is_sized c.args.board.now c.args.self.now) =
    ap₂ (λ a b. a && b) c.are_words.ensures.exact c.is_sized.ensures.exact in (
      λ e. in_range_fits c.args.board.now c.args.self.now c.is_sized.ensures.sequencer c.are_words.ensures.sixteen
          (sym tests ∙ e),
      λ fits. tests ∙ fits_in_range c.args.board.now c.args.self.now fits,
    )
