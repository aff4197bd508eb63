use Rattle.std.proofs.Common.{ℕ, ap, ◌∙◌, replicate}
use Rattle.mw_pal.specs.Source.{no_words}
use Rattle.mw_pal.proofs.source.cleared.Goals as goal

pub returns : goal.returns
unfolding no_words
returns c =
    let none : ℕ = 0 in
    c.in_ok-vec.ensures.items_if_clones_equal (λ y same. same) ∙ ap (λ n. replicate n none) c.from.ensures
