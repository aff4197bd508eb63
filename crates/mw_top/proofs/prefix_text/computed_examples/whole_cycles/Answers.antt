use Rattle.std.proofs.Common.{refl}
use Rattle.mw_base.specs.Numbers.{padded}
use Rattle.mw_top.specs.PrefixText.{cycle_text, prefix_text}
use Rattle.mw_top.proofs.prefix_text.computed_examples.whole_cycles.Goals as goal

pub returns : goal.returns
unfolding padded cycle_text prefix_text
returns c = record { two = refl; tested = refl; counted = refl; both = refl; stepped = refl }
