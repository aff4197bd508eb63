use Rattle.std.proofs.Common.{◌∙◌, sym, refl}
use Rattle.std.proofs.iter.Serving.{serving}
use Rattle.mw_boardfile.specs.Entries.{has_name, flip_number}
use Rattle.mw_boardfile.proofs.Loops.{first_place-data_of}
use Rattle.mw_boardfile.proofs.entries.flip_number.Goals as goal
use Rattle.toml.specs.View.{view}

pub returns-in-Some : goal.returns-in-Some
unfolding flip_number
returns-in-Some c =
    let at = sym (first_place-data_of (has_name c.args.name.now) 0 c.args.flipflops.now)
    ∙ sym
    (c.first_place.ensures.exact (λ value. has_name c.args.name.now (view value)) (λ x result returned. grind serving))
    ∙ c.in-Some.is in
    rw at c.part_number.ensures

pub returns-in-None : goal.returns-in-None
unfolding flip_number
returns-in-None c =
    let at = sym (first_place-data_of (has_name c.args.name.now) 0 c.args.flipflops.now)
    ∙ sym
    (c.first_place.ensures.exact (λ value. has_name c.args.name.now (view value)) (λ x result returned. grind serving))
    ∙ c.in-None.is in
    rw at refl
