use Rattle.std.proofs.Common.{◌≡◌, get_or, false}
use Rattle.std.specs.List.{filter, flat_map, range_with_len}
use Rattle.mw_asm.specs.Listing.{line_at}
use Rattle.mw_asm.proofs.listed.listing.Given as goal

abbrev pub invariant-loop-at : goal.invariant-loop-at
invariant-loop-at l =
    l.text.items
    ≡ flat_map (line_at l.board l.made) (filter (λ at. get_or l.made.used at false) (range_with_len 0 l.at))
