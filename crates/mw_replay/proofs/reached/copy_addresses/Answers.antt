use Rattle.std.proofs.Common.{◌≡◌, ◌<◌, ◌≤◌, length, map, slice_index, ap, ◌∙◌, arith}
use Rattle.std.proofs.lemmas.List.{length-map}
use Rattle.mw_rel.specs.Relation.{Boundary}
use Rattle.mw_rel.specs.Seen.{boundary_of}
use Rattle.mw_rel.specs.Start.{addresses_of}
use Rattle.mw_rel.specs.Views.{job_of}
use Rattle.mw_rel.proofs.Elements.{put_more, set_length}
use Rattle.mw_replay.proofs.Numbers.{address_seen, addresses_are}
use Rattle.mw_replay.proofs.reached.copy_addresses.Goals as goal

pub loop-n-preserved : goal.loop-n-preserved
loop-n-preserved c =
    let job = job_of c.args.job.now in
    let kept = c.boundaries-boundaries.result.now in
    let n = c.loop-n.n in
    let word = c.index-boundaries-n.result.address in
    let is : word ≡ slice_index (addresses_of job) n =
    address_seen kept n c.index-boundaries-n.result c.loop-n-test.true c.index-boundaries-n.is
    ∙ ap (λ bs. slice_index (map (λ (b : Boundary). b.address) bs) n) c.boundaries-boundaries.ensures in
    let inside : n < length c.loop-n.addresses =
    omega (
      arith,
      c.loop-n-test.true,
      c.loop-n.invariant.places,
      length-map kept boundary_of,
      ap length c.boundaries-boundaries.ensures,
    ) in
    record {
      places = set_length c.loop-n.addresses n word ∙ c.loop-n.invariant.places;
      so_far = λ i before. put_more c.loop-n.addresses (addresses_of job) n word i inside is c.loop-n.invariant.so_far
          before;
    }

pub returns : goal.returns
returns c =
    let job = job_of c.args.job.now in
    let kept = c.boundaries-boundaries.result.now in
    let all : length job.relation.boundaries ≤ c.loop-n.n =
    omega (arith, c.loop-n-test.false, length-map kept boundary_of, ap length c.boundaries-boundaries.ensures) in
    addresses_are job c.loop-n.addresses c.loop-n.n c.loop-n.invariant.places all c.loop-n.invariant.so_far
