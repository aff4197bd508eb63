use Rattle.std.proofs.Common.{◌≡◌, ◌*◌, ◌%◌, ◌^◌, ◌≤◌, length, ap, ◌∙◌, arith}
use Rattle.mw_base.specs.Words.{num}
use Rattle.mw_cycle.proofs.Ranges.{bit_at, one_more_bit, one_more_flip, no_more_flips}
use Rattle.mw_cycle.proofs.flipflops.flips_after.Goals as goal

pub loop-n-preserved : goal.loop-n-preserved
loop-n-preserved c =
    let few : length c.as_slice-flipflops.result.now ≤ 16 =
    rw (c.as_slice-flipflops.ensures, c.parts.ensures.exact) c.parts.ensures.valid.few_flipflops in
    let put : c.bit_number.result * 2 ^ c.loop-n.n % 2 ^ 16 ≡ num c.flip_of-takes.result * 2 ^ c.loop-n.n =
    ap (λ x. x * 2 ^ c.loop-n.n % 2 ^ 16) c.bit_number.ensures
    ∙ bit_at c.flip_of-takes.result c.loop-n.n (omega (arith, few)) in
    let taken = c.flip_of-takes.ensures in
    rw put (record {
      below = one_more_bit c.flip_of-takes.result c.loop-n.n c.loop-n.flips c.loop-n.invariant.below;
      so_far = rw taken (one_more_flip _ _ _ _ _ c.as_slice-flipflops.result.now c.index-flipflops-n.result c.loop-n.n
          c.loop-n.flips _ c.loop-n-test.true c.index-flipflops-n.is c.loop-n.invariant.so_far);
    })

pub returns-clause-exact : goal.returns-clause-exact
returns-clause-exact c =
    no_more_flips _ _ _ _ _ c.as_slice-flipflops.result.now c.loop-n.n c.loop-n.flips _ c.loop-n-test.false
    c.loop-n.invariant.so_far
