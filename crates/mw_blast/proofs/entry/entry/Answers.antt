use Rattle.std.proofs.Common.{◌≡◌, ℕ, [], ◌∷◌, length, refl, sym, arith, subst, length-append}
use Rattle.mw_term.specs.Rows.{last_made}
use Rattle.mw_blast.specs.Bits.{StandsFor, AreFor}
use Rattle.mw_blast.specs.Entries.{entry_row}
use Rattle.mw_blast.proofs.Bits.{stay_each, stay_there, keeps-itself, keeps-then, each_push}
use Rattle.mw_blast.proofs.SoFar.{refused_at}
use Rattle.mw_blast.proofs.entry.entry.Goals as goal

pub loop-place-init : goal.loop-place-init
loop-place-init c = rw c.new-bits.ensures.items (record {
  keeps = keeps-itself c.args.dds.now;
  made = λ F stand. record { count = refl; each = λ j inside. absurd (omega arith) };
})

pub entry_bit-requires-clause-index : goal.entry_bit-requires-clause-index
entry_bit-requires-clause-index c = stay_there _ _ _ c.loop-place.invariant.keeps c.requires.index

pub loop-place-preserved : goal.loop-place-preserved
loop-place-preserved c =
    let old = c.args.dds.now in
    let now = c.loop-place.dds in
    let new = c.entry_bit.new.dds in
    let xs = c.loop-place.bits.items in
    let x = c.in-Ok.bit in
    rw c.in_ok-append-in-Ok.ensures (record {
      keeps = keeps-then old now new c.loop-place.invariant.keeps c.entry_bit.ensures.keeps;
      made = λ F stand.
          let f = λ (j : ℕ). last_made (entry_row F (length c.args.index.now) c.args.map.now j) in
          let before = c.loop-place.invariant.made F stand in
          let bit = c.in-Ok.ensures.made F (stay_each old now c.args.index.now F c.loop-place.invariant.keeps stand) in
          record {
            count = omega (arith, length-append xs (x ∷ []), before.count);
            each = each_push (λ j y. StandsFor new y (f j)) xs x
                (stay_each now new xs f c.entry_bit.ensures.keeps before.each)
                (subst (λ (j : ℕ). StandsFor new x (f j)) (sym before.count) bit);
          };
    })

pub returns-in-Err-clause-made : goal.returns-in-Err-clause-made
returns-in-Err-clause-made c = λ F stand.
    rw c.at.ensures
    (refused_at (entry_row F (length c.args.index.now) c.args.map.now)
    12 c.args.budget c.loop-place.place c.in-Err.fault c.loop-place-test.true
    (c.in-Err.ensures.made F (stay_each _ _ _ F c.loop-place.invariant.keeps stand)))

pub returns-in-Err-clause-keeps : goal.returns-in-Err-clause-keeps
returns-in-Err-clause-keeps c = keeps-then _ _ _ c.loop-place.invariant.keeps c.entry_bit.ensures.keeps

pub returns-in_err-append-in-Ok-clause-keeps : goal.returns-in_err-append-in-Ok-clause-keeps
returns-in_err-append-in-Ok-clause-keeps c = keeps-then _ _ _ c.loop-place.invariant.keeps c.entry_bit.ensures.keeps

pub returns-clause-made : goal.returns-clause-made
returns-clause-made c = λ F stand.
    let end : c.loop-place.place ≡ 12 = omega (arith, c.loop-place.auto.place-end, c.loop-place-test.false) in
    subst (λ (n : ℕ). AreFor c.loop-place.dds n
    (λ j. last_made (entry_row F (length c.args.index.now) c.args.map.now j)) c.loop-place.bits.items) end
    (c.loop-place.invariant.made F stand)

pub returns-clause-keeps : goal.returns-clause-keeps
returns-clause-keeps c = c.loop-place.invariant.keeps
