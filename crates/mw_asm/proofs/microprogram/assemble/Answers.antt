use Rattle.std.proofs.Common.{◌≡◌, length, ap, ◌∙◌, Ok, rules}
use Rattle.std.proofs.lemmas.List.{length-map}
use Rattle.mw_asm.specs.declared.assembled.Assembled.{Assembled}
use Rattle.mw_asm.specs.Microprogram.{store_of}
use Rattle.mw_asm.specs.Views.{known_seen}
use Rattle.mw_asm.proofs.Inside.{first_pass_right}
use Rattle.mw_asm.proofs.Stores.{store_right}
use Rattle.mw_asm.proofs.microprogram.assemble.Goals as goal

pub second_pass-requires : goal.second_pass-requires
second_pass-requires c =
    let right = first_pass_right c.args.board.now.microword c.args.board.now.fields c.args.text.now
    (known_seen c.in_ok-known.known) _ c.parts.ensures.valid.fields c.in_ok-known.ensures in
    let sized : length c.in_ok-store.store.items ≡ length c.in_ok-known.known.used.items =
    ap length c.in_ok-store.ensures ∙ simp (length-map, c.deref-2.ensures.value) in
    rw (c.deref-3.ensures.value, sized) right.inside.each

pub returns-clause-valid : goal.returns-clause-valid
unfolding store_of
returns-clause-valid c =
    let made : Assembled = record {
      store = record { words = c.from_vec.result };
      used = c.from_vec-2.result;
      labels = c.from_vec-3.result;
    } in
    let gives : store_of c.args.board.now c.args.text.now ≡ Ok made = search rules in
    store_right c.args.board.now c.args.text.now made c.parts.ensures.valid gives
