use Rattle.std.proofs.Common.{◌≡◌, ◌∙◌, ℕ, ◌<◌, ◌≤◌, [], ◌∷◌, List, get_or, length, length-append, slice_index, Some}
use Rattle.std.proofs.Common.{ap, sym, refl, subst, arith, rules}
use Rattle.std.specs.Prelude.{slice_get}
use Rattle.std.proofs.lemmas.Option.{slice_get_read, slice_get_within}
use Rattle.mw_board.specs.declared.bit.Load.{Load}
use Rattle.mw_board.specs.declared.flipflop.FlipFlop.{FlipFlop}
use Rattle.mw_cycle.specs.Cycle.{load_of}
use Rattle.mw_symboard.proofs.Growing.{grew_then, wide_later}
use Rattle.mw_symboard.proofs.Loads.{one_so_far}
use Rattle.mw_symboard.proofs.Widths.{flip_wide}
use Rattle.mw_cycle.specs.EdgeWords.{loaded_words, with_flip}
use Rattle.mw_symboard.proofs.Listing.{flip_on, flips_all}
use Rattle.mw_symboard.specs.Listed.{bits_made, loaded_in}
use Rattle.mw_symboard.specs.Made.{IsLoaded, sources_of}
use Rattle.mw_symboard.proofs.edge.flips.Goals as goal

pub loaded-requires-clause-old : goal.loaded-requires-clause-old
loaded-requires-clause-old c =
    let flipflops : c.as_slice-flipflop-items.result.now ≡ c.args.board.now.flipflop = search rules in
    let many : length c.as_slice-flipflop-items.result.now ≡ length c.args.board.now.flipflop = ap length flipflops in
    let n = length c.loop-flipflop.flips.items in
    let there : n < length c.args.board.now.flipflop =
    omega (arith, many, c.loop-flipflop.invariant.count, c.loop-flipflop-test.true) in
    let made : c.as_slice.result.now ≡ c.loop-flipflop.flips.items = search rules in
    rw (c.old_value-old.ensures, made)
    (wide_later c.args.terms.now c.loop-flipflop.terms c.args.words.now c.loop-flipflop.words 1 (slice_index
    c.args.parts.now.flips n)
    c.loop-flipflop.invariant.grew (flip_wide _ _ _ n c.requires.parts there))

pub old_value-old-requires : goal.old_value-old-requires
old_value-old-requires c =
    let flipflops : c.as_slice-flipflop-items.result.now ≡ c.args.board.now.flipflop = search rules in
    let many : length c.as_slice-flipflop-items.result.now ≡ length c.args.board.now.flipflop = ap length flipflops in
    let made : c.as_slice.result.now ≡ c.loop-flipflop.flips.items = search rules in
    rw made
    (omega (arith, many, c.requires.parts.flips, c.loop-flipflop.invariant.count, c.loop-flipflop-test.true))

pub loop-flipflop-preserved : goal.loop-flipflop-preserved
loop-flipflop-preserved c =
    let board = c.args.board.now in
    let m = c.args.microword.now in
    let p = c.args.parts.now in
    let f = c.flipflop-item.result in
    let t1 = c.loop-flipflop.terms in
    let t2 = c.loaded.new.terms in
    let terms = c.loop-flipflop.flips.items in
    let e = c.in_ok-term.ensures in
    let before = c.loop-flipflop.invariant in
    let flipflops : c.as_slice-flipflop-items.result.now ≡ board.flipflop = search rules in
    let many : length c.as_slice-flipflop-items.result.now ≡ length board.flipflop = ap length flipflops in
    let made : c.as_slice.result.now ≡ c.loop-flipflop.flips.items = search rules in
    let old : c.old_value-old.result ≡ slice_index p.flips (length terms) = rw made at c.old_value-old.ensures in
    let read : slice_get c.as_slice-flipflop-items.result.now c.loop-flipflop.flipflop-index ≡ Some f =
    slice_get_read c.as_slice-flipflop-items.result.now (length c.as_slice-flipflop-items.result.now)
    c.loop-flipflop.flipflop-index f refl c.loop-flipflop-test.true c.flipflop-item.is in
    let here = subst (λ k. slice_get board.flipflop k ≡ Some f) (sym before.count)
    (subst (λ (xs : List FlipFlop). slice_get xs c.loop-flipflop.flipflop-index ≡ Some f) flipflops read) in
    let loaded = subst
    (λ (load : Load). IsLoaded load board t2 p c.args.sp c.args.sources.now c.old_value-old.result c.in_ok-term.term)
    c.load-load.ensures.exact e.is in
    let is = subst (λ was. IsLoaded (load_of board m f) board t2 p c.args.sp c.args.sources.now was c.in_ok-term.term)
    old loaded in
    record {
      count = ap length c.in_ok-push.ensures.items
          ∙ omega (arith, length-append terms (c.in_ok-term.term ∷ []), before.count);
      grew = grew_then c.args.terms.now t1 t2 c.args.words.now c.loop-flipflop.words c.loaded.new.words before.grew
          e.grew;
      right = e.right;
      so_far = rw c.in_ok-push.ensures.items
          (one_so_far board m t1 t2 p c.args.sp c.args.sources.now terms f c.in_ok-term.term e.grew.1.extends
          e.grew.1.keeps before.so_far here is e.wide);
      listed = λ reads.
          (let n = sources_of c.args.sources.now in
          let i = c.loop-flipflop.flipflop-index in
          let made = bits_made t1 c.loop-flipflop.words reads c.loop-flipflop.bits in
          let after = λ (flips : List ℕ). loaded_in t2 c.loaded.new.words reads c.loaded.new.bits flips in
          let inside : i < length board.flipflop = omega (arith, many, c.loop-flipflop-test.true) in
          let there : i < length p.flips = omega (arith, inside, c.requires.parts.flips) in
          let item : f ≡ get_or board.flipflop i f =
          subst (λ (xs : List FlipFlop). f ≡ get_or xs i f) flipflops c.flipflop-item.is in
          let was : c.old_value-old.result ≡ slice_index p.flips i = old ∙ ap (slice_index p.flips) before.count in
          let step = ap (λ x. with_flip terms (loaded_words x board p c.args.sp n c.old_value-old.result made))
          (sym c.load-load.ensures.exact)
          ∙ ap (with_flip terms) (sym (e.listed reads)) ∙ ap after (sym c.in_ok-push.ensures.items) in
          before.listed reads
          ∙ flip_on board m p c.args.sp n board.flipflop p.flips i f c.old_value-old.result
          (loaded_in t1 c.loop-flipflop.words reads c.loop-flipflop.bits terms)
          (after c.push.new.self.items) inside item there was step);
    }

pub returns-clause-listed : goal.returns-clause-listed
returns-clause-listed c = λ reads.
    (let flipflops : c.as_slice-flipflop-items.result.now ≡ c.args.board.now.flipflop = search rules in
    let many : length c.as_slice-flipflop-items.result.now ≡ length c.args.board.now.flipflop = ap length flipflops in
    let past : length c.args.board.now.flipflop ≤ c.loop-flipflop.flipflop-index =
    omega (arith, many, c.loop-flipflop-test.false) in
    c.loop-flipflop.invariant.listed reads
    ∙ flips_all c.args.board.now c.args.microword.now c.args.parts.now c.args.sp (sources_of c.args.sources.now)
    c.args.board.now.flipflop c.args.parts.now.flips c.loop-flipflop.flipflop-index _ past)

pub returns-clause-are : goal.returns-clause-are
returns-clause-are c =
    let flipflops : c.as_slice-flipflop-items.result.now ≡ c.args.board.now.flipflop = search rules in
    let many : length c.as_slice-flipflop-items.result.now ≡ length c.args.board.now.flipflop = ap length flipflops in
    let terms = c.loop-flipflop.flips.items in
    let before = c.loop-flipflop.invariant in
    let count : length terms ≡ length c.args.board.now.flipflop =
    omega (arith, many, before.count, c.loop-flipflop-test.false, c.loop-flipflop.auto.flipflop-index-end) in
    record {
      count = count;
      each = λ k f is.
          (let inside = slice_get_within c.args.board.now.flipflop k f is in
          before.so_far.each k f (omega (arith, inside, count)) is);
    }
