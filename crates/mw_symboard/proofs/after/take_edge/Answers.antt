use Rattle.std.proofs.Common.{◌≡◌, ℕ, List, length, slice_index, ap, sym, subst, ◌∙◌, ◌+◌, ◌%◌, ◌^◌, refl}
use Rattle.mw_alu.specs.Instruction.{destination_of}
use Rattle.mw_cycle.specs.declared.elements.Element.TheVariants.{Ir}
use Rattle.mw_symmem.specs.Memory.{IsOfWidth}
use Rattle.mw_symboard.specs.Cycle.{IsMar, effect_by}
use Rattle.mw_cycle.specs.EdgeWords.{with_pushed, Made, parts_after, sp_after}
use Rattle.mw_symboard.specs.Made.{AreLoaded}
use Rattle.mw_symboard.proofs.AtEdge.{loaded_wide, mar_stays, parts_kept, some_later}
use Rattle.mw_symboard.proofs.Growing.{grew_then, wide_later}
use Rattle.mw_symboard.proofs.Standing.{all_loaded_stay, parts_stay, written_b_stays, written_q_stays}
use Rattle.mw_term.specs.WordList.{list_of, with_constant}
use Rattle.mw_base.specs.Words.{num}
use Rattle.mw_board.specs.Depth.{depth_of}
use Rattle.mw_cycle.specs.BoardTerms.{Standing}
use Rattle.mw_symboard.specs.Listed.{leaving_of, reading_of, standing_of}
use Rattle.mw_symboard.proofs.Listing.{edge_are, parts_are, standing_is, stands}
use Rattle.mw_symboard.proofs.after.take_edge.Goals as goal

pub go_to_address-requires-clause-pushed : goal.go_to_address-requires-clause-pushed
go_to_address-requires-clause-pushed c = rw c.requires.parts.stack c.moved-moved.ensures.pushed_within

pub returns-clause-is : goal.returns-clause-is
returns-clause-is c =
    let b = c.args.board.now in
    let m = c.args.microword.now in
    let old = c.args.place.now in
    let n = c.args.reading.now.sources in
    let y = c.args.reading.now.y in
    let taken = c.in_ok-taken.taken in
    let e = c.in_ok-taken.ensures in
    let s = c.go_to_address.ensures in
    let t = c.edge_made.new.terms in
    let tnew = c.constant.new.terms in
    let ws = c.edge_made.new.words in
    let last = c.in_ok-pc.ensures.grew ws in
    let count : c.from.result ≡ c.decided_next-next.result.pc = cc in
    record {
      side = s.side;
      written = taken.register;
      is_written = written_b_stays (destination_of m.instruction) b m t tnew old.parts old.sp n taken.register
          last.1.extends e.register;
      regs = s.regs;
      taken = taken.q;
      is_taken =
          written_q_stays (destination_of m.instruction) b m t tnew old.parts old.sp n taken.q last.1.extends e.q;
      q = s.q;
      mar = subst (λ (x : ℕ). IsMar m.mar_load b tnew old.parts.mar y x) (sym s.mar)
          (mar_stays m.mar_load b t tnew old.parts.mar y taken.mar last.1.extends e.mar);
      ir = s.ir;
      flips = subst (λ (xs : List ℕ). AreLoaded b m tnew old.parts old.sp n xs) (sym s.flips)
          (all_loaded_stay b m t tnew old.parts old.sp n taken.flips.items last.1.extends e.flips);
      at = s.at ∙ c.decided_next-next.ensures.at;
      pc = rw (s.pc, s.at, ← c.decided_next-next.ensures.pc, ← count) c.in_ok-pc.ensures.is;
      counter = s.r;
      stack = s.stack ∙ ap (λ o. with_pushed old.parts.stack o old.parts.pc) c.moved-moved.ensures.pushed;
      sp = s.sp ∙ c.moved-moved.ensures.sp;
    }

pub returns-clause-parts : goal.returns-clause-parts
returns-clause-parts c =
    let b = c.args.board.now in
    let m = c.args.microword.now in
    let old = c.args.place.now in
    let new = c.go_to_address.new.place in
    let y = c.args.reading.now.y in
    let taken = c.in_ok-taken.taken in
    let e = c.in_ok-taken.ensures in
    let s = c.go_to_address.ensures in
    let told = c.args.terms.now in
    let t = c.edge_made.new.terms in
    let tnew = c.constant.new.terms in
    let ws = c.edge_made.new.words in
    let last = c.in_ok-pc.ensures.grew ws in
    let all = grew_then told t tnew c.args.words.now ws ws e.grew last in
    let before = parts_stay b told tnew old.parts all.1.extends all.1.keeps c.requires.parts in
    let later = λ (w term : ℕ) (is : IsOfWidth t w term). wide_later t tnew ws ws w term last is in
    parts_kept b tnew old.parts m.b_address taken.register taken.q c.moved-moved.result.pushed new.parts before
    (record {
      b_in = c.requires.microword.b_address;
      regs = s.regs;
      written_wide = some_later t tnew b.width taken.register (later b.width) e.register_wide;
      q = s.q;
      taken_wide = some_later t tnew b.width taken.q (later b.width) e.q_wide;
      mar = subst (λ (x : ℕ). IsOfWidth tnew b.address x) (sym s.mar) (later b.address taken.mar e.mar_wide);
      ir = subst (λ (x : ℕ). IsOfWidth tnew b.width x) (sym s.ir)
          (loaded_wide tnew b.width m.ir_load y old.parts.ir
          (wide_later told tnew c.args.words.now ws b.width y all c.requires.y) (before.wide Ir tt));
      count = ap length s.flips ∙ e.flips.count;
      flips = λ k inside. subst (λ (xs : List ℕ). IsOfWidth tnew 1 (slice_index xs k)) (sym s.flips)
          (later 1 (slice_index taken.flips.items k) (e.flips_wide k inside));
      pc = subst (λ (x : ℕ). IsOfWidth tnew 12 x) (sym s.pc) c.in_ok-pc.ensures.wide;
      r = subst (λ (x : ℕ). IsOfWidth tnew 12 x) (sym s.r)
          (wide_later told tnew c.args.words.now ws 12 c.args.leaving.r all c.requires.r);
      stack = s.stack;
      inside = rw c.requires.parts.stack c.moved-moved.ensures.pushed_within;
    })

pub returns-clause-grew : goal.returns-clause-grew
returns-clause-grew c =
    let ws = c.edge_made.new.words in
    grew_then c.args.terms.now c.edge_made.new.terms c.constant.new.terms c.args.words.now ws ws
    c.in_ok-taken.ensures.grew (c.in_ok-pc.ensures.grew ws)

pub returns-clause-listed : goal.returns-clause-listed
returns-clause-listed c = λ reads writes events.
    (let board = c.args.board.now in
    let m = c.args.microword.now in
    let old = c.args.place.now in
    let new = c.go_to_address.new.place in
    let reading = reading_of c.args.reading.now in
    let taken = c.in_ok-taken.taken in
    let effect = effect_by m old.decided in
    let s = c.go_to_address.ensures in
    let pc = c.in_ok-pc.pc in
    let l1 = list_of c.edge_made.new.terms.ops c.edge_made.new.words reads in
    let made : Made = record {
      list = l1;
      register = taken.register;
      q = taken.q;
      flips = taken.flips.items;
      mar = taken.mar;
    } in
    let count : c.from.result ≡ c.decided_next-next.result.pc = cc in
    let counted : c.from.result ≡ (new.at + num m.ci) % 2 ^ 12 =
    count ∙ c.decided_next-next.ensures.pc ∙ ap (λ x. (x + num m.ci) % 2 ^ 12) (sym s.at) in
    let parts = parts_are new.parts
    (parts_after board m old.parts old.sp made reading.y pc c.args.leaving.r effect.stack) s.regs s.q s.mar s.ir s.flips
    s.pc s.r (s.stack ∙ ap (λ o. with_pushed old.parts.stack o old.parts.pc) c.moved-moved.ensures.pushed) in
    edge_are board m (standing_of old writes events) reading (leaving_of c.args.leaving) effect new.at
    (list_of c.args.terms.now.ops c.args.words.now reads) (list_of c.constant.new.terms.ops c.edge_made.new.words reads)
    made pc (c.in_ok-taken.ensures.listed reads)
    (c.in_ok-pc.ensures.listed c.edge_made.new.words reads ∙ ap (λ n. with_constant n 12 l1) counted)
    ∙ ap (λ (x : Standing). stands (list_of c.constant.new.terms.ops c.edge_made.new.words reads) x)
    (standing_is m old new reading writes events new.at (sp_after effect.stack (depth_of board) old.sp)
    (parts_after board m old.parts old.sp made reading.y pc c.args.leaving.r effect.stack) refl
    (s.sp ∙ c.moved-moved.ensures.sp) parts))
