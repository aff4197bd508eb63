use Rattle.std.proofs.Common.{◌≡◌, ◌∙◌, ◌+◌, ◌<◌, length, slice_index, ap, arith, rules}
use Rattle.std.proofs.lemmas.List.{get_or_read}
use Rattle.mw_board.specs.Depth.{depth_of}
use Rattle.mw_board.proofs.Elements.{count_of}
use Rattle.mw_symboard.proofs.PartElements.{parts_are}
use Rattle.mw_symboard.proofs.parts.Parts.new.Goals as goal

pub copied-requires : goal.copied-requires
copied-requires c =
    let board = c.args.board.now in
    let es = c.args.elements.now in
    let size : length es ≡ 21 + length board.flipflop + depth_of board = c.requires ∙ count_of board in
    omega (arith, size)

pub copied-requires-2 : goal.copied-requires-2
copied-requires-2 c =
    let board = c.args.board.now in
    let es = c.args.elements.now in
    let size : length es ≡ 21 + length board.flipflop + depth_of board = c.requires ∙ count_of board in
    let flipflops : c.as_slice-count.result.now ≡ board.flipflop = search rules in
    let many : length c.as_slice-count.result.now ≡ length board.flipflop = ap length flipflops in
    omega (arith, size, many)

pub copied-requires-3 : goal.copied-requires-3
copied-requires-3 c =
    let board = c.args.board.now in
    let es = c.args.elements.now in
    let size : length es ≡ 21 + length board.flipflop + depth_of board = c.requires ∙ count_of board in
    let flipflops : c.as_slice-count.result.now ≡ board.flipflop = search rules in
    let many : length c.as_slice-count.result.now ≡ length board.flipflop = ap length flipflops in
    let deep : c.from.result ≡ depth_of board = search rules in
    omega (arith, size, many, deep)

pub bounds-elements-16 : goal.bounds-elements-16
bounds-elements-16 c =
    let board = c.args.board.now in
    let es = c.args.elements.now in
    let size : length es ≡ 21 + length board.flipflop + depth_of board = c.requires ∙ count_of board in
    let inside : 16 < length es = omega (arith, size) in
    inside

pub bounds-elements-17 : goal.bounds-elements-17
bounds-elements-17 c =
    let board = c.args.board.now in
    let es = c.args.elements.now in
    let size : length es ≡ 21 + length board.flipflop + depth_of board = c.requires ∙ count_of board in
    let inside : 17 < length es = omega (arith, size) in
    inside

pub bounds-elements-18 : goal.bounds-elements-18
bounds-elements-18 c =
    let board = c.args.board.now in
    let es = c.args.elements.now in
    let size : length es ≡ 21 + length board.flipflop + depth_of board = c.requires ∙ count_of board in
    let inside : 18 < length es = omega (arith, size) in
    inside

pub bounds-elements-pc : goal.bounds-elements-pc
bounds-elements-pc c =
    let board = c.args.board.now in
    let es = c.args.elements.now in
    let size : length es ≡ 21 + length board.flipflop + depth_of board = c.requires ∙ count_of board in
    let flipflops : c.as_slice-count.result.now ≡ board.flipflop = search rules in
    let many : length c.as_slice-count.result.now ≡ length board.flipflop = ap length flipflops in
    omega (arith, size, many)

pub bounds-elements-pc-2 : goal.bounds-elements-pc-2
bounds-elements-pc-2 c =
    let board = c.args.board.now in
    let es = c.args.elements.now in
    let size : length es ≡ 21 + length board.flipflop + depth_of board = c.requires ∙ count_of board in
    let flipflops : c.as_slice-count.result.now ≡ board.flipflop = search rules in
    let many : length c.as_slice-count.result.now ≡ length board.flipflop = ap length flipflops in
    omega (arith, size, many)

pub returns-clause-exact : goal.returns-clause-exact
returns-clause-exact c =
    let board = c.args.board.now in
    let es = c.args.elements.now in
    let size : length es ≡ 21 + length board.flipflop + depth_of board = c.requires ∙ count_of board in
    let flipflops : c.as_slice-count.result.now ≡ board.flipflop = search rules in
    let many : length c.as_slice-count.result.now ≡ length board.flipflop = ap length flipflops in
    let deep : c.from.result ≡ depth_of board = search rules in
    let f = length c.as_slice-count.result.now in
    parts_are board es
    (record {
      regs = c.in_ok-regs.regs.items;
      q = c.index-elements-16.result;
      mar = c.index-elements-17.result;
      ir = c.index-elements-18.result;
      flips = c.in_ok-flips.flips.items;
      pc = c.index-elements-pc.result;
      r = c.index-elements-pc-2.result;
      stack = c.in_ok-stack.stack.items;
    })
    (record {
      regs = λ k inside. (let same : 0 + k ≡ k = omega arith in
          c.in_ok-regs.ensures.each k inside ∙ ap (slice_index es) same);
      q = get_or_read es 16 c.index-elements-16.result (omega (arith, size)) c.index-elements-16.is 0;
      mar = get_or_read es 17 c.index-elements-17.result (omega (arith, size)) c.index-elements-17.is 0;
      ir = get_or_read es 18 c.index-elements-18.result (omega (arith, size)) c.index-elements-18.is 0;
      flips = λ k inside. c.in_ok-flips.ensures.each k (omega (arith, inside, many));
      pc = get_or_read es (19 + f) c.index-elements-pc.result (omega (arith, size, many)) c.index-elements-pc.is 0
          ∙ ap (λ n. slice_index es (19 + n)) many;
      r = get_or_read es (19 + f + 1) c.index-elements-pc-2.result
          (omega (arith, size, many)) c.index-elements-pc-2.is 0
          ∙ ap (λ n. slice_index es (19 + n + 1)) many;
      stack = λ k inside. c.in_ok-stack.ensures.each k (omega (arith, inside, deep))
          ∙ ap (λ n. slice_index es (19 + n + 2 + k)) many;
    })
