use Rattle.std.proofs.Common.{ap, rules}
use Rattle.mw_board.specs.declared.parts.BoardParts.{BoardParts}
use Rattle.mw_symrows.proofs.Starting.{started}
use Rattle.mw_symrows.proofs.workspace.Run.over.Goals as goal

pub returns-clause-under : goal.returns-clause-under
returns-clause-under c = λ store.
    let board = c.args.board.now in
    let t = c.args.terms in
    let words = c.args.words in
    let m = c.new.result in
    let o = c.in_ok-symbolic.symbolic in
    let symbolic = c.in_ok-symbolic.ensures.symbolic store t words m (search rules) (search rules) c.requires.elements
    c.requires.line c.requires.free in
    started board store t words m o _ _ (search rules) c.is_memory_at_first.ensures c.requires.table c.requires.map
    c.requires.of c.requires.free
    (ap (λ (p : BoardParts). p.address) c.parts-parts.ensures.exact)
    (ap (λ (p : BoardParts). p.width) c.parts-parts.ensures.exact)
    c.new.ensures c.in_ok-symbolic.ensures.cycle c.in_ok-symbolic.ensures.taken symbolic
