use Rattle.std.proofs.Common.{◌≡◌, ◌+◌, ◌≤◌, length, refl, sym, arith}
use Rattle.std.specs.Prelude.{Some}
use Rattle.mw_base.specs.declared.token.Kind.{Kind}
use Rattle.mw_base.specs.Pieces.{Spells}
use Rattle.mw_base.specs.Tokens.{slice, token_at}
use Rattle.mw_base.proofs.Lists.{with_front_twice}
use Rattle.mw_base.proofs.Orders.{slice_in}
use Rattle.mw_base.proofs.Stretches.{piece_read, piece_fails}
use Rattle.mw_base.proofs.scan.push_piece.Goals as goal

pub returns-in-Ok-push_token-clause-goes : goal.returns-in-Ok-push_token-clause-goes
returns-in-Ok-push_token-clause-goes c =
    let read = piece_read c.args.number c.args.start c.args.at c.args.line.now c.in-Ok.piece c.requires.inside
    (sym c.in-Ok.ensures.exact) c.in-Ok.ensures.within.0 c.in-Ok.ensures.within.1 in
    rw (
      c.in-Ok-push_token.ensures.pushed,
      with_front_twice c.args.tokens.now.items
          (token_at c.args.number c.args.start c.args.at c.in-Ok.piece.kind c.in-Ok.piece.length) _,
      read,
    ) refl

pub returns-in-Err-clause-refused : goal.returns-in-Err-clause-refused
returns-in-Err-clause-refused c =
    rw c.fault_at.ensures (piece_fails c.args.number c.args.start c.args.at c.args.line.now c.in-Err.cause
    c.requires.inside (sym c.in-Err.ensures.exact))

pub returns-in-Ok-push_token-clause-ordered : goal.returns-in-Ok-push_token-clause-ordered
returns-in-Ok-push_token-clause-ordered c = λ text front is old.
    let inside : c.args.at + c.in-Ok.piece.length ≤ length c.args.line.now = omega (arith, c.in-Ok.ensures.within) in
    let sliced = slice_in text c.args.start c.args.at c.in-Ok.piece.length c.args.line.now is inside in
    let spelled : (kind : Kind) → c.in-Ok.piece.kind ≡ Some kind
    → Spells (slice text (c.args.start + c.args.at) (c.args.start + c.args.at + c.in-Ok.piece.length)) kind =
    λ kind k. rw sliced (c.in-Ok.ensures.spelled kind k) in
    let next : c.args.start + (c.args.at + c.in-Ok.piece.length) ≡ c.args.start + c.args.at + c.in-Ok.piece.length =
    omega arith in
    rw next (c.in-Ok-push_token.ensures.ordered text front spelled old)
