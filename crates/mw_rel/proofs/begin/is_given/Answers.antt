use Rattle.std.proofs.Common.{sym, ◌∙◌, refl}
use Rattle.mw_rel.specs.Free.{is_free}
use Rattle.mw_rel.specs.Seen.{boundary_of}
use Rattle.mw_rel.proofs.Choice.{given_at}
use Rattle.mw_rel.proofs.begin.is_given.Goals as goal

pub returns-then-is_free_at : goal.returns-then-is_free_at
returns-then-is_free_at c =
    let is = sym c.is_free_at.ensures ∙ c.if-is_free_at.true in
    rw c.has_word.ensures
    (given_at (is_free (boundary_of c.args.at.now)) c.args.given.now c.args.width c.args.number c.args.before
    c.requires.before is)

pub returns : goal.returns
returns c =
    let none = sym c.is_free_at.ensures ∙ c.if-is_free_at.false in
    (λ yes free. absurd cc, λ word. refl)
