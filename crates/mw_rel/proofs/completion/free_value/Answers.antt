use Rattle.std.proofs.Common.{sym, ◌∙◌, arith}
use Rattle.mw_rel.specs.Free.{is_free}
use Rattle.mw_rel.specs.Seen.{boundary_of}
use Rattle.mw_rel.proofs.Completed.{before_free, before_few}
use Rattle.mw_rel.proofs.completion.free_value.Goals as goal

pub offset_bounds-given-before : goal.offset_bounds-given-before
offset_bounds-given-before c =
    omega (arith, c.requires.before, c.requires.few, before_few (is_free (boundary_of c.args.at.now)) c.args.number)

pub bounds-given-before : goal.bounds-given-before
bounds-given-before c =
    let is = sym c.is_free_at.ensures ∙ c.if-is_free_at.true in
    omega
    (arith, c.requires.before, c.requires.room, before_free (is_free (boundary_of c.args.at.now)) c.args.number is)
