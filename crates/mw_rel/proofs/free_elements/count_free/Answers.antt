use Rattle.std.proofs.Common.{◌+◌, ap, sym, ◌∙◌}
use Rattle.mw_rel.specs.Free.{is_free}
use Rattle.mw_rel.specs.Seen.{boundary_of}
use Rattle.mw_rel.proofs.Completed.{before_free, before_left}
use Rattle.mw_rel.proofs.free_elements.count_free.Goals as goal

pub returns-then-is_free_at : goal.returns-then-is_free_at
returns-then-is_free_at c =
    let is = sym c.is_free_at.ensures ∙ c.if-is_free_at.true in
    ap (λ n. n + 1) c.requires.before ∙ sym (before_free (is_free (boundary_of c.args.at.now)) c.args.number is)

pub returns : goal.returns
returns c =
    let is = sym c.is_free_at.ensures ∙ c.if-is_free_at.false in
    c.requires.before ∙ sym (before_left (is_free (boundary_of c.args.at.now)) c.args.number is)
