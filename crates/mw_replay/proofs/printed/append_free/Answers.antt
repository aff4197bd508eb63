use Rattle.std.proofs.Common.{◌≡◌, ℕ, ◌+◌, true, false, ◌++◌, List, append-nil, sym, ap, ◌∙◌}
use Rattle.mw_rel.specs.Free.{is_free, numbered}
use Rattle.mw_rel.specs.Views.{job_of}
use Rattle.mw_rel.proofs.Completed.{before_free, before_left}
use Rattle.mw_replay.proofs.LeftOut.{left_line}
use Rattle.mw_replay.proofs.printed.append_free.Goals as goal

pub returns-then-not-free-clause-after : goal.returns-then-not-free-clause-after
returns-then-not-free-clause-after c =
    let free = is_free (numbered (job_of c.args.job.now) c.args.boundary) in
    let left : free c.args.number ≡ false = sym c.free.ensures ∙ c.if-not-free.true in
    c.requires.before ∙ sym (before_left free c.args.number left)

pub returns-then-not-free-clause-exact : goal.returns-then-not-free-clause-exact
returns-then-not-free-clause-exact c =
    let free = is_free (numbered (job_of c.args.job.now) c.args.boundary) in
    let left : free c.args.number ≡ false = sym c.free.ensures ∙ c.if-not-free.true in
    sym (ap (λ (lines : List ℕ). c.args.text.now.items ++ lines)
    (left_line (job_of c.args.job.now) free c.args.values.now c.args.number left) ∙ append-nil c.args.text.now.items)

pub returns-clause-after : goal.returns-clause-after
returns-clause-after c =
    let free = is_free (numbered (job_of c.args.job.now) c.args.boundary) in
    let is : free c.args.number ≡ true = sym c.free.ensures ∙ c.if-not-free.false in
    ap (λ n. n + 1) c.requires.before ∙ sym (before_free free c.args.number is)
