use Rattle.std.proofs.Common.{◌≡◌, drop}
use Rattle.mw_rel.specs.Differs.{first_unlike, unlike_from}
use Rattle.mw_replay.proofs.difference.first_unlike.Given as goal

-- the lists are alike so far
abbrev pub invariant-loop-n : goal.invariant-loop-n
invariant-loop-n g l = first_unlike g.T.PartialEq.eq l.first l.second
    ≡ unlike_from g.T.PartialEq.eq l.n (drop l.n l.first) (drop l.n l.second)
