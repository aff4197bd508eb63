use Rattle.std.proofs.Common.{◌≡◌, [], take}
use Rattle.mw_cycle.specs.Trimmed.{IsTrimmed}
use Rattle.mw_term.specs.Assigned.{given_by}
use Rattle.mw_space.specs.Entries.{HasEntries}
use Rattle.mw_space.proofs.outside.environment_of.Given as goal

abbrev pub invariant-loop-word : goal.invariant-loop-word
invariant-loop-word l = record {
  entries : HasEntries l.side l.space.terms (take l.word-index l.space.words) (given_by l.given) l.env;
  wait : l.env.wait ≡ [];
  trimmed : IsTrimmed l.env;
}
