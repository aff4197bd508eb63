use Rattle.std.proofs.Common.{◌≡◌, subst}
use Rattle.std.specs.Prelude.{IfSome}
use Rattle.mw_explore.specs.Cases.{At}
use Rattle.mw_callrows.proofs.calls.differs.push_next.Goals as goal

pub push_twice-requires-clause-given : goal.push_twice-requires-clause-given
push_twice-requires-clause-given g c = (
  c.in-Ok-Some.case.prefix,
  subst (λ found. IfSome found (λ case. c.next_case.new.self.at ≡ At case.prefix)) c.in-Ok-Some.field-0-is
      c.in-Ok-Some.ensures.at,
)
