use Rattle.std.proofs.Common.{[], ◌∷◌, ◌++◌, arith, ap, refl, sym, subst, ◌∙◌}
use Rattle.std.proofs.lemmas.Result.{err_from_is_err_and}
use Rattle.mw_rel.specs.Views.{job_of}
use Rattle.mw_fork.specs.declared.budget.Budget.{Budget}
use Rattle.mw_fork.specs.Walks.{IsNextBehind}
use Rattle.mw_fork.proofs.Walking.{all_given, few_given, gives_case, next_behind, none_given, one_more, said_of}
use Rattle.mw_fork.proofs.Walking.{stops_at_case, stops_at_next}
use Rattle.mw_fork.proofs.walk.walk_on.Goals as goal

pub loop-case-init : goal.loop-case-init
loop-case-init g c =
    record {
      cases = [];
      given = none_given (job_of c.args.job.now) c.args.fork.now.boundary c.args.fork.now.budget c.args.fork.now
          c.requires.of refl refl c.requires.before c.requires.given;
      says = c.requires.none;
    }

pub returns-in_err-case-clause-fault : goal.returns-in_err-case-clause-fault
returns-in_err-case-clause-fault g c =
    let job = job_of c.args.job.now in
    let was = c.loop-case.invariant in
    let error = err_from_is_err_and c.from_residual.result c.from_residual.ensures.1 in
    let e = c.in_err-case.ensures in
    rw error.1 (rw (sym error.2) at (stops_at_next job c.args.fork.now.boundary c.args.fork.now.budget c.loop-case.fork
    g.V.Visitor.compares was.cases
    (λ cases. (last : g.row.V.Denot) × g.V.Visitor.has_seen c.args.visitor.now last job c.args.fork.now.boundary c.args.fork.now.budget
    cases) _ (record { paths = e.paths; over = e.over; cause = e.cause; before = e.before })
    was.given (c.loop-case.visitor, was.says)))

pub visit-requires-clause-seen : goal.visit-requires-clause-seen
visit-requires-clause-seen g c =
    let job = job_of c.args.job.now in
    let was = c.loop-case.invariant in
    let said = c.in_ok-case.ensures in
    let here = sym (said.boundary ∙ was.given.boundary) in
    let few = rw c.in-Some.is at said.within in
    let paths = ap (λ (b : Budget). b.paths) was.given.budget_is in (
      c.args.visitor.now,
      was.cases,
      subst (λ n. IsNextBehind job n was.cases c.in-Some.case.prefix) here
          (next_behind job c.args.fork.now.boundary c.args.fork.now.budget _ _ was.cases _ was.given
          (gives_case job _ _ _ _ c.in-Some.is said.of said.boundary said.budget said.case said.at said.given)),
      omega (arith, was.given.given, few, paths, c.requires.most),
      said_of (λ n b. g.V.Visitor.has_seen c.args.visitor.now c.loop-case.visitor job n b was.cases) _ _ _ _ here
          (sym (said.budget ∙ was.given.budget_is)) was.says,
    )

pub returns-in_err-stop-clause-fault : goal.returns-in_err-stop-clause-fault
returns-in_err-stop-clause-fault g c =
    let job = job_of c.args.job.now in
    let was = c.loop-case.invariant in
    let said = c.in_ok-case.ensures in
    let error = err_from_is_err_and c.from_residual-in_err-stop.result c.from_residual-in_err-stop.ensures.1 in
    rw error.1 (rw (sym error.2) at (stops_at_case job c.args.fork.now.boundary c.args.fork.now.budget c.next_case.new.self
    g.V.Visitor.compares was.cases c.in-Some.case.prefix
    (λ cases. (last : g.row.V.Denot) × g.V.Visitor.has_seen c.args.visitor.now last job c.args.fork.now.boundary c.args.fork.now.budget
    cases) _ c.in_err-stop.ensures.fault (said.boundary ∙ was.given.boundary) (said.budget ∙ was.given.budget_is)
    (next_behind job c.args.fork.now.boundary c.args.fork.now.budget _ _ was.cases _ was.given
    (gives_case job _ _ _ _ c.in-Some.is said.of said.boundary said.budget said.case said.at said.given))
    (c.loop-case.visitor, was.says)))

pub returns-in-Break-clause-stop : goal.returns-in-Break-clause-stop
returns-in-Break-clause-stop g c = λ stop same.
    (let job = job_of c.args.job.now in
    let was = c.loop-case.invariant in
    let said = c.in_ok-case.ensures in (
      c.loop-case.visitor,
      record {
        cases = was.cases;
        bits = c.in-Some.case.prefix;
        next = next_behind job c.args.fork.now.boundary c.args.fork.now.budget _ _ was.cases _ was.given
            (gives_case job _ _ _ _ c.in-Some.is said.of said.boundary said.budget said.case said.at said.given);
        says = was.says;
        stops = said_of (λ n b. g.V.Visitor.stops c.loop-case.visitor job n b c.in-Some.case.prefix stop) _ _ _ _
            (said.boundary ∙ was.given.boundary) (said.budget ∙ was.given.budget_is)
            (c.in_ok-stop.ensures.stops stop (c.in-Break.is ∙ same));
      },
    ))

pub loop-case-preserved : goal.loop-case-preserved
loop-case-preserved g c =
    let job = job_of c.args.job.now in
    let was = c.loop-case.invariant in
    let said = c.in_ok-case.ensures in
    let here = said.boundary ∙ was.given.boundary in
    let same = said.budget ∙ was.given.budget_is in
    let bits = c.in-Some.case.prefix in
    let gives =
    gives_case job c.loop-case.fork c.next_case.new.self _ _ c.in-Some.is said.of said.boundary said.budget said.case
    said.at said.given in
    let seen = c.in_ok-stop.ensures.seen c.in_default-2.is c.args.visitor.now was.cases
    (subst (λ n. IsNextBehind job n was.cases bits) (sym here)
    (next_behind job c.args.fork.now.boundary c.args.fork.now.budget _ _ was.cases _ was.given gives))
    (said_of (λ n b. g.V.Visitor.has_seen c.args.visitor.now c.loop-case.visitor job n b was.cases) _ _ _ _ (sym here)
    (sym same) was.says) in
    record {
      cases = was.cases ++ bits ∷ [];
      given = rw c.in_ok-stop.ensures.same
          (one_more job c.args.fork.now.boundary c.args.fork.now.budget _ _ was.cases bits c.args.job.now.is_job was.given gives);
      says = said_of
          (λ n b. g.V.Visitor.has_seen c.args.visitor.now c.visit.new.self job n b (was.cases ++ bits ∷ [])) _ _ _ _
          here same seen;
    }

pub returns-clause-all : goal.returns-clause-all
returns-clause-all g c = λ same.
    (let job = job_of c.args.job.now in
    let was = c.loop-case.invariant in
    record {
      cases = was.cases;
      all = all_given job c.args.fork.now.boundary c.args.fork.now.budget c.loop-case.fork was.cases was.given
          (c.in_ok-case.ensures.none c.in_default.is);
      few = few_given job c.args.fork.now.boundary c.args.fork.now.budget c.loop-case.fork was.cases was.given;
      says = was.says;
    })
