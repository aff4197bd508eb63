use Rattle.std.proofs.Common.{◌≡◌, ℕ, List, ap, refl, subst, sym, true}
use Rattle.std.proofs.lemmas.Result.{err_from_is_err_and}
use Rattle.std.specs.Option.{is_some}
use Rattle.std.specs.Prelude.{Option, Some}
use Rattle.mw_dd.specs.Nodes.{function_of}
use Rattle.mw_decide.proofs.Remaining.{for_some, some_of_both}
use Rattle.mw_decide.specs.Decisions.{GoesOnAs, IsListed}
use Rattle.mw_decide.specs.SpacePaths.{HavePaths}
use Rattle.mw_explore.specs.KeptBits.{IsChosen}
use Rattle.mw_path.specs.Paths.{path_in}
use Rattle.mw_rel.specs.CaseWords.{CaseWords, bit_values}
use Rattle.mw_rel.specs.WordTree.{WordTree}
use Rattle.mw_revise.specs.TwinWords.{twin_tree}
use Rattle.mw_space.specs.declared.space.Space.{Space}
use Rattle.mw_term.specs.declared.decided.Decided.{Decided}
use Rattle.mw_term.specs.declared.decided.DecidedKind.{DecidedKind}
use Rattle.mw_twin.proofs.Numbered.{numbered_where_asked}
use Rattle.mw_twin.specs.Courses.{ground_of}
use Rattle.mw_twin.specs.Grounds.{HaveTwinStarts}
use Rattle.mw_twinfork.proofs.Budgets.{stops_by, within_more}
use Rattle.mw_twinfork.proofs.Choosing.{has_decided, is_chosen, listed_on, some_on_path}
use Rattle.mw_twinfork.proofs.EndsMet.{starts_on}
use Rattle.mw_twinfork.proofs.NextOn.{IsNextOn, next_on}
use Rattle.mw_twinfork.proofs.OthersWait.{other_waits, terms_given, waits_on}
use Rattle.mw_twinfork.specs.declared.twins.Twins.{Twins}
use Rattle.mw_twinfork.specs.Stops.{StopsBy}
use Rattle.mw_twinfork.specs.Traces.{Traced}
use Rattle.mw_twinfork.specs.TwinCases.{Asks, IsCaseAt}
use Rattle.mw_twinfork.proofs.cases.TwinsCaseTree.decide.Goals as goal

module _ (t : Twins) (traced : Traced) (bits : List Decided) (kind : DecidedKind) (term : ℕ)
    (asks : Asks t traced bits kind term) where
  -- what is waited for
  next : IsNextOn t.revised bits (path_in traced.paths) traced.course kind term
  next = next_on t.revised bits (path_in traced.paths) traced.course traced.course.new_board kind term
      asks.asking.waits asks.asking.on

  -- the twin starts of what it works on
  have : HaveTwinStarts t.revised.revision t.revised.block (ground_of traced.course)
  have = starts_on t.revised (ground_of traced.course) bits (path_in traced.paths) next.revised next.on

  -- its word list
  listed : IsListed (twin_tree t.revised.revision t.revised.block) bits traced.course.space (path_in traced.paths)
      term
  listed = listed_on t.revised.revision t.revised.block traced.course.old_elements.items
      traced.course.new_elements.items bits traced.course.space (path_in traced.paths) term next.on next.asks

-- one that is there is some
some_is : (o : Option ℕ) (x : ℕ) → o ≡ Some x → is_some o ≡ true
some_is o x is = subst (λ (p : Option ℕ). is_some p ≡ true) (sym is) refl

pub decide-requires-clause-table : goal.decide-requires-clause-table
decide-requires-clause-table g c =
    (next c.args.self.now c.args.course.now c.requires.0 c.args._kind c.args.term c.requires.1).on.stands.space.workspace.table

pub decide-requires-clause-wide : goal.decide-requires-clause-wide
decide-requires-clause-wide g c =
    (next c.args.self.now c.args.course.now c.requires.0 c.args._kind c.args.term c.requires.1).wide

pub returns-clause-chosen : goal.returns-clause-chosen
returns-clause-chosen g c = λ bits asks leads.
    let t = c.args.self.now in
    let s = t.revised in
    let old = c.args.course.now in
    let kind = c.args._kind in
    let choice = c.in_ok-decision.decision in
    let n = next t old bits kind c.args.term asks in
    subst (IsChosen (IsCaseAt t) bits kind choice.value) (sym c.in_ok-other.ensures.same)
    (is_chosen s.revision s.block (ground_of old.course) bits (path_in old.paths) kind c.args.term choice.value
    (is_some choice.other) (have t old bits kind c.args.term asks) n.on n.next c.in_ok-decision.ensures.first)

pub returns-clause-come : goal.returns-clause-come
returns-clause-come g c = λ bits asks.
    let t = c.args.self.now in
    let s = t.revised in
    let old = c.args.course.now in
    let kind = c.args._kind in
    let term = c.args.term in
    let path = path_in old.paths in
    let paths = c.decide.new.paths in
    let new = c.decide-2.new.self in
    let value = c.in_ok-decision.decision.value in
    let e = c.in_ok-decision.ensures in
    let given = c.decide-2.ensures in
    let n = next t old bits kind term asks in
    let there = have t old bits kind term asks in
    let list = listed t old bits kind term asks in
    let at = some_on_path s.revision s.block (ground_of old.course) bits path there n.on in
    let has = has_decided s.revision s.block (ground_of old.course) bits path (path_in paths) kind term value there n.on
    n.next (e.first at.0 at.1).has e.by (e.goes (twin_tree s.revision s.block) bits list) in
    let laws = c.courses_take_bits.ensures in
    record {
      going = record {
        ready = laws.ready s old.course new kind term value asks.asking.waits given;
        terms = terms_given s value old.course new given asks.asking.terms;
        on = laws.on s bits path (path_in paths) old.course new kind term value asks.asking.waits asks.asking.on given
            has;
        paths = subst (λ (space : Space). HavePaths space paths) (sym given.space) e.paths;
      };
      within = within_more s t.nodes old.course.space old.course.old_elements.items old.course.new_elements.items bits
          path kind term value n.on n.asks n.wide n.next (e.within (twin_tree s.revision s.block) bits list)
          asks.within;
    }

pub returns-clause-other : goal.returns-clause-other
returns-clause-other g c =
    let t = c.args.self.now in
    let s = t.revised in
    let old = c.args.course.now in
    let kind = c.args._kind in
    let term = c.args.term in
    let path = path_in old.paths in
    let paths = c.decide.new.paths in
    let e = c.in_ok-decision.ensures in
    let other = c.in_ok-decision.decision.other in
    some_of_both _ _ c.in_ok-other.other other c.in_ok-other.ensures.same c.in_ok-other.ensures.other
    (λ w to is copy bits asks.
    let n = next t old bits kind term asks in
    let there = have t old bits kind term asks in
    let list = listed t old bits kind term asks in
    let at = some_on_path s.revision s.block (ground_of old.course) bits path there n.on in
    let goes = for_some (λ p. (tree : WordTree) (before : List Decided)
    → IsListed tree before old.course.space path term → GoesOnAs tree before true (function_of paths.dds p)) other to
    is e.turns in
    let has = has_decided s.revision s.block (ground_of old.course) bits path (function_of paths.dds to) kind term true
    there n.on n.next ((e.first at.0 at.1).turns (some_is other to is)) (for_some _ other to is e.turned)
    (goes (twin_tree s.revision s.block) bits list) in
    let laws = c.courses_take_bits.ensures in
    record {
      waits = other_waits s bits old paths w to kind term laws.ready laws.on asks.asking e.paths
          (for_some _ other to is e.there) has copy;
      within = within_more s t.nodes old.course.space old.course.old_elements.items old.course.new_elements.items bits
          path kind term true n.on n.asks n.wide n.next (e.within (twin_tree s.revision s.block) bits list) asks.within;
    })

pub returns-clause-waiting : goal.returns-clause-waiting
returns-clause-waiting g c = λ w bits waiting.
    let e = c.in_ok-decision.ensures in
    record {
      waits = waits_on c.args.self.now.revised c.args.course.now.paths c.decide.new.paths bits w
          c.stands_with_more.ensures.table e.grown e.paths.share.bits waiting.waits;
      within = waiting.within;
    }

pub returns-in_err-decision-clause-over : goal.returns-in_err-decision-clause-over
returns-in_err-decision-clause-over g c =
    let t = c.args.self.now in
    let s = t.revised in
    let old = c.args.course.now in
    let p = err_from_is_err_and c.from_residual.result c.from_residual.ensures.1 in
    rw (p.1, p.2) (λ place same bits asks leads.
    let n = next t old bits c.args._kind c.args.term asks in
    let list = listed t old bits c.args._kind c.args.term asks in
    subst (StopsBy s t.nodes bits) same
    (stops_by s t.nodes bits _ n.on.feasible
    (c.in_err-decision.ensures.over (twin_tree s.revision s.block) bits list
    (numbered_where_asked s.revision s.block (bit_values bits) (rw (ap (λ (w : CaseWords). w.asked) list.asks) refl)))))
