use Rattle.std.proofs.Common.{◌≡◌, ℕ, List, ap, sym, subst, ◌∙◌}
use Rattle.std.specs.Prelude.{Bool, Option, Some, None, IfSome, cond, true, not}
use Rattle.mw_dd.specs.Nodes.{Node, function_of}
use Rattle.mw_decide.specs.Decisions.{GoesOnAs, IsFirstOn, IsListed}
use Rattle.mw_path.specs.Paths.{path_in}
use Rattle.mw_rel.specs.WordTree.{WordTree}
use Rattle.mw_symboard.specs.Paths.{IsBy}
use Rattle.mw_term.specs.declared.decided.Decided.{Decided}
use Rattle.mw_term.specs.Functions.{Function}
use Rattle.mw_decide.proofs.FirstValues.{first_on, part_is_by, part_is_made}
use Rattle.mw_decide.proofs.OverWords.{stops_in}
use Rattle.mw_decide.proofs.WordPaths.{goes_on_as, within_split}
use Rattle.mw_decide.proofs.deciding.decide.Given.{Over}
use Rattle.mw_decide.proofs.deciding.decide.Goals.{After-other_path}
use Rattle.mw_decide.proofs.deciding.decide.Goals as goal

-- ---- the value that is gone on with

-- the path is the part of it with that value
next_is : (g : Over) (c : After-other_path g)
    → function_of c.split.new.self.dds (cond (not c.feasible-feasible.result.zero) c.in-Ok.split.one c.in-Ok.split.zero)
    ≡ path_in c.go.new.self
next_is g c =
    ap (function_of c.split.new.self.dds) (sym c.go.ensures.path)
    ∙ ap (λ (ns : List Node). function_of ns c.go.new.self.path) (sym c.go.ensures.dds)

pub returns-clause-first : goal.returns-clause-first
returns-clause-first g c = λ given holds.
    let feasible = c.feasible-feasible.result in
    let e = c.feasible-feasible.ensures in
    subst (IsFirstOn c.args.space.now.terms c.args.term (path_in c.args.paths.now) (not feasible.zero))
    (sym c.other_path.ensures.same)
    (first_on c.args.space.now.terms c.split.new.self.dds c.args.term (path_in c.args.paths.now) _ c.in-Ok.split feasible
    given c.requires.table c.requires.wide c.in-Ok.ensures.split (record {
      zero_somewhere = e.zero_somewhere;
      one_somewhere = e.one_somewhere;
      zero_nowhere = e.zero.0;
      one_nowhere = e.one.0;
    }) holds)

pub returns-clause-by : goal.returns-clause-by
returns-clause-by g c =
    let path = path_in c.args.paths.now in
    let value = not c.feasible-feasible.result.zero in
    subst (IsBy c.args.space.now.terms c.args.term value path) (next_is g c)
    (part_is_by c.args.space.now.terms c.split.new.self.dds c.args.term path _ c.in-Ok.split value c.requires.table
    c.requires.wide c.in-Ok.ensures.split)

pub returns-clause-goes : goal.returns-clause-goes
returns-clause-goes g c = λ tree bits listed.
    let path = path_in c.args.paths.now in
    let value = not c.feasible-feasible.result.zero in
    subst (GoesOnAs tree bits value) (next_is g c)
    (goes_on_as tree bits c.args.space.now path _ c.args.term value listed
    (part_is_made c.split.new.self.dds path _ _ c.in-Ok.split value c.in-Ok.ensures.split))

-- ---- the other one

-- the path that waits is the part of it with 1
other_is : (g : Over) (c : After-other_path g) (path : ℕ) → path ≡ c.in-Ok.split.one
    → function_of c.split.new.self.dds c.in-Ok.split.one ≡ function_of c.go.new.self.dds path
other_is g c path is =
    ap (function_of c.split.new.self.dds) (sym is) ∙ ap (λ (ns : List Node). function_of ns path) (sym c.go.ensures.dds)

turned_by : (g : Over) (c : After-other_path g) (other : Option ℕ)
    → IfSome other (λ path. (path ≡ c.in-Ok.split.one) × (c.feasible-feasible.result.zero ≡ true)
    × (c.feasible-feasible.result.one ≡ true))
    → IfSome other (λ path. IsBy c.args.space.now.terms c.args.term true (path_in c.args.paths.now)
    (function_of c.go.new.self.dds path))
turned_by g c None is = is
turned_by g c (Some path) is =
    let old = path_in c.args.paths.now in
    subst (IsBy c.args.space.now.terms c.args.term true old) (other_is g c path is.0)
    (part_is_by c.args.space.now.terms c.split.new.self.dds c.args.term old _ c.in-Ok.split true c.requires.table
    c.requires.wide c.in-Ok.ensures.split)

pub returns-clause-turned : goal.returns-clause-turned
returns-clause-turned g c = turned_by g c c.other_path.result c.other_path.ensures.some

turns_as : (g : Over) (c : After-other_path g) (other : Option ℕ)
    → IfSome other (λ path. (path ≡ c.in-Ok.split.one) × (c.feasible-feasible.result.zero ≡ true)
    × (c.feasible-feasible.result.one ≡ true))
    → IfSome other (λ path. (tree : WordTree) (bits : List Decided)
    → IsListed tree bits c.args.space.now (path_in c.args.paths.now) c.args.term
    → GoesOnAs tree bits true (function_of c.go.new.self.dds path))
turns_as g c None is = is
turns_as g c (Some path) is = λ tree bits listed.
    let old = path_in c.args.paths.now in
    subst (GoesOnAs tree bits true) (other_is g c path is.0)
    (goes_on_as tree bits c.args.space.now old _ c.args.term true listed
    (part_is_made c.split.new.self.dds old _ _ c.in-Ok.split true c.in-Ok.ensures.split))

pub returns-clause-turns : goal.returns-clause-turns
returns-clause-turns g c = turns_as g c c.other_path.result c.other_path.ensures.some

-- ---- budgets

pub returns-clause-within : goal.returns-clause-within
returns-clause-within g c = λ tree bits listed.
    within_split tree c.args.nodes bits c.args.space.now (path_in c.args.paths.now) c.args.term _ c.in-Ok.split listed
    c.in-Ok.ensures.split

pub returns-in-Err-clause-over : goal.returns-in-Err-clause-over
returns-in-Err-clause-over g c = λ tree bits listed numbered.
    stops_in tree c.args.nodes bits c.args.space.now _ (path_in c.args.paths.now) c.args.term c.in-Err.fault
    c.stop_of.result c.over_have_numbers.ensures.over numbered listed c.in-Err.ensures.over
    (record { over = c.stop_of.ensures.over; none = c.stop_of.ensures.none })
