use Rattle.std.proofs.Common.{◌≡◌, true, arith, rules}
use Rattle.std.proofs.lemmas.Bool.{and_parts}
use Rattle.mw_expr.specs.declared.shape.Shape.{Shape}
use Rattle.mw_expr.specs.Tree.{Tree, view}
use Rattle.mw_macro.specs.declared.statement.Statement.{the_lemmas}
use Rattle.mw_macro.specs.Right.{is_right, are_right}
use Rattle.mw_macro.specs.Statements.{Acts, act_of, acts, choose}
use Rattle.mw_macro.proofs.one_step.+runs.Goals as goal

-- what an `if` that is right has
lists_right : (s : Shape) (condition : Tree) (first second : Acts) → is_right s (choose condition first second) ≡ true
    → (are_right s first ≡ true) × (are_right s second ≡ true)
lists_right s condition first second right = and_parts _ _ (and_parts _ _ right).1

pub run-run_all-requires : goal.run-run_all-requires
run-run_all-requires t c =
    let seen : act_of c.args.statement.now
    ≡ choose (view c.in-If.condition) (acts c.in-If.first.items) (acts c.in-If.second.items) =
    rw c.in-If.is (search (rules, the_lemmas)) in
    let lists = lists_right _ _ _ _ (rw seen at c.requires.right) in
    let room = rw seen at c.requires.room in
    let few = rw seen at c.requires.few in
    let within = rw seen at c.requires.within in (
      search (rules, the_lemmas),
      (
        rw c.deref.ensures.value lists.0,
        (
          c.requires.values_fit,
          (
            c.requires.memory_fits,
            (
              c.requires.inputs_fit,
              (
                rw c.deref.ensures.value (omega arith),
                (rw c.deref.ensures.value (omega arith), (rw c.deref.ensures.value (omega arith))),
              ),
            ),
          ),
        ),
      ),
    )

pub run-run_all-requires-else-value-eq1 : goal.run-run_all-requires-else-value-eq1
run-run_all-requires-else-value-eq1 t c =
    let seen : act_of c.args.statement.now
    ≡ choose (view c.in-If.condition) (acts c.in-If.first.items) (acts c.in-If.second.items) =
    rw c.in-If.is (search (rules, the_lemmas)) in
    let lists = lists_right _ _ _ _ (rw seen at c.requires.right) in
    let room = rw seen at c.requires.room in
    let few = rw seen at c.requires.few in
    let within = rw seen at c.requires.within in (
      search (rules, the_lemmas),
      (
        rw c.deref-else-value-eq1.ensures.value lists.1,
        (
          c.requires.values_fit,
          (
            c.requires.memory_fits,
            (
              c.requires.inputs_fit,
              (
                rw c.deref-else-value-eq1.ensures.value (omega arith),
                (
                  rw c.deref-else-value-eq1.ensures.value (omega arith),
                  (rw c.deref-else-value-eq1.ensures.value (omega arith)),
                ),
              ),
            ),
          ),
        ),
      ),
    )
