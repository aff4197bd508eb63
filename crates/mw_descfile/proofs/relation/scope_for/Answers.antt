use Rattle.mw_macro.specs.Described.{description_of}
use Rattle.mw_descfile.proofs.Scopes.{scope_kept}
use Rattle.mw_descfile.proofs.relation.scope_for.Goals as goal

pub returns-clause-kept : goal.returns-clause-kept
returns-clause-kept c =
    rw (c.from_vec.ensures, c.in_ok-names_of.ensures, c.in_ok-shape_of.ensures)
    (scope_kept c.args.board.now (description_of c.args.machine.now) c.parts.ensures.valid
    c.args.machine.now.is_machine)
