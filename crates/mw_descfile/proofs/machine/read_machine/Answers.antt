use Rattle.std.proofs.Common.{List, sym, subst}
use Rattle.std.specs.List.{All}
use Rattle.mw_base.specs.declared.line.Line.{Line}
use Rattle.mw_descfile.specs.Kept.{AreSpelled}
use Rattle.mw_descfile.proofs.Spelled.{lines_spelled}
use Rattle.mw_descfile.proofs.machine.read_machine.Goals as goal

pub known_of-requires : goal.known_of-requires
known_of-requires c =
    let text = c.args.text.now in
    record {
      spelled = subst (λ (lines : List Line). All (λ line. AreSpelled text line.tokens) lines)
          (sym c.deref.ensures.value) (lines_spelled text c.in_ok-lines.lines.items c.in_ok-lines.ensures.ordered);
    }
