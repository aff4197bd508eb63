-- When a pair is in relation.
use Rattle.std.proofs.Common.{◌≡◌, Bool, true, false, ◌&&◌, ◌↔◌, sym, ◌∙◌}
use Rattle.std.specs.Prelude.{IsTrue, slice_index}
use Rattle.std.specs.List.{list_all}
use Rattle.std.proofs.lemmas.Bool.{and_parts, eqb-true, eq-eqb}
use Rattle.std.proofs.lemmas.List.Elements.{All-weaker}
use Rattle.std.proofs.lemmas.List.Sums.{AllPass-from_list_all, list_all-from_AllPass}
use Rattle.mw_rel.specs.InRelation.{Pair, InRelation, BothFit, StandsAt, values_of, right_value, line_holds}
use Rattle.mw_rel.specs.Job.{Job}
use Rattle.mw_rel.specs.Lines.{Line}
use Rattle.mw_rel.specs.Relation.{Boundary}

both : (a b : Bool) → IsTrue a → IsTrue b → IsTrue (a && b)
both true true one other = one
both true false one other = other
both false b one other = one

-- a pair whose states fit is in relation where it stands at the boundary and each line holds
pub related_if : (job : Job) (boundary : Boundary) (pair : Pair) (stands lines : Bool) → BothFit job pair
    → (IsTrue stands ↔ StandsAt boundary pair)
    → lines ≡ list_all (line_holds job pair) boundary.lines → IsTrue (stands && lines) ↔ InRelation job boundary pair
related_if job boundary pair stands lines fit at each = (
  (λ yes.
      let parts = and_parts stands lines yes in
      let there = at.0 parts.0 in
      record {
        board_fits = fit.board;
        machine_fits = fit.machine;
        at = there.at;
        sp = there.sp;
        memory = there.memory;
        lines = All-weaker (λ (line : Line). line_holds job pair line ≡ true)
            (λ (line : Line). slice_index (values_of job.board pair) line.left ≡ right_value job pair line)
            (λ line holds. eqb-true _ _ holds) boundary.lines
            (AllPass-from_list_all (line_holds job pair) boundary.lines (sym each ∙ parts.1));
      }),
  (λ related.
      both stands lines (at.1 (record { at = related.at; sp = related.sp; memory = related.memory }))
      (each ∙ list_all-from_AllPass (line_holds job pair) boundary.lines
      (All-weaker (λ (line : Line). slice_index (values_of job.board pair) line.left ≡ right_value job pair line)
      (λ (line : Line). line_holds job pair line ≡ true)
      (λ line holds. eq-eqb _ _ holds) boundary.lines related.lines))),
)
