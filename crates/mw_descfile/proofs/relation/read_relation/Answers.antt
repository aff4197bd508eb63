use Rattle.std.proofs.Common.{◌≡◌, List, ℕ, Ok, Err, Result, IfOk, OnOk, true}
use Rattle.mw_asm.specs.declared.assembled.Label.{Label}
use Rattle.mw_base.specs.declared.refusal.Refused.{Refused}
use Rattle.mw_base.specs.declared.refusal.TextFault.{TextFault}
use Rattle.mw_base.specs.Reading.{Gives}
use Rattle.mw_board.specs.declared.parts.BoardParts.{BoardParts}
use Rattle.mw_macro.specs.Machine.{Description}
use Rattle.mw_rel.specs.declared.relation.Relation.{Relation as Kept}
use Rattle.mw_rel.specs.Job.{AreForEachOther, memories_agree}
use Rattle.mw_rel.specs.Views.{relation_of as relation_seen}
use Rattle.mw_descfile.specs.Relation.{relation_of}
use Rattle.mw_descfile.proofs.Matched.{matched}
use Rattle.mw_descfile.proofs.relation.read_relation.Goals as goal

-- what the relation of a text gives is made for both
made_for : (board : BoardParts) (labels : List Label) (machine : Description) (text : List ℕ)
    (result : Result Kept (Refused TextFault)) → Gives relation_seen result (relation_of board labels machine text)
    → IfOk result (λ relation. AreForEachOther board machine (relation_seen relation))
made_for board labels machine text (Ok relation) is =
    (matched board labels machine text (relation_seen relation) is).made
made_for board labels machine text (Err refusal) is = tt

-- and their memories agree
agrees : (board : BoardParts) (labels : List Label) (machine : Description) (text : List ℕ)
    (result : Result Kept (Refused TextFault)) → Gives relation_seen result (relation_of board labels machine text)
    → OnOk result (memories_agree board machine ≡ true)
agrees board labels machine text (Ok relation) is =
    (matched board labels machine text (relation_seen relation) is).agree
agrees board labels machine text (Err refusal) is = tt

pub returns-clause-made : goal.returns-clause-made
returns-clause-made c = made_for _ _ _ _ _ c.relation_in.ensures

pub returns-clause-agree : goal.returns-clause-agree
returns-clause-agree c = agrees _ _ _ _ _ c.relation_in.ensures
