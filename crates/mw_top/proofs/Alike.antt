-- What is answered to the same work by requests that differ in nothing but `--parts`.
use Rattle.std.proofs.Common.{◌≡◌, List, ℕ, sym, ap₂, ◌∙◌, subst}
use Rattle.mw_plan.specs.Plan.{after}
use Rattle.mw_top.specs.declared.commands.Work.{Work}
use Rattle.mw_top.specs.Commands.Table.{plan_of, IsAnswer}
use Rattle.mw_top.specs.Laws.{PartsChangeNothing}
use Rattle.mw_top.specs.Request.{RequestData, task_of}
use Rattle.mw_top.proofs.Made.{done_once, made_so}
use Rattle.mw_top.proofs.Works.{IsDetermined, answer_once, determined}

pub parts_change_nothing : PartsChangeNothing
parts_change_nothing call other status otherwise report text parts worked again one asks same =
    let plans = ap₂ (λ (r : RequestData) (contents : List (List ℕ)). after (plan_of (task_of r)) contents) asks same in
    let made : again.work ≡ worked.work =
    done_once again.work worked.work (sym again.made.left_is ∙ plans ∙ worked.made.left_is) in
    let task = task_of worked.request in
    let only = made_so IsDetermined (plan_of task) worked.contents worked.work (determined task one)
    worked.made.left_is in
    let answer = subst (λ (r : RequestData). IsAnswer r again.work otherwise text) asks again.answer in
    answer_once worked.request parts worked.work status otherwise report text only worked.answer
    (subst (λ (w : Work). IsAnswer (record worked.request { parts = parts }) w otherwise text) made answer)
