use Rattle.std.proofs.Common.{List, ℕ, [], ◌∷◌, ◌++◌, append_assoc, ap, codes, sym, ◌∙◌}
use Rattle.mw_rel.specs.Views.{job_of}
use Rattle.mw_top.specs.Report.{difference_text}
use Rattle.mw_top.proofs.Lines.{three_behind}
use Rattle.mw_top.proofs.report.append_difference_line.Goals as goal

pub returns-clause-line : goal.returns-clause-line
returns-clause-line c =
    let old = c.args.report.now.items in
    let text = difference_text (job_of c.args.job.now) c.args.difference in
    c.in_ok-append_line.ensures ∙ ap (λ (xs : List ℕ). xs ++ 10 ∷ [])
    (c.in_ok-append_difference.ensures.text ∙ ap (λ (xs : List ℕ). xs ++ text) c.in_ok-extend_from_slice.ensures.items)
    ∙ three_behind old (codes "difference ") text (10 ∷ [])
    ∙ ap (λ (xs : List ℕ). old ++ xs) (sym (append_assoc (codes "difference ") text (10 ∷ [])))
