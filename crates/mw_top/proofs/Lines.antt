-- The lines of a report, one after another.
use Rattle.std.proofs.Common.{◌≡◌, ℕ, List, ◌++◌, append_assoc, ap, ◌∙◌, codes}
use Rattle.mw_check.specs.declared.verdict.Summary.{Summary}
use Rattle.mw_rel.specs.Free.{numbered}
use Rattle.mw_rel.specs.Job.{Job}
use Rattle.mw_sim.specs.Texts.{line}
use Rattle.mw_top.specs.Commands.Certify.{boundary_text, count_text, states_text, summary_line}

-- three texts behind one
pub three_behind : (t a b c : List ℕ) → ((t ++ a) ++ b) ++ c ≡ t ++ (a ++ (b ++ c))
three_behind t a b c = append_assoc (t ++ a) b c ∙ append_assoc t a (b ++ c)

-- a line of a summary behind a text
pub summary_behind : (t : List ℕ) (job : Job) (number : ℕ) (summary : Summary)
    → ((((t ++ boundary_text job number) ++ count_text (codes " cases ") summary.cases)
    ++ count_text (codes " cycles ") summary.cycles) ++ codes " machine-states ")
    ++ line (states_text job (numbered job number)) ≡ t ++ summary_line job number summary
unfolding summary_line
summary_behind t job number summary =
    let a = boundary_text job number in
    let b = count_text (codes " cases ") summary.cases in
    let c = count_text (codes " cycles ") summary.cycles in
    let d = line (codes " machine-states " ++ states_text job (numbered job number)) in
    let front : ((t ++ a) ++ b) ++ c ≡ t ++ ((a ++ b) ++ c) =
    ap (λ (x : List ℕ). x ++ c) (append_assoc t a b) ∙ append_assoc t (a ++ b) c in
    append_assoc (((t ++ a) ++ b) ++ c) (codes " machine-states ") (line (states_text job (numbered job number)))
    ∙ ap (λ (x : List ℕ). x ++ d) front ∙ append_assoc t ((a ++ b) ++ c) d
