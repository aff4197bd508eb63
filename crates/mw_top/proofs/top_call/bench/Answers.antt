use Rattle.mw_top.proofs.Bounded.{end_bounds}
use Rattle.mw_top.proofs.Upgraded.{end_upgrade}
use Rattle.mw_top.proofs.Ends.{end_worked, end_usage, end_accepted, end_refused, end_complete}
use Rattle.mw_top.proofs.Played.{end_pal}
use Rattle.mw_top.proofs.Headlines.{end_no, end_settled, end_unknown, end_without_files, end_yes}
use Rattle.mw_top.proofs.top_call.bench.Goals as goal

pub returns-clause-usage : goal.returns-clause-usage
returns-clause-usage g c = λ is. rw is at c.run.ensures.end

pub returns-clause-usage_due : goal.returns-clause-usage_due
returns-clause-usage_due g c = end_usage _ _ c.run.ensures.end

pub returns-clause-answer : goal.returns-clause-answer
returns-clause-answer g c = end_worked _ _ c.run.ensures.end

pub returns-clause-yes : goal.returns-clause-yes
returns-clause-yes g c = λ asks is. end_yes _ (rw is at c.run.ensures.end) asks

pub returns-clause-no : goal.returns-clause-no
returns-clause-no g c = λ asks is. end_no _ (rw is at c.run.ensures.end) asks

pub returns-clause-unknown : goal.returns-clause-unknown
returns-clause-unknown g c = λ asks is. end_unknown _ (rw is at c.run.ensures.end) asks

pub returns-clause-settled : goal.returns-clause-settled
returns-clause-settled g c = end_settled _ _ c.run.ensures.end

pub returns-clause-bounds : goal.returns-clause-bounds
returns-clause-bounds g c = end_bounds _ _ c.run.ensures.end

pub returns-clause-upgrade : goal.returns-clause-upgrade
returns-clause-upgrade g c = end_upgrade _ _ c.run.ensures.end

pub returns-clause-pal : goal.returns-clause-pal
returns-clause-pal g c = end_pal _ _ c.run.ensures.end

pub returns-clause-without_files : goal.returns-clause-without_files
returns-clause-without_files g c = end_without_files _ _ c.run.ensures.end

pub returns-clause-answer_due : goal.returns-clause-answer_due
returns-clause-answer_due g c = end_accepted _ _ c.run.ensures.end

pub returns-clause-refused : goal.returns-clause-refused
returns-clause-refused g c = λ is. rw is at c.run.ensures.end

pub returns-clause-refused_due : goal.returns-clause-refused_due
returns-clause-refused_due g c = end_refused _ _ c.run.ensures.end

pub returns-clause-read_in_order : goal.returns-clause-read_in_order
returns-clause-read_in_order g c = λ is. rw is at c.run.ensures.end

pub returns-clause-write_fault : goal.returns-clause-write_fault
returns-clause-write_fault g c = λ is. rw is at c.run.ensures.end

pub returns-clause-no_memory : goal.returns-clause-no_memory
returns-clause-no_memory g c = λ is. rw is at c.run.ensures.end

pub returns-clause-complete : goal.returns-clause-complete
returns-clause-complete g c = end_complete _ _ c.run.ensures.end
