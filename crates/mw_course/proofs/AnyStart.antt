-- At each boundary there is a start, and so there is a case.
use Rattle.std.proofs.Common.{ℕ, List, ◌<◌, ◌^◌, length, replicate, slice_index, refl}
use Rattle.std.proofs.lemmas.List.{length-replicate}
use Rattle.mw_term.specs.declared.decided.Decided.{Decided}
use Rattle.mw_cycle.specs.Environment.{no_values as no_lists}
use Rattle.mw_cycle.specs.SteadyEnvironment.{no_values}
use Rattle.mw_cycle.proofs.SteadyLists.{none_is}
use Rattle.mw_macro.proofs.Words.{zero_below}
use Rattle.mw_rel.specs.Begin.{Begin, IsBegin, free_elements}
use Rattle.mw_rel.specs.Case.{IsCase}
use Rattle.mw_rel.specs.SteadyCase.{IsStartAt, case_of}
use Rattle.mw_rel.specs.Free.{numbered}
use Rattle.mw_rel.specs.Job.{Job, IsJob}
use Rattle.mw_rel.specs.SteadyStart.{Start}
use Rattle.mw_ready.proofs.Cases.{case_with}
use Rattle.mw_rel.proofs.Choices.{each_choice_gives_a_pair}
use Rattle.mw_course.proofs.Grounds.{numbered_is}

-- where all is 0
abbrev nothing_at : (job : Job) (number : ℕ) → Begin
nothing_at job number = record {
  values = replicate (length (free_elements job (numbered job number))) 0;
  memory = replicate (2 ^ job.relation.shape.address) 0;
  env = no_lists;
}

nothing_begins : (job : Job) (number : ℕ) → IsBegin job (numbered job number) (nothing_at job number)
nothing_begins job number =
    let count = length (free_elements job (numbered job number)) in
    record {
      count = length-replicate {A = ℕ} count 0;
      values = λ i inside. zero_below count i
          (slice_index job.relation.shape.widths (slice_index (free_elements job (numbered job number)) i));
      memory = record {
        size = length-replicate {A = ℕ} (2 ^ job.relation.shape.address) 0;
        words = λ i. zero_below (2 ^ job.relation.shape.address) i job.relation.shape.word;
      };
    }

pub some_start : (job : Job) (number : ℕ) → IsJob job → number < length job.relation.boundaries
    → (start : Start) × IsStartAt job number start
some_start job number is there =
    let pair = each_choice_gives_a_pair job number (nothing_at job number) is there (nothing_begins job number) in
    let at = numbered_is job number there in (
      record {
        boundary = numbered job number;
        pair = pair.0;
        env = no_values;
      },
      record {
        begins = record {
          boundary = (number, at);
          related = pair.1.related;
          env = none_is job.board;
        };
        there = at;
      },
    )

pub some_case : (job : Job) (number : ℕ) → IsJob job → number < length job.relation.boundaries
    → (bits : List Decided) × IsCase job number bits
some_case job number is there =
    let one = some_start job number is there in
    (case_of job one.0, case_with job number (case_of job one.0) (record { start = one.0; starts = one.1; bits_are = refl }))
