-- The start that is given of a case, and starts that differ.
use Rattle.std.specs.Prelude.{◌≡◌, ◌≢◌, ℕ, List, None}
use Rattle.mw_term.specs.declared.decided.Decided.{Decided}
use Rattle.mw_rel.specs.Begin.{Begin}
use Rattle.mw_rel.specs.Case.{case_of}
use Rattle.mw_rel.specs.CaseWords.{case_words}
use Rattle.mw_rel.specs.Differs.{difference_of}
use Rattle.mw_rel.specs.Job.{Job}
use Rattle.mw_rel.specs.PathWords.{path_of}
use Rattle.mw_rel.specs.Sought.{IsSought}
use Rattle.mw_rel.specs.Start.{Start}
use Rattle.mw_term.specs.Assigned.{Numbers, given_by}
use Rattle.mw_term.specs.Functions.{Function}
use Rattle.mw_term.specs.WordList.{WordList}
use Rattle.mw_dd.specs.Diagrams.{IsFirst}
use Rattle.mw_course.specs.Begins.{IsAssigned, IsChosen}

-- It gives a start with this case.
pub record IsOfCase (job : Job) (number : ℕ) (bits : List Decided) (begin : Begin) : Type 0 where
  pub start : Start
  pub chosen : IsChosen job number begin start
  pub of_case : case_of job start ≡ bits

-- It is what the first assignment gives that takes the path of a case, in the case's list before anything is compared.
pub record IsFirstOfCase (job : Job) (number : ℕ) (bits : List Decided) (begin : Begin) : Type 0 where
  pub numbers : Numbers
  pub first : IsFirst (path_of job number bits) numbers
  pub assigned : IsAssigned job number (case_words job number bits).uncompared (given_by numbers) begin

-- It gives a start with this case, which differs.
pub record IsDiffering (job : Job) (number : ℕ) (bits : List Decided) (begin : Begin) : Type 0 where
  pub start : Start
  pub chosen : IsChosen job number begin start
  pub of_case : case_of job start ≡ bits
  pub differs : difference_of job start ≢ None

-- It is what the first assignment gives among those that are sought.
pub record IsLeast (job : Job) (number : ℕ) (bits : List Decided) (begin : Begin) : Type 0 where
  pub sought : Function
  pub list : WordList
  pub among : IsSought job number bits sought list
  pub numbers : Numbers
  pub first : IsFirst sought numbers
  pub assigned : IsAssigned job number list (given_by numbers) begin
