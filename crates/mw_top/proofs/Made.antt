-- What plans make of files.
use Rattle.std.proofs.Common.{◌≡◌, ℕ, List, [], ◌∷◌, Bool, true, false, if◌then◌else◌, Option, Some, Result, Ok, Err}
use Rattle.std.proofs.Common.{subst, length, nat_lt}
use Rattle.mw_asm.specs.declared.assembled.Label.{Label}
use Rattle.mw_asm.specs.Microprogram.{store_of}
use Rattle.mw_boardfile.specs.Board.{board_of}
use Rattle.mw_descfile.specs.Machine.{machine_of}
use Rattle.mw_descfile.specs.Relation.{relation_of}
use Rattle.mw_plan.specs.declared.fault.FileFault.TheVariants.{TooLong}
use Rattle.mw_plan.specs.Plan.{Plan, done, refused, file, ◌>>=◌, after, first_by, read_as}
use Rattle.mw_rel.specs.Job.{Job, job_with}
use Rattle.mw_top.specs.declared.commands.Work.{Work}
use Rattle.mw_top.specs.declared.fault.Fault.{Fault}
use Rattle.mw_top.specs.declared.fault.Fault.TheVariants.{Board, Text}
use Rattle.mw_top.specs.Commands.Job.{job_plan}

-- whatever the files are, a plan makes nothing but what is so
abbrev pub MakesOnly : (Work → Type 0) → Plan Fault Work → Type 0
MakesOnly Is (done work) = Is work
MakesOnly Is (refused fault) = Unit {0}
MakesOnly Is (file next) = (bytes : List ℕ) → MakesOnly Is (next bytes)

-- what comes of a file, by whether it is too long and by what its reader makes of it, and then the rest
makes_of : (Is : Work → Type 0) {G X : Type 0} (kind : G → Fault) (rest : X → Plan Fault Work) (long : Bool)
    (made : Result X G) → ((x : X) → MakesOnly Is (rest x))
    → MakesOnly Is ((if long then refused TooLong else read_as kind made) >>= rest)
makes_of Is kind rest true made only = tt
makes_of Is kind rest false (Ok x) only = only x
makes_of Is kind rest false (Err fault) only = tt

-- a plan that reads a file and goes on with such plans is one
pub makes_after : (Is : Work → Type 0) {G X : Type 0} (kind : G → Fault) (reader : List ℕ → Result X G)
    (rest : X → Plan Fault Work) → ((x : X) → MakesOnly Is (rest x)) → MakesOnly Is (first_by kind reader rest)
makes_after Is kind reader rest only bytes = makes_of Is kind rest (nat_lt 1048576 (length bytes)) (reader bytes) only

-- so is one that reads the files of a job
pub makes_of_job : (Is : Work → Type 0) (rest : Job → List Label → Plan Fault Work)
    → ((job : Job) (labels : List Label) → MakesOnly Is (rest job labels)) → MakesOnly Is (job_plan rest)
makes_of_job Is rest only =
    makes_after Is Board board_of _ (λ board.
    makes_after Is Text (store_of board) _ (λ made.
    makes_after Is Text machine_of _ (λ machine.
    makes_after Is Text (relation_of board made.labels machine) _ (λ relation.
    only (job_with board made.store.words machine relation) made.labels))))

pub done_once : (a b : Work) → ◌≡◌ {A = Option (Plan Fault Work)} (Some (done a)) (Some (done b)) → a ≡ b
done_once a b same = cc

-- what it is done with is so
pub made_so : (Is : Work → Type 0) (plan : Plan Fault Work) (contents : List (List ℕ)) (work : Work) → MakesOnly Is plan
    → after plan contents ≡ Some (done work) → Is work
made_so Is (done made) [] work only is = subst Is (done_once made work is) only
made_so Is (refused fault) [] work only is = absurd cc
made_so Is (file next) [] work only is = absurd cc
made_so Is (file next) (bytes ∷ rest) work only is = made_so Is (next bytes) rest work (only bytes) is
made_so Is (done made) (bytes ∷ rest) work only is = absurd cc
made_so Is (refused fault) (bytes ∷ rest) work only is = absurd cc
