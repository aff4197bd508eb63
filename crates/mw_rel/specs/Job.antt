-- A job: a board with its microprogram, a described machine, and a relation between them.
use Rattle.std.specs.Prelude.{◌≡◌, ℕ, ◌≤◌, List, ◌++◌, map, take, All, Bool, ◌&&◌, ◌==◌}
use Rattle.mw_board.specs.declared.parts.BoardParts.{BoardParts}
use Rattle.mw_board.specs.Depth.{depth_of}
use Rattle.mw_board.specs.Elements.{elements_of}
use Rattle.mw_board.specs.Valid.{IsBoard}
use Rattle.mw_expr.specs.declared.shape.Shape.{Shape}
use Rattle.mw_macro.specs.Machine.{Description}
use Rattle.mw_macro.specs.Right.{IsMachine}
use Rattle.mw_rel.specs.Relation.{Boundary, Relation}
use Rattle.mw_rel.specs.Rules.{IsRelation}

-- the widths of the elements of both, the board's before the machine's registers, and those of the machine's memory
unfoldable pub shape_of : BoardParts → Description → Shape
shape_of board machine = record {
  widths = map (λ e. e.width) (elements_of board) ++ take machine.registers machine.shape.widths;
  address = machine.shape.address;
  word = machine.shape.word;
}

-- the board, its microwords from address 0 on, the described machine, and the relation
pub record Job : Type 0 where
  pub board : BoardParts
  pub store : List ℕ
  pub machine : Description
  pub relation : Relation

-- the job of these parts
abbrev pub job_with : BoardParts → List ℕ → Description → Relation → Job
job_with board store machine relation = record { board = board; store = store; machine = machine; relation = relation }

-- the relation was made for the shape of both, and each stack pointer is one of the board's
pub record AreForEachOther (board : BoardParts) (machine : Description) (relation : Relation) : Type 0 where
  pub shape : relation.shape ≡ shape_of board machine
  pub pointers : All (λ (boundary : Boundary). boundary.sp ≤ depth_of board) relation.boundaries

-- both memories have the same widths
abbrev pub memories_agree : BoardParts → Description → Bool
memories_agree board machine = (machine.shape.address == board.address) && (machine.shape.word == board.width)

-- a relation for a board and a machine, whose memories have the same widths
pub record AreMatched (board : BoardParts) (machine : Description) (r : Relation) : Type 0 where
  pub relation : IsRelation r
  pub parts : AreForEachOther board machine r
  pub address : machine.shape.address ≡ board.address
  pub word : machine.shape.word ≡ board.width

-- what each job that the code keeps is
pub record IsJob (job : Job) : Type 0 where
  pub board : IsBoard job.board
  pub machine : IsMachine job.machine
  pub matched : AreMatched job.board job.machine job.relation
