-- What is kept of a path, as diagrams.
use Rattle.std.specs.Prelude.{◌≡◌, ℕ, List}
use Rattle.mw_term.specs.Table.{Extends, Table}
use Rattle.mw_term.specs.Functions.{Function}
use Rattle.mw_term.specs.Values as values
use Rattle.mw_dd.specs.Diagrams.{Keeps}
use Rattle.mw_dd.specs.Nodes.{Node, IsDd, function_of}
use Rattle.mw_blast.specs.declared.shared.Shared.{Shared}
use Rattle.mw_blast.specs.declared.split.Split.{Split}
use Rattle.mw_blast.specs.Kept.{IsOf}
use Rattle.mw_blast.specs.Shared.{IsShared}
use Rattle.mw_path.specs.declared.paths.Paths.{Paths}

-- the path that is kept
abbrev pub path_in : Paths → Function
path_in paths = function_of paths.dds paths.path

-- the path is a diagram, what was written stands at these places of the shared table, as far as there are places, and
-- the bits that were made are right for it and the diagrams
pub record ArePaths (w : Table) (nodes : List Node) (shared : Shared) (places : List ℕ) (path : ℕ) : Type 0 where
  pub there : IsDd nodes path
  pub share : IsShared w shared places nodes

-- what was made is right for its table and its diagrams, whatever was written
abbrev pub AreMade : Paths → Type 0
AreMade paths = IsOf paths.shared.terms paths.dds paths.shared.blast

-- What was made has grown: what stood in the table before stands there, and diagrams keep their functions.
pub record HaveGrown (old new : Paths) : Type 0 where
  pub nodes : Keeps old.dds new.dds
  pub extends : Extends old.shared.terms new.shared.terms
  pub terms : values.Keeps old.shared.terms new.shared.terms

-- so has it, and the path is the same
pub record StayOnPath (old new : Paths) : Type 0 where
  pub grown : HaveGrown old new
  pub path : new.path ≡ old.path

-- both paths of a split are diagrams
pub record AreTwo (nodes : List Node) (split : Split) : Type 0 where
  pub zero : IsDd nodes split.zero
  pub one : IsDd nodes split.one
