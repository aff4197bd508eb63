-- What a run works on, with the diagrams of its path.
use Rattle.mw_path.specs.declared.paths.Paths.{Paths}
use Rattle.mw_path.specs.Paths.{ArePaths}
use Rattle.mw_space.specs.declared.space.Space.{Space}

-- the paths of a run are diagrams, and its bits are right for what was written in a space
abbrev pub HavePaths : Space → Paths → Type 0
HavePaths space paths = ArePaths space.terms paths.dds paths.shared paths.places paths.path
