-- Path words: the operations by which a decided bit, or a comparison, splits the path so far.
use Rattle.mw_term.specs.Functions.{Function, never, Triple, ite}

-- the path where a bit is 0: of a decided bit for the value 0; and of a comparison, where both sides differ
abbrev pub path_zero : (path b : Function) → Triple
path_zero path b = ite b never path

-- the path where a decided bit is 1
abbrev pub path_one : (path b : Function) → Triple
path_one path b = ite b path never
