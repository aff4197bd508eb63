-- The files of a command, which are read from a shelf one after another as its plan asks for them: how far it has come.
use Rattle.std.specs.Prelude.{◌≡◌, ℕ, List, [], ◌∷◌, ◌++◌, length, slice_get, Option, Some}
use Rattle.mw_outside.specs.Views.{ShelfView}
use Rattle.mw_plan.specs.declared.fault.FileFault.{FileFault}
use Rattle.mw_plan.specs.Plan.{Plan, refused, file, after}
use Rattle.mw_plan.specs.Shelf.{AreRead}

-- the names of a command's files, in order, and the contents of the first so many, which were read and accepted
pub record FilesRead : Type 0 where
  pub names : List (List ℕ)
  pub contents : List (List ℕ)

-- the first file of which there are no contents
abbrev pub next_name : FilesRead → Option (List ℕ)
next_name files = slice_get files.names (length files.contents)

-- the contents were read, and this is what is left of the plan after them
pub record IsLeft {F A : Type 0} (plan : Plan F A) (shelf : ShelfView) (files : FilesRead)
    (left : Plan F A) : Type 0 where
  pub read : AreRead shelf files.names files.contents
  pub left_is : after plan files.contents ≡ Some left

-- the plan asks for this file next
pub record IsNext {F A : Type 0} (plan : Plan F A) (shelf : ShelfView) (files : FilesRead)
    (name : List ℕ) : Type 0 where
  pub next : List ℕ → Plan F A
  pub left : IsLeft plan shelf files (file next)
  pub name_is : next_name files ≡ Some name

-- this file was read too, and is refused for this fault
pub record IsRefusedAt {F A : Type 0} (plan : Plan F A) (shelf : ShelfView) (files : FilesRead) (name : List ℕ)
    (fault : FileFault F) : Type 0 where
  pub last : List ℕ
  pub left : IsLeft plan shelf (record files { contents = files.contents ++ last ∷ [] }) (refused fault)
  pub name_is : next_name files ≡ Some name
