-- The machine that the code keeps, seen as what it is made of.
use Rattle.mw_macro.specs.declared.machine.Machine.{Machine}
use Rattle.mw_macro.specs.Machine.{Description, described}
use Rattle.mw_macro.specs.Statements.{acts}

-- the description of a machine
abbrev pub description_of : Machine → Description
description_of m = described m.names.items m.registers m.shape (acts m.statements.items)
