-- The table of the control points: in the order of their keys, with their names, their bits, and what drives them.
use Rattle.std.specs.Prelude.{ℕ, List, [], ◌∷◌, codes, Option, Some, None}
use Rattle.mw_board.specs.declared.control.Control.{Control}
use Rattle.mw_board.specs.declared.control.Control.TheVariants.{Fixed}
use Rattle.mw_board.specs.declared.control.Points.{Points}
use Rattle.mw_board.specs.declared.point.Point.{Point}
use Rattle.mw_board.specs.declared.point.Point.TheVariants.{AluSource, AluFunction, AluDestination, AAddress, BAddress}
use Rattle.mw_board.specs.declared.point.Point.TheVariants.{Sequencer, Branch, TestDisable, Polarity, Ci, Rld, MarLoad}
use Rattle.mw_board.specs.declared.point.Point.TheVariants.{IrLoad, MemoryWrite, Out, CarryIn, D, Condition, Link}

-- the control points, in the order of their keys
abbrev pub all_points : List Point
all_points =
    AluSource ∷ AluFunction ∷ AluDestination ∷ AAddress ∷ BAddress ∷ Sequencer ∷ Branch
    ∷ TestDisable ∷ Polarity ∷ Ci ∷ Rld ∷ MarLoad ∷ IrLoad ∷ MemoryWrite ∷ Out
    ∷ CarryIn ∷ D ∷ Condition ∷ Link ∷ []

-- the name of a point's key
abbrev pub name_of : Point → List ℕ
name_of AluSource = codes "alu_source"
name_of AluFunction = codes "alu_function"
name_of AluDestination = codes "alu_destination"
name_of AAddress = codes "a_address"
name_of BAddress = codes "b_address"
name_of Sequencer = codes "sequencer"
name_of Branch = codes "branch"
name_of TestDisable = codes "test_disable"
name_of Polarity = codes "polarity"
name_of Ci = codes "ci"
name_of Rld = codes "rld"
name_of MarLoad = codes "mar_load"
name_of IrLoad = codes "ir_load"
name_of MemoryWrite = codes "memory_write"
name_of Out = codes "out"
name_of CarryIn = codes "carry_in"
name_of D = codes "d"
name_of Condition = codes "condition"
name_of Link = codes "link"

-- how many bits the number has that a point takes; none where it chooses from a list
abbrev pub bits_of : Point → Option ℕ
bits_of AluSource = Some 3
bits_of AluFunction = Some 3
bits_of AluDestination = Some 3
bits_of AAddress = Some 4
bits_of BAddress = Some 4
bits_of Sequencer = Some 4
bits_of Branch = Some 12
bits_of TestDisable = Some 1
bits_of Polarity = Some 1
bits_of Ci = Some 1
bits_of Rld = Some 1
bits_of MarLoad = Some 1
bits_of IrLoad = Some 1
bits_of MemoryWrite = Some 1
bits_of Out = Some 1
bits_of CarryIn = None
bits_of D = None
bits_of Condition = None
bits_of Link = None

-- what drives a point
abbrev pub driver_of : Points → Point → Control
driver_of points AluSource = points.alu_source
driver_of points AluFunction = points.alu_function
driver_of points AluDestination = points.alu_destination
driver_of points AAddress = points.a_address
driver_of points BAddress = points.b_address
driver_of points Sequencer = points.sequencer
driver_of points Branch = points.branch
driver_of points TestDisable = points.test_disable
driver_of points Polarity = points.polarity
driver_of points Ci = points.ci
driver_of points Rld = points.rld
driver_of points MarLoad = points.mar_load
driver_of points IrLoad = points.ir_load
driver_of points MemoryWrite = points.memory_write
driver_of points Out = points.out
driver_of points CarryIn = points.carry_in
driver_of points D = points.d
driver_of points Condition = points.condition
driver_of points Link = points.link

-- the points, of which one has another driver
abbrev pub with_driver : Points → Point → Control → Points
with_driver points AluSource driver = record points { alu_source = driver }
with_driver points AluFunction driver = record points { alu_function = driver }
with_driver points AluDestination driver = record points { alu_destination = driver }
with_driver points AAddress driver = record points { a_address = driver }
with_driver points BAddress driver = record points { b_address = driver }
with_driver points Sequencer driver = record points { sequencer = driver }
with_driver points Branch driver = record points { branch = driver }
with_driver points TestDisable driver = record points { test_disable = driver }
with_driver points Polarity driver = record points { polarity = driver }
with_driver points Ci driver = record points { ci = driver }
with_driver points Rld driver = record points { rld = driver }
with_driver points MarLoad driver = record points { mar_load = driver }
with_driver points IrLoad driver = record points { ir_load = driver }
with_driver points MemoryWrite driver = record points { memory_write = driver }
with_driver points Out driver = record points { out = driver }
with_driver points CarryIn driver = record points { carry_in = driver }
with_driver points D driver = record points { d = driver }
with_driver points Condition driver = record points { condition = driver }
with_driver points Link driver = record points { link = driver }

-- where nothing drives a point: 0, and 1 into the microprogram counter
abbrev pub default_points : Points
default_points = record {
  alu_source = Fixed 0;
  alu_function = Fixed 0;
  alu_destination = Fixed 0;
  a_address = Fixed 0;
  b_address = Fixed 0;
  sequencer = Fixed 0;
  branch = Fixed 0;
  test_disable = Fixed 0;
  polarity = Fixed 0;
  ci = Fixed 1;
  rld = Fixed 0;
  mar_load = Fixed 0;
  ir_load = Fixed 0;
  memory_write = Fixed 0;
  out = Fixed 0;
  carry_in = Fixed 0;
  d = Fixed 0;
  condition = Fixed 0;
  link = Fixed 0;
}
