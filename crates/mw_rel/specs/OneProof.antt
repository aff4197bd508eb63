-- What holds of every board has one proof at most, so that a job can keep it as a fact.
use Rattle.std.specs.Prelude.{ℕ, List, Option, Some, None}
use native.Mathlib.Nat.{ℕ_set}
use Rattle.std.specs.Coded.{Unit-prop, le_prop}
use Rattle.mw_board.specs.declared.bit.Bit.{Bit}
use Rattle.mw_board.specs.declared.bit.Bit.TheVariants as bits
use Rattle.mw_board.specs.declared.bit.DFrom.{DFrom}
use Rattle.mw_board.specs.declared.bit.DFrom.TheVariants as sources
use Rattle.mw_board.specs.declared.bit.Load.{Load}
use Rattle.mw_board.specs.declared.bit.Load.TheVariants as loads
use Rattle.mw_board.specs.declared.control.Control.{Control}
use Rattle.mw_board.specs.declared.control.Control.TheVariants as controls
use Rattle.mw_board.specs.declared.field.NamedField.{NamedField}
use Rattle.mw_board.specs.declared.parts.BoardParts.{BoardParts}
use Rattle.mw_board.specs.Valid.{IsBit, IsBoard, IsControl, IsFrom, IsLoad, IsMask, IsPoint}

-- so it is of a control
pub control_once : (fields : List NamedField) (control : Control) → IsProp (IsControl fields control)
control_once fields (controls.Field n) = Prim.hlevel le_prop
control_once fields (controls.Fixed value) = Unit-prop

-- of a control of a point
pub point_once : (bits : ℕ) (fields : List NamedField) (control : Control) → IsProp (IsPoint bits fields control)
point_once bits fields (controls.Field n) = Prim.hlevel le_prop
point_once bits fields (controls.Fixed value) = Prim.hlevel le_prop

-- of a bit
pub bit_once : (width flipflops : ℕ) (bit : Bit) → IsProp (IsBit width flipflops bit)
bit_once width flipflops (bits.Ir n) = Prim.hlevel le_prop
bit_once width flipflops (bits.Flip n) = Prim.hlevel le_prop
bit_once width flipflops other = Unit-prop

-- of a load
pub load_once : (width flipflops : ℕ) (load : Load) → IsProp (IsLoad width flipflops load)
load_once width flipflops (loads.Take bit) = bit_once width flipflops bit
load_once width flipflops other = Unit-prop

-- of a source of D
pub from_once : (fields flipflops : ℕ) (from : DFrom) → IsProp (IsFrom fields flipflops from)
from_once fields flipflops (sources.Field n) = Prim.hlevel le_prop
from_once fields flipflops (sources.Flip n) = Prim.hlevel le_prop
from_once fields flipflops other = Unit-prop

-- of a mask
pub mask_once : (width : ℕ) (mask : Option ℕ) → IsProp (IsMask width mask)
mask_once width None = Unit-prop
mask_once width (Some mask) = Prim.hlevel le_prop

-- and of the whole board
pub board_once : (p : BoardParts) → IsProp (IsBoard p)
board_once p = Prim.hlevel (control_once, point_once, bit_once, load_once, from_once, mask_once, le_prop, ℕ_set)
