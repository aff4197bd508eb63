-- All control points that are printed are read.
use Rattle.std.proofs.Common.{◌≡◌, ◌≤◌, List, [], ◌∷◌, length, Ok, refl}
use Rattle.std.proofs.Common.{codes}
use Rattle.toml.specs.Data.{Members, get_member}
use Rattle.mw_board.specs.Order.{AreInOrder}
use Rattle.mw_board.specs.declared.control.Control.{Control}
use Rattle.mw_board.specs.declared.control.Control.TheVariants.{Fixed}
use Rattle.mw_board.specs.declared.control.Points.{Points}
use Rattle.mw_board.specs.declared.field.NamedField.{NamedField}
use Rattle.mw_board.specs.declared.point.Point.{Point}
use Rattle.mw_board.specs.declared.point.Point.TheVariants.{AluSource, AluFunction, AluDestination, AAddress, BAddress}
use Rattle.mw_board.specs.declared.point.Point.TheVariants.{Sequencer, Branch, TestDisable, Polarity, Ci, Rld, MarLoad}
use Rattle.mw_board.specs.declared.point.Point.TheVariants.{IrLoad, MemoryWrite, Out, CarryIn, D, Condition, Link}
use Rattle.mw_board.specs.Points.{all_points, name_of, driver_of, with_driver, default_points}
use Rattle.mw_board.specs.Rules.{DriversKeep}
use Rattle.mw_boardfile.specs.Control.{each_point, points_of}
use Rattle.mw_boardfile.specs.Printed.{unless_empty, usual_constant, driver_printed, points_printed}
use Rattle.mw_boardfile.specs.Tables.{table_of}
use Rattle.mw_boardfile.proofs.PrintedFields.{table_read}
use Rattle.mw_boardfile.proofs.PrintedPoints.{IsPrintable, point_read}
use Rattle.mw_boardfile.proofs.Tables.{found}

-- each of these points is driven as without a key, and so it stays while the others are read
abbrev AreUsual : Points → List Point → Type 0
AreUsual before [] = Unit {0}
AreUsual before (point ∷ rest) =
    (driver_of before point ≡ Fixed (usual_constant point))
    × ((driver : Control) → AreUsual (with_driver before point driver) rest)

-- the points, of which these are driven as others
abbrev as_in : Points → Points → List Point → Points
as_in points before [] = before
as_in points before (point ∷ rest) = as_in points (with_driver before point (driver_of points point)) rest

points_in_turn : (fields : List NamedField) (points : Points) (control : Members) (before : Points) (rest : List Point)
    → AreInOrder fields → length fields ≤ 64 → ((point : Point) → IsPrintable fields (driver_of points point))
    → DriversKeep fields points → AreUsual before rest
    → ((point : Point) → get_member (name_of point) control ≡ driver_printed fields point (driver_of points point))
    → each_point fields control before rest ≡ Ok (as_in points before rest)
unfolding each_point
points_in_turn fields points control before [] order few are keep usual there = refl
points_in_turn fields points control before (point ∷ rest) order few are keep usual there =
    let driver = driver_of points point in
    rw (there point, point_read fields before point driver order few (are point) (keep point) usual.0)
    (points_in_turn fields points control (with_driver before point driver) rest order few are keep (usual.1 driver)
    there)

usual_points : AreUsual default_points all_points
usual_points = (
  refl,
  λ a. (
    refl,
    λ b. (
      refl,
      λ c. (
        refl,
        λ d. (
          refl,
          λ e. (
            refl,
            λ f. (
              refl,
              λ g. (
                refl,
                λ h. (
                  refl,
                  λ i. (
                    refl,
                    λ j. (
                      refl,
                      λ k. (
                        refl,
                        λ l. (
                          refl,
                          λ m. (
                            refl,
                            λ n. (
                              refl,
                              λ o. (
                                refl,
                                λ p. (
                                  refl,
                                  λ q. (
                                    refl,
                                    λ r.
                                        (refl, λ s. tt),
                                  ),
                                ),
                              ),
                            ),
                          ),
                        ),
                      ),
                    ),
                  ),
                ),
              ),
            ),
          ),
        ),
      ),
    ),
  ),
)

each_there : (fields : List NamedField) (points : Points) (point : Point)
    → get_member (name_of point) (table_of (points_printed fields points))
    ≡ driver_printed fields point (driver_of points point)
each_there fields points AluSource = found (points_printed fields points) refl (name_of AluSource)
each_there fields points AluFunction = found (points_printed fields points) refl (name_of AluFunction)
each_there fields points AluDestination = found (points_printed fields points) refl (name_of AluDestination)
each_there fields points AAddress = found (points_printed fields points) refl (name_of AAddress)
each_there fields points BAddress = found (points_printed fields points) refl (name_of BAddress)
each_there fields points Sequencer = found (points_printed fields points) refl (name_of Sequencer)
each_there fields points Branch = found (points_printed fields points) refl (name_of Branch)
each_there fields points TestDisable = found (points_printed fields points) refl (name_of TestDisable)
each_there fields points Polarity = found (points_printed fields points) refl (name_of Polarity)
each_there fields points Ci = found (points_printed fields points) refl (name_of Ci)
each_there fields points Rld = found (points_printed fields points) refl (name_of Rld)
each_there fields points MarLoad = found (points_printed fields points) refl (name_of MarLoad)
each_there fields points IrLoad = found (points_printed fields points) refl (name_of IrLoad)
each_there fields points MemoryWrite = found (points_printed fields points) refl (name_of MemoryWrite)
each_there fields points Out = found (points_printed fields points) refl (name_of Out)
each_there fields points CarryIn = found (points_printed fields points) refl (name_of CarryIn)
each_there fields points D = found (points_printed fields points) refl (name_of D)
each_there fields points Condition = found (points_printed fields points) refl (name_of Condition)
each_there fields points Link = found (points_printed fields points) refl (name_of Link)

-- a document with these control points
pub points_read : (fields : List NamedField) (points : Points) (document : Members) → AreInOrder fields
    → length fields ≤ 64 → ((point : Point) → IsPrintable fields (driver_of points point)) → DriversKeep fields points
    → get_member (codes "control") document ≡ unless_empty (table_of (points_printed fields points))
    → points_of fields document ≡ Ok points
unfolding points_of
points_read fields points document order few are keep there =
    rw (there, table_read (table_of (points_printed fields points)))
    (points_in_turn fields points (table_of (points_printed fields points)) default_points all_points order few are keep
    usual_points (each_there fields points))
