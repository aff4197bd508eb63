-- The line that begins a block.
use Rattle.std.specs.Prelude.{codes, Result, Ok}
use Rattle.mw_base.specs.declared.refusal.TextFault.{TextFault}
use Rattle.mw_base.specs.Cursors.{Cursor, number_at, place_at, first_word, end_at}
use Rattle.mw_base.specs.Reading.{◌>>=◌}
use Rattle.mw_revise.specs.declared.beginning.Beginning.{Beginning}

-- boundary PLACE BOUND
unfoldable pub beginning_of : Cursor → Result Beginning TextFault
beginning_of line = do
  word ← first_word (codes "boundary") line
  place ← place_at 1 line
  bound ← number_at 2 line
  end ← end_at 3 line
  Ok (record { word = word; place = place; bound = bound })
