-- The rows of a small table.
use Rattle.std.proofs.Common.{refl}
use Rattle.mw_term.specs.Examples.{FirstRows, SumRows, RowsEnd, RowsAsWritten}
use Rattle.mw_term.specs.Rows.{operations, row_bits}
use Rattle.mw_term.specs.Table.{op_width}

first_rows : FirstRows
unfolding operations row_bits op_width
first_rows = record {
  not_row = refl;
  and_row = refl;
  or_row = refl;
  choice_row = refl;
  xor_row = refl;
  equal_row = refl;
  less_row = refl;
  entry_row = refl;
}

sum_rows : SumRows
unfolding operations row_bits op_width
sum_rows = record { sum_row = refl; carry_row = refl; overflow_row = refl; top_row = refl }

rows_end : RowsEnd
unfolding operations row_bits op_width
rows_end = record {
  not_end = refl;
  and_end = refl;
  or_end = refl;
  xor_end = refl;
  sum_end = refl;
  carry_end = refl;
  overflow_end = refl;
  equal_end = refl;
  less_end = refl;
  choice_end = refl;
  entry_end = refl;
}

pub rows_as_written : RowsAsWritten
rows_as_written = record { first = first_rows; sums = sum_rows; ends = rows_end }
