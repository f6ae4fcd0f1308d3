-- Every row of the table of a span's ranges is right. Computed.
-- Assumes nothing.
use mathlib.Core.Path.{◌≡◌, refl}
use mathlib.Core.Bool.{true}
use Rattle.text.specs.Text.{seek, leading_zero, digits, number_in}
use Rattle.values.specs.Values.{numbers, value_of}
use Rattle.record_lines.specs.Rows.{spans_row}
use Rattle.bounds.specs.SpanRows.{right, all_right, span_rows}

pub spans_right : all_right span_rows ≡ true
unfolding seek leading_zero digits number_in numbers value_of spans_row right all_right span_rows
spans_right = refl
