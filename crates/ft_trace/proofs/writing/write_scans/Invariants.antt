use Rattle.std.proofs.Common.{◌≡◌, ◌++◌, take, flat_map}
use Rattle.csv.specs.Writing.{default_writer, row_text}
use Rattle.ft_trace.specs.rows.Writer.{IsWhole, written}
use Rattle.ft_trace.specs.meaning.Writing.{fields_by, scan_field}
use Rattle.ft_trace.proofs.writing.write_scans.Given as goal

abbrev pub invariant-scans : goal.invariant-scans
invariant-scans l = record {
  whole : IsWhole l.writer;
  text : written l.writer ≡ written l.initial.writer ++ flat_map (λ scan. row_text default_writer
      (fields_by (scan_field scan) l.tables.vars)) (take l.scan l.history);
}
