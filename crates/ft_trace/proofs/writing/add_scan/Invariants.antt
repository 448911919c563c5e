use Rattle.std.proofs.Common.{◌≡◌, [], take}
use Rattle.csv.specs.Records.{fields_of, partial_of}
use Rattle.ft_trace.specs.meaning.Writing.{fields_by, scan_field}
use Rattle.ft_trace.proofs.writing.add_scan.Given as goal

abbrev pub invariant-vars : goal.invariant-vars
invariant-vars l = record {
  whole : partial_of l.row ≡ [];
  added : fields_of l.row ≡ fields_by (scan_field l.scan) (take l.at l.tables.vars);
}
