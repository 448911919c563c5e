use Rattle.std.proofs.Common.{◌≡◌, [], take}
use Rattle.csv.specs.Records.{fields_of, partial_of}
use Rattle.ft_trace.specs.meaning.Writing.{fields_by, name_of}
use Rattle.ft_trace.proofs.writing.add_names.Given as goal

abbrev pub invariant-vars : goal.invariant-vars
invariant-vars l = record {
  whole : partial_of l.row ≡ [];
  added : fields_of l.row ≡ fields_by name_of (take l.var-index l.vars);
}
