use Rattle.std.proofs.Common.{◌∙◌, sym}
use Rattle.csv.specs.Records.{fields_of}
use Rattle.ft_trace.proofs.RowLemmas.{field-is, no-field}
use Rattle.ft_trace.proofs.row.field_at.Goals as goal

pub unreachable-requires : goal.unreachable-requires
unreachable-requires c = no-field (fields_of c.args.row.now) c.args.place c.requires c.in_default.ensures.value

pub returns : goal.returns
returns c = sym (field-is (fields_of c.args.row.now) c.args.place) ∙ sym c.in-Some.ensures.value
