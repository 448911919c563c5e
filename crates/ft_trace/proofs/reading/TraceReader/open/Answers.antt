use Rattle.std.proofs.Common.{◌∙◌, sym}
use Rattle.csv.specs.Records.{fields_of}
use Rattle.ft_trace.specs.meaning.Source.{rows_left}
use Rattle.ft_trace.proofs.ReaderLemmas.{opened}
use Rattle.ft_trace.proofs.reading.TraceReader.open.Goals as goal

pub returns-clause-ok : goal.returns-clause-ok
returns-clause-ok c = opened c.args.tables.now c.args.bytes.now (fields_of c.take_record.new.row) (rows_left c.take_record.new.reader)
    (sym c.source-reader.ensures.rows ∙ (rw c.in-Ok-true.field-0-test at c.in-Ok-true.ensures.rows))
    (c.is_header.ensures.0 c.if-not-is_header.false)
