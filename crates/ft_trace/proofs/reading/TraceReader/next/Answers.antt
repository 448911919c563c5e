use Rattle.std.proofs.Common.{◌≡◌, rules}
use Rattle.ft_trace.specs.meaning.Source.{rows_left}
use Rattle.ft_trace.proofs.ReaderLemmas.{gives, meets-fault}
use Rattle.ft_trace.proofs.reading.TraceReader.next.Goals as goal

pub returns-in-Ok-true-clause-ok : goal.returns-in-Ok-true-clause-ok
returns-in-Ok-true-clause-ok c = λ bytes h given. gives c.args.tables.now bytes h c.args.self.now given (search rules)
    c.read_scan.new.values _ (search rules) (search rules)
    (let scans : c.args.self.now.scans ≡ c.self.inside.scans = search rules in
    let rest : c.args.self.now.rest ≡ rows_left c.self.inside.reader = search rules in
    rw (scans, rest) (rw c.in-Ok-true.field-0-test at c.in-Ok-true.ensures.ok))

pub returns-in-Err-clause-fault : goal.returns-in-Err-clause-fault
returns-in-Err-clause-fault c = λ bytes h given. meets-fault c.args.tables.now bytes h c.args.self.now given (search rules) c.in-Err.fault _
    (search rules) (search rules)
    (let scans : c.args.self.now.scans ≡ c.self.inside.scans = search rules in
    let rest : c.args.self.now.rest ≡ rows_left c.self.inside.reader = search rules in
    rw (scans, rest) c.in-Err.ensures.fault)
