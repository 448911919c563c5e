use Rattle.ft_trace.proofs.ReaderLemmas.{less-left}
use Rattle.ft_trace.proofs.reading.read_all.Goals as goal

pub scans-smaller : goal.scans-smaller
scans-smaller c =
    let ok = rw c.in-Ok-true.field-0-test at c.in-Ok-true.ensures.ok c.requires.given.0 c.scans.history
    (c.scans.invariant.given c.requires.given.0 c.requires.given.1) in
    less-left c.scans.history c.add.new.self c.next.new.values ok.so_far.few c.in-Ok.ensures.ok

pub returns-in-Ok-false-clause-ok : goal.returns-in-Ok-false-clause-ok
returns-in-Ok-false-clause-ok c = λ bytes given.
    (rw c.in-Ok-false.field-0-test at c.in-Ok-false.ensures.ok bytes c.scans.history (c.scans.invariant.given bytes given)).0

pub returns-in-Err-clause-fault : goal.returns-in-Err-clause-fault
returns-in-Err-clause-fault c = λ bytes given. (c.in-Err.ensures.fault bytes c.scans.history (c.scans.invariant.given bytes given)).0
