use Rattle.ft_port.proofs.CountsLemmas.{all-unread}
use Rattle.ft_port.proofs.mem_shelf.MemShelf.new.Goals as goal

pub returns-clause-unread : goal.returns-clause-unread
returns-clause-unread c = rw (← c.as_slice-file-items.ensures) (all-unread (λ file. file.0) c.as_slice-file-items.result.now
    c.loop-file.file-index c.loop-file.counts.items c.loop-file.invariant c.loop-file-test.false)
