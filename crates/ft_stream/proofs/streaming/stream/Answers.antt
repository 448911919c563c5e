use Rattle.ft_stream.proofs.streaming.stream.Goals as goal

pub returns-in-Err-clause-only : goal.returns-in-Err-clause-only
returns-in-Err-clause-only c = λ h is. c.history_or_fault.ensures c.args.tables.now c.args.bytes.now h c.in-Err.fault is
    c.in-Err.ensures.fault
