use Rattle.ft_trace.proofs.reading.read_trace.Goals as goal

pub returns-in-Err-clause-only : goal.returns-in-Err-clause-only
returns-in-Err-clause-only c = λ h is. c.history_or_fault.ensures c.args.tables.now c.args.bytes.now h c.in-Err.fault is
    c.in-Err.ensures.fault

pub returns-in-Ok-clause-one : goal.returns-in-Ok-clause-one
returns-in-Ok-clause-one c = λ h is. c.one_history.ensures c.args.tables.now c.args.bytes.now c.in-Ok.history h c.in-Ok.ensures.ok is
