use Rattle.ft_worked.proofs.traces.read.Goals as goal

pub returns-in-Ok : goal.returns-in-Ok
returns-in-Ok c = c.spelled_is_monitored.ensures c.args.set.now c.args.bytes.now c.in-Ok.history c.in-Ok.ensures.ok
