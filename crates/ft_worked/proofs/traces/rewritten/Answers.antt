use Rattle.ft_worked.proofs.traces.rewritten.Goals as goal

pub write_trace-requires : goal.write_trace-requires
write_trace-requires c = c.in-Ok.ensures.values
