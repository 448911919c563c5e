use Rattle.std.proofs.Common.{◌∙◌, ap, length}
use Rattle.ft_stream.proofs.StreamLemmas.{opened}
use Rattle.ft_stream.proofs.streaming.replay_trace.Goals as goal

pub returns-clause-told : goal.returns-clause-told
returns-clause-told c = c.replay_rest.ensures.told c.args.bytes.now
    (opened c.laws.ensures c.args.tables.now c.args.bytes.now c.in-Ok.reader c.in-Ok-Ok-Ok.replayer c.as_mut_slice.result.now
    c.in-Ok-Ok-Ok.ensures.set c.in-Ok-Ok-Ok.ensures.list c.in-Ok.ensures.ok
    (ap length c.as_mut_slice.ensures.value ∙ c.in-Ok-Ok-Ok.ensures'))
