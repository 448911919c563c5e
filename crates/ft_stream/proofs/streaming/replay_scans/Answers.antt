use Rattle.std.proofs.Common.{◌∙◌, arith}
use Rattle.ft_stream.proofs.streaming.replay_scans.Goals as goal

pub scans-smaller : goal.scans-smaller
scans-smaller c =
    let streams = c.scans.invariant.streams c.requires.streams.0 c.requires.streams.1 in
    let more = rw c.in-Ok-None.field-0-is at c.in-Ok-None.ensures.next c.requires.streams.0 streams in
    omega (arith, more.0.given.so_far.few, more.1)

pub scans-preserved : goal.scans-preserved
scans-preserved c = record {
  room = c.replay_next.ensures.room ∙ c.scans.invariant.room;
  streams = λ bytes s. (rw c.in-Ok-None.field-0-is at c.in-Ok-None.ensures.next bytes (c.scans.invariant.streams bytes s)).0;
}

pub returns-in-Ok-Some-clause-stopped : goal.returns-in-Ok-Some-clause-stopped
returns-in-Ok-Some-clause-stopped c = λ bytes s.
    rw c.in-Ok-Some.field-0-is at c.in-Ok-Some.ensures.next bytes (c.scans.invariant.streams bytes s)

pub returns-in-Err-clause-fault : goal.returns-in-Err-clause-fault
returns-in-Err-clause-fault c = λ bytes s. c.in-Err.ensures.fault bytes (c.scans.invariant.streams bytes s)

pub replay_next-requires-clause-streams : goal.replay_next-requires-clause-streams
replay_next-requires-clause-streams c = (c.requires.streams.0, c.scans.invariant.streams c.requires.streams.0 c.requires.streams.1)
