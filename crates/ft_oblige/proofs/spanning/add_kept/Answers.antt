use Rattle.std.proofs.Common.{refl, length}
use Rattle.std.proofs.lemmas.Option.{slice_get_read}
use Rattle.ft_oblige.proofs.spanning.add_kept.Goals as goal

pub kept_span-requires : goal.kept_span-requires
kept_span-requires c =
    c.requires c.loop-memory.memory-index c.memory-item.result
    (slice_get_read c.args.memories.now (length c.args.memories.now) c.loop-memory.memory-index c.memory-item.result refl
    c.loop-memory-test.true c.memory-item.is)
