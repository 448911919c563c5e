use Rattle.std.proofs.Common.{◌≡◌, map, take}
use Rattle.ft_mean.specs.judge.Scope.{reading_by}
use Rattle.ft_mean.specs.meaning.Reading.{begun, since}
use Rattle.ft_mean.specs.judge.Seen.{recalled}
use Rattle.ft_mean.proofs.recall.recalled_row.Given as goal

abbrev pub invariant-loop-memory : goal.invariant-loop-memory
invariant-loop-memory l = l.row ≡ map (λ memory. recalled (begun l.known.tables.now
    (reading_by l.known.tables.now l.known.scope l.known.scans.now) l.scan)
    (λ j. since l.known.tables.now (reading_by l.known.tables.now l.known.scope l.known.scans.now) j l.scan) l.seen memory l.scan)
    (take l.memory-index l.known.tables.now.memories)
