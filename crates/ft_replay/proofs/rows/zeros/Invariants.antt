use Rattle.std.proofs.Common.{◌≡◌, length}
use Rattle.ft_core.specs.meaning.Kinds.{place_of}
use Rattle.ft_replay.specs.scans.Rows.{class_of}
use Rattle.ft_replay.proofs.rows.zeros.Given as goal

abbrev pub invariant-loop-variable : goal.invariant-loop-variable
invariant-loop-variable l = length l.row.items ≡ place_of (class_of l.class) l.tables.vars l.variable
