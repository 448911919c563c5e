use Rattle.std.proofs.Common.{◌≡◌, length}
use Rattle.ft_core.specs.meaning.Kinds.{monitored, place_of}
use Rattle.ft_stream.proofs.rows.zeros.Given as goal

abbrev pub invariant-loop-var : goal.invariant-loop-var
invariant-loop-var l = length l.row.items ≡ place_of monitored l.tables.vars l.var-index
