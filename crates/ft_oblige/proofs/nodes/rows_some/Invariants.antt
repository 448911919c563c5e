use Rattle.std.proofs.Common.{◌≡◌, map, take}
use Rattle.std.specs.List.{zip}
use Rattle.ft_claims.specs.meaning.Coverage.{row_some}
use Rattle.ft_oblige.proofs.nodes.rows_some.Given as goal

abbrev pub invariant-loop-at : goal.invariant-loop-at
invariant-loop-at l = l.list ≡ map (row_some l.tables l.frame) (take l.at (zip l.rows l.grid))
