use Rattle.std.proofs.Common.{◌≡◌, take}
use Rattle.ft_search.specs.searching.Kept.{nodes_by}
use Rattle.ft_search.proofs.reading.nodes_of.Given as goal

abbrev pub invariant-loop-place : goal.invariant-loop-place
invariant-loop-place l = l.nodes ≡ nodes_by l.formula (take l.place l.kept.items)
