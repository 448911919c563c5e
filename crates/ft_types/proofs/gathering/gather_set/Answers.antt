use Rattle.std.proofs.Common.{[]}
use Rattle.ft_types.proofs.GatherLemmas.{nothing-gathered}
use Rattle.ft_types.proofs.gathering.gather_set.Goals as goal

pub returns : goal.returns
returns c = c.in_ok-gather_items.ensures.gathers [] (nothing-gathered c.new-titles.result c.new-titles.ensures)
