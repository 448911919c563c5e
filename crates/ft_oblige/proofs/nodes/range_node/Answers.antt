use Rattle.std.proofs.Common.{◌∙◌, ap}
use Rattle.ft_core.specs.meaning.Grids.{cells}
use Rattle.ft_claims.specs.declared.claim.Claim.TheVariants as claim
use Rattle.ft_oblige.proofs.WalkLemmas.{outside-all}
use Rattle.ft_oblige.proofs.nodes.range_node.Goals as goal

pub returns : goal.returns
returns c = ap claim.Or (c.in_ok-cells.ensures ∙ outside-all c.args.tables.now c.args.frame.now (cells c.args.grid.now))
