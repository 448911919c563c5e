use Rattle.std.proofs.Common.{◌∙◌, ap}
use Rattle.ft_core.specs.meaning.Grids.{cells}
use Rattle.ft_claims.specs.declared.claim.Claim.TheVariants as claim
use Rattle.ft_oblige.proofs.WalkLemmas.{holds-all}
use Rattle.ft_oblige.proofs.nodes.no_cell.Goals as goal

pub returns : goal.returns
returns c = c.in_ok-whole.ensures ∙ ap (λ cs. claim.Not (claim.Or cs))
    (c.in_ok-cells.ensures ∙ holds-all c.args.tables.now c.args.frame.now (cells c.args.grid.now))
