use Rattle.ft_compose.proofs.FormLemmas.{block-there, fact-there}
use Rattle.ft_compose.proofs.deciding.fact_in.Goals as goal

pub get-owner-requires : goal.get-owner-requires
get-owner-requires c = block-there c.args.tables.now c.args.at.block c.args.at.fact c.requires

pub get-requires : goal.get-requires
get-requires c = fact-there c.args.tables.now c.args.at.block c.args.at.fact c.get-owner.result.now c.requires c.get-owner.ensures

pub returns : goal.returns
returns c = (c.get-owner.result.now, record { in_set = c.get-owner.ensures; in_block = c.get.ensures })
