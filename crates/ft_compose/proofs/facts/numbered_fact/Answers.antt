use Rattle.ft_compose.proofs.FormLemmas.{numbered-made}
use Rattle.ft_compose.proofs.facts.numbered_fact.Goals as goal

pub returns : goal.returns
returns c =
    numbered-made c.args.tables.now c.args.number c.fact_at-at.result.block c.fact_at-at.result.fact c.fact_at-at.result.anew
    c.in_ok-made.made c.requires.above c.fact_at-at.ensures.is c.in_ok-made.ensures
