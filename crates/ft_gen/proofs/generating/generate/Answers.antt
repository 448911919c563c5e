use Rattle.ft_gen.proofs.BareLemmas.{bare-made}
use Rattle.ft_gen.proofs.TextLemmas.{set-made, text-made}
use Rattle.ft_gen.proofs.generating.generate.Goals as goal

pub invariant_of-result : goal.invariant_of-result
invariant_of-result c =
    record { lawful = set-made c.args.n _ _ c.requires.least c.requires.greatest c.in_ok-name.ensures c.in_ok-items.ensures }

pub returns-clause-text : goal.returns-clause-text
returns-clause-text c = text-made c.args.n _ _ c.requires.least c.requires.greatest c.in_ok-name.ensures c.in_ok-items.ensures

pub returns-clause-places : goal.returns-clause-places
returns-clause-places c = bare-made c.args.n _ _ c.in_ok-items.ensures
