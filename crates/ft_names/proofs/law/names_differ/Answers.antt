use Rattle.ft_names.proofs.DistinctLemmas.{names-differ}
use Rattle.ft_names.proofs.law.names_differ.Goals as goal

pub returns : goal.returns
returns c = names-differ
