use Rattle.ft_measure.proofs.SmallLemmas.{linear-small}
use Rattle.ft_measure.proofs.law.linear_is_small.Goals as goal

pub returns : goal.returns
returns c = λ env asked e none. linear-small env e asked none
