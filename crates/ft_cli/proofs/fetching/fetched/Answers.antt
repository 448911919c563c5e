use Rattle.ft_cli.proofs.TopLemmas.{unfetched-cause}
use Rattle.ft_cli.proofs.fetching.fetched.Goals as goal

pub returns-in-Err-clause-cause : goal.returns-in-Err-clause-cause
returns-in-Err-clause-cause g c = unfetched-cause _ _ _ _ c.unfetched.ensures (rw c.limit_for.ensures at c.in-Err.ensures.cause)
