use Rattle.ft_core.proofs.TestLemmas.{by-tests}
use Rattle.ft_core.proofs.law.checked_by_tests.Goals as goal

pub returns : goal.returns
returns c = by-tests
