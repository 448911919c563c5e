use Rattle.ft_stream.proofs.SpelledLemmas.{is_monitored}
use Rattle.ft_stream.proofs.law.spelled_is_monitored.Goals as goal

pub returns : goal.returns
returns c = is_monitored c.laws.ensures.at_place
