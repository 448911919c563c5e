use Rattle.ft_cli.specs.stages.Command.{ran, unfetched}
use Rattle.ft_cli.proofs.replaying.replay_file.Goals as goal

pub returns-in-Ok-clause-outcome : goal.returns-in-Ok-clause-outcome
returns-in-Ok-clause-outcome g c = ran _ c.in-Ok.ensures.file (rw c.as_slice.ensures at c.replay_text.ensures)

pub returns-in-Err-clause-outcome : goal.returns-in-Err-clause-outcome
returns-in-Err-clause-outcome g c = unfetched c.in-Err.ensures.cause
