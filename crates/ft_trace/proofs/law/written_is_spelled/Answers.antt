use Rattle.ft_trace.proofs.WritingLemmas.{text-spells}
use Rattle.ft_trace.proofs.law.written_is_spelled.Goals as goal

pub returns : goal.returns
returns c = text-spells
