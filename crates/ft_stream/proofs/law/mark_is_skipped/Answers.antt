use Rattle.ft_stream.proofs.MarkLemmas.{first-mark, no-mark}
use Rattle.ft_stream.proofs.law.mark_is_skipped.Goals as goal

pub returns-clause-first : goal.returns-clause-first
returns-clause-first c = first-mark

pub returns-clause-none : goal.returns-clause-none
returns-clause-none c = no-mark
