use Rattle.ft_trace.proofs.OneHistory.{one-history}
use Rattle.ft_trace.proofs.law.one_history.Goals as goal

pub returns : goal.returns
returns c = one-history c.row_laws.ensures.same_rows
