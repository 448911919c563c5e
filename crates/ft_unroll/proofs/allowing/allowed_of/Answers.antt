use Rattle.ft_oblige.specs.meaning.Lists.{list_parts}
use Rattle.ft_unroll.proofs.allowing.allowed_of.Goals as goal

pub seek-requires-clause-over : goal.seek-requires-clause-over
seek-requires-clause-over c = c.in_ok-form.ensures.over

pub returns : goal.returns
returns c = c.in_ok-sought.ensures (list_parts c.args.tables.now c.args.scans) c.in_ok-form.ensures
