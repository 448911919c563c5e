use Rattle.ft_oblige.specs.meaning.Lists.{difference_parts}
use Rattle.ft_unroll.proofs.refuting.difference_of.Goals as goal

pub seek-requires-clause-over : goal.seek-requires-clause-over
seek-requires-clause-over c = c.in_ok-form.ensures.over

pub returns : goal.returns
returns c = c.in_ok-sought.ensures (difference_parts c.args.tables.now c.args.scans) c.in_ok-form.ensures
