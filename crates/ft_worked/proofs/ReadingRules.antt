-- What terms and conditions read, as one rule set for worked sets.
use Rattle.ft_core.specs.laws.Equations.{reads-Num, reads-Now, reads-Prev, reads-Add, reads-Times, reads-Div, reads-Yes, reads-No}
use Rattle.ft_core.specs.laws.Equations.{reads-Compare, reads-Memory, reads-Not, reads-And}

pub ruleset reading = (
  reads-Num,
  reads-Now,
  reads-Prev,
  reads-Add,
  reads-Times,
  reads-Div,
  reads-Yes,
  reads-No,
  reads-Compare,
  reads-Memory,
  reads-Not,
  reads-And,
)
