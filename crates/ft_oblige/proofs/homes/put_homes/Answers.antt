use Rattle.ft_oblige.proofs.HomeLemmas.{home-more}
use Rattle.ft_oblige.proofs.homes.put_homes.Goals as goal

pub loop-variable-preserved : goal.loop-variable-preserved
loop-variable-preserved c =
    home-more c.args.table c.args.homes.now c.loop-variable.homes c.put_home.new.homes c.args.variables.now
    c.loop-variable.variable-index 0 c.loop-variable-test.true c.loop-variable.invariant c.put_home.ensures
