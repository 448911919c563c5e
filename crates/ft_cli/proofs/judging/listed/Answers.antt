use Rattle.std.proofs.Common.{refl, subst}
use Rattle.ft_unroll.specs.meaning.Found.{AreLists}
use Rattle.ft_cli.proofs.judging.listed.Goals as goal

pub returns-in-List-clause-listed : goal.returns-in-List-clause-listed
returns-in-List-clause-listed c = (refl, subst (AreLists c.args.tables) c.in-List.is c.in_ok-found.ensures)

pub returns-in-Stops-clause-stopped : goal.returns-in-Stops-clause-stopped
returns-in-Stops-clause-stopped c = λ bytes spelled. (
  c.args.tables,
  record {
    spelled = spelled;
    proper = c.requires;
    stop = subst (AreLists c.args.tables) c.in-Stops.is c.in_ok-found.ensures;
  },
)

pub returns-in-SpentAt-clause-stopped : goal.returns-in-SpentAt-clause-stopped
returns-in-SpentAt-clause-stopped c = λ bytes spelled. record {
  spelled = spelled;
  proper = c.requires;
  spent = subst (AreLists c.args.tables) c.in-SpentAt.is c.in_ok-found.ensures;
}
