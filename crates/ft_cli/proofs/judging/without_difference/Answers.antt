use Rattle.std.proofs.Common.{refl, subst}
use Rattle.ft_unroll.specs.meaning.Found.{IsRefute}
use Rattle.ft_cli.proofs.judging.without_difference.Goals as goal

pub returns-in-List-clause-stopped : goal.returns-in-List-clause-stopped
returns-in-List-clause-stopped c = λ bytes spelled. record {
  tried = record { spelled = spelled; proper = c.requires.proper; lists = c.requires.lists };
  shortest = subst (IsRefute c.args.tables) c.in-List.is c.in_ok-found.ensures;
}

pub returns-in-Safe-clause-searched : goal.returns-in-Safe-clause-searched
returns-in-Safe-clause-searched c = (refl, (refl, subst (IsRefute c.args.tables) c.in-Safe.is c.in_ok-found.ensures))

pub returns-in-SpentAt-clause-searched : goal.returns-in-SpentAt-clause-searched
returns-in-SpentAt-clause-searched c = (refl, subst (IsRefute c.args.tables) c.in-SpentAt.is c.in_ok-found.ensures)
