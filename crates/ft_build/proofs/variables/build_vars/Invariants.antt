use Rattle.std.proofs.Common.{◌≡◌, ◌++◌, ◌≤◌, drop}
use Rattle.ft_names.specs.meaning.Cards.{under}
use Rattle.ft_build.specs.counting.Totals.{total}
use Rattle.ft_build.specs.meaning.Variables.{no_places, vars_from}
use Rattle.ft_build.proofs.variables.build_vars.Given as goal

abbrev pub invariant-loop-item : goal.invariant-loop-item
invariant-loop-item l = record {
  left : vars_from l.items (under l.cards) no_places l.items ≡ l.vars ++ vars_from l.items (under l.cards) l.places
      (drop l.item-index l.items);
  few : total l.places ≤ l.item-index;
}
