use Rattle.std.proofs.Common.{refl, subst, sym}
use Rattle.ft_oblige.specs.laws.ReadsThere.{checked_of}
use Rattle.ft_oblige.specs.meaning.Tried.{IsTried}
use Rattle.ft_compose.specs.building.Deciding.{IsFormed}
use Rattle.ft_compose.proofs.DecideLemmas.{closed_at, spent_at}
use Rattle.ft_compose.proofs.deciding.try_fact.Goals as goal

pub returns-in-Closed : goal.returns-in-Closed
returns-in-Closed c =
    closed_at c.deciding_laws.ensures c.args.tables.now c.args.number c.fact_at-at.result.block c.fact_at-at.result.fact
    c.fact_at-at.result.anew c.fact_at-at.ensures.is c.in_ok-made.made.obligation c.in_ok-made.made.names c.in_ok-made.ensures
    c.in-Closed.cert
    (subst (IsTried c.in_ok-made.made.obligation.formula c.in_ok-made.made.obligation.area.spans c.args.tables.now.splits) c.in-Closed.is
    c.in_ok-tried.ensures)

pub returns-in-Spent : goal.returns-in-Spent
returns-in-Spent c = (
  refl,
  (c.requires.above, c.requires.below),
  spent_at c.deciding_laws.ensures c.args.tables.now c.args.number c.fact_at-at.result.block c.fact_at-at.result.fact
      c.fact_at-at.result.anew c.fact_at-at.ensures.is c.in_ok-made.made.obligation c.in_ok-made.made.names c.in_ok-made.ensures
      c.in-Spent.tree
      (subst (IsTried c.in_ok-made.made.obligation.formula c.in_ok-made.made.obligation.area.spans c.args.tables.now.splits) c.in-Spent.is
      c.in_ok-tried.ensures),
)

pub try_formula-requires-clause-over : goal.try_formula-requires-clause-over
try_formula-requires-clause-over c = c.in_ok-made.ensures.form.form.over

pub try_formula-requires-clause-splits : goal.try_formula-requires-clause-splits
try_formula-requires-clause-splits c = (checked_of c.args.tables.now).few_splits

pub fails_at-requires-clause-formed : goal.fails_at-requires-clause-formed
fails_at-requires-clause-formed c =
    subst (IsFormed c.args.tables.now c.fact_at-at.result.block c.fact_at-at.result.fact c.fact_at-at.result.anew
    c.in_ok-made.made.obligation) (sym c.as_slice.ensures) c.in_ok-made.ensures
