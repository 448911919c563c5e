use Rattle.std.proofs.Common.{refl, subst, length}
use Rattle.ft_oblige.specs.laws.ReadsThere.{checked_of}
use Rattle.ft_oblige.specs.meaning.Made.{meant}
use Rattle.ft_oblige.specs.meaning.Tried.{IsTried}
use Rattle.ft_cover.proofs.CoverLemmas.{closed_at, spent_at, table_there}
use Rattle.ft_cover.proofs.trying.try_number.Goals as goal

pub returns-in-Closed : goal.returns-in-Closed
returns-in-Closed c = closed_at c.laws.ensures c.args.tables.now c.about-table.result.0 c.args.number c.about-table.result.1
    c.in_ok-made.made c.in_ok-made.ensures c.about-table.ensures c.in-Closed.cert
    (subst (IsTried c.in_ok-made.made.formula c.in_ok-made.made.area.spans c.args.tables.now.splits) c.in-Closed.is c.in_ok-tried.ensures)

pub returns-in-Spent : goal.returns-in-Spent
returns-in-Spent c = (
  refl,
  c.requires.some,
  c.requires.last,
  spent_at c.laws.ensures c.args.tables.now c.about-table.result.0 c.args.number c.about-table.result.1
      c.in_ok-made.made c.in_ok-made.ensures c.about-table.ensures c.in-Spent.tree
      (subst (IsTried c.in_ok-made.made.formula c.in_ok-made.made.area.spans c.args.tables.now.splits) c.in-Spent.is
      c.in_ok-tried.ensures),
)

pub try_formula-requires-clause-over : goal.try_formula-requires-clause-over
try_formula-requires-clause-over c = c.in_ok-made.ensures.form.over

pub try_formula-requires-clause-splits : goal.try_formula-requires-clause-splits
try_formula-requires-clause-splits c = (checked_of c.args.tables.now).few_splits

pub shown_at-requires-clause-table : goal.shown_at-requires-clause-table
shown_at-requires-clause-table c = table_there c.about-table.result.0 c.args.number (length c.args.tables.now.tables)
    (meant c.about-table.result.1) c.about-table.ensures c.requires.last
