use Rattle.std.proofs.Common.{sym, subst, length}
use Rattle.ft_scan.specs.steps.Homes.{PutsHomes, PutsRowHomes}
use Rattle.ft_scan.proofs.HomeLemmas.{all-rows}
use Rattle.ft_scan.proofs.homes.put_table_homes.Goals as goal

pub returns-in-Vector : goal.returns-in-Vector
returns-in-Vector c = subst (λ grid. PutsHomes c.args.table grid c.args.homes.now c.put_row_homes.new.homes) (sym c.in-Vector.is)
    (all-rows c.args.table c.in-Vector.columns c.in-Vector.targets c.in-Vector.terms c.args.homes.now c.put_row_homes.new.homes
    (subst (λ targets. PutsRowHomes c.args.table targets (length targets) c.args.homes.now c.put_row_homes.new.homes) c.as_slice.ensures
    c.put_row_homes.ensures))
