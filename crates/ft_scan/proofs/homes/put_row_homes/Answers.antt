use Rattle.std.proofs.Common.{slice_index_or}
use Rattle.std.proofs.lemmas.Option.{slice_get-get_or}
use Rattle.ft_scan.proofs.HomeLemmas.{no-rows, one-row}
use Rattle.ft_scan.proofs.homes.put_row_homes.Goals as goal

pub rows-init : goal.rows-init
rows-init c = no-rows c.args.table c.args.targets.now c.args.homes.now

pub rows-preserved : goal.rows-preserved
rows-preserved c = one-row c.args.table c.args.targets.now c.rows.row (slice_index_or c.args.targets.now c.rows.row 0) c.args.homes.now
    c.rows.homes c.put_home.new.homes
    c.rows.invariant (slice_get-get_or c.args.targets.now c.rows.row 0 c.rows-test.true) c.put_home.ensures
