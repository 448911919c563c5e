use Rattle.std.proofs.Common.{length, refl}
use Rattle.std.proofs.lemmas.Option.{slice_get_read}
use Rattle.ft_oblige.proofs.HomeLemmas.{homes-more}
use Rattle.ft_oblige.proofs.homes.homes.Goals as goal

pub loop-at-preserved : goal.loop-at-preserved
loop-at-preserved c =
    homes-more c.args.tables.now c.args.section c.args.variables c.loop-at.at c.index-tables-at.result c.loop-at.homes
    c.put_table.new.homes
    (slice_get_read c.args.tables.now (length c.args.tables.now) c.loop-at.at c.index-tables-at.result refl c.loop-at-test.true
    c.index-tables-at.is)
    c.loop-at.invariant c.put_table.ensures
