use Rattle.std.proofs.Common.{◌++◌}
use Rattle.std.specs.List.{flat_map, zip}
use Rattle.std.proofs.lemmas.Result.{on_ok_weaker}
use Rattle.ft_core.specs.walk.Gathering.{grid_reads_for, if_target, items_in}
use Rattle.ft_core.specs.meaning.Reads.{term_reads}
use Rattle.ft_core.proofs.GatherLemmas.{longer-same, vector-items}
use Rattle.ft_core.proofs.gathering.gather_grid.Goals as goal

pub returns-in_ok-items-in-Vector : goal.returns-in_ok-items-in-Vector
returns-in_ok-items-in-Vector c = on_ok_weaker c.gather_rows.result
    (longer-same
    (λ k. flat_map (λ r. if_target r.0 (c.as_slice-in-Vector-2.result.now
    ++ items_in c.args.counts.vars c.args.counts.memories (flat_map term_reads r.1)) k)
    (zip c.as_slice-in-Vector-3.result.now c.as_slice-in-Vector-4.result.now))
    (λ k. items_in c.args.counts.vars c.args.counts.memories (grid_reads_for k c.args.grid.now)) c.args.lists.now.items
    c.gather_rows.new.lists.items
    (vector-items c.args.counts.vars c.args.counts.memories c.args.grid.now c.in-Vector.columns c.as_slice-in-Vector.result.now
    c.in_ok-items-in-Vector.items c.as_slice-in-Vector-2.result.now
    c.in-Vector.targets c.as_slice-in-Vector-3.result.now c.in-Vector.terms c.as_slice-in-Vector-4.result.now c.in-Vector.is
    c.as_slice-in-Vector.ensures c.in_ok-items-in-Vector.ensures
    c.as_slice-in-Vector-2.ensures c.as_slice-in-Vector-3.ensures c.as_slice-in-Vector-4.ensures))
    c.gather_rows.ensures
