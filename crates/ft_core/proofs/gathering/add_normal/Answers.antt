use Rattle.std.proofs.Common.{refl, ◌++◌}
use Rattle.std.specs.List.{flat_map}
use Rattle.ft_core.specs.walk.Gathering.{normal_reads}
use Rattle.ft_core.specs.meaning.Reads.{cond_reads, term_reads}
use Rattle.ft_core.proofs.ReadLemmas.{adds_both, adds-last}
use Rattle.ft_core.proofs.gathering.add_normal.Goals as goal

pub returns : goal.returns
returns c = adds-last c.args.counts.vars c.args.counts.memories c.add_term_rows.result
    (normal_reads c.args.columns.now c.args.rows.now c.args.terms.now)
    (flat_map cond_reads c.args.columns.now ++ flat_map cond_reads c.args.rows.now) (flat_map (flat_map term_reads) c.args.terms.now)
    c.args.items.now c.add_conds-2.new.items c.add_term_rows.new.items refl
    (adds_both c.args.counts.vars c.args.counts.memories (flat_map cond_reads c.args.columns.now) (flat_map cond_reads c.args.rows.now)
    c.args.items.now c.add_conds.new.items c.add_conds-2.new.items
    c.in_ok-add_conds.ensures c.in_ok-add_conds-2.ensures)
    c.add_term_rows.ensures
