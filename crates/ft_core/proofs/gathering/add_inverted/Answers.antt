use Rattle.std.proofs.Common.{refl, ◌++◌}
use Rattle.std.specs.List.{flat_map}
use Rattle.ft_core.specs.walk.Gathering.{inverted_reads}
use Rattle.ft_core.specs.meaning.Reads.{cond_reads, term_reads}
use Rattle.ft_core.proofs.ReadLemmas.{adds_both, adds-last}
use Rattle.ft_core.proofs.gathering.add_inverted.Goals as goal

pub returns : goal.returns
returns c = adds-last c.args.counts.vars c.args.counts.memories c.add_cond_rows.result
    (inverted_reads c.args.terms.now c.args.rows.now c.args.grid.now)
    (flat_map term_reads c.args.terms.now ++ flat_map cond_reads c.args.rows.now) (flat_map (flat_map cond_reads) c.args.grid.now)
    c.args.items.now c.add_conds.new.items c.add_cond_rows.new.items refl
    (adds_both c.args.counts.vars c.args.counts.memories (flat_map term_reads c.args.terms.now) (flat_map cond_reads c.args.rows.now)
    c.args.items.now c.add_terms.new.items c.add_conds.new.items
    c.in_ok-add_terms.ensures c.in_ok-add_conds.ensures)
    c.add_cond_rows.ensures
