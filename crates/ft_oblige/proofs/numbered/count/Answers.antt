use Rattle.std.proofs.Common.{◌≤◌, subst, sym, length, List}
use Rattle.std.specs.List.{sum_by}
use Rattle.ft_core.specs.declared.tables.Block.{Block}
use Rattle.ft_oblige.specs.laws.ReadsThere.{blocks_of}
use Rattle.ft_oblige.proofs.numbered.count.Goals as goal

pub facts-requires : goal.facts-requires
facts-requires c = subst (λ (blocks : List Block). sum_by (λ (block : Block). length block.facts) blocks ≤ 400) (sym c.as_slice.ensures)
    (blocks_of c.args.tables.now).few_facts

pub counted-requires-clause-tables : goal.counted-requires-clause-tables
counted-requires-clause-tables c = subst (λ n. n ≤ 400) (sym c.len.ensures) c.args.tables.now.sound.few_tables
