use Rattle.std.proofs.Common.{sym, subst, List}
use Rattle.std.specs.List.{Contains}
use Rattle.ft_core.specs.declared.tables.Memory.{Memory}
use Rattle.ft_core.specs.checked.Size.{is_sized_memory}
use Rattle.ft_mean.proofs.SafeLemmas.{safe_by}
use Rattle.ft_core.specs.laws.Lists.{all_pass}
use Rattle.ft_mean.proofs.recall.recalled_row.Goals as goal

pub is_recalled-requires-clause-safe : goal.is_recalled-requires-clause-safe
is_recalled-requires-clause-safe c = λ t.
    let there : Contains c.args.known.now.tables.now.memories c.memory-item.result =
    subst (λ (ms : List Memory). Contains ms c.memory-item.result) c.as_slice-memory-items.ensures
    (c.loop-memory.memory-index, c.loop-memory-test.true, sym c.memory-item.is) in
    safe_by _ (λ vs ms s. all_pass (is_sized_memory vs ms) c.args.known.now.tables.now.memories s c.memory-item.result there)
    (c.requires.safe t)
