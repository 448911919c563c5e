use Rattle.std.proofs.Common.{◌<◌, ℕ, length}
use Rattle.ft_core.specs.meaning.Order.{ReadsItem}
use Rattle.ft_tests.proofs.orders.are_items.Given as goal

-- the rows before this one name items
abbrev pub invariant-rows : goal.invariant-rows
invariant-rows l = (k q : ℕ) → k < l.row-index → ReadsItem l.reads k q → q < length l.reads
