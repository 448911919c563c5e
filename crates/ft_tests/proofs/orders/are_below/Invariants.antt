use Rattle.std.proofs.Common.{◌≡◌, ◌<◌, ℕ, slice_get, Some}
use Rattle.ft_tests.proofs.orders.are_below.Given as goal

abbrev pub invariant-items : goal.invariant-items
invariant-items l = (q p : ℕ) → p < l.item-index → slice_get l.items p ≡ Some q → q < l.fn.count
