use Rattle.std.proofs.Common.{◌<◌, ℕ, ℤ, pos, slice_index_or}
use Rattle.ft_linear.specs.meaning.Rules.{literal_form}
use Rattle.ft_search.specs.searching.Single.{LeavesHalf}
use Rattle.ft_search.proofs.halving.by_form.Given as goal

abbrev pub invariant-factors : goal.invariant-factors
invariant-factors l = (k : ℕ) (s : ℤ × ℤ) → k < l.factor-index
    → LeavesHalf l.spans (literal_form l.value l.form) (slice_index_or l.factor-items k (0, pos 0)).0 s → ⊥
