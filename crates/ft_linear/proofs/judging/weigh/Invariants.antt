use Rattle.std.proofs.Common.{◌≡◌, ◌<◌, ℕ, slice_get, Some}
use Rattle.std.specs.List.{list_any, list_all, range_with_len}
use Rattle.ft_linear.specs.meaning.Part.{atom_value, is_against, is_agreed}
use Rattle.ft_linear.specs.judging.Weighing.{decided_at}
use Rattle.ft_linear.proofs.judging.weigh.Given as goal

-- the atoms before this one are weighed
abbrev pub invariant-atoms : goal.invariant-atoms
invariant-atoms l = record {
  values : (a : ℕ) → a < l.at → slice_get l.values a ≡ Some (atom_value l.formula l.part a);
  signs : (a : ℕ) → a < l.at → slice_get l.signs a ≡ Some (decided_at l.part a);
  against : l.against ≡ list_any (is_against l.formula l.part) (range_with_len 0 l.at);
  agreed : l.agreed ≡ list_all (is_agreed l.formula l.part) (range_with_len 0 l.at);
}
