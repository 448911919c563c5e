use Rattle.std.proofs.Common.{None, ◌≡◌, ◌<◌, ℕ, []}
use Rattle.ft_core.specs.walk.Walk.{Walks, IsNew}
use Rattle.ft_core.proofs.walk.Walk.over.Given as goal

-- no component is open, and no item before this one is new
abbrev pub invariant-roots : goal.invariant-roots
invariant-roots l = record {
  walk : Walks l.reads None l.walk;
  empty : l.walk.components ≡ [];
  met : (k : ℕ) → k < l.root → IsNew l.walk.stages k → ⊥;
}
