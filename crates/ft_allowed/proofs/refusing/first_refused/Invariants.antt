use Rattle.std.specs.Prelude.{ℕ, ◌<◌}
use Rattle.ft_allowed.specs.meaning.Refused.{IsAllowedAt}
use Rattle.ft_allowed.proofs.refusing.first_refused.Given as goal

abbrev pub invariant-loop-scan : goal.invariant-loop-scan
invariant-loop-scan l = (t : ℕ) → t < l.scan → IsAllowedAt l.tables l.list t
