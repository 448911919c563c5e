-- Standard output as contracts see it.
use Rattle.std.specs.Prelude.{ℕ}

-- how many writes there were, and how many failed
pub record OutState : Type 0 where
  pub writes : ℕ
  pub faults : ℕ
