-- Settling a formula changes no truth.
use Rattle.std.specs.Prelude.{◌≡◌, ℕ, ℤ, IsTrue}
use Rattle.ft_linear.specs.meaning.Formula.{truth_at}
use Rattle.ft_settle.specs.declared.raw.Raw.{Raw}
use Rattle.ft_settle.specs.meaning.Raw.{raw_truth, all_begin_well}
use Rattle.ft_settle.specs.meaning.Settled.{settled}

-- where no form begins with a factor of 0, a formula that is settled is as true as it was
abbrev pub SettledIsTrue : Type 0
SettledIsTrue = (raw : Raw) → IsTrue (all_begin_well raw) → (x : ℕ → ℤ) → truth_at (settled raw) x ≡ raw_truth x raw
