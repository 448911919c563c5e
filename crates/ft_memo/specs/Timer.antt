-- What a timer says at the last scan of a list of truths, one a scan.
use Rattle.std.specs.Prelude.{ℕ, ◌-◌, ◌≡◌, ℤ, pos, negsuc, ◌*ℤ◌, Bool, false, List, [], ◌∷◌, length, slice_index_or}
use Rattle.ft_core.specs.checked.Sound.{IsHold, IsPeriod}
use Rattle.ft_mean.specs.meaning.Past.{held, age}

-- a timer as its callers see it: its hold and the time from scan to scan in milliseconds, and the truth at each scan so far
pub record Timed : Type 0 where
  pub hold : ℤ
  pub period : ℤ
  pub truths : List Bool

-- the truth at each scan of the list
abbrev pub truth_at : List Bool → ℕ → Bool
truth_at truths j = slice_index_or truths j false

-- the milliseconds from scan j to scan t
abbrev pub ago : (period : ℤ) → (t j : ℕ) → ℤ
ago period t j = pos (t - j) *ℤ period

-- whether at the last scan the truth has lasted for the hold
abbrev pub held_after : (hold period : ℤ) → List Bool → Bool
held_after hold period truths = held 0 (ago period (length truths - 1)) hold (truth_at truths) (length truths - 1)

-- the age at the last scan; -1 where there is none
abbrev pub age_after : (hold period : ℤ) → List Bool → ℤ
age_after hold period [] = negsuc 0
age_after hold period (first ∷ rest) = age 0 (ago period (length rest)) hold (truth_at (first ∷ rest)) (length rest)

-- a running age stands for a list of truths
pub record IsRunning (hold period : ℤ) (truths : List Bool) (running : ℤ) : Type 0 where
  pub has_hold : IsHold hold
  pub has_period : IsPeriod period
  pub is_age : running ≡ age_after hold period truths
