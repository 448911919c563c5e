-- What lines leave of the spans of an area.
use Rattle.std.specs.Prelude.{◌≡◌, ◌<◌, ℕ, ℤ, ◌-ℤ◌, Bool, true, false, List, length, sum_by, nat_abs}
use Rattle.ft_linear.specs.meaning.Form.{InArea, span_at}
use Rattle.ft_diff.specs.declared.narrowing.Step.{Step}
use Rattle.ft_diff.specs.declared.narrowing.Step.TheVariants.{Met, Lowered, Barred}

-- the greatest number of each unknown
abbrev pub highs : List (ℤ × ℤ) → ℕ → ℤ
highs spans u = (span_at spans u).1

-- how far the greatest numbers may fall in all
abbrev pub room_below : List (ℤ × ℤ) → ℕ
room_below spans = sum_by (λ s. nat_abs (s.1 -ℤ s.0)) spans

-- the new spans are a smaller part of the old ones and leave out no point with this property
pub record Narrows (P : (ℕ → ℤ) → Type 0) (old new : List (ℤ × ℤ)) : Type 0 where
  pub keeps : (x : ℕ → ℤ) → P x → InArea old x → InArea new x
  pub inside : (x : ℕ → ℤ) → InArea new x → InArea old x
  pub less : room_below new < room_below old
  pub long : length new ≡ length old

-- what the search for points with a property does to spans
abbrev pub HasOutcome : ((ℕ → ℤ) → Type 0) → List (ℤ × ℤ) → List (ℤ × ℤ) → Step → Type 0
HasOutcome P old new Met = (new ≡ old) × P (highs old)
HasOutcome P old new (Lowered u) = Narrows P old new
HasOutcome P old new Barred = (x : ℕ → ℤ) → P x → InArea old x → ⊥

abbrev pub combined : Step → Step → Step
combined step Met = step
combined step (Lowered u) = Lowered u
combined step Barred = Barred

abbrev pub is_barred : Step → Bool
is_barred Met = false
is_barred (Lowered u) = false
is_barred Barred = true
