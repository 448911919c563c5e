-- The milliseconds from scan to scan, and where scans begin: the only proofs that look at the definitions.
use Rattle.std.proofs.Common.{◌≡◌, ◌∙◌, sym, ap, refl, ℕ, zero, suc, ◌-◌, ◌*◌, ◌≤◌, ℤ, pos, negsuc, ◌+ℤ◌, ◌*ℤ◌, ◌≤ℤ◌, true, false, arith}
use Rattle.std.proofs.Common.{true≢false}
use Rattle.std.proofs.lemmas.Int.{ints}
use Rattle.std.proofs.Math.Nat.{mul-le-mul_left}
use Rattle.ft_core.specs.declared.tables.Tables.{Tables}
use Rattle.ft_mean.specs.laws.TimeLaws.{ScanBefore, ElapsedPeriod, SincePeriods}
use Rattle.ft_mean.specs.meaning.Reading.{Reading, begins, begun, elapsed, since}

-- so many periods
pub times_none : (p : ℤ) → pos 0 *ℤ p ≡ pos 0
times_none (pos p) = grind (arith, ints)
times_none (negsuc p) = grind (arith, ints)

pub times_next : (n : ℕ) (p : ℤ) → pos (suc n) *ℤ p ≡ (pos n *ℤ p) +ℤ p
times_next n (pos p) = grind (arith, ints)
times_next n (negsuc p) = grind (arith, ints)

pub times_up : (n : ℕ) (p : ℤ) → pos 0 ≤ℤ p → pos 0 ≤ℤ (pos n *ℤ p)
times_up n (pos p) h = grind (arith, ints)
times_up n (negsuc p) h = absurd (omega (arith, ints))

pub times_more : (m n : ℕ) (p : ℤ) → m ≤ n → pos 0 ≤ℤ p → (pos m *ℤ p) ≤ℤ (pos n *ℤ p)
times_more m n (pos p) l h = let k : p * m ≤ p * n = mul-le-mul_left p l in grind (arith, ints)
times_more m n (negsuc p) l h = absurd (omega (arith, ints))

-- from a scan to itself
pub span_none : (t : ℕ) (p : ℤ) → pos (t - t) *ℤ p ≡ pos 0
span_none t p = let none : t - t ≡ zero = omega arith in ap (λ k. pos k *ℤ p) none ∙ times_none p

-- and one scan further
pub span_next : (t j : ℕ) (p : ℤ) → j ≤ t → pos (suc t - j) *ℤ p ≡ (pos (t - j) *ℤ p) +ℤ p
span_next t j p low = let more : suc t - j ≡ suc (t - j) = omega (arith, low) in ap (λ k. pos k *ℤ p) more ∙ times_next (t - j) p

module _ (S : Tables) (ρ : Reading) (up : pos 0 ≤ℤ S.period) where
  pub elapsed_up : (t : ℕ) → pos 0 ≤ℤ elapsed S (ρ t)
  elapsed_up t = up

  pub since_none : (t : ℕ) → since S ρ t t ≡ pos 0
  since_none t = span_none t S.period

  pub since_next : (j t : ℕ) → j ≤ t → since S ρ j (suc t) ≡ since S ρ j t +ℤ elapsed S (ρ (suc t))
  since_next j t low = span_next t j S.period low

  pub since_up : (j t : ℕ) → pos 0 ≤ℤ since S ρ j t
  since_up j t = times_up (t - j) S.period up

  pub since_falls : (t j k : ℕ) → j ≤ k → since S ρ k t ≤ℤ since S ρ j t
  since_falls t j k low = times_more (t - k) (t - j) S.period (omega (arith, low)) up

pub elapsed_period : ElapsedPeriod
elapsed_period S now = refl

pub since_periods : SincePeriods
since_periods S ρ j t = refl

pub scan_before_is : ScanBefore
scan_before_is t = refl

module _ (S : Tables) (ρ : Reading) where
  -- nothing is before the first scan
  pub begins_first : begins S ρ zero ≡ true
  begins_first = refl

  pub begun_low : (t : ℕ) → begun S ρ t ≤ t
  begun_low zero = omega arith
  begun_low (suc t) = omega (arith, begun_low t)

  -- a scan that begins is the last that does
  pub begun_here : (t : ℕ) → begins S ρ t ≡ true → begun S ρ t ≡ t
  begun_here zero is = refl
  begun_here (suc t) is = absurd (true≢false (sym is))

  -- another is as the scan before
  pub begun_past : (t : ℕ) → begins S ρ (suc t) ≡ false → begun S ρ (suc t) ≡ begun S ρ t
  begun_past t is = refl

  -- no scan begins but scan 0
  pub begins_once : (t : ℕ) → begins S ρ (suc t) ≡ false
  begins_once t = refl

  pub begun_first : (t : ℕ) → begun S ρ t ≡ zero
  begun_first zero = begun_here zero begins_first
  begun_first (suc t) = begun_past t (begins_once t) ∙ begun_first t

-- what a scan tells of time: whether it begins, and what elapsed before it
abbrev pub SameTime : Tables → Reading → Reading → ℕ → Type 0
SameTime S a b t = (begins S a t ≡ begins S b t) × (elapsed S (a t) ≡ elapsed S (b t))

-- it is no value of a scan that tells it
pub same_time : (S : Tables) (a b : Reading) (t : ℕ) → SameTime S a b t
same_time S a b zero = (refl, refl)
same_time S a b (suc t) = (refl, refl)

-- nor a scan's number, after the first
pub begins_later : (S : Tables) (a b : Reading) (t u : ℕ) → begins S a (suc t) ≡ begins S b (suc u)
begins_later S a b t u = refl
