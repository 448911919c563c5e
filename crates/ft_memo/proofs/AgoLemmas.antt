-- How long ago the scans of a timer are: the only facts of its time that proofs use.
use Rattle.std.proofs.Common.{◌≡◌, ◌∙◌, ap, ℕ, zero, suc, ◌-◌, ◌*◌, ◌≤◌, ℤ, pos, negsuc, ◌+ℤ◌, ◌*ℤ◌, ◌≤ℤ◌, arith}
use Rattle.std.proofs.lemmas.Int.{ints}
use Rattle.std.proofs.Math.Nat.{mul-le-mul_left}
use Rattle.ft_memo.specs.Timer.{ago}

none : (period : ℤ) → pos 0 *ℤ period ≡ pos 0
none (pos p) = grind (arith, ints)
none (negsuc p) = grind (arith, ints)

next : (n : ℕ) (period : ℤ) → pos (suc n) *ℤ period ≡ (pos n *ℤ period) +ℤ period
next n (pos p) = grind (arith, ints)
next n (negsuc p) = grind (arith, ints)

more : (m n : ℕ) (period : ℤ) → m ≤ n → pos 0 ≤ℤ period → (pos m *ℤ period) ≤ℤ (pos n *ℤ period)
more m n (pos p) l h = let k : p * m ≤ p * n = mul-le-mul_left p l in grind (arith, ints)
more m n (negsuc p) l h = absurd (omega (arith, ints))

up : (n : ℕ) (period : ℤ) → pos 0 ≤ℤ period → pos 0 ≤ℤ (pos n *ℤ period)
up n (pos p) h = grind (arith, ints)
up n (negsuc p) h = absurd (omega (arith, ints))

pub ago_none : (period : ℤ) (t : ℕ) → ago period t t ≡ pos 0
ago_none period t = let same : t - t ≡ zero = omega arith in ap (λ k. pos k *ℤ period) same ∙ none period

pub ago_next : (period : ℤ) (t j : ℕ) → j ≤ t → ago period (suc t) j ≡ ago period t j +ℤ period
ago_next period t j low = let longer : suc t - j ≡ suc (t - j) = omega (arith, low) in ap (λ k. pos k *ℤ period) longer
    ∙ next (t - j) period

pub ago_up : (period : ℤ) (t j : ℕ) → pos 0 ≤ℤ period → pos 0 ≤ℤ ago period t j
ago_up period t j h = up (t - j) period h

pub ago_falls : (period : ℤ) (t j k : ℕ) → pos 0 ≤ℤ period → j ≤ k → ago period t k ≤ℤ ago period t j
ago_falls period t j k h low = more (t - k) (t - j) period (omega (arith, low)) h
