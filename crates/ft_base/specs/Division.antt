-- Division of whole numbers, rounded down or up.
use Rattle.std.specs.Prelude.{ℤ, pos, ◌+ℤ◌, ◌-ℤ◌, ◌*ℤ◌, ◌≤ℤ◌}
use Rattle.std.specs.Int.{int_div_euclid}

-- q is a divided by k, rounded down: k*q <= a <= k*q + k - 1
pub record IsFloor (a k q : ℤ) : Type 0 where
  pub low : (k *ℤ q) ≤ℤ a
  pub high : a ≤ℤ ((k *ℤ q) +ℤ k -ℤ pos 1)

-- q is a divided by k, rounded up: k*q - k + 1 <= a <= k*q
pub record IsCeiling (a k q : ℤ) : Type 0 where
  pub low : ((k *ℤ q) -ℤ k +ℤ pos 1) ≤ℤ a
  pub high : a ≤ℤ (k *ℤ q)

-- a divided by k, rounded down, as a function; meant for a positive k
abbrev pub floor_of : (a k : ℤ) → ℤ
floor_of a k = int_div_euclid a k
