-- A test of a number against the bounds of a range, without a tactic.
use Rattle.std.proofs.Common.{◌≡◌, sym, subst, ℤ, pos, negsuc, int_le, Bool, true, ◌&&◌, T, ◌≤ℤ◌}
use Rattle.std.specs.Int.Signed.{le_z_yes}
use Rattle.std.proofs.lemmas.Bool.{and_parts}
use Rattle.ft_base.specs.Interval.{IsWithin}

-- a number lies between the bounds of a range
abbrev pub is_within : ℤ × ℤ → ℤ → Bool
is_within range z = int_le range.0 z && int_le z range.1

at-most : (a b : ℤ) → int_le a b ≡ true → a ≤ℤ b
at-most (pos a) (pos b) h = le_z_yes (subst T (sym h) tt)
at-most (pos a) (negsuc b) h = le_z_yes (subst T (sym h) tt)
at-most (negsuc a) (pos b) h = le_z_yes (subst T (sym h) tt)
at-most (negsuc a) (negsuc b) h = le_z_yes (subst T (sym h) tt)

pub within : (range : ℤ × ℤ) (z : ℤ) → is_within range z ≡ true → IsWithin range z
within range z h = let both = and_parts (int_le range.0 z) (int_le z range.1) h in (at-most range.0 z both.0, at-most z range.1 both.1)
