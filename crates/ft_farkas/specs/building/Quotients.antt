-- Quotients of whole numbers, rounded towards 0.
use Rattle.std.specs.Prelude.{ℕ, ℤ, pos, ◌/◌, neg_ℤ, int_lt, Bool, unsigned_abs, if◌then◌else◌}

-- the quotient with the sign of the number
abbrev pub signed : Bool → ℕ → ℤ
signed below magnitude = if below then neg_ℤ (pos magnitude) else pos magnitude

abbrev pub quotient_of : ℤ → ℕ → ℤ
quotient_of z d = signed (int_lt z (pos 0)) (unsigned_abs z / d)
