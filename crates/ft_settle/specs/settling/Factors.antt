-- One factor of a canonical form.
use Rattle.std.specs.Prelude.{ℕ, pos, neg_ℤ, Bool, if◌then◌else◌}
use Rattle.ft_base.specs.Division.{floor_of}
use Rattle.ft_linear.specs.meaning.Form.{Factor}

-- one factor of the canonical form
abbrev pub quotient_of : Bool → ℕ → Factor → Factor
quotient_of positive g f = (f.0, if positive then floor_of f.1 (pos g) else neg_ℤ (floor_of f.1 (pos g)))
