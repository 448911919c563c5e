-- Whether the unknowns of lines cancel in their sum, but for one that is kept.
use Rattle.std.specs.Prelude.{ℕ, ℤ, pos, nat_eq, Bool, false, ◌||◌, List, Option, Some, None}
use Rattle.std.specs.Ordering.{int_eq}
use Rattle.std.specs.List.{list_all}
use Rattle.ft_linear.specs.meaning.Form.{Factor, values_at}

abbrev pub is_kept : Option ℕ → ℕ → Bool
is_kept None u = false
is_kept (Some kept) u = nat_eq u kept

-- by the totals of the unknowns
abbrev pub is_cancelled : Option ℕ → List ℤ → ℕ → Bool
is_cancelled kept totals u = is_kept kept u || int_eq (values_at totals u) (pos 0)

-- each unknown of these factors
abbrev pub are_cancelled : Option ℕ → List ℤ → List Factor → Bool
are_cancelled kept totals fs = list_all (λ g. is_cancelled kept totals g.0) fs
