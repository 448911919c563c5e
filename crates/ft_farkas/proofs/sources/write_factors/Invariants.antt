use Rattle.std.proofs.Common.{◌≡◌, ℕ, suc, pos, length, take}
use Rattle.ft_linear.specs.meaning.Rules.{factor_of}
use Rattle.ft_farkas.specs.meaning.Rows.{row_of}
use Rattle.ft_farkas.specs.meaning.Kept.{IsNarrow}
use Rattle.ft_farkas.specs.building.Forms.{turned_by}
use Rattle.ft_farkas.proofs.sources.write_factors.Given as goal

-- the factors before this one are written
abbrev pub invariant-factors : goal.invariant-factors
invariant-factors l = (length l.row ≡ length l.initial.row) × (row_of l.row 0 ≡ pos 0)
    × ((u : ℕ) → row_of l.row (suc u) ≡ turned_by l.value (factor_of u (take l.factor-index l.factors)))
    × ((c : ℕ) → IsNarrow (row_of l.row c))
