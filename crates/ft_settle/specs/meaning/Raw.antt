-- Formulas as they are built: their truth at points, how great their constants may be, and how their forms begin.
use Rattle.std.specs.Prelude.{ℕ, ℤ, pos, int_le, nat_le, not, Bool, true, List, [], ◌∷◌, unsigned_abs}
use Rattle.std.specs.Ordering.{int_eq}
use Rattle.std.specs.List.{list_all, list_any}
use Rattle.ft_linear.specs.meaning.Form.{Factor, form_at}
use Rattle.ft_linear.specs.meaning.Truth.{itself}
use Rattle.ft_settle.specs.declared.raw.Raw.{Raw, Raw-F, fold-Raw}
use Rattle.ft_settle.specs.declared.raw.Raw.TheOpen as layer

-- the greatest constant of a formula that is to be settled, either way
abbrev pub moderate_most : ℕ
moderate_most = 3000000000000000

-- the truth at a point of a formula as it is built
abbrev pub layer_raw_truth : (ℕ → ℤ) → Raw-F Bool → Bool
layer_raw_truth x (layer.Le l) = int_le (form_at x l) (pos 0)
layer_raw_truth x (layer.Not inner) = not inner
layer_raw_truth x (layer.And parts) = list_all itself parts
layer_raw_truth x (layer.Or parts) = list_any itself parts

unfoldable pub raw_truth : (ℕ → ℤ) → Raw → Bool
raw_truth x = fold-Raw Bool (layer_raw_truth x)

-- each constant is at most 3,000,000,000,000,000 either way
abbrev pub layer_moderate : Raw-F Bool → Bool
layer_moderate (layer.Le l) = nat_le (unsigned_abs l.constant) moderate_most
layer_moderate (layer.Not inner) = inner
layer_moderate (layer.And parts) = list_all itself parts
layer_moderate (layer.Or parts) = list_all itself parts

unfoldable pub is_moderate : Raw → Bool
is_moderate = fold-Raw Bool layer_moderate

-- no form begins with a factor of 0, which holds of each form that a program has
abbrev pub begins_well : List Factor → Bool
begins_well [] = true
begins_well (f ∷ fs) = not (int_eq f.1 (pos 0))

abbrev pub layer_begins : Raw-F Bool → Bool
layer_begins (layer.Le l) = begins_well l.factors
layer_begins (layer.Not inner) = inner
layer_begins (layer.And parts) = list_all itself parts
layer_begins (layer.Or parts) = list_all itself parts

unfoldable pub all_begin_well : Raw → Bool
all_begin_well = fold-Raw Bool layer_begins
