-- Formulas and the points that satisfy them.
use Rattle.std.specs.Prelude.{◌≡◌, ℕ, ℤ, pos, int_le, nat_lt, Bool, true, false, List, Option, Some, None, slice_get, All}
use Rattle.std.specs.List.{list_all}
use Rattle.ft_linear.specs.declared.node.Node.{Node, Node-F, fold-Node}
use Rattle.ft_linear.specs.declared.node.Node.TheOpen as layer
use Rattle.ft_linear.specs.meaning.Form.{LinView, form_at, HasUnknowns}
use Rattle.ft_linear.specs.meaning.Truth.{truth, itself}

-- the forms of its atoms, and its tree
pub record FormulaView : Type 0 where
  pub atoms : List LinView
  pub root : Node

-- each atom of a tree is below this number
abbrev pub layer_below : ℕ → Node-F Bool → Bool
layer_below count (layer.At atom) = nat_lt atom count
layer_below count (layer.Not inner) = inner
layer_below count (layer.And parts) = list_all itself parts
layer_below count (layer.Or parts) = list_all itself parts

unfoldable pub atoms_below : ℕ → Node → Bool
atoms_below count = fold-Node Bool (layer_below count)

-- an atom is true where its form is at most 0
abbrev pub form_truth : (ℕ → ℤ) → Option LinView → Bool
form_truth x None = false
form_truth x (Some l) = int_le (form_at x l) (pos 0)

abbrev pub atom_at : List LinView → (ℕ → ℤ) → ℕ → Bool
atom_at atoms x a = form_truth x (slice_get atoms a)

-- the truth of a formula at a point
abbrev pub truth_at : FormulaView → (ℕ → ℤ) → Bool
truth_at f x = truth (atom_at f.atoms x) f.root

abbrev pub Satisfies : FormulaView → (ℕ → ℤ) → Type 0
Satisfies f x = truth_at f x ≡ true

-- each unknown of each atom is below this number
abbrev pub IsOver : ℕ → FormulaView → Type 0
IsOver count f = All (λ l. HasUnknowns count l.factors) f.atoms
