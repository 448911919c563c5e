-- Settled formulas: canonical atoms, each once and numbered by its first occurrence from left to right.
use Rattle.std.specs.Prelude.{◌≡◌, ◌<◌, ℕ, pos, int_lt, int_le, nat_eq, Bool, ◌&&◌, List, [], ◌∷◌, ◌++◌, length, Some, slice_get}
use Rattle.std.specs.Prelude.{if◌then◌else◌}
use Rattle.std.specs.Ordering.{int_eq}
use Rattle.std.specs.Cmp.Lexicographic.{pointwise}
use Rattle.std.specs.List.{list_any, flat_map, position_or_len}
use Rattle.ft_linear.specs.declared.node.Node.{Node}
use Rattle.ft_linear.specs.declared.node.Node.TheVariants as node
use Rattle.ft_linear.specs.meaning.Form.{Factor, LinView}
use Rattle.ft_linear.specs.meaning.Formula.{FormulaView}
use Rattle.ft_settle.specs.declared.raw.Raw.{Raw, Raw-F, fold-Raw}
use Rattle.ft_settle.specs.declared.raw.Raw.TheOpen as layer
use Rattle.ft_settle.specs.meaning.Canonical.{canonical}

-- the test whether two forms are the same
abbrev pub same_factor : Factor → Factor → Bool
same_factor f g = nat_eq f.0 g.0 && int_eq f.1 g.1

abbrev pub same_form : LinView → LinView → Bool
same_form l m = int_eq l.constant m.constant && pointwise same_factor l.factors m.factors

-- the canonical atoms of a formula, from left to right
abbrev pub atoms_in : LinView → List Factor → List LinView
atoms_in l [] = []
atoms_in l (f ∷ fs) = canonical l ∷ []

abbrev pub layer_atoms : Raw-F (List LinView) → List LinView
layer_atoms (layer.Le l) = atoms_in l l.factors
layer_atoms (layer.Not inner) = inner
layer_atoms (layer.And parts) = flat_map (λ part. part) parts
layer_atoms (layer.Or parts) = flat_map (λ part. part) parts

unfoldable pub forms_of : Raw → List LinView
forms_of = fold-Raw (List LinView) layer_atoms

-- a list with those of another that it hasn't, each where it comes first
abbrev pub with_form : List LinView → LinView → List LinView
with_form forms l = if list_any (same_form l) forms then forms else forms ++ l ∷ []

abbrev pub with_forms : List LinView → List LinView → List LinView
with_forms forms [] = forms
with_forms forms (l ∷ ls) = with_forms (with_form forms l) ls

-- the place of a form among these
abbrev pub place_of : List LinView → LinView → ℕ
place_of forms l = position_or_len (same_form l) forms

-- the node of a form's atom among these atoms; without unknowns it is true or false
abbrev pub placed_form : List LinView → LinView → List Factor → Node
placed_form forms l [] = if int_le l.constant (pos 0) then node.And [] else node.Or []
placed_form forms l (f ∷ fs) =
    if int_lt f.1 (pos 0) then node.Not (node.At (place_of forms (canonical l))) else node.At (place_of forms (canonical l))

abbrev pub layer_placed : List LinView → Raw-F Node → Node
layer_placed forms (layer.Le l) = placed_form forms l l.factors
layer_placed forms (layer.Not inner) = node.Not inner
layer_placed forms (layer.And parts) = node.And parts
layer_placed forms (layer.Or parts) = node.Or parts

unfoldable pub placed : List LinView → Raw → Node
placed forms = fold-Raw Node (layer_placed forms)

-- a formula with canonical atoms, each once and numbered by its first occurrence from left to right
abbrev pub settled : Raw → FormulaView
settled raw = record { atoms = with_forms [] (forms_of raw); root = placed (with_forms [] (forms_of raw)) raw }

-- a form is one of the first n atoms
abbrev pub StandsBelow : List LinView → ℕ → LinView → Type 0
StandsBelow atoms n l = (i : ℕ) × (i < n) × (slice_get atoms i ≡ Some l)

-- the atoms are these forms in the order in which they first occur: each form is an atom, and the n-th atom is a form
-- before which only forms stand that are among the first n atoms
pub record AreFirstOccurrences (forms atoms : List LinView) : Type 0 where
  pub all : (k : ℕ) (l : LinView) → slice_get forms k ≡ Some l → StandsBelow atoms (length atoms) l
  pub first : (n : ℕ) (l : LinView) → slice_get atoms n ≡ Some l
      → (k : ℕ) × (slice_get forms k ≡ Some l) × ((j : ℕ) (m : LinView) → j < k → slice_get forms j ≡ Some m → StandsBelow atoms n m)
