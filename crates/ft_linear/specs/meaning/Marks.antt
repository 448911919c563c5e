-- What a judgement leaves in the marks of a formula.
use Rattle.std.specs.Prelude.{◌≡◌, ◌+◌, ◌<◌, ℕ, Bool, true, false, List, Option, Some, None, slice_get, length, sum, if◌then◌else◌}
use Rattle.ft_base.specs.declared.three.Three.{Three}
use Rattle.ft_linear.specs.declared.node.Node.{Node, Node-F, fold-Node}
use Rattle.ft_linear.specs.declared.node.Node.TheOpen as layer
use Rattle.ft_linear.specs.declared.forcing.Signs.{Signs}
use Rattle.ft_linear.specs.meaning.Formula.{FormulaView}
use Rattle.ft_linear.specs.meaning.Part.{PartView, atom_value, forced}

-- the number of nodes of a tree
abbrev pub layer_size : Node-F ℕ → ℕ
layer_size (layer.At atom) = 1
layer_size (layer.Not inner) = inner + 1
layer_size (layer.And parts) = sum parts + 1
layer_size (layer.Or parts) = sum parts + 1

unfoldable pub size_of : Node → ℕ
size_of = fold-Node ℕ layer_size

-- the values and the forced literals of the atoms, and the number of nodes that there is room for
pub record MarksView : Type 0 where
  pub values : List Three
  pub signs : List Signs
  pub room : ℕ

-- marks and a part for this formula
pub record AreFor (f : FormulaView) (p : PartView) (m : MarksView) : Type 0 where
  pub decided : length p.decided ≡ length f.atoms
  pub values : length m.values ≡ length f.atoms
  pub signs : length m.signs ≡ length f.atoms
  pub room : m.room ≡ size_of f.root

abbrev pub signs_of : FormulaView → PartView → ℕ → Signs
signs_of f p a = record { yes = forced f p a true; no = forced f p a false }

-- the marks hold the values and the forced literals of this part
pub record AreJudged (f : FormulaView) (p : PartView) (m : MarksView) : Type 0 where
  pub values : (a : ℕ) → a < length f.atoms → slice_get m.values a ≡ Some (atom_value f p a)
  pub signs : (a : ℕ) → a < length f.atoms → slice_get m.signs a ≡ Some (signs_of f p a)

abbrev pub sign_of : Bool → Signs → Bool
sign_of true signs = signs.yes
sign_of false signs = signs.no

-- a literal that is forced: the atom where it is forced both ways
abbrev pub literal_of : Signs → Option Bool
literal_of signs = if signs.yes then Some true else if signs.no then Some false else None
