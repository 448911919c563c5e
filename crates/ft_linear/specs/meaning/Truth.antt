-- The truth of a formula's tree at a point, given the truth of its atoms there.
use Rattle.std.specs.Prelude.{ℕ, Bool, not}
use Rattle.std.specs.List.{list_all, list_any}
use Rattle.ft_linear.specs.declared.node.Node.{Node, Node-F, fold-Node}
use Rattle.ft_linear.specs.declared.node.Node.TheOpen as layer

abbrev pub itself : Bool → Bool
itself b = b

abbrev pub layer_truth : (ℕ → Bool) → Node-F Bool → Bool
layer_truth at (layer.At atom) = at atom
layer_truth at (layer.Not inner) = not inner
layer_truth at (layer.And parts) = list_all itself parts
layer_truth at (layer.Or parts) = list_any itself parts

unfoldable pub truth : (ℕ → Bool) → Node → Bool
truth at = fold-Node Bool (layer_truth at)
