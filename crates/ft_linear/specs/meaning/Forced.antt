-- What the values of atoms say of each node: its value, and the literals that it forces where it is required to be true or false.
use Rattle.std.specs.Prelude.{ℕ, Bool, true, false, not, ◌&&◌, List, map, nat_eq, count_by, if◌then◌else◌}
use Rattle.std.specs.List.{list_any}
use Rattle.ft_linear.specs.declared.node.Node.{Node, Node-F, fold-Node}
use Rattle.ft_linear.specs.declared.node.Node.TheOpen as layer
use Rattle.ft_base.specs.declared.three.Three.{Three}
use Rattle.ft_base.specs.Three.{three_not, three_all, three_any, can_be}

-- the literals that a node forces where it is required to be true or false: wanted truth, atom, sign
abbrev pub Forcing : Type 0
Forcing = Bool → ℕ → Bool → Bool

abbrev pub same_bool : Bool → Bool → Bool
same_bool true b = b
same_bool false b = not b

abbrev pub NodeView : Type 0
NodeView = Three × Forcing

-- each part is required
abbrev pub by_each : List NodeView → Forcing
by_each parts want atom sign = list_any (λ p. p.1 want atom sign) parts

-- the only part that can be as wanted is required
abbrev pub by_only : List NodeView → Forcing
by_only parts want atom sign =
    if nat_eq (count_by (λ p. can_be want p.0) parts) 1 then list_any (λ p. can_be want p.0 && p.1 want atom sign) parts else false

abbrev pub parts_force : Bool → List NodeView → Forcing
parts_force true = by_each
parts_force false = by_only

abbrev pub and_forces : List NodeView → Forcing
and_forces parts want = parts_force want parts want

abbrev pub or_forces : List NodeView → Forcing
or_forces parts want = parts_force (not want) parts want

abbrev pub layer_view : (ℕ → Three) → Node-F NodeView → NodeView
layer_view atoms (layer.At atom) = (atoms atom, λ want a sign. nat_eq a atom && same_bool want sign)
layer_view atoms (layer.Not inner) = (three_not inner.0, λ want. inner.1 (not want))
layer_view atoms (layer.And parts) = (three_all (map (λ p. p.0) parts), and_forces parts)
layer_view atoms (layer.Or parts) = (three_any (map (λ p. p.0) parts), or_forces parts)

unfoldable pub node_view : (ℕ → Three) → Node → NodeView
node_view atoms = fold-Node NodeView (layer_view atoms)

abbrev pub value_of : (ℕ → Three) → Node → Three
value_of atoms node = (node_view atoms node).0

abbrev pub forces : (ℕ → Three) → Node → Forcing
forces atoms node = (node_view atoms node).1
