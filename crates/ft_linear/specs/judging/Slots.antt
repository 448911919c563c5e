-- The values of a tree's nodes in prefix order, as one pass up leaves them.
use Rattle.std.specs.Prelude.{◌≡◌, ◌+◌, ℕ, Bool, true, false, ◌||◌, List, [], ◌∷◌, ◌++◌, map, length, take, nat_eq, count_by, slice_get}
use Rattle.std.specs.Prelude.{unwrap_or}
use Rattle.std.specs.List.{flat_map}
use Rattle.std.specs.Option.{option_map}
use Rattle.ft_linear.specs.declared.node.Node.{Node, Node-F, fold-Node}
use Rattle.ft_linear.specs.declared.node.Node.TheOpen as layer
use Rattle.ft_base.specs.declared.three.Three.{Three}
use Rattle.ft_base.specs.declared.three.Three.TheVariants.{Maybe}
use Rattle.ft_linear.specs.declared.forcing.Slot.{Slot}
use Rattle.ft_linear.specs.declared.forcing.Signs.{Signs}
use Rattle.ft_base.specs.Three.{three_not, three_all, three_any, can_be}

abbrev pub value_at : List Three → ℕ → Three
value_at values atom = unwrap_or (slice_get values atom) Maybe

-- exactly one value can be as wanted
abbrev pub only_of : Bool → List Three → Bool
only_of want values = nat_eq (count_by (can_be want) values) 1

-- a node's value, and the slots of its tree
abbrev pub Marked : Type 0
Marked = Three × List Slot

abbrev pub slot_over : Three → Bool → List Slot → Marked
slot_over value only below = (value, record { value = value; only = only; size = length below + 1 } ∷ below)

abbrev pub layer_slots : (ℕ → Three) → Node-F Marked → Marked
layer_slots atoms (layer.At atom) = slot_over (atoms atom) false []
layer_slots atoms (layer.Not inner) = slot_over (three_not inner.0) false inner.1
layer_slots atoms (layer.And parts) =
    slot_over (three_all (map (λ p. p.0) parts)) (only_of false (map (λ p. p.0) parts)) (flat_map (λ p. p.1) parts)
layer_slots atoms (layer.Or parts) =
    slot_over (three_any (map (λ p. p.0) parts)) (only_of true (map (λ p. p.0) parts)) (flat_map (λ p. p.1) parts)

unfoldable pub marked : (ℕ → Three) → Node → Marked
marked atoms = fold-Node Marked (layer_slots atoms)

abbrev pub slots_of : (ℕ → Three) → Node → List Slot
slots_of atoms node = (marked atoms node).1

-- the slots from a place on are written, and those before it are as they were
abbrev pub IsWritten : List Slot → ℕ → ℕ → List Slot → List Slot → Type 0
IsWritten written at next before now = (next ≡ at + length written) × (take next now ≡ take at before ++ written)

abbrev pub StartsWith : List Slot → List Slot → Type 0
StartsWith slots front = (rest : List Slot) × (slots ≡ front ++ rest)

-- the literals of f are added
abbrev pub with_more : Bool → Bool → Signs → Signs
with_more y n signs = record { yes = signs.yes || y; no = signs.no || n }

abbrev pub Adds : (ℕ → Bool → Bool) → List Signs → List Signs → Type 0
Adds f before now = (a : ℕ) → slice_get now a ≡ option_map (with_more (f a true) (f a false)) (slice_get before a)
