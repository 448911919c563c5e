-- Trees of formulas by their parts: induction, and the equations of each kind of node.
use Rattle.std.proofs.Common.{◌≡◌, ◌∙◌, sym, ap, subst, refl, ℕ, ◌+◌, Bool, not, List, [], ◌∷◌, ◌||◌, ◌&&◌, map}
use Rattle.std.specs.List.{list_all, list_any}
use Rattle.std.specs.Prelude.{nat_lt, nat_eq, sum}
use Rattle.std.proofs.lemmas.List.Folds.{list_all-map}
use Rattle.ft_linear.specs.declared.node.Node.{Node, Node-F, map-Node, fold-Node, roll-Node, fold-roll-Node, ind-Node}
use Rattle.ft_linear.specs.declared.node.Node.TheOpen as layer
use Rattle.ft_linear.specs.declared.node.Node.TheVariants.{At, Not, And, Or, rolls-At, rolls-Not, rolls-And, rolls-Or}
use Rattle.ft_linear.specs.meaning.Truth.{truth, layer_truth, itself}
use Rattle.ft_base.specs.declared.three.Three.{Three}
use Rattle.ft_linear.specs.meaning.Formula.{atoms_below, layer_below}
use Rattle.ft_linear.specs.meaning.Marks.{size_of, layer_size}
use Rattle.ft_linear.specs.meaning.Forced.{NodeView, node_view, layer_view, value_of, forces, same_bool, and_forces, or_forces}
use Rattle.ft_base.specs.Three.{three_all, three_any, three_not}

pub list_any-map : {X Y : Type 0} (p : X → Bool) (h : Y → X) (ys : List Y) → list_any p (map h ys) ≡ list_any (λ y. p (h y)) ys
list_any-map p h [] = refl
list_any-map p h (y ∷ ys) = ap (λ b. p (h y) || b) (list_any-map p h ys)

pub map-map : {X Y Z : Type 0} (g : Y → Z) (f : X → Y) (xs : List X) → map g (map f xs) ≡ map (λ x. g (f x)) xs
map-map g f [] = refl
map-map g f (x ∷ xs) = ap (λ zs. g (f x) ∷ zs) (map-map g f xs)

-- a node of which P holds
abbrev pub With : (Node → Type 0) → Type 0
With P = (node : Node) × P node

-- the nodes themselves
abbrev pub bare : {P : Node → Type 0} → List (With P) → List Node
bare ns = map (λ e. e.0) ns

-- what holds of each kind of node where it holds of its parts
pub record Inductive (P : Node → Type 0) : Type 0 where
  pub at : (atom : ℕ) → P (At atom)
  pub negated : (inner : Node) → P inner → P (Not inner)
  pub all : (parts : List (With P)) → P (And (bare parts))
  pub any : (parts : List (With P)) → P (Or (bare parts))

of_layer : (P : Node → Type 0) → Inductive P → (y : Node-F (With P)) → P (roll-Node (map-Node (With P) Node (λ e. e.0) y))
of_layer P h (layer.At atom) = subst P (sym (rolls-At atom)) (h.at atom)
of_layer P h (layer.Not inner) = subst P (sym (rolls-Not inner.0)) (h.negated inner.0 inner.1)
of_layer P h (layer.And parts) = subst P (sym (rolls-And (bare parts))) (h.all parts)
of_layer P h (layer.Or parts) = subst P (sym (rolls-Or (bare parts))) (h.any parts)

pub node_induction : (P : Node → Type 0) → Inductive P → (node : Node) → P node
node_induction P h = ind-Node P (λ x y is. subst (λ z. P (roll-Node z)) is (of_layer P h y))

-- a fold at a node that is rolled from a layer
pub folds : (A : Type 0) (step : Node-F A → A) (node : Node) (a_layer : Node-F Node) → roll-Node a_layer ≡ node
    → fold-Node A step node ≡ step (map-Node Node A (fold-Node A step) a_layer)
folds A step node a_layer is = ap (fold-Node A step) (sym is) ∙ fold-roll-Node A step a_layer

module _ (at : ℕ → Bool) where
  pub truth-At : (atom : ℕ) → truth at (At atom) ≡ at atom
  unfolding truth
  truth-At atom = folds Bool (layer_truth at) _ (layer.At atom) (rolls-At atom)

  pub truth-Not : (inner : Node) → truth at (Not inner) ≡ not (truth at inner)
  unfolding truth
  truth-Not inner = folds Bool (layer_truth at) _ (layer.Not inner) (rolls-Not inner)

  pub truth-And : (parts : List Node) → truth at (And parts) ≡ list_all (truth at) parts
  unfolding truth
  truth-And parts = folds Bool (layer_truth at) _ (layer.And parts) (rolls-And parts) ∙ list_all-map itself (truth at) parts

  pub truth-Or : (parts : List Node) → truth at (Or parts) ≡ list_any (truth at) parts
  unfolding truth
  truth-Or parts = folds Bool (layer_truth at) _ (layer.Or parts) (rolls-Or parts) ∙ list_any-map itself (truth at) parts

module _ (count : ℕ) where
  pub below-At : (atom : ℕ) → atoms_below count (At atom) ≡ nat_lt atom count
  unfolding atoms_below
  below-At atom = folds Bool (layer_below count) _ (layer.At atom) (rolls-At atom)

  pub below-Not : (inner : Node) → atoms_below count (Not inner) ≡ atoms_below count inner
  unfolding atoms_below
  below-Not inner = folds Bool (layer_below count) _ (layer.Not inner) (rolls-Not inner)

  pub below-And : (parts : List Node) → atoms_below count (And parts) ≡ list_all (atoms_below count) parts
  unfolding atoms_below
  below-And parts = folds Bool (layer_below count) _ (layer.And parts) (rolls-And parts) ∙ list_all-map itself (atoms_below count) parts

  pub below-Or : (parts : List Node) → atoms_below count (Or parts) ≡ list_all (atoms_below count) parts
  unfolding atoms_below
  below-Or parts = folds Bool (layer_below count) _ (layer.Or parts) (rolls-Or parts) ∙ list_all-map itself (atoms_below count) parts

module _ (atoms : ℕ → Three) where
  pub view-At : (atom : ℕ) → node_view atoms (At atom) ≡ layer_view atoms (layer.At atom)
  unfolding node_view
  view-At atom = folds NodeView (layer_view atoms) _ (layer.At atom) (rolls-At atom)

  pub view-Not : (inner : Node) → node_view atoms (Not inner) ≡ layer_view atoms (layer.Not (node_view atoms inner))
  unfolding node_view
  view-Not inner = folds NodeView (layer_view atoms) _ (layer.Not inner) (rolls-Not inner)

  pub view-And : (parts : List Node) → node_view atoms (And parts) ≡ layer_view atoms (layer.And (map (node_view atoms) parts))
  unfolding node_view
  view-And parts = folds NodeView (layer_view atoms) _ (layer.And parts) (rolls-And parts)

  pub view-Or : (parts : List Node) → node_view atoms (Or parts) ≡ layer_view atoms (layer.Or (map (node_view atoms) parts))
  unfolding node_view
  view-Or parts = folds NodeView (layer_view atoms) _ (layer.Or parts) (rolls-Or parts)

  pub value-At : (atom : ℕ) → value_of atoms (At atom) ≡ atoms atom
  value-At atom = ap (λ (s : NodeView). s.0) (view-At atom)

  pub value-Not : (inner : Node) → value_of atoms (Not inner) ≡ three_not (value_of atoms inner)
  value-Not inner = ap (λ (s : NodeView). s.0) (view-Not inner)

  pub value-And : (parts : List Node) → value_of atoms (And parts) ≡ three_all (map (value_of atoms) parts)
  value-And parts = ap (λ (s : NodeView). s.0) (view-And parts) ∙ ap three_all (map-map (λ (s : NodeView). s.0) (node_view atoms) parts)

  pub value-Or : (parts : List Node) → value_of atoms (Or parts) ≡ three_any (map (value_of atoms) parts)
  value-Or parts = ap (λ (s : NodeView). s.0) (view-Or parts) ∙ ap three_any (map-map (λ (s : NodeView). s.0) (node_view atoms) parts)

  module _ (want : Bool) (atom : ℕ) (sign : Bool) where
    pub forces-At : (a : ℕ) → forces atoms (At a) want atom sign ≡ (nat_eq atom a && same_bool want sign)
    forces-At a = ap (λ (s : NodeView). s.1 want atom sign) (view-At a)

    pub forces-Not : (inner : Node) → forces atoms (Not inner) want atom sign ≡ forces atoms inner (not want) atom sign
    forces-Not inner = ap (λ (s : NodeView). s.1 want atom sign) (view-Not inner)

    pub forces-And : (parts : List Node) → forces atoms (And parts) want atom sign ≡ and_forces (map (node_view atoms) parts) want atom sign
    forces-And parts = ap (λ (s : NodeView). s.1 want atom sign) (view-And parts)

    pub forces-Or : (parts : List Node) → forces atoms (Or parts) want atom sign ≡ or_forces (map (node_view atoms) parts) want atom sign
    forces-Or parts = ap (λ (s : NodeView). s.1 want atom sign) (view-Or parts)

pub size-At : (atom : ℕ) → size_of (At atom) ≡ 1
unfolding size_of
size-At atom = folds ℕ layer_size _ (layer.At atom) (rolls-At atom)

pub size-Not : (inner : Node) → size_of (Not inner) ≡ size_of inner + 1
unfolding size_of
size-Not inner = folds ℕ layer_size _ (layer.Not inner) (rolls-Not inner)

pub size-And : (parts : List Node) → size_of (And parts) ≡ sum (map size_of parts) + 1
unfolding size_of
size-And parts = folds ℕ layer_size _ (layer.And parts) (rolls-And parts)

pub size-Or : (parts : List Node) → size_of (Or parts) ≡ sum (map size_of parts) + 1
unfolding size_of
size-Or parts = folds ℕ layer_size _ (layer.Or parts) (rolls-Or parts)
