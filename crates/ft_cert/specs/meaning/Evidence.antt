-- When a node holds for its own part, and when a tree holds.
use Rattle.std.specs.Prelude.{◌≡◌, ◌+◌, ◌<◌, ◌≤ℤ◌, ◌<ℤ◌, ℕ, ℤ, true, List, [], ◌∷◌, ◌++◌, Some, None, length, take, slice_get}
use Rattle.ft_base.specs.declared.three.Three.TheVariants.{No}
use Rattle.ft_linear.specs.meaning.Difference.{HasNoSolution}
use Rattle.ft_linear.specs.meaning.Form.{span_at}
use Rattle.ft_linear.specs.meaning.Formula.{FormulaView}
use Rattle.ft_linear.specs.meaning.Part.{PartView, decision, truth_of}
use Rattle.ft_linear.specs.meaning.Rules.{Contradicts, Tightens}
use Rattle.ft_cert.specs.declared.node.CertNode.{CertNode}
use Rattle.ft_cert.specs.declared.node.CertNode.TheVariants as node
use Rattle.ft_cert.specs.meaning.Parts.{low_part, high_part, true_part, false_part, tight_part, tight_span}
use Rattle.ft_cert.specs.meaning.Tree.{Tree, Open, F, L, S, R, C, T, is_closed}

-- the unknown exists, and the value is one of its span but the greatest
pub record CutsAt (p : PartView) (u : ℕ) (v : ℤ) : Type 0 where
  pub unknown : u < length p.spans
  pub from : (span_at p.spans u).0 ≤ℤ v
  pub below : v <ℤ (span_at p.spans u).1

-- the atom exists and is undecided
pub record DecidesAt (f : FormulaView) (p : PartView) (a : ℕ) : Type 0 where
  pub atom : a < length f.atoms
  pub undecided : decision p a ≡ None

-- the rule of each kind of node
abbrev pub NodeHolds : FormulaView → PartView → CertNode → Type 0
NodeHolds f p node.F = truth_of f p ≡ No
NodeHolds f p node.L = HasNoSolution f p
NodeHolds f p (node.S lines) = Contradicts f p lines
NodeHolds f p (node.R u v) = CutsAt p u v
NodeHolds f p (node.C a) = DecidesAt f p a
NodeHolds f p (node.T u lines) = Tightens f p u lines (tight_span f p u lines)

-- a node at the part for which it stands
pub record Placed : Type 0 where
  pub part : PartView
  pub node : CertNode

abbrev pub placed : PartView → CertNode → Placed
placed p n = record { part = p; node = n }

-- the nodes of a tree in prefix order, each at its own part, where the tree stands for this part; nothing for an open leaf
abbrev pub placed_of : FormulaView → PartView → Tree → List Placed
placed_of f p Open = []
placed_of f p F = placed p node.F ∷ []
placed_of f p L = placed p node.L ∷ []
placed_of f p (S lines) = placed p (node.S lines) ∷ []
placed_of f p (R u v a b) = placed p (node.R u v) ∷ (placed_of f (low_part p u v) a ++ placed_of f (high_part p u v) b)
placed_of f p (C atom a b) = placed p (node.C atom) ∷ (placed_of f (true_part p atom) a ++ placed_of f (false_part p atom) b)
placed_of f p (T u lines a) = placed p (node.T u lines) ∷ placed_of f (tight_part f p u lines) a

-- what may be asked of a node at its own part, by those before it
abbrev pub Rule : Type 1
Rule = List Placed → Placed → Type 0

-- each of the first so many nodes by a rule
abbrev pub EachBelow : Rule → List Placed → ℕ → Type 0
EachBelow Q es n = (i : ℕ) (e : Placed) → i < n → slice_get es i ≡ Some e → Q (take i es) e

abbrev pub Each : Rule → List Placed → Type 0
Each Q es = (i : ℕ) (e : Placed) → slice_get es i ≡ Some e → Q (take i es) e

abbrev pub by_its_kind : FormulaView → Rule
by_its_kind f before e = NodeHolds f e.part e.node

-- a tree without open leaves each of whose nodes holds for its own part
pub record Holds (f : FormulaView) (p : PartView) (t : Tree) : Type 0 where
  pub closed : is_closed t ≡ true
  pub each : Each (by_its_kind f) (placed_of f p t)

-- the node with this number in prefix order, from 1, doesn't hold for its own part, and those before it do
pub record IsFirstRefused (f : FormulaView) (p : PartView) (t : Tree) (number : ℕ) : Type 0 where
  pub place : ℕ
  pub refused : Placed
  pub number_is : number ≡ place + 1
  pub stands : slice_get (placed_of f p t) place ≡ Some refused
  pub before : EachBelow (by_its_kind f) (placed_of f p t) place
  pub fails : NodeHolds f refused.part refused.node → ⊥
