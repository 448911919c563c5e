-- Trees that a search leaves when its splits are used up.
use Rattle.std.specs.Prelude.{◌≡◌, ◌+◌, ◌*◌, ◌<◌, ℕ, ℤ, pos, ◌+ℤ◌, true, false, List, [], ◌∷◌, ◌++◌, None, if◌then◌else◌}
use Rattle.std.specs.List.{sum_by}
use Rattle.ft_base.specs.Division.{floor_of}
use Rattle.ft_base.specs.declared.three.Three.TheVariants.{Maybe}
use Rattle.ft_linear.specs.meaning.Difference.{HasSolution}
use Rattle.ft_linear.specs.meaning.Form.{span_at}
use Rattle.ft_linear.specs.meaning.Formula.{FormulaView}
use Rattle.ft_linear.specs.meaning.Halving.{NoneHalves, is_half}
use Rattle.ft_linear.specs.meaning.Part.{PartView, decision, fixed, forced, truth_of}
use Rattle.ft_cert.specs.declared.node.CertNode.{CertNode}
use Rattle.ft_cert.specs.declared.node.CertNode.TheVariants as node
use Rattle.ft_cert.specs.meaning.Evidence.{Each, NodeHolds, Placed, Rule, placed_of}
use Rattle.ft_cert.specs.meaning.Parts.{low_part, high_part, true_part, false_part, tight_part, tight_span}
use Rattle.ft_cert.specs.meaning.Tree.{Tree, Open, F, L, S, R, C, T, nodes_of}
use Rattle.ft_cert.specs.prefix.Row.{tree_of}

-- 1 for a cut or a case
abbrev pub split_at : CertNode → ℕ
split_at node.F = 0
split_at node.L = 0
split_at (node.S lines) = 0
split_at (node.R u v) = 1
split_at (node.C a) = 1
split_at (node.T u lines) = 0

-- 1 where a node leaves its unknown at most half of its values
abbrev pub halving_at : FormulaView → PartView → CertNode → ℕ
halving_at f p node.F = 0
halving_at f p node.L = 0
halving_at f p (node.S lines) = 0
halving_at f p (node.R u v) = 0
halving_at f p (node.C a) = 0
halving_at f p (node.T u lines) = if is_half (span_at p.spans u) (tight_span f p u lines) then 1 else 0

-- the cuts and cases among nodes, and the nodes that halve an unknown
abbrev pub splits_in : List Placed → ℕ
splits_in es = sum_by (λ e. split_at e.node) es

abbrev pub halvings_in : FormulaView → List Placed → ℕ
halvings_in f es = sum_by (λ e. halving_at f e.part e.node) es

-- nothing closes the part: its truth is open, its bounds and difference lines have a whole solution, and no forced literal halves
-- an unknown, which isn't asked once enough nodes that halve one stand before
pub record IsUnsettled (f : FormulaView) (enough : ℕ) (halved : ℕ) (p : PartView) : Type 0 where
  pub maybe : truth_of f p ≡ Maybe
  pub solution : HasSolution f p
  pub none : halved < enough → NoneHalves f p

-- an atom that is neither decided, nor fixed, nor forced
pub record IsOpenAtom (f : FormulaView) (p : PartView) (a : ℕ) : Type 0 where
  pub undecided : decision p a ≡ None
  pub unfixed : fixed f p a ≡ Maybe
  pub not_true : forced f p a true ≡ false
  pub not_false : forced f p a false ≡ false

-- the middle of a span
abbrev pub middle_of : ℤ × ℤ → ℤ
middle_of s = floor_of (s.0 +ℤ s.1) (pos 2)

-- a split stands at an unsettled part alone: a cut in the middle, or a case on an open atom
abbrev pub IsLawful : FormulaView → ℕ → ℕ → PartView → CertNode → Type 0
IsLawful f enough halved p node.F = Unit {0}
IsLawful f enough halved p node.L = Unit {0}
IsLawful f enough halved p (node.S lines) = Unit {0}
IsLawful f enough halved p (node.R u v) = IsUnsettled f enough halved p × (v ≡ middle_of (span_at p.spans u))
IsLawful f enough halved p (node.C a) = IsUnsettled f enough halved p × IsOpenAtom f p a
IsLawful f enough halved p (node.T u lines) = Unit {0}

-- a node holds for its own part, and is lawful by the nodes that halve an unknown before it
abbrev pub by_law : FormulaView → ℕ → Rule
by_law f enough before e = NodeHolds f e.part e.node × IsLawful f enough (halvings_in f before) e.part e.node

-- the parts of the open leaves of a tree that stands for this part, in prefix order
abbrev pub open_parts : FormulaView → PartView → Tree → List PartView
open_parts f p Open = p ∷ []
open_parts f p F = []
open_parts f p L = []
open_parts f p (S lines) = []
open_parts f p (R u v a b) = open_parts f (low_part p u v) a ++ open_parts f (high_part p u v) b
open_parts f p (C atom a b) = open_parts f (true_part p atom) a ++ open_parts f (false_part p atom) b
open_parts f p (T u lines a) = open_parts f (tight_part f p u lines) a

-- so many nodes that halve an unknown are enough for a search of n splits
abbrev pub enough_for : ℕ → ℕ
enough_for n = 2 * n + 96

-- a tree of n lawful splits all of whose open leaves come after its nodes, so that each part before the first of them is closed by
-- evidence; and nothing closes the part of that one
pub record IsSpentBy (f : FormulaView) (enough : ℕ) (p : PartView) (n : ℕ) (t : Tree) : Type 0 where
  pub splits : splits_in (placed_of f p t) ≡ n
  pub each : Each (by_law f enough) (placed_of f p t)
  pub nodes_first : tree_of (nodes_of t) ≡ t
  pub first : PartView
  pub others : List PartView
  pub waiting : open_parts f p t ≡ first ∷ others
  pub unsettled : IsUnsettled f enough (halvings_in f (placed_of f p t)) first

abbrev pub IsSpent : FormulaView → PartView → ℕ → Tree → Type 0
IsSpent f p n t = IsSpentBy f (enough_for n) p n t
