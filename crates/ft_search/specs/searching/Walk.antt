-- The parts that wait after nodes in prefix order, and what a search has counted.
use Rattle.std.specs.Prelude.{◌≡◌, ◌+◌, ◌*◌, ℕ, ℤ, List, [], ◌∷◌, ◌++◌, length, map}
use Rattle.ft_linear.specs.meaning.Form.{InArea}
use Rattle.ft_linear.specs.meaning.Formula.{FormulaView}
use Rattle.ft_linear.specs.meaning.Part.{PartView}
use Rattle.ft_cert.specs.declared.node.CertNode.{CertNode}
use Rattle.ft_cert.specs.meaning.Evidence.{Each, Placed}
use Rattle.ft_cert.specs.walk.Waiting.{children, placed_by}
use Rattle.ft_search.specs.meaning.Spent.{by_law, halvings_in, splits_in}

-- what waits once each of the nodes has taken the place of the first part
abbrev pub left_by : FormulaView → List PartView → List CertNode → List PartView
left_by f waiting [] = waiting
left_by f [] (n ∷ ns) = []
left_by f (p ∷ waiting) (n ∷ ns) = left_by f (children f p n ++ waiting) ns

-- a point of the area of any of these parts is one of the area
abbrev pub AreInside : List (ℤ × ℤ) → (ℕ → ℤ) → List PartView → Type 0
AreInside spans x [] = Unit {0}
AreInside spans x (p ∷ ps) = (InArea p.spans x → InArea spans x) × AreInside spans x ps

-- lawful nodes from this part on, after which these parts wait
pub record IsWalk (f : FormulaView) (enough : ℕ) (p : PartView) (ns : List CertNode) (waiting : List PartView) (used halved tight : ℕ)
    : Type 0 where
  pub each : Each (by_law f enough) (placed_by f (p ∷ []) ns)
  pub left : left_by f (p ∷ []) ns ≡ waiting
  pub named : map (λ (e : Placed). e.node) (placed_by f (p ∷ []) ns) ≡ ns
  pub splits : splits_in (placed_by f (p ∷ []) ns) ≡ used
  pub halvings : halvings_in f (placed_by f (p ∷ []) ns) ≡ halved
  pub count : length ns + length waiting ≡ 2 * used + 1 + tight
  pub inside : (x : ℕ → ℤ) → AreInside p.spans x waiting
