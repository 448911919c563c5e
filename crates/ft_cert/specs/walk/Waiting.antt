-- Nodes in prefix order, each at the first of the parts that wait.
use Rattle.std.specs.Prelude.{ℕ, List, [], ◌∷◌, ◌++◌}
use Rattle.ft_linear.specs.meaning.Formula.{FormulaView}
use Rattle.ft_linear.specs.meaning.Part.{PartView}
use Rattle.ft_cert.specs.declared.node.CertNode.{CertNode}
use Rattle.ft_cert.specs.declared.node.CertNode.TheVariants as node
use Rattle.ft_cert.specs.meaning.Evidence.{Placed, placed}
use Rattle.ft_cert.specs.meaning.Parts.{low_part, high_part, true_part, false_part, tight_part}

-- the parts that a node makes of its own, in order
abbrev pub children : FormulaView → PartView → CertNode → List PartView
children f p node.F = []
children f p node.L = []
children f p (node.S lines) = []
children f p (node.R u v) = low_part p u v ∷ high_part p u v ∷ []
children f p (node.C a) = true_part p a ∷ false_part p a ∷ []
children f p (node.T u lines) = tight_part f p u lines ∷ []

-- each node at the first part that waits, which its own parts then take the place of
abbrev pub placed_by : FormulaView → List PartView → List CertNode → List Placed
placed_by f waiting [] = []
placed_by f [] (n ∷ ns) = []
placed_by f (p ∷ waiting) (n ∷ ns) = placed p n ∷ placed_by f (children f p n ++ waiting) ns

-- what contracts see of a descent: the parts that wait, the one at which it stands first; how many unknowns and atoms each
-- of them has; and for how many more steps there is room
pub record DescentView : Type 0 where
  pub parts : List PartView
  pub unknowns : ℕ
  pub atoms : ℕ
  pub spare : ℕ

abbrev pub nowhere : PartView
nowhere = record { spans = []; decided = [] }

abbrev pub first_of : List PartView → PartView
first_of [] = nowhere
first_of (p ∷ ps) = p

abbrev pub rest_of : List PartView → List PartView
rest_of [] = []
rest_of (p ∷ ps) = ps
