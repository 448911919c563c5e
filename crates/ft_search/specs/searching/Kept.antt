-- The nodes that a room keeps.
use Rattle.std.specs.Prelude.{◌≡◌, ◌<◌, ◌^◌, ℕ, pos, length, neg_ℤ, Bool, List, [], ◌∷◌, map, slice_get, unwrap_or, if◌then◌else◌}
use Rattle.ft_linear.specs.declared.lines.Line.{Line}
use Rattle.ft_linear.specs.meaning.Form.{Factor, LinView}
use Rattle.ft_linear.specs.meaning.Formula.{FormulaView}
use Rattle.ft_linear.specs.meaning.Halving.{cancelling, is_other, single_lines}
use Rattle.ft_linear.specs.meaning.Part.{PartView}
use Rattle.ft_cert.specs.declared.node.CertNode.{CertNode}
use Rattle.ft_cert.specs.declared.node.CertNode.TheVariants as node
use Rattle.ft_cert.specs.meaning.Evidence.{Holds}
use Rattle.ft_cert.specs.meaning.Tree.{Tree, nodes_of}
use Rattle.ft_search.specs.declared.kept.KeptNode.{KeptNode}
use Rattle.ft_search.specs.declared.kept.KeptNode.TheVariants as kept

abbrev pub form_of : FormulaView → ℕ → LinView
form_of f a = unwrap_or (slice_get f.atoms a) (record { factors = []; constant = pos 0 })

-- the node of a certificate, whose lines are those of the literal
abbrev pub node_of : FormulaView → KeptNode → CertNode
node_of f kept.Refuted = node.F
node_of f kept.Unsolved = node.L
node_of f (kept.Cut u v) = node.R u v
node_of f (kept.Case a) = node.C a
node_of f (kept.Tightened u a s) = node.T u (single_lines a s u (form_of f a))

abbrev pub nodes_by : FormulaView → List KeptNode → List CertNode
nodes_by f ks = map (λ k. node_of f k) ks

-- the bound that cancels a factor of another unknown
abbrev pub other_line : Bool → ℕ → Factor → List Line
other_line s u g = if is_other u g then cancelling (g.0, if s then g.1 else neg_ℤ g.1) ∷ [] else []

-- these are the nodes of a certificate that holds for the part
pub record IsEvidence (f : FormulaView) (p : PartView) (ns : List CertNode) : Type 0 where
  pub tree : Tree
  pub nodes : nodes_of tree ≡ ns
  pub holds : Holds f p tree
  pub few : length ns < 2 ^ 32
