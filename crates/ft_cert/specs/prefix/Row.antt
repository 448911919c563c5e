-- Trees read from nodes in prefix order.
use Rattle.std.specs.Prelude.{◌+◌, ℕ, zero, suc, Bool, true, false, List, [], ◌∷◌}
use Rattle.ft_cert.specs.declared.node.CertNode.{CertNode}
use Rattle.ft_cert.specs.declared.node.CertNode.TheVariants as node
use Rattle.ft_cert.specs.meaning.Tree.{Tree, Open, F, L, S, R, C, T}

abbrev pub head_of : List Tree → Tree
head_of [] = Open
head_of (t ∷ ts) = t

abbrev pub tail_of : List Tree → List Tree
tail_of [] = []
tail_of (t ∷ ts) = ts

-- a node before a row of trees takes the first of them for its parts, and open leaves for those that aren't there
abbrev pub with_node : CertNode → List Tree → List Tree
with_node node.F ts = F ∷ ts
with_node node.L ts = L ∷ ts
with_node (node.S lines) ts = S lines ∷ ts
with_node (node.R u v) ts = R u v (head_of ts) (head_of (tail_of ts)) ∷ tail_of (tail_of ts)
with_node (node.C atom) ts = C atom (head_of ts) (head_of (tail_of ts)) ∷ tail_of (tail_of ts)
with_node (node.T u lines) ts = T u lines (head_of ts) ∷ tail_of ts

-- the trees that nodes spell one after another, read from the last node
abbrev pub row_of : List CertNode → List Tree
row_of [] = []
row_of (n ∷ ns) = with_node n (row_of ns)

-- the tree that a list of nodes begins, with open leaves where it ends too soon
abbrev pub tree_of : List CertNode → Tree
tree_of ns = head_of (row_of ns)

-- how many parts a node makes of its own
abbrev pub parts_of : CertNode → ℕ
parts_of node.F = 0
parts_of node.L = 0
parts_of (node.S lines) = 0
parts_of (node.R u v) = 2
parts_of (node.C atom) = 2
parts_of (node.T u lines) = 1

-- these nodes spell so many trees without open leaves, one after another
abbrev pub are_trees : ℕ → List CertNode → Bool
are_trees zero [] = true
are_trees (suc k) [] = false
are_trees zero (n ∷ ns) = false
are_trees (suc k) (n ∷ ns) = are_trees (parts_of n + k) ns
