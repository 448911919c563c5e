-- Trees of nodes, each for a part of an area. This project's own.
use Rattle.std.specs.Prelude.{ℕ, ℤ, Bool, true, false, ◌&&◌, List, [], ◌∷◌, ◌++◌}
use Rattle.ft_linear.specs.declared.lines.Line.{Line}
use Rattle.ft_cert.specs.declared.node.CertNode.{CertNode}
use Rattle.ft_cert.specs.declared.node.CertNode.TheVariants as node

-- Open is a leaf that nothing closes; F, L and S close their part; R cuts an unknown at a value, C decides an atom, and T
-- tightens an unknown by lines
pub data Tree : Type 0 where
  Open : Tree
  F : Tree
  L : Tree
  S : List Line → Tree
  R : ℕ → ℤ → Tree → Tree → Tree
  C : ℕ → Tree → Tree → Tree
  T : ℕ → List Line → Tree → Tree

-- the nodes in prefix order, with nothing for an open leaf
abbrev pub nodes_of : Tree → List CertNode
nodes_of Open = []
nodes_of F = node.F ∷ []
nodes_of L = node.L ∷ []
nodes_of (S lines) = node.S lines ∷ []
nodes_of (R u v a b) = node.R u v ∷ (nodes_of a ++ nodes_of b)
nodes_of (C atom a b) = node.C atom ∷ (nodes_of a ++ nodes_of b)
nodes_of (T u lines a) = node.T u lines ∷ nodes_of a

-- no leaf is open
abbrev pub is_closed : Tree → Bool
is_closed Open = false
is_closed F = true
is_closed L = true
is_closed (S lines) = true
is_closed (R u v a b) = is_closed a && is_closed b
is_closed (C atom a b) = is_closed a && is_closed b
is_closed (T u lines a) = is_closed a
