-- Laws of certificates.
use Rattle.std.specs.Prelude.{◌≡◌, ℕ, ℤ, true, [], ◌∷◌, length}
use Rattle.ft_linear.specs.meaning.Formula.{FormulaView, IsOver, Satisfies}
use Rattle.ft_linear.specs.meaning.Part.{PartView, PointOf}
use Rattle.ft_cert.specs.meaning.Evidence.{Holds, placed_of}
use Rattle.ft_cert.specs.meaning.Tree.{Tree, is_closed, nodes_of}
use Rattle.ft_cert.specs.walk.Waiting.{placed_by}

-- where a certificate holds for a part, no point of the part satisfies the formula
abbrev pub NoneWhereHolds : Type 0
NoneWhereHolds =
    (f : FormulaView) (p : PartView) (t : Tree) (x : ℕ → ℤ) → IsOver (length p.spans) f → Holds f p t → PointOf f p x → Satisfies f x → ⊥

-- the own parts of a tree's nodes, as its nodes alone tell them
abbrev pub PlacedInOrder : Type 0
PlacedInOrder = (f : FormulaView) (p : PartView) (t : Tree) → is_closed t ≡ true → placed_by f (p ∷ []) (nodes_of t) ≡ placed_of f p t

-- each node has a place
abbrev pub AllArePlaced : Type 0
AllArePlaced = (f : FormulaView) (p : PartView) (t : Tree) → length (placed_of f p t) ≡ length (nodes_of t)
