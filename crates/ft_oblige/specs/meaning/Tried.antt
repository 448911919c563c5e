-- What a search finds of a formula in an area.
use Rattle.std.specs.Prelude.{ℕ, ◌+◌, ◌*◌, ◌^◌, ◌<◌, ℤ, List, length}
use Rattle.ft_linear.specs.meaning.Form.{InArea, values_at}
use Rattle.ft_linear.specs.meaning.Formula.{FormulaView, Satisfies}
use Rattle.ft_cert.specs.meaning.Evidence.{Holds}
use Rattle.ft_cert.specs.meaning.Parts.{whole_of}
use Rattle.ft_cert.specs.meaning.Tree.{Tree}
use Rattle.ft_search.specs.laws.Budget.{points_in}
use Rattle.ft_search.specs.meaning.Spent.{IsSpent}
use Rattle.ft_oblige.specs.declared.trying.Tried.{Tried}
use Rattle.ft_oblige.specs.declared.trying.Tried.TheVariants.{Closed, Point, Spent}

-- no point of the area satisfies the formula
abbrev pub HasNoPoint : FormulaView → List (ℤ × ℤ) → Type 0
HasNoPoint f spans = (x : ℕ → ℤ) → InArea spans x → Satisfies f x → ⊥

-- a certificate holds for the area, and so no point satisfies the formula
pub record IsClosedBy (f : FormulaView) (spans : List (ℤ × ℤ)) (cert : Tree) : Type 0 where
  pub holds : Holds f (whole_of f spans) cert
  pub none : HasNoPoint f spans

-- values in the spans that satisfy the formula
pub record IsPointIn (f : FormulaView) (spans : List (ℤ × ℤ)) (values : List ℤ) : Type 0 where
  pub in_area : InArea spans (values_at values)
  pub satisfies : Satisfies f (values_at values)

-- a tree that is left when the splits are used up, which are fewer than the area has points, times two for each atom, less one
pub record IsSpentIn (f : FormulaView) (spans : List (ℤ × ℤ)) (splits : ℕ) (tree : Tree) : Type 0 where
  pub spent : IsSpent f (whole_of f spans) splits tree
  pub few : splits + 1 < points_in spans * 2 ^ length f.atoms

abbrev pub IsTried : FormulaView → List (ℤ × ℤ) → ℕ → Tried → Type 0
IsTried f spans splits (Closed cert) = IsClosedBy f spans cert
IsTried f spans splits (Point values) = IsPointIn f spans values
IsTried f spans splits (Spent tree) = IsSpentIn f spans splits tree
