-- What a search does at a part.
use Rattle.std.specs.Prelude.{◌≡◌, ◌<◌, ◌⊎◌, ℕ, ℤ, Bool, true, false, List, All, if◌then◌else◌}
use Rattle.ft_linear.specs.meaning.Form.{InArea, IsSmall, values_at}
use Rattle.ft_linear.specs.meaning.Formula.{FormulaView, Satisfies}
use Rattle.ft_linear.specs.meaning.Halving.{NoneHalves}
use Rattle.ft_linear.specs.meaning.Part.{PartView}
use Rattle.ft_cert.specs.declared.step.Step.{Step}
use Rattle.ft_cert.specs.declared.step.Step.TheVariants as step
use Rattle.ft_cert.specs.meaning.Evidence.{NodeHolds}
use Rattle.ft_cert.specs.walk.Steps.{CanStep, parts_by}
use Rattle.ft_cert.specs.walk.Waiting.{children}
use Rattle.ft_search.specs.declared.counts.Allowed.{Allowed}
use Rattle.ft_search.specs.declared.turns.Turn.{Turn}
use Rattle.ft_search.specs.declared.turns.Choice.{Choice}
use Rattle.ft_search.specs.declared.turns.Choice.TheVariants as choice
use Rattle.ft_search.specs.meaning.Spent.{IsLawful, halving_at, split_at}
use Rattle.ft_search.specs.searching.Kept.{node_of}

abbrev pub splits_by : Step → ℕ
splits_by step.Close = 0
splits_by (step.Cut u low high) = 1
splits_by (step.Decide a) = 1
splits_by (step.Tighten u span) = 0

abbrev pub tightens_by : Step → ℕ
tightens_by step.Close = 0
tightens_by (step.Cut u low high) = 0
tightens_by (step.Decide a) = 0
tightens_by (step.Tighten u span) = 1

abbrev pub halvings_by : Bool → ℕ
halvings_by halves = if halves then 1 else 0

-- a node that may stand at the part, with the step to its children's parts
pub record IsTurn (f : FormulaView) (p : PartView) (enough halved : ℕ) (t : Turn) : Type 0 where
  pub holds : NodeHolds f p (node_of f t.node)
  pub lawful : IsLawful f enough halved p (node_of f t.node)
  pub parts : children f p (node_of f t.node) ≡ parts_by p t.step
  pub can : CanStep p t.step
  pub splits : split_at (node_of f t.node) ≡ splits_by t.step
  pub halves : halving_at f p (node_of f t.node) ≡ halvings_by t.halves
  pub tightens : tightens_by t.step ≡ 0 → t.halves ≡ false

-- each point of the part's area satisfies the formula, or a node may stand there
abbrev pub IsChoice : FormulaView → PartView → ℕ → ℕ → Choice → Type 0
IsChoice f p enough halved choice.Met = (x : ℕ → ℤ) → InArea p.spans x → Satisfies f x
IsChoice f p enough halved choice.Found = Unit {0}
IsChoice f p enough halved (choice.Turn t) = IsTurn f p enough halved t

-- values of a point of the area that satisfies the formula
pub record IsPoint (f : FormulaView) (spans : List (ℤ × ℤ)) (values : List ℤ) : Type 0 where
  pub inside : InArea spans (values_at values)
  pub satisfies : Satisfies f (values_at values)
  pub small : All IsSmall values

-- where a point was found, the values are those of one
abbrev pub IsFoundAt : FormulaView → PartView → List ℤ → Choice → Type 0
IsFoundAt f p values choice.Met = Unit {0}
IsFoundAt f p values choice.Found = IsPoint f p.spans values
IsFoundAt f p values (choice.Turn t) = Unit {0}

-- a tightening is allowed by itself, or as one that halves its unknown
abbrev pub IsAllowedTurn : Allowed → Turn → Type 0
IsAllowedTurn allowed t = tightens_by t.step ≡ 1 → (allowed.others ≡ true) ⊎ ((allowed.halving ≡ true) × (t.halves ≡ true))

abbrev pub IsAllowed : Allowed → Choice → Type 0
IsAllowed allowed choice.Met = Unit {0}
IsAllowed allowed choice.Found = Unit {0}
IsAllowed allowed (choice.Turn t) = IsAllowedTurn allowed t

-- nothing is tightened
abbrev pub IsSplit : Choice → Type 0
IsSplit choice.Met = Unit {0}
IsSplit choice.Found = Unit {0}
IsSplit (choice.Turn t) = tightens_by t.step ≡ 0

-- where it is asked, no literal halves an unknown
abbrev pub IsDenied : FormulaView → PartView → ℕ → ℕ → Type 0
IsDenied f p enough halved = halved < enough → NoneHalves f p
