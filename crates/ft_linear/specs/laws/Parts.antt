-- Laws from the truth and the forced literals of a part to its points.
use Rattle.std.specs.Prelude.{◌≡◌, ◌<◌, ℕ, ℤ, true, false, List, length}
use Rattle.ft_base.specs.Interval.{IsWithin}
use Rattle.ft_base.specs.declared.three.Three.TheVariants.{No, Maybe, Yes}
use Rattle.ft_linear.specs.meaning.Difference.{Solves}
use Rattle.ft_linear.specs.meaning.Form.{InArea, span_at}
use Rattle.ft_linear.specs.meaning.Formula.{FormulaView, IsOver, Satisfies, atoms_below}
use Rattle.ft_linear.specs.meaning.Part.{PartView, PointOf, forced, truth_of}
use Rattle.ft_linear.specs.meaning.Rules.{HoldsForced}

-- where the truth is No, no point of the part satisfies the formula
abbrev pub NoneWhereNo : Type 0
NoneWhereNo =
    (f : FormulaView) (p : PartView) (x : ℕ → ℤ) → IsOver (length p.spans) f → truth_of f p ≡ No → PointOf f p x → Satisfies f x → ⊥

-- where it is Yes, each point of the part's area does
abbrev pub AllWhereYes : Type 0
AllWhereYes =
    (f : FormulaView) (p : PartView) (x : ℕ → ℤ) → IsOver (length p.spans) f → length p.decided ≡ length f.atoms → truth_of f p ≡ Yes
    → InArea p.spans x → Satisfies f x

-- a point of the part that satisfies the formula makes each forced literal true
abbrev pub ForcedHold : Type 0
ForcedHold = (f : FormulaView) (p : PartView) (x : ℕ → ℤ) → IsOver (length p.spans) f → PointOf f p x → Satisfies f x → HoldsForced f p x

-- so it meets the lines of the forced literals that are differences
abbrev pub DifferencesAreMet : Type 0
DifferencesAreMet = (f : FormulaView) (p : PartView) (x : ℕ → ℤ) → IsOver (length p.spans) f → PointOf f p x → Satisfies f x → Solves f p x

-- an atom that is forced both ways makes the truth No
abbrev pub NoWhereBothWays : Type 0
NoWhereBothWays =
    (f : FormulaView) (p : PartView) (a : ℕ) → a < length f.atoms → forced f p a true ≡ true → forced f p a false ≡ true → truth_of f p ≡ No

-- a part whose spans have one value each is never Maybe
abbrev pub SettledAtOnePoint : Type 0
SettledAtOnePoint = (f : FormulaView) (p : PartView) → atoms_below (length f.atoms) f.root ≡ true
    → ((u : ℕ) → (span_at p.spans u).0 ≡ (span_at p.spans u).1) → truth_of f p ≡ Maybe → ⊥

-- a point of an area lies in each span
abbrev pub WithinSpans : Type 0
WithinSpans = (spans : List (ℤ × ℤ)) (x : ℕ → ℤ) (u : ℕ) → InArea spans x → u < length spans → IsWithin (span_at spans u) (x u)
