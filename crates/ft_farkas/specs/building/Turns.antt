-- What a turn of the elimination leaves.
use Rattle.std.specs.Prelude.{◌≡◌, ℕ, suc, ℤ, pos, ◌+◌, ◌<◌, ◌≤◌, ◌<ℤ◌, ◌≤ℤ◌, List, length}
use Rattle.ft_linear.specs.declared.lines.Line.{Line}
use Rattle.ft_linear.specs.meaning.Formula.{FormulaView}
use Rattle.ft_linear.specs.meaning.Part.{PartView}
use Rattle.ft_farkas.specs.declared.answer.Eliminated.{Eliminated}
use Rattle.ft_farkas.specs.declared.answer.Eliminated.TheVariants.{Sum, RationalPoint, Far, Rows, Wide}
use Rattle.ft_farkas.specs.declared.assigning.Assigned.{Assigned}
use Rattle.ft_farkas.specs.declared.assigning.Assigned.TheVariants.{All, Beyond, Clash}
use Rattle.ft_farkas.specs.meaning.Rows.{Row, constant, sources}
use Rattle.ft_farkas.specs.meaning.Kept.{row_in, AreKept, IsDerived}
use Rattle.ft_farkas.specs.meaning.Fractions.{IsBelow, BoundsAbove, BoundsBelow, AreGiven, MeetsAll}
use Rattle.ft_farkas.specs.meaning.Answers.{HasFar, IsFar, AreSame, AreDifferent, IsTooWide, IsWide}
use Rattle.ft_farkas.specs.building.Points.{excess, IsBound, IsNear}
use Rattle.ft_farkas.specs.building.Forms.{NoneContradict, ShowsSum}

-- the unknowns before this one have fractions, and no number is above 2^53
abbrev pub IsUp : ℕ → List (List ℤ) → Row → ℕ → Type 0
IsUp unknowns kept x u = AreGiven unknowns kept (λ v. x (suc v)) (x 0) u × ((c : ℕ) → c ≤ u → IsNear (x c))

-- the unknowns before this one have fractions, and two kept rows leave it none: its lower bound is above its upper bound
pub record ClashAt (unknowns : ℕ) (kept : List (List ℤ)) (u upper lower : ℕ) : Type 0 where
  pub within : u < unknowns
  pub x : Row
  pub given : AreGiven unknowns kept (λ v. x (suc v)) (x 0) u
  pub value : ℤ
  pub times : ℕ
  pub bound : IsBound unknowns u kept x lower value times
  pub upper_kept : upper < length kept
  pub above : BoundsAbove unknowns u (row_in kept upper)
  pub over : pos 0 <ℤ excess u (row_in kept upper) x times value

-- how the giving of fractions ends
abbrev pub Ends : ℕ → List (List ℤ) → Row → Assigned → Type 0
Ends unknowns kept x All = AreGiven unknowns kept (λ v. x (suc v)) (x 0) unknowns
Ends unknowns kept x Beyond = HasFar unknowns kept
Ends unknowns kept x (Clash u upper lower) = ClashAt unknowns kept u upper lower

-- the row of the lower bound of each unknown stands at its place
abbrev pub HaveLower : ℕ → List (List ℤ) → ℕ → Type 0
HaveLower unknowns kept lines = (u : ℕ) → u < unknowns → (lines + (u + u) + 1 < length kept) × BoundsBelow unknowns u (row_in kept (lines + (u + u) + 1))

-- a derived row that is the same as no kept row, and doesn't contradict
pub record IsNext (unknowns : ℕ) (kept : List (List ℤ)) (r : Row) : Type 0 where
  pub derived : IsDerived unknowns kept (length kept) r
  pub apart : (k : ℕ) → k < length kept → AreSame unknowns r (row_in kept k) → ⊥
  pub quiet : IsBelow unknowns 0 r → constant r ≤ℤ pos 0

-- how a turn ends the elimination, with the kept rows before and after it
abbrev pub Turns : ℕ → List (List ℤ) → List (List ℤ) → Row → Row → Eliminated → Type 0
Turns unknowns old new x r Sum = IsDerived unknowns old (length old) r × IsBelow unknowns 0 r × (pos 0 <ℤ constant r)
Turns unknowns old new x r RationalPoint = (new ≡ old) × AreGiven unknowns old (λ v. x (suc v)) (x 0) unknowns
Turns unknowns old new x r Far = (new ≡ old) × HasFar unknowns old
Turns unknowns old new x r Rows = ⊥
Turns unknowns old new x r (Wide first second) = (new ≡ old) × IsTooWide unknowns old first second

-- kept rows, none of which contradicts, and no derived row the same as one before it
pub record IsUnderWay (f : FormulaView) (p : PartView) (lines : List Line) (kept : List (List ℤ)) : Type 0 where
  pub rows : AreKept f p lines kept
  pub none : NoneContradict (length p.spans) kept (length kept)
  pub apart : (i j : ℕ) → i < j → length (sources p lines) ≤ j → j < length kept → AreSame (length p.spans) (row_in kept j) (row_in kept i) → ⊥

-- what an answer says of the kept rows, the point and the last row
abbrev pub Finds : FormulaView → PartView → List Line → List (List ℤ) → Row → Row → Eliminated → Type 0
Finds f p lines kept x r Sum = ShowsSum f p lines r
Finds f p lines kept x r RationalPoint = (pos 0 <ℤ x 0) × MeetsAll f p lines (λ u. x (suc u)) (x 0)
Finds f p lines kept x r Far = IsFar f p lines kept
Finds f p lines kept x r Rows = (length kept ≡ length (sources p lines) + 2000) × AreDifferent f p lines kept
Finds f p lines kept x r (Wide first second) = IsWide f p lines kept first second
