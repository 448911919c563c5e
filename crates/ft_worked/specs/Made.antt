-- What worked sets are made of.
use Rattle.std.specs.Prelude.{ℕ, ◌≡◌, ℤ, pos, List, [], ◌∷◌}
use Rattle.ft_core.specs.declared.tables.Tables.{Tables}
use Rattle.ft_core.specs.declared.tables.Table.{Table}
use Rattle.ft_core.specs.declared.tables.Var.{Var}
use Rattle.ft_core.specs.declared.tables.VarKind.{VarKind}
use Rattle.ft_core.specs.declared.tables.Memory.{Memory}
use Rattle.ft_core.specs.declared.term.Cond.{Cond}
use Rattle.ft_mean.specs.meaning.Reading.{Scans}

-- all of a set that its meaning looks at
pub record Parts : Type 0 where
  pub period : ℤ
  pub vars : List Var
  pub memories : List Memory
  pub tables : List Table
  pub first : List Cond
  pub always : List Cond
  pub step : List Cond

-- a set with these
pub record IsMadeOf (parts : Parts) (S : Tables) : Type 0 where
  pub period_is : S.period ≡ parts.period
  pub vars_are : S.vars ≡ parts.vars
  pub memories_are : S.memories ≡ parts.memories
  pub tables_are : S.tables ≡ parts.tables
  pub first_is : S.first ≡ parts.first
  pub always_is : S.always ≡ parts.always
  pub step_is : S.step ≡ parts.step

-- a number from 0 up, named by one letter
abbrev pub variable : (letter : ℕ) → VarKind → (place : ℕ) → (top init : ℤ) → Var
variable letter kind place top init =
    record { name = letter ∷ []; kind = kind; place = place; range = (pos 0, top); members = []; init = init }

-- scans of numbers that aren't negative
abbrev pub scan : List ℕ → List ℤ
scan [] = []
scan (n ∷ numbers) = pos n ∷ scan numbers

abbrev pub scans : List (List ℕ) → Scans
scans [] = []
scans (numbers ∷ more) = scan numbers ∷ scans more
