-- What a row of the variables of one kind tells, with the row before it.
use Rattle.std.specs.Prelude.{ℕ, ℤ, pos, negsuc, Bool, false, IsTrue, List, [], ◌∷◌, slice_index_or, if◌then◌else◌}
use Rattle.ft_core.specs.declared.tables.Tables.{Tables}
use Rattle.ft_core.specs.declared.tables.Var.{Var}
use Rattle.ft_core.specs.declared.tables.Section.{Section}
use Rattle.ft_core.specs.meaning.Kinds.{Kinds, defined_kinds, place_of}
use Rattle.ft_mean.specs.meaning.Cells.{defined}
use Rattle.ft_mean.specs.meaning.Reading.{IsVar, init_of, reading_of}
use Rattle.ft_mean.specs.meaning.Value.{View}

-- what every name stands for at a row, where the one before it is there or not; a row tells of no memory
abbrev pub row_view : Tables → Kinds → (row earlier : List ℤ) → (begins : Bool) → View
row_view S kinds row earlier begins = record {
  now = reading_of S kinds (row ∷ []) 0;
  before = λ x. if begins then init_of S x else reading_of S kinds (earlier ∷ []) 0 x;
  age = λ m. negsuc 0;
  memory = λ m. false;
}

-- some cell holds for each variable that the section defines
abbrev pub HasValues : Tables → Section → View → Type 0
HasValues S section V = (x : ℕ) (v : Var) → IsVar S (defined_kinds section) x v → (z : ℤ) × IsTrue (defined S section V x z)

-- what a row of the variables that the section defines has for one of them
abbrev pub row_value : Tables → Section → List ℤ → ℕ → ℤ
row_value S section row x = slice_index_or row (place_of (defined_kinds section) S.vars x) (pos 0)

-- the row has the value of each variable that the section defines
abbrev pub AreValues : Tables → Section → View → List ℤ → Type 0
AreValues S section V row = (x : ℕ) (v : Var) → IsVar S (defined_kinds section) x v
    → IsTrue (defined S section V x (row_value S section row x))
