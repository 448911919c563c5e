-- Which table of a section defines each variable.
use Rattle.std.specs.Prelude.{ℕ, ◌≡◌, ◌<◌, nat_lt, IsTrue, List, [], ◌∷◌, length, slice_get, slice_set, Option, Some, None, if◌then◌else◌}
use Rattle.ft_core.specs.declared.tables.Tables.{Tables}
use Rattle.ft_core.specs.declared.tables.Table.{Table}
use Rattle.ft_core.specs.declared.tables.Section.{Section}
use Rattle.ft_core.specs.declared.tables.Grid.{Grid}
use Rattle.ft_core.specs.declared.tables.Grid.TheVariants.{Normal, Inverted, Vector}
use Rattle.ft_core.specs.meaning.Grids.{is_for, is_section}
use Rattle.ft_oblige.specs.declared.defining.Homes.{Homes}

-- the variables that a table defines
abbrev pub targets_of : Grid → List ℕ
targets_of (Normal target columns rows terms) = target ∷ []
targets_of (Inverted target terms rows grid) = target ∷ []
targets_of (Vector columns targets terms) = targets

-- with the table of one more variable, where there is such a variable
abbrev pub with_home : (table : ℕ) → List (Option ℕ) → ℕ → List (Option ℕ)
with_home table homes x = if nat_lt x (length homes) then slice_set homes x (Some table) else homes

abbrev pub with_homes : (table : ℕ) → List (Option ℕ) → List ℕ → List (Option ℕ)
with_homes table homes [] = homes
with_homes table homes (x ∷ xs) = with_homes table (with_home table homes x) xs

-- with the variables of a table, if it is of the section
abbrev pub with_table : Section → (at : ℕ) → Table → List (Option ℕ) → List (Option ℕ)
with_table section at table homes = if is_section table.section section then with_homes at homes (targets_of table.grid) else homes

-- the table at this place is the section's for a variable
pub record IsHome (tables : List Table) (section : Section) (x k : ℕ) : Type 0 where
  pub table : Table
  pub there : slice_get tables k ≡ Some table
  pub defines_it : IsTrue (is_for section x table)

-- at the place of each variable stands its table among the first n, where there is one
pub record AreHomes (tables : List Table) (section : Section) (count n : ℕ) (homes : List (Option ℕ)) : Type 0 where
  pub long : length homes ≡ count
  pub fits : (x k : ℕ) → slice_get homes x ≡ Some (Some k) → IsHome tables section x k
  pub none : (x k : ℕ) (table : Table) → k < n → slice_get tables k ≡ Some table → IsTrue (is_for section x table)
      → slice_get homes x ≡ Some None → ⊥

-- the table of a variable, where one stands at its place
abbrev pub home_table : List Table → List (Option ℕ) → ℕ → Option Table
home_table tables homes x = elim (slice_get homes x) [ None ↦ None | Some home ↦ elim home [ None ↦ None | Some k ↦ slice_get tables k ] ]

-- the tables of a set's section, all of them, by the variables that they define
pub record IsHomesOf (S : Tables) (section : Section) (homes : Homes) : Type 0 where
  pub its : homes.section ≡ section
  pub are : AreHomes S.tables homes.section (length S.vars) (length S.tables) homes.tables
