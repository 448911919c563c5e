-- Obligations with the labels of their unknowns, as they are made.
use Rattle.std.specs.Prelude.{ℕ, ◌≡◌, ◌*◌, nat_le, Bool, true, List, length, map, slice_get, Some}
use Rattle.ft_core.specs.declared.tables.Tables.{Tables}
use Rattle.ft_core.specs.declared.tables.Table.{Table}
use Rattle.ft_core.specs.meaning.Reads.{grid_reads}
use Rattle.ft_settle.specs.meaning.Settled.{settled}
use Rattle.ft_claims.specs.laws.PointLaws.{cover_obliged}
use Rattle.ft_claims.specs.meaning.Areas.{Obliged}
use Rattle.ft_claims.specs.meaning.Coverage.{Fault, gap, overlap, range}
use Rattle.ft_claims.specs.meaning.Shown.{AreReadMemories}
use Rattle.ft_linear.specs.meaning.Formula.{IsOver}
use Rattle.ft_oblige.specs.declared.nodes.TableFault.{TableFault}
use Rattle.ft_oblige.specs.declared.nodes.TableFault.TheVariants.{Gap, Overlap, Range}
use Rattle.ft_oblige.specs.declared.made.Obligation.{Obligation}
use Rattle.ft_oblige.specs.meaning.Labels.{label_of, slot_at}
use Rattle.ft_oblige.specs.meaning.Obligations.{IsObligation}

abbrev pub meant : TableFault → Fault
meant Gap = gap
meant Overlap = overlap
meant Range = range

-- the settled formula, the area and what the names stand for; each unknown of the formula has a span
pub record IsFormOf (S : Tables) (bits : Bool) (obliged : Obliged) (o : Obligation) : Type 0 where
  pub formula : o.formula ≡ settled obliged.formula
  pub area : o.area.spans ≡ obliged.spans
  pub over : IsOver (length o.area.spans) o.formula
  pub slots : o.slots ≡ map (slot_at S) obliged.names
  pub labels : o.labels ≡ map (label_of S bits) o.slots

-- that a table doesn't show a fault, with the links of the memories that it reads
pub record IsCoverage (S : Tables) (k : ℕ) (fault : TableFault) (o : Obligation) : Type 0 where
  pub table : Table
  pub its : slice_get S.tables k ≡ Some table
  pub memories : List ℕ
  pub read : AreReadMemories S (grid_reads table.grid) memories
  pub form : IsFormOf S true (cover_obliged S (meant fault) table.grid memories) o

-- the obligation with this number. In those of tables every memory is a bit
pub record IsNumbered (S : Tables) (n : ℕ) (o : Obligation) : Type 0 where
  pub obliged : Obliged
  pub its : IsObligation S n obliged
  pub form : IsFormOf S (nat_le n (3 * length S.tables)) obliged o
