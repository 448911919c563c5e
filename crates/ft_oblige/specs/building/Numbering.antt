-- An obligation made of a formula, an area and names.
use Rattle.std.specs.Prelude.{ℕ, ◌+◌, ◌*◌, ◌≡◌, Bool, map}
use Rattle.ft_core.specs.declared.tables.Tables.{Tables}
use Rattle.ft_claims.specs.meaning.Coverage.{Fault, gap, overlap, range}
use Rattle.ft_claims.specs.declared.obliging.Obliged.{Obliged}
use Rattle.ft_oblige.specs.declared.made.Obligation.{Obligation}
use Rattle.ft_oblige.specs.meaning.Labels.{label_of, slot_at}

-- with what each name stands for
pub record IsFormBy (S : Tables) (bits : Bool) (obliged : Obliged) (o : Obligation) : Type 0 where
  pub formula : o.formula ≡ obliged.formula
  pub area : o.area ≡ obliged.area
  pub slots : o.slots ≡ map (slot_at S) obliged.names
  pub labels : o.labels ≡ map (label_of S bits) o.slots

-- the number of a table's obligation about a fault
abbrev pub IsAbout : (n k : ℕ) → Fault → Type 0
IsAbout n k gap = n ≡ 3 * k + 1
IsAbout n k overlap = n ≡ 3 * k + 2
IsAbout n k range = n ≡ 3 * k + 3
