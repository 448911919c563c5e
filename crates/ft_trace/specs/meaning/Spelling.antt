-- Which history the bytes of a trace spell, and what is wrong where they spell none.
use Rattle.std.specs.Prelude.{ℕ, ◌+◌, ◌≡◌, ◌≢◌, ◌<◌, ◌≤◌, ℤ, List, [], ◌∷◌, ◌++◌, length, slice_get, Some, None}
use Rattle.ft_base.specs.Interval.{IsWithin}
use Rattle.ft_core.specs.declared.tables.Tables.{Tables}
use Rattle.ft_core.specs.declared.tables.Var.{Var}
use Rattle.ft_core.specs.meaning.Kinds.{monitored, count_of, place_of}
use Rattle.ft_mean.specs.meaning.Reading.{Scans, IsVar}
use Rattle.csv.specs.Reading.{default_config, records, strip_bom}
use Rattle.ft_trace.specs.meaning.Field.{Spells, field_value}
use Rattle.ft_trace.specs.declared.fault.TraceFault.{TraceFault}
use Rattle.ft_trace.specs.declared.fault.TraceFault.TheVariants.{Head, Width, Value, OutOfRange, ManyScans, Empty, NoMemory}

abbrev pub Row : Type 0
Row = List (List ℕ)

-- the records that csv gives for the bytes
abbrev pub records_of : List ℕ → List Row
records_of bytes = records default_config (strip_bom bytes)

-- the names of the monitored variables, in order of declaration
pub record IsHeader (S : Tables) (row : Row) : Type 0 where
  pub width : length row ≡ count_of monitored S.vars
  pub names : (x : ℕ) (v : Var) → IsVar S monitored x v → slice_get row (place_of monitored S.vars x) ≡ Some v.name

-- at the column of variable x the row spells a value of x, which these values have there
pub record SpellsAt (S : Tables) (row : Row) (values : List ℤ) (x : ℕ) (v : Var) : Type 0 where
  pub field : List ℕ
  pub value : ℤ
  pub in_row : slice_get row (place_of monitored S.vars x) ≡ Some field
  pub in_values : slice_get values (place_of monitored S.vars x) ≡ Some value
  pub spells : Spells v field value

-- the row spells these values of the monitored variables before place n of the set
abbrev pub SpellsBefore : Tables → Row → List ℤ → ℕ → Type 0
SpellsBefore S row values n = (x : ℕ) (v : Var) → x < n → IsVar S monitored x v → SpellsAt S row values x v

-- the row spells a scan
pub record SpellsScan (S : Tables) (row : Row) (scan : List ℤ) : Type 0 where
  pub width : length row ≡ count_of monitored S.vars
  pub count : length scan ≡ count_of monitored S.vars
  pub each : (x : ℕ) (v : Var) → IsVar S monitored x v → SpellsAt S row scan x v

-- each row spells the scan at its place
unfoldable pub SpellAll : Tables → List Row → Scans → Type 0
SpellAll S [] [] = Unit
SpellAll S (row ∷ rows) (scan ∷ scans) = SpellsScan S row scan × SpellAll S rows scans
SpellAll S rows scans = ⊥

-- the bytes have the header and then spell these scans; these records come after them
pub record SpellsSoFar (S : Tables) (bytes : List ℕ) (h : Scans) (rest : List Row) : Type 0 where
  pub header : Row
  pub rows : List Row
  pub records : records_of bytes ≡ header ∷ (rows ++ rest)
  pub is_header : IsHeader S header
  pub spell : SpellAll S rows h
  pub few : length h ≤ 100000

-- the bytes spell this history, read to their end
pub record SpellsHistory (S : Tables) (bytes : List ℕ) (h : Scans) : Type 0 where
  pub spells : SpellsSoFar S bytes h []
  pub nonempty : h ≢ []

-- the first field of the row that is no value, at this column from 1: the fields before it spell values
pub record FirstBad (S : Tables) (row : Row) (column : ℕ) (bad : Var → List ℕ → Type 0) : Type 0 where
  pub x : ℕ
  pub v : Var
  pub is : IsVar S monitored x v
  pub field : List ℕ
  pub at : slice_get row (place_of monitored S.vars x) ≡ Some field
  pub at_column : column ≡ place_of monitored S.vars x + 1
  pub is_bad : bad v field
  pub values : List ℤ
  pub before : SpellsBefore S row values x

abbrev pub IsNoValue : Var → List ℕ → Type 0
IsNoValue v field = field_value v field ≡ None

abbrev pub IsOutside : Var → List ℕ → Type 0
IsOutside v field = (n : ℤ) × (field_value v field ≡ Some n) × (IsWithin v.range n → ⊥)

-- of this row, that of scan k
abbrev pub RowFault : Tables → ℕ → Row → TraceFault → Type 0
RowFault S k row (Width scan) = (scan ≡ k) × (length row ≢ count_of monitored S.vars)
RowFault S k row (Value scan column) = (scan ≡ k) × (length row ≡ count_of monitored S.vars) × FirstBad S row column IsNoValue
RowFault S k row (OutOfRange scan column) = (scan ≡ k) × (length row ≡ count_of monitored S.vars) × FirstBad S row column IsOutside
RowFault S k row _ = ⊥

-- of the record of scan k
abbrev pub RecordFault : Tables → ℕ → Row → TraceFault → Type 0
RecordFault S k row NoMemory = Unit
RecordFault S k row ManyScans = k ≡ 100000
RecordFault S k row fault = (k < 100000) × RowFault S k row fault

-- of the end of the records after k scans
abbrev pub EndFault : ℕ → TraceFault → Type 0
EndFault k NoMemory = Unit
EndFault k Empty = k ≡ 0
EndFault k _ = ⊥

-- what is wrong with the records after k scans
abbrev pub FaultNext : Tables → ℕ → List Row → TraceFault → Type 0
FaultNext S k [] fault = EndFault k fault
FaultNext S k (row ∷ rest) fault = RecordFault S k row fault

-- the first record isn't the header, or there is none
abbrev pub HasNoHeader : Tables → List Row → Type 0
HasNoHeader S [] = Unit
HasNoHeader S (row ∷ rows) = IsHeader S row → ⊥

-- the fault that stands right after some scans
pub record FaultAfter (S : Tables) (bytes : List ℕ) (fault : TraceFault) : Type 0 where
  pub h : Scans
  pub rest : List Row
  pub spells : SpellsSoFar S bytes h rest
  pub next : FaultNext S (length h) rest fault

-- the first fault of the bytes; of want of memory nothing is said
abbrev pub IsFirstFault : Tables → List ℕ → TraceFault → Type 0
IsFirstFault S bytes NoMemory = Unit
IsFirstFault S bytes Head = HasNoHeader S (records_of bytes)
IsFirstFault S bytes fault = FaultAfter S bytes fault

-- what opening a reader may answer
abbrev pub OpenFault : Tables → List ℕ → TraceFault → Type 0
OpenFault S bytes NoMemory = Unit
OpenFault S bytes Head = HasNoHeader S (records_of bytes)
OpenFault S bytes _ = ⊥

-- the next record is that of scan k, and spells these values; these records come after it
pub record NextScan (S : Tables) (k : ℕ) (rest : List Row) (values : List ℤ) (more : List Row) : Type 0 where
  pub row : Row
  pub next : rest ≡ row ∷ more
  pub few : k < 100000
  pub spells : SpellsScan S row values
