-- What items read of each other within a scan, as lists that grow table by table.
use Rattle.std.specs.Prelude.{ℕ, ◌≡◌, ◌<◌, ◌==◌, Bool, ◌||◌, List, [], ◌++◌, length, map, slice_get, slice_index_or, Some, filter_map}
use Rattle.std.specs.Prelude.{if◌then◌else◌}
use Rattle.std.specs.List.{flat_map, zip}
use Rattle.ft_core.specs.declared.tables.Table.{Table}
use Rattle.ft_core.specs.declared.tables.Section.{Section}
use Rattle.ft_core.specs.declared.tables.Section.TheVariants as section
use Rattle.ft_core.specs.declared.tables.Grid.{Grid}
use Rattle.ft_core.specs.declared.tables.Grid.TheVariants.{Normal, Inverted, Vector}
use Rattle.ft_core.specs.declared.term.Term.{Term}
use Rattle.ft_core.specs.declared.term.Cond.{Cond}
use Rattle.ft_core.specs.meaning.Grids.{is_section}
use Rattle.ft_core.specs.meaning.Items.{item_read}
use Rattle.ft_core.specs.meaning.Reads.{Read, term_reads, cond_reads}

-- the items that are read, in order
abbrev pub items_in : (vars memories : ℕ) → List Read → List ℕ
items_in vars memories reads = filter_map (item_read vars memories) reads

-- after these items come those that are read
abbrev pub Adds : (vars memories : ℕ) → List Read → (old new : List ℕ) → Type 0
Adds vars memories reads old new = new ≡ old ++ items_in vars memories reads

-- what a normal table reads
abbrev pub normal_reads : (columns rows : List Cond) → List (List Term) → List Read
normal_reads columns rows terms = flat_map cond_reads columns ++ flat_map cond_reads rows ++ flat_map (flat_map term_reads) terms

-- what an inverted table reads
abbrev pub inverted_reads : List Term → (rows : List Cond) → (grid : List (List Cond)) → List Read
inverted_reads terms rows grid = flat_map term_reads terms ++ flat_map cond_reads rows ++ flat_map (flat_map cond_reads) grid

-- what a row of a vector table reads, with the columns
abbrev pub row_reads : (columns : List Cond) → List Term → List Read
row_reads columns terms = flat_map cond_reads columns ++ flat_map term_reads terms

-- these, for the target alone
abbrev pub if_target : {X : Type 0} → (target : ℕ) → List X → ℕ → List X
if_target target xs k = if target == k then xs else []

-- what a grid reads for variable k: all of it, or in a vector table the columns and the row of k
abbrev pub grid_reads_for : ℕ → Grid → List Read
grid_reads_for k (Normal target columns rows terms) = if_target target (normal_reads columns rows terms) k
grid_reads_for k (Inverted target terms rows grid) = if_target target (inverted_reads terms rows grid) k
grid_reads_for k (Vector columns targets terms) = flat_map (λ r. if_target r.0 (row_reads columns r.1) k) (zip targets terms)

-- whether the tables of a section define variables by what is read within a scan of a side
abbrev pub is_of_side : Section → Bool
is_of_side s = is_section s section.Req || is_section s section.Sof

-- what a table reads for variable k
abbrev pub table_reads_for : ℕ → Table → List Read
table_reads_for k table = if is_of_side table.section then grid_reads_for k table.grid else []

-- each list got more
pub record Longer (more : ℕ → List ℕ) (old new : List (List ℕ)) : Type 0 where
  pub long : length new ≡ length old
  pub each : (k : ℕ) → k < length old → slice_index_or new k [] ≡ slice_index_or old k [] ++ more k

-- each variable's list has what the tables read for it
abbrev pub AreVariableReads : (vars memories : ℕ) → List Table → List (List ℕ) → Type 0
AreVariableReads vars memories tables lists =
    (length lists ≡ vars) × ((k : ℕ) → k < vars → slice_index_or lists k [] ≡ items_in vars memories (flat_map (table_reads_for k) tables))

-- the list of an item has gone to the place of its number, and has the numbers of what it had
pub record AreRenumbered (numbers : List ℕ) (reads lists : List (List ℕ)) : Type 0 where
  pub long : length lists ≡ length reads
  pub each : (k n : ℕ) → slice_get numbers k ≡ Some n
      → slice_get lists n ≡ Some (map (λ q. slice_index_or numbers q 0) (slice_index_or reads k []))
