-- What is found of the coverage of a set's tables: that each is proper, the first fault that one shows, or a search that was spent.
use Rattle.std.specs.Prelude.{ℕ, ◌+◌, ◌*◌, ◌≡◌, ◌≤◌, ℤ, Bool, true, false, List, [], ◌∷◌, map, filter, take, length, Some, slice_get}
use Rattle.ft_core.specs.declared.label.Label.{Label}
use Rattle.ft_core.specs.declared.tables.Tables.{Tables}
use Rattle.ft_core.specs.declared.tables.Table.{Table}
use Rattle.ft_core.specs.declared.tables.Grid.{Grid}
use Rattle.ft_core.specs.meaning.Grids.{Cell, cells}
use Rattle.ft_core.specs.meaning.Reads.{grid_reads}
use Rattle.ft_mean.specs.meaning.Cells.{holding}
use Rattle.ft_mean.specs.meaning.Proper.{IsLocal, AllProper}
use Rattle.ft_mean.specs.meaning.Value.{View}
use Rattle.ft_settle.specs.meaning.Settled.{settled}
use Rattle.ft_cert.specs.meaning.Evidence.{Holds}
use Rattle.ft_cert.specs.meaning.Parts.{whole_of}
use Rattle.ft_cert.specs.meaning.Tree.{Tree}
use Rattle.ft_claims.specs.laws.CellLaws.{HasKept, is_beyond}
use Rattle.ft_claims.specs.meaning.Areas.{Obliged}
use Rattle.ft_claims.specs.meaning.Coverage.{Fault, gap, overlap, range}
use Rattle.ft_claims.specs.meaning.Shown.{Shows}
use Rattle.ft_oblige.specs.meaning.Labels.{label_of, slot_at}
use Rattle.ft_oblige.specs.meaning.Obligations.{IsObligation, Before}
use Rattle.ft_oblige.specs.meaning.Tried.{IsSpentIn}
use Rattle.ft_cover.specs.declared.answer.Cover.{Cover}
use Rattle.ft_cover.specs.declared.answer.Cover.TheVariants.{Proper, Gap, Overlap, OutOfRange, Spent}

-- the row and the column of a cell, from 1
abbrev pub place_of : Cell → ℕ × ℕ
place_of cell = (cell.row + 1, cell.column + 1)

-- a certificate for the obligation with this number
abbrev pub IsCertOf : Tables → ℕ → Tree → Type 0
IsCertOf S n cert = (o : Obliged) → IsObligation S n o → Holds (settled o.formula) (whole_of (settled o.formula) o.spans) cert

-- one for each of the first n obligations in order, or none where they aren't kept
abbrev pub AreCerts : Tables → (keep : Bool) → ℕ → List Tree → Type 0
AreCerts S true n certs = (length certs ≡ n) × ((i : ℕ) (cert : Tree) → slice_get certs i ≡ Some cert → IsCertOf S (i + 1) cert)
AreCerts S false n certs = certs ≡ []

-- the tree of a search for a point of the obligation with this number, with the splits of the set
pub record IsSpentAt (S : Tables) (n : ℕ) (tree : Tree) : Type 0 where
  pub obliged : Obliged
  pub its : IsObligation S n obliged
  pub spent : IsSpentIn (settled obliged.formula) obliged.spans S.splits tree

-- values with their labels at which a table shows a fault: some local view has them, and at each that has them the table shows the
-- fault, by cells that are named
pub record IsShownAt (S : Tables) (n k : ℕ) (fault : Fault) (Named : Grid → View → Type 0) (values : List ℤ) (labels : List Label) : Type 0
  where
    pub table : Table
    pub its_table : slice_get S.tables k ≡ Some table
    pub obliged : Obliged
    pub its : IsObligation S n obliged
    pub labels_are : labels ≡ map (λ u. label_of S true (slot_at S u)) obliged.names
    pub one_each : length values ≡ length obliged.names
    pub some : (V : View) × IsLocal S (grid_reads table.grid) V × HasKept S obliged values V
    pub each : (V : View) → HasKept S obliged values V → Shows S fault table.grid V × Named table.grid V

-- the first two cells that hold at the view are for one variable
abbrev pub AreOfOne : Grid → View → Type 0
AreOfOne grid V = (c d : Cell) → slice_get (holding V (cells grid)) 0 ≡ Some c → slice_get (holding V (cells grid)) 1 ≡ Some d
    → c.target ≡ d.target

-- the cells that hold at the view begin with these two, by rows, and both are for one variable
abbrev pub AreFirstTwo : (first second : ℕ × ℕ) → Grid → View → Type 0
AreFirstTwo first second grid V = (take 2 (map place_of (holding V (cells grid))) ≡ first ∷ second ∷ []) × AreOfOne grid V

-- those that hold and whose term is out of range begin with this one
abbrev pub IsFirstBeyond : Tables → ℕ × ℕ → Grid → View → Type 0
IsFirstBeyond S place grid V = take 1 (map place_of (filter (is_beyond S V) (cells grid))) ≡ place ∷ []

abbrev pub NoCell : Grid → View → Type 0
NoCell grid V = Unit {0}

-- what the obligation with this number shows
abbrev pub IsFound : Tables → ℕ → Cover → Type 0
IsFound S n (Proper certs) = ⊥
IsFound S n (Gap k values labels) = (n ≡ 3 * k + 1) × IsShownAt S n k gap NoCell values labels
IsFound S n (Overlap k first second values labels) = (n ≡ 3 * k + 2) × IsShownAt S n k overlap (AreFirstTwo first second) values labels
IsFound S n (OutOfRange k place values labels) = (n ≡ 3 * k + 3) × IsShownAt S n k range (IsFirstBeyond S place) values labels
IsFound S n (Spent number tree) = (n ≡ number) × (1 ≤ number) × (number ≤ 3 * length S.tables) × IsSpentAt S n tree

-- every table is proper, with certificates where they are kept; or the first obligation of a table that isn't closed
abbrev pub IsCover : Tables → (keep : Bool) → Cover → Type 0
IsCover S keep (Proper certs) = AllProper S × AreCerts S keep (3 * length S.tables) certs
IsCover S keep (Gap k values labels) = IsFound S (3 * k + 1) (Gap k values labels) × Before S (3 * k + 1)
IsCover S keep (Overlap k first second values labels) = IsFound S (3 * k + 2) (Overlap k first second values labels)
    × Before S (3 * k + 2)
IsCover S keep (OutOfRange k place values labels) = IsFound S (3 * k + 3) (OutOfRange k place values labels) × Before S (3 * k + 3)
IsCover S keep (Spent number tree) = IsFound S number (Spent number tree) × Before S number

-- no fault is shown
abbrev pub IsFaultless : Cover → Type 0
IsFaultless (Proper certs) = Unit {0}
IsFaultless (Gap k values labels) = ⊥
IsFaultless (Overlap k first second values labels) = ⊥
IsFaultless (OutOfRange k place values labels) = ⊥
IsFaultless (Spent number tree) = Unit {0}
