-- What a scanner keeps, and what it stands for: the given rows so far, and the rows of the trace that fits them.
use Rattle.std.specs.Prelude.{ℕ, ◌≡◌, ℤ, pos, List, map, length, slice_get, slice_index_or, Some, IsTrue}
use Rattle.ft_core.specs.declared.tables.Tables.{Tables}
use Rattle.ft_core.specs.declared.tables.Var.{Var}
use Rattle.ft_core.specs.declared.tables.Side.{Side}
use Rattle.ft_core.specs.meaning.Kinds.{Kinds, given_kinds, side_kinds, count_of, place_of, is_of}
use Rattle.ft_core.specs.checked.Sound.{is_memory_of}
use Rattle.ft_mean.specs.meaning.Fits.{Fits, side_reading}
use Rattle.ft_mean.specs.meaning.Reading.{Scans, IsVar, before}
use Rattle.ft_scan.specs.declared.frame.Frame.{Frame}
use Rattle.ft_scan.specs.declared.plan.Step.{Step}
use Rattle.ft_scan.specs.declared.scanner.Scanner.TheInside.{Inside}
use Rattle.ft_scan.specs.steps.Frame.{IsFrameOf}
use Rattle.ft_scan.specs.steps.Plan.{IsPlan}
use Rattle.ft_scan.specs.meaning.Scanning.{Scanning}
use Rattle.ft_scan.specs.steps.Told.{RunsFor}

-- the places in the set of all variables of these kinds, in order of declaration
pub record ArePlaces (S : Tables) (kinds : Kinds) (places : List ℕ) : Type 0 where
  pub count : length places ≡ count_of kinds S.vars
  pub each : (x : ℕ) → IsTrue (is_of S.vars kinds x) → slice_get places (place_of kinds S.vars x) ≡ Some x

-- the side that it runs, the steps of each scan, the places of what is given and of all variables of the side, and the frame
pub record Kept : Type 0 where
  pub side : Side
  pub steps : List Step
  pub given : List ℕ
  pub side_variables : List ℕ
  pub frame : Frame

abbrev pub kept_of : Inside → Kept
kept_of s = record { side = s.side; steps = s.steps; given = s.given; side_variables = s.side_variables; frame = s.frame }

-- it stands for a given list and a trace that fits: it keeps the values of the trace's last scan, and each memory of its side
-- was told all its scans; its steps and places are those of the set
pub record Stands (S : Tables) (scanner : Kept) (given rows : Scans) : Type 0 where
  pub fits : Fits S scanner.side given rows
  pub past : (x : ℕ) (v : Var) → IsVar S (side_kinds scanner.side) x v
      → slice_index_or scanner.frame.past x (pos 0) ≡ before S (side_reading S scanner.side rows) (length rows) x
  pub runs : (m : ℕ) → IsTrue (is_memory_of S.memories scanner.side m)
      → RunsFor S (side_reading S scanner.side rows) (length rows) m scanner.frame
  pub is_frame : IsFrameOf S scanner.frame
  pub plan : IsPlan S scanner.side scanner.steps
  pub given_places : ArePlaces S (given_kinds scanner.side) scanner.given
  pub side_places : ArePlaces S (side_kinds scanner.side) scanner.side_variables

-- the values at some places of each scan
abbrev pub rows_at : List ℕ → List (List ℤ) → Scans
rows_at places scans = map (λ scan. map (λ p. slice_index_or scan p (pos 0)) places) scans

-- it shows the values of the scans so far: those that were given, and those of its side
abbrev pub scanning : Inside → Scanning
scanning s = record {
  set = s.tables.now;
  side = s.side;
  given = rows_at s.given s.past.items;
  rows =
      rows_at s.side_variables s.past.items;
}

-- it stands for what it shows
abbrev pub IsRunning : Inside → Type 0
IsRunning s = Stands s.tables.now (kept_of s) (rows_at s.given s.past.items) (rows_at s.side_variables s.past.items)
