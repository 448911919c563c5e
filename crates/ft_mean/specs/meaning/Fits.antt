-- Which traces the tables of one side fit, and what IN and OUT make of a list.
use Rattle.std.specs.Prelude.{ℕ, ◌≡◌, ◌<◌, length, IsFalse}
use Rattle.ft_core.specs.declared.tables.Tables.{Tables}
use Rattle.ft_core.specs.declared.tables.Var.{Var}
use Rattle.ft_core.specs.declared.tables.Side.{Side}
use Rattle.ft_core.specs.declared.tables.Side.TheVariants as side
use Rattle.ft_core.specs.declared.tables.Section.{Section}
use Rattle.ft_core.specs.declared.tables.Section.TheVariants as section
use Rattle.ft_core.specs.meaning.Kinds.{Kinds, monitored, given_kinds, defined_kinds, image_kinds, side_kinds, section_of}
use Rattle.ft_mean.specs.meaning.Cells.{Follows}
use Rattle.ft_mean.specs.meaning.Memory.{look}
use Rattle.ft_mean.specs.meaning.Reading.{Reading, Scans, IsListOf, IsVar, reading_of}

-- the reading of a trace of a side
abbrev pub side_reading : Tables → Side → Scans → Reading
side_reading S s trace = reading_of S (side_kinds s) trace

-- a finished trace of a side has the given values, and every other variable has the value of its table at each scan
pub record Fits (S : Tables) (s : Side) (given trace : Scans) : Type 0 where
  pub is_given : IsListOf S (given_kinds s) given
  pub lengths : length trace ≡ length given
  pub values : IsListOf S (side_kinds s) trace
  pub same_given : (t x : ℕ) (v : Var) → t < length trace → IsVar S (given_kinds s) x v
      → side_reading S s trace t x ≡ reading_of S (given_kinds s) given t x
  pub follows : (t : ℕ) → t < length trace → Follows S (section_of s) (look S (side_reading S s trace) t) (side_reading S s trace t)

-- the image of a list by the tables of a section: each scan has their values at the same scan of the list, and what the
-- tables do not define is as in the list
pub record Maps (S : Tables) (section : Section) (kinds : Kinds) (list image : Scans) : Type 0 where
  pub lengths : length image ≡ length list
  pub values : IsListOf S (image_kinds section) image
  pub same_given : (t x : ℕ) (v : Var) → t < length image → IsVar S (image_kinds section) x v → IsFalse (defined_kinds section x v)
      → reading_of S (image_kinds section) image t x ≡ reading_of S kinds list t x
  pub follows : (t : ℕ) → t < length image
      → Follows S section (look S (reading_of S kinds list) t) (reading_of S (image_kinds section) image t)

-- IN takes monitored values to inputs
abbrev pub InputMap : Tables → Scans → Scans → Type 0
InputMap S h i = Maps S section.In monitored h i

-- OUT takes a trace of the design to controlled values
abbrev pub OutputMap : Tables → Scans → Scans → Type 0
OutputMap S s c = Maps S section.Out (side_kinds side.Sof) s c

-- this list is one of the kind, and there is no other
pub record Only (P : Scans → Type 0) (r : Scans) : Type 0 where
  pub is : P r
  pub alone : (q : Scans) → P q → q ≡ r
