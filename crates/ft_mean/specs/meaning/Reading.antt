-- Lists of scans, and what they tell of each variable of the set.
use Rattle.std.specs.Prelude.{ℕ, zero, suc, ◌-◌, ◌≡◌, ◌<◌, ℤ, pos, ◌*ℤ◌, Bool, true, false, List, [], length, slice_get, slice_index_or}
use Rattle.std.specs.Prelude.{Some, IsTrue, if◌then◌else◌}
use Rattle.ft_base.specs.Interval.{IsWithin}
use Rattle.ft_core.specs.declared.tables.Tables.{Tables}
use Rattle.ft_core.specs.declared.tables.Var.{Var}
use Rattle.ft_core.specs.meaning.Inits as inits
use Rattle.ft_core.specs.meaning.Kinds.{Kinds, count_of, place_of, is_of}

-- a list of scans, each with the values of the variables of some kinds, in order of declaration
abbrev pub Scans : Type 0
Scans = List (List ℤ)

-- the value of each variable, by its place in the set, at each scan
abbrev pub Reading : Type 0
Reading = ℕ → ℕ → ℤ

abbrev pub init_of : Tables → ℕ → ℤ
init_of S x = inits.init_of S.vars x

-- what scans over the variables of these kinds tell; any other variable stays at its `init`
abbrev pub reading_of : Tables → Kinds → Scans → Reading
reading_of S kinds scans t x =
    if is_of S.vars kinds x then slice_index_or (slice_index_or scans t []) (place_of kinds S.vars x) (pos 0) else init_of S x

-- the variable at this place of the set, where it is of these kinds
abbrev pub IsVar : Tables → Kinds → ℕ → Var → Type 0
IsVar S kinds x v = (slice_get S.vars x ≡ Some v) × IsTrue (kinds x v)

-- each scan has a value in range for each variable of these kinds, and no other value
pub record IsListOf (S : Tables) (kinds : Kinds) (scans : Scans) : Type 0 where
  pub widths : (t : ℕ) → t < length scans → length (slice_index_or scans t []) ≡ count_of kinds S.vars
  pub ranges : (t x : ℕ) (v : Var) → t < length scans → IsVar S kinds x v → IsWithin v.range (reading_of S kinds scans t x)

-- whether a scan begins: nothing of a scan before is known there
abbrev pub begins : Tables → Reading → ℕ → Bool
begins S ρ zero = true
begins S ρ (suc t) = false

-- the last scan at or before t that begins
abbrev pub begun : Tables → Reading → ℕ → ℕ
begun S ρ zero = zero
begun S ρ (suc t) = if begins S ρ (suc t) then suc t else begun S ρ t

-- the milliseconds from the scan before to a scan with these values
abbrev pub elapsed : Tables → (ℕ → ℤ) → ℤ
elapsed S now = S.period

-- the milliseconds from scan j to scan t
abbrev pub since : Tables → Reading → (j t : ℕ) → ℤ
since S ρ j t = pos (t - j) *ℤ S.period

-- the scan before; that of scan 0 is never looked at
abbrev pub scan_before : ℕ → ℕ
scan_before zero = zero
scan_before (suc t) = t

-- each variable one scan before, and its `init` at a scan that begins
abbrev pub before : Tables → Reading → ℕ → ℕ → ℤ
before S ρ t x = if begins S ρ t then init_of S x else ρ (scan_before t) x
