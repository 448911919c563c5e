-- The truth of each memory at each scan of a reading, and what every name stands for there.
use Rattle.std.specs.Prelude.{ℕ, zero, suc, ◌+◌, ℤ, pos, negsuc, Bool, false, length, Option, Some, None, slice_get, if◌then◌else◌}
use Rattle.ft_core.specs.declared.tables.Tables.{Tables}
use Rattle.ft_core.specs.declared.tables.Memory.{Memory}
use Rattle.ft_core.specs.declared.tables.Memory.TheVariants.{Held, Hyst}
use Rattle.ft_mean.specs.meaning.Past.{held, hyst, age}
use Rattle.ft_mean.specs.meaning.Reading.{Reading, begun, since, before}
use Rattle.ft_mean.specs.meaning.Value.{View, value, truth}

-- scan t, with these truths of the memories and without ages, which no memory reads
abbrev pub at_scan : Tables → Reading → (ℕ → ℕ → Bool) → ℕ → View
at_scan S ρ memory t = record { now = ρ t; before = before S ρ t; age = λ m. negsuc 0; memory = λ m. memory m t }

-- a memory at scan t, where `memory` has the truth of each memory that it reads, at each scan
abbrev pub remembered : Tables → Reading → (memory : ℕ → ℕ → Bool) → Option Memory → ℕ → Bool
remembered S ρ memory None t = false
remembered S ρ memory (Some (Held name side cond hold)) t =
    held (begun S ρ t) (λ j. since S ρ j t) hold (λ j. truth (at_scan S ρ memory j) cond) t
remembered S ρ memory (Some (Hyst name side e lo hi start)) t =
    hyst (begun S ρ t) lo hi start (λ j. value (at_scan S ρ memory j) e) t

-- the same, where memories are read through at most n others
unfoldable pub memory_within : ℕ → Tables → Reading → ℕ → ℕ → Bool
memory_within zero S ρ m t = false
memory_within (suc n) S ρ m t = remembered S ρ (memory_within n S ρ) (slice_get S.memories m) t

-- the truth of a memory at scan t; no chain of variables and memories that read each other is longer than their number
abbrev pub memory_at : Tables → Reading → ℕ → ℕ → Bool
memory_at S = memory_within (length S.vars + length S.memories) S

-- the number that a memory keeps at scan t: the age of a timer, or the bit of a band
abbrev pub kept_of : Tables → Reading → ℕ → Option Memory → ℕ → ℤ
kept_of S ρ m None t = pos 0
kept_of S ρ m (Some (Held name side cond hold)) t =
    age (begun S ρ t) (λ j. since S ρ j t) hold (λ j. truth (at_scan S ρ (memory_at S ρ) j) cond) t
kept_of S ρ m (Some (Hyst name side e lo hi start)) t = if memory_at S ρ m t then pos 1 else pos 0

abbrev pub kept : Tables → Reading → ℕ → ℕ → ℤ
kept S ρ t m = kept_of S ρ m (slice_get S.memories m) t

-- what every name stands for at scan t
abbrev pub look : Tables → Reading → ℕ → View
look S ρ t = record { now = ρ t; before = before S ρ t; age = kept S ρ t; memory = λ m. memory_at S ρ m t }
