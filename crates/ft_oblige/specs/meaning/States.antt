-- The numbers that the names of two scans have along a reading, and what they may be.
use Rattle.std.specs.Prelude.{ℕ, ℤ, pos, Bool, ◌++◌, map, Option, Some, None, slice_get, if◌then◌else◌}
use Rattle.ft_core.specs.declared.tables.Tables.{Tables}
use Rattle.ft_core.specs.declared.tables.Memory.{Memory}
use Rattle.ft_core.specs.declared.tables.Fact.{Fact}
use Rattle.ft_core.specs.declared.tables.Fact.TheVariants.{Invariant, Goal}
use Rattle.ft_core.specs.declared.tables.Section.TheVariants as section
use Rattle.ft_mean.specs.laws.Moves.{span_of}
use Rattle.ft_mean.specs.meaning.Cells.{defined}
use Rattle.ft_mean.specs.meaning.Memory.{kept}
use Rattle.ft_mean.specs.meaning.Reading.{Reading, begins, before, scan_before}
use Rattle.ft_mean.specs.meaning.Value.{View, truth}
use Rattle.ft_claims.specs.meaning.Areas.{Spans}
use Rattle.ft_claims.specs.meaning.Numbers.{numbers}

-- the least number that a memory keeps
abbrev pub least_kept : Option Memory → ℤ
least_kept None = pos 0
least_kept (Some memory) = (span_of memory).0

-- what a memory kept one scan before; at a scan that begins it is never looked at
abbrev pub kept_before : Tables → Reading → ℕ → ℕ → ℤ
kept_before S ρ t m = if begins S ρ t then least_kept (slice_get S.memories m) else kept S ρ (scan_before t) m

-- the numbers of the names of two scans at scan t of a reading
abbrev pub state_of : Tables → Reading → ℕ → ℕ → ℤ
state_of S ρ t = numbers S (ρ t) (kept S ρ t) (before S ρ t) (kept_before S ρ t)

-- a fact at a view, where the variables have these values
abbrev pub fact_true : Tables → View → (ℕ → ℤ) → Fact → Bool
fact_true S V values (Invariant name c) = truth V c
fact_true S V values (Goal x) = defined S section.Out V x (values x)

-- the spans of the names of a scan, in order: of variables their ranges, and of memories what they keep
abbrev pub scan_spans : Tables → Spans
scan_spans S = map (λ v. v.range) S.vars ++ map span_of S.memories

-- of this scan and the scan before
abbrev pub slot_spans : Tables → Spans
slot_spans S = scan_spans S ++ scan_spans S
