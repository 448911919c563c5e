use Rattle.std.proofs.Common.{◌≡◌, ◌<◌, ℕ, length}
use Rattle.ft_farkas.specs.meaning.Rows.{source_row}
use Rattle.ft_farkas.specs.meaning.Kept.{row_in}
use Rattle.ft_farkas.specs.building.Forms.{NoneContradict}
use Rattle.ft_farkas.proofs.sources.keep_sources.Given as goal

-- the rows before this one are kept, and none contradicts
abbrev pub invariant-sources : goal.invariant-sources
invariant-sources l = (l.kept.unknowns ≡ l.initial.kept.unknowns) × (l.kept.room ≡ l.initial.kept.room) × (length l.row ≡ length l.initial.row) × (length l.kept.rows ≡ l.at)
    × ((k c : ℕ) → k < l.at → row_in l.kept.rows k c ≡ source_row l.formula l.part l.lines k c) × NoneContradict (length l.part.spans) l.kept.rows l.at
