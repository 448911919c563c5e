use Rattle.std.proofs.Common.{◌≡◌, ◌+◌, length}
use Rattle.ft_farkas.specs.meaning.Rows.{sources}
use Rattle.ft_farkas.specs.building.Turns.{IsUnderWay}
use Rattle.ft_farkas.proofs.eliminating.find.Given as goal

-- so many rows were derived
abbrev pub invariant-turns : goal.invariant-turns
invariant-turns l = (l.kept.unknowns ≡ l.fn.kept.unknowns) × (l.kept.room ≡ l.fn.kept.room) × (length l.point ≡ length l.fn.point) × (length l.sum ≡ length l.fn.sum) × (length l.row ≡ length l.fn.row)
    × (length l.kept.rows ≡ length (sources l.part l.lines) + l._turn) × IsUnderWay l.formula l.part l.lines l.kept.rows
