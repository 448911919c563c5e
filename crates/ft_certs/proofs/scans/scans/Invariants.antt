use Rattle.std.proofs.Common.{◌≡◌, ◌-◌, ◌++◌, ℕ, length}
use Rattle.std.specs.List.{All}
use Rattle.ft_certs.specs.meaning.Text.{IsScan, scans_text}
use Rattle.ft_certs.specs.building.Pieces.{Scans}
use Rattle.ft_certs.specs.building.Stuck.{Stuck}
use Rattle.ft_certs.proofs.scans.scans.Given as goal

-- the scans that were read, and where a reader of the others is stuck, so is one of all
abbrev pub invariant-scans : goal.invariant-scans
invariant-scans l =
    (length l.list ≡ l._scan) × All IsScan l.list × (l.initial.rest ≡ scans_text l.list ++ l.rest)
    × ((left : ℕ) → Stuck (Scans (l.count - l._scan)) l.rest left → Stuck (Scans l.count) l.initial.rest left)
