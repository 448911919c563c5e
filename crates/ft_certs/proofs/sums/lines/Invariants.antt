use Rattle.std.proofs.Common.{◌≡◌, ◌++◌, ◌∷◌, ℕ, true, length}
use Rattle.std.specs.Prelude.{codes}
use Rattle.std.specs.List.{All}
use Rattle.ft_certs.specs.meaning.Text.{IsLine, lines_text}
use Rattle.ft_certs.specs.building.Pieces.{Sums, is_one_of}
use Rattle.ft_certs.specs.building.Stuck.{Stuck}
use Rattle.ft_certs.proofs.sums.lines.Given as goal

-- the lines that were read, and where a reader of the rest is stuck, so is one of all
abbrev pub invariant-lines : goal.invariant-lines
invariant-lines l =
    (is_one_of (codes " \n") l.end ≡ true) × All IsLine l.lines × (l.initial.end ∷ l.initial.rest ≡ lines_text l.lines ++ l.end ∷ l.rest)
    × ((left : ℕ) → Stuck (Sums l.end) l.rest left → Stuck (Sums l.initial.end) l.initial.rest left)

abbrev pub decreases-lines : goal.decreases-lines
decreases-lines l = length l.rest
