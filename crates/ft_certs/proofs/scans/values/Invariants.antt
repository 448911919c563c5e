use Rattle.std.proofs.Common.{◌≡◌, ◌++◌, ◌∷◌, ℕ, true, length}
use Rattle.std.specs.Prelude.{codes}
use Rattle.std.specs.List.{All, flat_map}
use Rattle.std.specs.Fmt.{signed_decimal}
use Rattle.ft_certs.specs.meaning.Text.{IsShort}
use Rattle.ft_certs.specs.building.Pieces.{Values, is_one_of}
use Rattle.ft_certs.specs.building.Stuck.{Stuck}
use Rattle.ft_certs.proofs.scans.values.Given as goal

-- the values that were read, and where a reader of the rest is stuck, so is one of all
abbrev pub invariant-values : goal.invariant-values
invariant-values l =
    (is_one_of (codes ",\n") l.end ≡ true) × All IsShort l.values
    × (44 ∷ l.initial.rest ≡ flat_map (λ v. 44 ∷ signed_decimal v) l.values ++ l.end ∷ l.rest)
    × ((left : ℕ) → Stuck (Values l.end) l.rest left → Stuck (Values 44) l.initial.rest left)

abbrev pub decreases-values : goal.decreases-values
decreases-values l = length l.rest
