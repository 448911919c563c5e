use Rattle.std.proofs.Common.{◌≡◌, ◌≤◌, ◌+◌, ◌++◌, ℕ, length, map}
use Rattle.std.specs.List.{All}
use Rattle.ft_cert.specs.meaning.Tree.{nodes_of}
use Rattle.ft_certs.specs.meaning.Text.{IsCert, obligations_text}
use Rattle.ft_certs.specs.building.Pieces.{Obligations}
use Rattle.ft_certs.specs.building.Stuck.{Refused}
use Rattle.ft_certs.proofs.obligations.obligations.Given as goal

-- the certificates that were read; where the rest is refused, so are all bytes
abbrev pub invariant-certs : goal.invariant-certs
invariant-certs l =
    All IsCert (map nodes_of l.certs) × (l.initial.rest ≡ obligations_text 1 (map nodes_of l.certs) ++ l.rest)
    × (length l.certs + length l.rest ≤ length l.initial.rest)
    × ((left : ℕ) → Refused (Obligations (length l.certs)) l.rest left → Refused (Obligations 0) l.initial.rest left)

abbrev pub decreases-certs : goal.decreases-certs
decreases-certs l = length l.rest
