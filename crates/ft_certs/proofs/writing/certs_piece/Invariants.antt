use Rattle.std.proofs.Common.{◌≡◌, map, take}
use Rattle.ft_cert.specs.meaning.Tree.{nodes_of}
use Rattle.ft_certs.specs.meaning.Text.{obligations_text}
use Rattle.ft_certs.proofs.writing.certs_piece.Given as goal

abbrev pub invariant-loop-at : goal.invariant-loop-at
invariant-loop-at l = l.text ≡ obligations_text 1 (map nodes_of (take l.at l.certs))
