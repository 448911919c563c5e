use Rattle.std.proofs.Common.{map}
use Rattle.std.specs.List.{flat_map}
use Rattle.ft_tree.specs.meaning.Line.{Line, line_bytes}
use Rattle.ft_tree.specs.meaning.Canonical.{tree_lines}
use Rattle.ft_tree.specs.laws.Tokens.{piece_shape}
use Rattle.ft_tree.proofs.LineLemmas.{made-lines}
use Rattle.ft_tree.proofs.MadeLemmas.{read-made}
use Rattle.ft_tree.proofs.TreeLemmas.{set-sound}
use Rattle.ft_tree.proofs.law.canonical_tokens.Goals as goal

pub returns : goal.returns
returns c = λ tree.
    let lines = tree_lines tree in
    let sound = set-sound tree.name tree.period tree.splits tree.depth tree.items tree.lawful in
    let read = read-made (flat_map line_bytes lines) (map piece_shape (flat_map (λ (line : Line). line.pieces) lines))
    (made-lines c.signs_longest.ensures lines sound.all) in
    (read.tokens, read.are, read.shaped)
