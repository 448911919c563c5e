use Rattle.std.proofs.Common.{◌≡◌, ◌++◌, codes, take}
use Rattle.std.specs.List.{flat_map}
use Rattle.ft_certs.specs.meaning.Text.{line_text}
use Rattle.ft_certs.proofs.writing.add_lines.Given as goal

abbrev pub invariant-lines : goal.invariant-lines
invariant-lines l = l.text ≡ l.initial.text ++ flat_map (λ line. codes " " ++ line_text line) (take l.line-index l.lines)
