use Rattle.std.proofs.Common.{◌≡◌, take, map}
use Rattle.ft_tree.specs.writing.Writer.{with_lines}
use Rattle.ft_tree.proofs.lines.write_lines.Given as goal

-- the lines before this one are written
abbrev pub invariant-loop-part : goal.invariant-loop-part
invariant-loop-part g l = l.writer ≡ with_lines l.initial.writer (map g.T.Lined.line (take l.part-index l.parts))
