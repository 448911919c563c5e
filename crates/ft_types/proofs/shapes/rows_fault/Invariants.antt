use Rattle.std.proofs.Common.{◌≡◌, take, None}
use Rattle.ft_names.specs.meaning.First.{first_of}
use Rattle.ft_types.specs.meaning.Shapes.{row_fault}
use Rattle.ft_types.proofs.shapes.rows_fault.Given as goal

abbrev pub invariant-loop-row : goal.invariant-loop-row
invariant-loop-row l = first_of (row_fault l.section l.name l.columns) (take l.row-index l.rows) ≡ None
