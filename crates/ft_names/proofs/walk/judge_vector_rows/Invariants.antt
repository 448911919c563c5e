use Rattle.std.proofs.Common.{◌≡◌, take, None}
use Rattle.ft_names.specs.meaning.First.{first_of}
use Rattle.ft_names.specs.meaning.Spots.{vector_row}
use Rattle.ft_names.proofs.walk.judge_vector_rows.Given as goal

abbrev pub invariant-loop-row : goal.invariant-loop-row
invariant-loop-row g l = first_of (λ x. first_of (g.J.Judge.test l.judge) (vector_row l.section x)) (take l.row-index l.rows) ≡ None
