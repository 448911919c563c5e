use Rattle.std.proofs.Common.{◌≡◌, take, map}
use Rattle.ft_names.specs.meaning.Cards.{under}
use Rattle.ft_build.specs.meaning.Tables.{row_terms}
use Rattle.ft_build.proofs.expressions.build_row_terms.Given as goal

abbrev pub invariant-loop-row : goal.invariant-loop-row
invariant-loop-row l = l.list ≡ map (row_terms (under l.cards)) (take l.row-index l.rows)
