use Rattle.std.proofs.Common.{rules, ◌≡◌, Some}
use Rattle.ft_read.specs.parsers.Cursor.{head}
use Rattle.ft_parse.proofs.PrecedenceLemmas.{expression_some}
use Rattle.ft_parse.proofs.expressions.expression.Goals as goal

pub returns : goal.returns
returns c =
    let found : head c.args.cursor.now.rest ≡ Some c.in_ok-first.first = search rules in
    rw (expression_some c.args.is_beyond c.args.cursor.now c.in_ok-first.first found) (search rules)
