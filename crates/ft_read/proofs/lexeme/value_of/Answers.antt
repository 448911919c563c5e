use Rattle.std.proofs.Common.{sym}
use Rattle.ft_read.proofs.LexemeLemmas.{is-greater}
use Rattle.ft_read.proofs.lexeme.value_of.Goals as goal

pub returns-then-value-gt-GREATEST : goal.returns-then-value-gt-GREATEST
returns-then-value-gt-GREATEST c =
    sym (is-greater c.args.digits.now c.loop-digit.digit-index c.loop-digit.value c.loop-digit.invariant.so_far c.if-value-gt-GREATEST.true)
