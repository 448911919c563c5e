use Rattle.std.proofs.Common.{◌≡◌, ◌≤◌, take}
use Rattle.ft_base.specs.Digits.{decimal_value}
use Rattle.ft_read.proofs.lexeme.value_of.Given as goal

abbrev pub invariant-loop-digit : goal.invariant-loop-digit
invariant-loop-digit l = record {
  so_far : l.value ≡ decimal_value (take l.digit-index l.digits);
  small : l.value ≤ 10000000255;
}
