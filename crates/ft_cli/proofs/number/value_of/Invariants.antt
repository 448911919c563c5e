use Rattle.std.proofs.Common.{◌≡◌, min, ◌≤◌, take}
use Rattle.ft_base.specs.Digits.{decimal_value}
use Rattle.ft_cli.proofs.number.value_of.Given as goal

abbrev pub invariant-loop-digit : goal.invariant-loop-digit
invariant-loop-digit l = record {
  so_far : l.value ≡ min (decimal_value (take l.digit-index l.digits)) 61;
  small : l.value ≤ 61;
}
