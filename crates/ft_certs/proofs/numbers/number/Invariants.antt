use Rattle.std.proofs.Common.{◌≡◌, ◌≤◌, ◌++◌, length}
use Rattle.std.specs.Fmt.{decimal}
use Rattle.ft_certs.proofs.numbers.number.Given as goal

abbrev pub invariant-digits : goal.invariant-digits
invariant-digits l = (l.bytes ≡ decimal l.value ++ l.rest) × (l.least ≤ l.value) × (l.value ≤ l.most)

abbrev pub decreases-digits : goal.decreases-digits
decreases-digits l = length l.rest
