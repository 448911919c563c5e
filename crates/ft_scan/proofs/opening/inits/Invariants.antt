use Rattle.std.proofs.Common.{◌≡◌, map, take}
use Rattle.ft_scan.proofs.opening.inits.Given as goal

abbrev pub invariant-loop-var : goal.invariant-loop-var
invariant-loop-var l = l.values ≡ map (λ v. v.init) (take l.var-index l.vars)
