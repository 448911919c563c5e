use Rattle.std.proofs.Common.{◌≡◌, ◌++◌, map, take}
use Rattle.ft_core.specs.declared.tables.Var.{Var}
use Rattle.ft_oblige.proofs.covering.add_ranges.Given as goal

abbrev pub invariant-loop-var : goal.invariant-loop-var
invariant-loop-var l = l.spans ≡ l.initial.spans ++ map (λ (v : Var). v.range) (take l.var-index l.vars)
