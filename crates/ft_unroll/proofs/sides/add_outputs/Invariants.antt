use Rattle.std.proofs.Common.{◌≡◌, ◌++◌}
use Rattle.ft_core.specs.declared.tables.Section.TheVariants as section
use Rattle.ft_oblige.specs.meaning.Lists.{by_scan, definitions_at}
use Rattle.ft_unroll.proofs.sides.add_outputs.Given as goal

abbrev pub invariant-loop-scan : goal.invariant-loop-scan
invariant-loop-scan l = l.parts ≡ l.initial.parts ++ by_scan (definitions_at l.tables section.Out) l.scan
