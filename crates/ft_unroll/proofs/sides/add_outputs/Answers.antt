use Rattle.ft_core.specs.declared.tables.Section.TheVariants as section
use Rattle.ft_oblige.specs.meaning.Lists.{definitions_at}
use Rattle.ft_unroll.proofs.StepLemmas.{scan-more, scan-end}
use Rattle.ft_unroll.proofs.sides.add_outputs.Goals as goal

pub loop-scan-preserved : goal.loop-scan-preserved
loop-scan-preserved c = scan-more (definitions_at c.args.tables.now section.Out) c.loop-scan.scan c.args.parts.now c.loop-scan.parts _
    c.loop-scan.invariant c.in_ok-add_definitions.ensures

pub returns : goal.returns
returns c = scan-end (definitions_at c.args.tables.now section.Out) c.loop-scan.scan c.args.scans c.args.parts.now c.loop-scan.parts
    c.loop-scan-test.false c.loop-scan.auto.scan-end c.loop-scan.invariant
