use Rattle.ft_oblige.specs.meaning.Lists.{nat_claims}
use Rattle.ft_unroll.proofs.StepLemmas.{scan-more, scan-end}
use Rattle.ft_unroll.proofs.within.add_list.Goals as goal

pub loop-scan-preserved : goal.loop-scan-preserved
loop-scan-preserved c = scan-more (nat_claims c.args.tables.now) c.loop-scan.scan c.args.parts.now c.loop-scan.parts _
    c.loop-scan.invariant c.in_ok-add_nat.ensures

pub returns : goal.returns
returns c = scan-end (nat_claims c.args.tables.now) c.loop-scan.scan c.args.scans c.args.parts.now c.loop-scan.parts c.loop-scan-test.false
    c.loop-scan.auto.scan-end c.loop-scan.invariant
