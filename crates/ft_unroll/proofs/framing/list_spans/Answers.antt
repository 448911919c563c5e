use Rattle.std.proofs.Common.{[]}
use Rattle.ft_oblige.specs.meaning.States.{scan_spans}
use Rattle.ft_unroll.proofs.StepLemmas.{scan-more, scan-end}
use Rattle.ft_unroll.proofs.framing.list_spans.Goals as goal

pub loop-scan-preserved : goal.loop-scan-preserved
loop-scan-preserved c = scan-more (λ t. scan_spans c.args.tables.now) c.loop-scan._scan [] c.loop-scan.spans _
    c.loop-scan.invariant c.in_ok-add_scan_spans.ensures

pub returns : goal.returns
returns c = scan-end (λ t. scan_spans c.args.tables.now) c.loop-scan._scan c.args.scans [] c.loop-scan.spans c.loop-scan-test.false
    c.loop-scan.auto._scan-end c.loop-scan.invariant
