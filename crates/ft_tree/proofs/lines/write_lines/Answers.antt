use Rattle.ft_tree.proofs.WritingLemmas.{lines-more}
use Rattle.ft_tree.proofs.lines.write_lines.Goals as goal

pub loop-part-preserved : goal.loop-part-preserved
loop-part-preserved g c =
    lines-more g.T.Lined.line c.args.writer.now c.loop-part.writer c.write_line.new.writer c.args.parts.now c.loop-part.part-index
    c.part-item.result
    c.loop-part-test.true c.part-item.is c.loop-part.invariant c.in_ok-write_line.ensures
