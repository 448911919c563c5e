use Rattle.std.proofs.Common.{codes}
use Rattle.ft_tree.specs.meaning.Line.{token}
use Rattle.ft_tree.proofs.WritingLemmas.{parts-all, parts-more}
use Rattle.ft_tree.proofs.phrases.write_listed.Goals as goal

pub loop-next-preserved : goal.loop-next-preserved
loop-next-preserved g c =
    parts-more g.T.Phrase.pieces (token (codes ",")) c.write.new.writer c.loop-next.writer c.put.new.self c.write-in-loop-next.new.writer
    c.in-Some.more.now c.loop-next.next-index c.next-item.result
    c.loop-next-test.true c.next-item.is c.loop-next.invariant c.in_ok-put.ensures c.in_ok-write-2.ensures

pub returns : goal.returns
returns g c =
    parts-all g.T.Phrase.pieces c.args.writer.now c.write.new.writer c.loop-next.writer c.args.parts.now c.in-Some.more.now
    c.in-Some.first.now c.loop-next.next-index
    c.in-Some.ensures.cases.0 c.loop-next-test.false c.in_ok-write.ensures c.loop-next.invariant
