use Rattle.std.proofs.Common.{length}
use Rattle.ft_compose.proofs.LinkLemmas.{linked-is, linked-long}
use Rattle.ft_compose.proofs.linking.linked.Goals as goal

pub returns-clause-settled : goal.returns-clause-settled
returns-clause-settled c =
    linked-is (length c.args.spans.now) c.args.own.now c.args.others.now c.in_ok-links.links c.settle.new.links c.requires.named
    c.in_ok-links.ensures c.settle.ensures.keeps c.settle.ensures.still

pub returns-clause-long : goal.returns-clause-long
returns-clause-long c =
    linked-long (length c.args.spans.now) c.args.own.now c.args.others.now c.in_ok-links.links c.settle.new.links c.requires.named
    c.in_ok-links.ensures c.settle.ensures.keeps
