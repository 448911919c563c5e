use Rattle.ft_farkas.specs.meaning.Rows.{row_of}
use Rattle.ft_farkas.proofs.AssignLemmas.{up-more, beyond}
use Rattle.ft_farkas.proofs.assigning.give_next.Goals as goal

pub returns-then-give-clause-ends : goal.returns-then-give-clause-ends
returns-then-give-clause-ends c =
    up-more c.args.kept.now.unknowns c.args.unknown c.args.kept.now.rows (row_of c.args.point.now) (row_of c.give.new.point) c.greatest-lower.result.row c.greatest-lower.result.times c.greatest-lower.result.value
    (c.give.ensures.given c.if-give.true) c.greatest-lower.ensures.bound c.greatest-lower.ensures.greatest c.in_default.ensures c.requires.unknown c.requires.up (c.give.ensures.near c.if-give.true)

pub returns-else-give-clause-ends : goal.returns-else-give-clause-ends
returns-else-give-clause-ends c =
    let w = c.give.ensures.far c.if-give.false in
    beyond c.args.kept.now.unknowns c.args.unknown c.args.kept.now.rows (row_of c.args.point.now) w.0 c.greatest-lower.result.row c.greatest-lower.result.times c.greatest-lower.result.value
    w.1 c.greatest-lower.ensures.bound c.greatest-lower.ensures.greatest c.in_default.ensures c.requires.unknown c.requires.up w.2.0 w.2.1 w.2.2
