use Rattle.std.proofs.Common.{subst, sym}
use Rattle.ft_cli.specs.meaning.Judgement.{IsPrint}
use Rattle.ft_cli.proofs.TopLemmas.{unread}
use Rattle.ft_cli.proofs.top.print.Goals as goal

pub returns-in-Err : goal.returns-in-Err
returns-in-Err c = subst (IsPrint c.args.text.now) (sym c.unread.ensures)
    (unread c.args.text.now c.in-Err.fault c.in-Err.ensures.fault c.in-Err.ensures.only)
