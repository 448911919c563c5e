use Rattle.std.proofs.Common.{subst, false}
use Rattle.ft_compose.specs.meaning.Decided.{IsBlocks}
use Rattle.ft_cli.proofs.judging.decided.Goals as goal

pub returns-in-AllShown-clause-ended : goal.returns-in-AllShown-clause-ended
returns-in-AllShown-clause-ended c = λ bytes spelled.
    let (closed, composed, certs) = subst (IsBlocks c.args.tables false) c.in-AllShown.is c.requires.found in
    record {
      spelled = spelled;
      refines = composed.refines;
      closed = closed;
      proper = c.requires.proper;
      allowed = c.requires.deep.allowed;
      long = c.requires.deep.long;
    }
