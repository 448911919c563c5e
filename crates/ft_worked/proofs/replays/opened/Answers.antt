use Rattle.std.proofs.Common.{sym, subst, true}
use Rattle.ft_worked.specs.Made.{IsMadeOf}
use Rattle.ft_worked.specs.Relay.{hold_of, relay}
use Rattle.ft_worked.proofs.RelayLemmas.{is_proper}
use Rattle.ft_worked.proofs.replays.opened.Goals as goal

pub open-requires : goal.open-requires
open-requires c = record { proper = is_proper (hold_of true) c.args.set.now c.requires }

pub returns : goal.returns
returns c = subst (IsMadeOf (relay (hold_of true))) (sym c.in_ok-replayer.ensures.set) c.requires
