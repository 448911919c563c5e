use Rattle.std.proofs.Common.{ap, sym}
use Rattle.ft_pool.proofs.PlacesLemmas.{split_last}
use Rattle.ft_pool.proofs.pool.Pool.pop.Goals as goal

pub returns-clause-some : goal.returns-clause-some
returns-clause-some g c =
    split_last c.self.inside.cells.items c.args.self.now.items c.self.inside.len c.in_ok-item.item c.self.invariant.4
    (ap (λ r. r.items) (sym c.self.view_is)) c.in_ok-item.ensures.some
