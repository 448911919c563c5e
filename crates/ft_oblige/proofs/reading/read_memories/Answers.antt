use Rattle.std.proofs.Common.{subst}
use Rattle.ft_claims.specs.building.Marking.{ArePlaces}
use Rattle.ft_core.specs.meaning.Reads.{grid_reads}
use Rattle.ft_oblige.proofs.ReadLemmas.{are_read}
use Rattle.ft_oblige.proofs.reading.read_memories.Goals as goal

pub returns : goal.returns
returns c = are_read c.args.tables.now (grid_reads c.args.grid.now) c.in_ok-found.found c.in_ok-places.places c.in_ok-found.ensures
    (subst (λ marks. ArePlaces marks c.in_ok-places.places) c.as_slice.ensures c.in_ok-places.ensures.places)
