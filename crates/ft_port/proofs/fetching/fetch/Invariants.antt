use Rattle.std.proofs.Common.{◌≡◌, ◌≤◌, ◌<◌, length}
use Rattle.ft_port.specs.Shelf.{OthersStay}
use Rattle.ft_port.proofs.FetchLemmas.{SoFar}
use Rattle.ft_port.proofs.fetching.fetch.Given as goal

abbrev pub invariant-loop-turn : goal.invariant-loop-turn
invariant-loop-turn g l = record {
  so_far : SoFar (g.S.Shelf.content l.fn.shelf l.name) (g.S.Shelf.reads l.shelf l.name) l.limit l.text;
  room : 0 < length l.chunk;
  names : g.S.Shelf.names l.shelf ≡ g.S.Shelf.names l.fn.shelf;
  content : g.S.Shelf.content l.shelf ≡ g.S.Shelf.content l.fn.shelf;
  faults : g.S.Shelf.faults l.shelf l.name ≡ g.S.Shelf.faults l.fn.shelf l.name;
  reach : g.S.Shelf.reach l.fn.shelf l.name ≤ g.S.Shelf.reach l.shelf l.name;
  others : OthersStay l.name (g.S.Shelf.reach l.fn.shelf) (g.S.Shelf.reach l.shelf) (g.S.Shelf.faults l.fn.shelf) (g.S.Shelf.faults l.shelf)
      (g.S.Shelf.reads l.fn.shelf) (g.S.Shelf.reads l.shelf);
}
