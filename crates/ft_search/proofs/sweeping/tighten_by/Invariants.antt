use Rattle.std.proofs.Common.{◌≤◌, length}
use Rattle.ft_search.specs.searching.Sweep.{IsSweepFor, IsSwept}
use Rattle.ft_search.proofs.sweeping.tighten_by.Given as goal

abbrev pub invariant-factors : goal.invariant-factors
invariant-factors l = record {
  room : IsSweepFor l.formula (length l.part.spans) l.sweep;
  swept : IsSwept l.formula l.part l.sweep.made.items l.sweep.part;
  few : length l.sweep.made.items ≤ l.pace.limit;
}
