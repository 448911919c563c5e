use Rattle.std.proofs.Common.{◌≡◌, map, take}
use Rattle.ft_settle.specs.meaning.Settled.{placed}
use Rattle.ft_settle.proofs.settling.+place.Given as goal

abbrev pub invariant-place_all-loop-part : goal.invariant-place_all-loop-part
invariant-place_all-loop-part l = l.nodes ≡ map (placed l.forms) (take l.part-index l.parts)
