use Rattle.std.proofs.Common.{◌≡◌, ◌++◌, take}
use Rattle.ft_claims.specs.meaning.Coverage.{links}
use Rattle.ft_oblige.proofs.links.add_links.Given as goal

abbrev pub invariant-loop-place : goal.invariant-loop-place
invariant-loop-place l = l.parts ≡ l.initial.parts ++ links l.tables l.frame (take l.place-index l.places)
