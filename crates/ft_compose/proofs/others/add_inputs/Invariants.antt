use Rattle.std.proofs.Common.{◌≡◌, ◌++◌, map, take}
use Rattle.ft_core.specs.declared.tables.Section.TheVariants as section
use Rattle.ft_claims.specs.meaning.Parts.{definition}
use Rattle.ft_compose.proofs.others.add_inputs.Given as goal

abbrev pub invariant-loop-place : goal.invariant-loop-place
invariant-loop-place l = l.claims ≡ l.initial.claims ++ map (definition l.tables section.In l.frame) (take l.place-index l.places)
