use Rattle.std.proofs.Common.{◌≡◌, ◌∷◌, take}
use Rattle.std.specs.List.{flat_map}
use Rattle.ft_linear.specs.declared.lines.Line.TheVariants.{Atom}
use Rattle.ft_search.specs.searching.Kept.{other_line}
use Rattle.ft_search.proofs.reading.literal_lines.Given as goal

abbrev pub invariant-factors : goal.invariant-factors
invariant-factors l = l.lines ≡ Atom l.atom l.value 1 ∷ flat_map (other_line l.value l.unknown) (take l.factor-index l.factor-items)
