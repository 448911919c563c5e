-- What the map of the names stands for.
use Rattle.std.specs.Prelude.{◌<◌, ◌^◌, map, length}
use Rattle.ft_names.specs.meaning.Declared.{Listing}
use Rattle.ft_names.specs.declared.names.Names.TheInside.{Inside}

abbrev pub listed : Inside → Listing
listed n = map (λ e. (e.0.items, e.1)) n.items.entries

abbrev pub IsSmall : Inside → Type 0
IsSmall n = length n.items.entries < 2 ^ 32
