-- How many variables stand before an item.
use Rattle.std.specs.Prelude.{ℕ, ◌+◌}
use Rattle.ft_build.specs.declared.places.Places.{Places}

abbrev pub total : Places → ℕ
total places = places.monitored + places.controlled + places.inputs + places.outputs + places.requirement + places.design
