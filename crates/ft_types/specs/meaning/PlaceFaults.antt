-- The first place of a set's text that is on the wrong side, and the first that is of the wrong kind.
use Rattle.std.specs.Prelude.{List, Option}
use Rattle.ft_tree.specs.declared.item.Item.{Item}
use Rattle.ft_names.specs.meaning.Cards.{env_of}
use Rattle.ft_names.specs.meaning.First.{first_of}
use Rattle.ft_names.specs.meaning.Spots.{spots}
use Rattle.ft_types.specs.declared.fault.ItemFault.{ItemFault}
use Rattle.ft_types.specs.meaning.Mismatch.{mismatch_spot}
use Rattle.ft_types.specs.meaning.Sides.{side_spot}

abbrev pub first_wrong_side : List Item → Option ItemFault
first_wrong_side items = first_of (side_spot (env_of items)) (spots items)

abbrev pub first_mismatch : List Item → Option ItemFault
first_mismatch items = first_of (mismatch_spot (env_of items)) (spots items)
