-- Parts of the chain of kinds of faults, as the code asks for them.
use Rattle.std.specs.Prelude.{option_map, Option}
use Rattle.std.specs.Option.{option_or}
use Rattle.ft_tree.specs.declared.tree.Tree.{Tree}
use Rattle.ft_names.specs.meaning.First.{first_of}
use Rattle.ft_types.specs.meaning.PlaceFaults.{first_mismatch, first_wrong_side}
use Rattle.ft_types.specs.meaning.Ranges.{first_bad_range, item_band, item_hold}
use Rattle.ft_types.specs.meaning.Shapes.{item_shape}
use Rattle.ft_types.specs.meaning.Targets.{first_table_fault}
use Rattle.ft_measure.specs.meaning.SlopeFaults.{first_slope}
use Rattle.ft_admit.specs.declared.fault.TypeFault.{TypeFault}
use Rattle.ft_admit.specs.meaning.TypeFaults.{of_item, of_slope}

abbrev pub place_fault : Tree → Option TypeFault
place_fault tree = option_or (option_map of_item (first_wrong_side tree.items))
    (option_or (option_map of_item (first_mismatch tree.items)) (option_map of_slope (first_slope tree.items)))

abbrev pub number_fault : Tree → Option TypeFault
number_fault tree = option_or (option_map of_item (first_bad_range tree.period tree.splits tree.depth tree.items))
    (option_or (option_map of_item (first_of (item_hold tree.items) tree.items))
    (option_map of_item (first_of (item_band tree.items) tree.items)))

abbrev pub grid_fault : Tree → Option TypeFault
grid_fault tree = option_or (option_map of_item (first_of item_shape tree.items)) (option_map of_item (first_table_fault tree.items))
