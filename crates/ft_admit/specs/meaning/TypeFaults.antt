-- The first fault of a tree before circles, kind by kind, and what an answer to the question for it says.
use Rattle.std.specs.Prelude.{◌≡◌, ◌⊎◌, option_map, Option, None, Some, Result, Ok, Err}
use Rattle.std.specs.Option.{option_or}
use Rattle.ft_tree.specs.declared.tree.Tree.{Tree}
use Rattle.ft_names.specs.declared.fault.NameFault.{NameFault}
use Rattle.ft_names.specs.declared.fault.NameFault.TheVariants as name
use Rattle.ft_names.specs.declared.stop.Stop.{Stop}
use Rattle.ft_names.specs.declared.stop.Stop.TheVariants as stop
use Rattle.ft_names.specs.meaning.First.{first_of}
use Rattle.ft_names.specs.meaning.NameFaults.{name_fault}
use Rattle.ft_types.specs.declared.fault.ItemFault.{ItemFault}
use Rattle.ft_types.specs.declared.fault.ItemFault.TheVariants as item
use Rattle.ft_types.specs.meaning.PlaceFaults.{first_mismatch, first_wrong_side}
use Rattle.ft_types.specs.meaning.Ranges.{first_bad_range, item_band, item_hold}
use Rattle.ft_types.specs.meaning.Shapes.{item_shape}
use Rattle.ft_types.specs.meaning.Targets.{first_table_fault}
use Rattle.ft_measure.specs.declared.slope.Slope.{Slope}
use Rattle.ft_measure.specs.meaning.SlopeFaults.{first_slope}
use Rattle.ft_admit.specs.declared.fault.TypeFault.{TypeFault}
use Rattle.ft_admit.specs.declared.fault.TypeFault.TheVariants.{NoVariable, DuplicateName, UnknownName, WrongSide, TypeMismatch, NotLinear}
use Rattle.ft_admit.specs.declared.fault.TypeFault.TheVariants.{BadRange, BadHold, BadBand, Shape, NoTable, TwoTables, NoMemory}

abbrev pub of_name : NameFault → TypeFault
of_name (name.NoVariable kind) = NoVariable kind
of_name (name.DuplicateName text place) = DuplicateName text place
of_name (name.UnknownName text place) = UnknownName text place
of_name name.NoMemory = NoMemory

abbrev pub of_item : ItemFault → TypeFault
of_item (item.WrongSide text place) = WrongSide text place
of_item (item.TypeMismatch place) = TypeMismatch place
of_item (item.BadRange place) = BadRange place
of_item (item.BadHold place) = BadHold place
of_item (item.BadBand place) = BadBand place
of_item (item.Shape title place) = Shape title place
of_item (item.NoTable section text) = NoTable section text
of_item (item.TwoTables section text place) = TwoTables section text place

abbrev pub of_slope : Slope → TypeFault
of_slope slope = NotLinear slope.why slope.place

-- what a call answers that had to stop
abbrev pub item_stop : Stop ItemFault → TypeFault
item_stop (stop.Fault fault) = of_item fault
item_stop stop.NoMemory = NoMemory

abbrev pub slope_stop : Stop Slope → TypeFault
slope_stop (stop.Fault slope) = of_slope slope
slope_stop stop.NoMemory = NoMemory

abbrev pub type_stop : Stop TypeFault → TypeFault
type_stop (stop.Fault fault) = fault
type_stop stop.NoMemory = NoMemory

-- the first kind that occurs, from NoVariable to TwoTables, at its first place in the text
abbrev pub fault_before_circles : Tree → Option TypeFault
fault_before_circles tree =
    option_or (option_map of_name (name_fault tree.items))
    (option_or (option_map of_item (first_wrong_side tree.items))
    (option_or (option_map of_item (first_mismatch tree.items))
    (option_or (option_map of_slope (first_slope tree.items))
    (option_or (option_map of_item (first_bad_range tree.period tree.splits tree.depth tree.items))
    (option_or (option_map of_item (first_of (item_hold tree.items) tree.items))
    (option_or (option_map of_item (first_of (item_band tree.items) tree.items))
    (option_or (option_map of_item (first_of item_shape tree.items))
    (option_map of_item (first_table_fault tree.items)))))))))

-- Ok exactly where there is no such fault, and else exactly the first, or want of memory
abbrev pub AnswersType : {A : Type 0} → Result A TypeFault → Option TypeFault → Type 0
AnswersType (Ok _) first = first ≡ None
AnswersType (Err fault) first = (fault ≡ NoMemory) ⊎ (first ≡ Some fault)
