-- The trees that spell a checked set, but for circles and for what `uses` names: no fault of any earlier kind.
use Rattle.std.specs.Prelude.{◌≡◌, ℕ, List, Option, None}
use Rattle.ft_tree.specs.declared.item.Item.{Item}
use Rattle.ft_tree.specs.declared.item.Number.{Number}
use Rattle.ft_tree.specs.meaning.Limits.{IsSet}
use Rattle.ft_names.specs.meaning.First.{first_of}
use Rattle.ft_names.specs.meaning.NameFaults.{name_fault}
use Rattle.ft_types.specs.meaning.PlaceFaults.{first_mismatch, first_wrong_side}
use Rattle.ft_types.specs.meaning.Ranges.{first_bad_range, item_band, item_hold}
use Rattle.ft_types.specs.meaning.Shapes.{item_shape}
use Rattle.ft_types.specs.meaning.Targets.{first_table_fault}
use Rattle.ft_measure.specs.meaning.SlopeFaults.{first_slope}

-- a tree within the limits, with no fault from NoVariable to TwoTables
pub record IsFaultless (name : List ℕ) (period : Number) (splits depth : Option Number) (items : List Item) : Type 0 where
  pub lawful : IsSet name period splits depth items
  pub names : name_fault items ≡ None
  pub sides : first_wrong_side items ≡ None
  pub kinds : first_mismatch items ≡ None
  pub slopes : first_slope items ≡ None
  pub ranges : first_bad_range period splits depth items ≡ None
  pub holds : first_of (item_hold items) items ≡ None
  pub bands : first_of (item_band items) items ≡ None
  pub shapes : first_of item_shape items ≡ None
  pub tables : first_table_fault items ≡ None
