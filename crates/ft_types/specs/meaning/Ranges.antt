-- Numbers out of their ranges.
use Rattle.std.specs.Prelude.{ℤ, pos, int_le, int_lt, Bool, ◌&&◌, List, Option, Some, None, if◌then◌else◌}
use Rattle.std.specs.Option.{option_or}
use Rattle.ft_tree.specs.declared.item.Number.{Number}
use Rattle.ft_tree.specs.declared.item.Bound.{Bound}
use Rattle.ft_tree.specs.declared.item.Kind.{Kind}
use Rattle.ft_tree.specs.declared.item.Kind.TheVariants as kind
use Rattle.ft_tree.specs.declared.item.Item.{Item}
use Rattle.ft_tree.specs.declared.item.Item.TheVariants.{RangeType, Variable, Held, Hyst}
use Rattle.ft_names.specs.declared.card.Values.{Values}
use Rattle.ft_names.specs.declared.card.Values.TheVariants.{Numbers}
use Rattle.ft_names.specs.meaning.Cards.{bound_value, kind_values}
use Rattle.ft_names.specs.meaning.First.{first_of}
use Rattle.ft_types.specs.declared.fault.ItemFault.{ItemFault}
use Rattle.ft_types.specs.declared.fault.ItemFault.TheVariants.{BadRange, BadHold, BadBand}

abbrev pub unless : (right : Bool) → ItemFault → Option ItemFault
unless right fault = if right then None else Some fault

abbrev pub lies : (lo hi : ℤ) → ℤ → Bool
lies lo hi z = int_le lo z && int_le z hi

-- a lower bound above the upper one; the place is the lower one's
abbrev pub range_fault : List Item → (lo hi : Bound) → Option ItemFault
range_fault items lo hi = unless (int_le (bound_value items lo) (bound_value items hi)) (BadRange lo.place)

abbrev pub kind_fault : List Item → Kind → Option ItemFault
kind_fault items (kind.Range lo hi) = range_fault items lo hi
kind_fault items _ = None

-- an `init` out of the range of its variable's type
abbrev pub init_fault : List Item → Values → Bound → Option ItemFault
init_fault items (Numbers lo hi) init = unless (lies lo hi (bound_value items init)) (BadRange init.place)
init_fault items _ init = None

abbrev pub item_range : List Item → Item → Option ItemFault
item_range items (RangeType name lo hi) = range_fault items lo hi
item_range items (Variable word name of init) = option_or (kind_fault items of) (init_fault items (kind_values items of) init)
item_range items _ = None

abbrev pub number_fault : (lo hi : ℤ) → Number → Option ItemFault
number_fault lo hi number = unless (lies lo hi (pos number.value)) (BadRange number.place)

abbrev pub option_fault : (lo hi : ℤ) → Option Number → Option ItemFault
option_fault lo hi None = None
option_fault lo hi (Some number) = number_fault lo hi number

-- a period is 1 to 10,000 ms, there are at most 200,000 splits, and 1 to 8 scans of depth
abbrev pub set_range : Number → (splits depth : Option Number) → Option ItemFault
set_range period splits depth =
    option_or (number_fault (pos 1) (pos 10000) period)
    (option_or (option_fault (pos 0) (pos 200000) splits) (option_fault (pos 1) (pos 8) depth))

-- the first number of a set that is out of its range, in the order of the text
abbrev pub first_bad_range : Number → (splits depth : Option Number) → List Item → Option ItemFault
first_bad_range period splits depth items = option_or (set_range period splits depth) (first_of (item_range items) items)

-- a hold is 0 to 1,000,000 ms
abbrev pub item_hold : List Item → Item → Option ItemFault
item_hold items (Held side name cond hold) = unless (lies (pos 0) (pos 1000000) (bound_value items hold)) (BadHold hold.place)
item_hold items _ = None

abbrev pub item_band : List Item → Item → Option ItemFault
item_band items (Hyst side name term lo hi start) = unless (int_lt (bound_value items lo) (bound_value items hi)) (BadBand lo.place)
item_band items _ = None
