-- The first fault of the names of a set, kind by kind.
use Rattle.std.specs.Prelude.{◌≡◌, ◌⊎◌, Bool, true, false, List, [], Option, Some, None, Result, Ok, Err, if◌then◌else◌}
use Rattle.std.specs.List.{list_any}
use Rattle.std.specs.Option.{option_or}
use Rattle.ft_tree.specs.declared.item.VarWord.TheVariants as word
use Rattle.ft_tree.specs.declared.item.Item.{Item}
use Rattle.ft_tree.specs.declared.item.Item.TheVariants.{Variable}
use Rattle.ft_core.specs.declared.tables.VarKind.{VarKind}
use Rattle.ft_core.specs.declared.tables.VarKind.TheVariants as kind
use Rattle.ft_names.specs.declared.stop.Stop.{Stop}
use Rattle.ft_names.specs.declared.stop.Stop.TheVariants as stop
use Rattle.ft_names.specs.declared.fault.NameFault.{NameFault}
use Rattle.ft_names.specs.declared.fault.NameFault.TheVariants.{NoVariable, NoMemory}
use Rattle.ft_names.specs.meaning.First.{first_of}
use Rattle.ft_names.specs.meaning.Declared.{listing, names_in}
use Rattle.ft_names.specs.meaning.Duplicates.{repeated, set_namings}
use Rattle.ft_names.specs.meaning.Unknown.{unknown_spot}
use Rattle.ft_names.specs.meaning.Spots.{spots}

abbrev pub declares_monitored : Item → Bool
declares_monitored (Variable word.Mon name of init) = true
declares_monitored _ = false

abbrev pub declares_controlled : Item → Bool
declares_controlled (Variable word.Con name of init) = true
declares_controlled _ = false

abbrev pub wanted : VarKind → (there : Bool) → Option NameFault
wanted k there = if there then None else Some (NoVariable k)

-- no monitored, or else no controlled variable
abbrev pub no_variable : List Item → Option NameFault
no_variable items = option_or (wanted kind.Mon (list_any declares_monitored items)) (wanted kind.Con (list_any declares_controlled items))

abbrev pub duplicate : List Item → Option NameFault
duplicate items = first_of repeated (set_namings [] items)

abbrev pub unknown_name : List Item → Option NameFault
unknown_name items = first_of (unknown_spot (names_in (listing 0 items))) (spots items)

-- the first kind that occurs, at its first place in the text
abbrev pub name_fault : List Item → Option NameFault
name_fault items = option_or (no_variable items) (option_or (duplicate items) (unknown_name items))

-- Ok exactly where there is no fault of names, and else exactly the first, or want of memory
abbrev pub AnswersNames : {A : Type 0} → Result A NameFault → Option NameFault → Type 0
AnswersNames (Ok _) first = first ≡ None
AnswersNames (Err fault) first = (fault ≡ NoMemory) ⊎ (first ≡ Some fault)

-- what a call answers that had to stop
abbrev pub stopped : Stop NameFault → NameFault
stopped (stop.Fault fault) = fault
stopped stop.NoMemory = NoMemory
