-- What tables define: variables that lack a table, and variables with two in one section.
use Rattle.std.specs.Prelude.{ℕ, Bool, ◌&&◌, List, [], ◌∷◌, ◌++◌, map, bytes_eq, Option, Some, None, if◌then◌else◌}
use Rattle.std.specs.List.{flat_map, list_any}
use Rattle.std.specs.Option.{option_or}
use Rattle.ft_tree.specs.declared.item.Word.{Word}
use Rattle.ft_tree.specs.declared.item.VarWord.TheVariants as word
use Rattle.ft_tree.specs.declared.item.SectionWord.{SectionWord}
use Rattle.ft_tree.specs.declared.item.SectionWord.TheVariants as section
use Rattle.ft_tree.specs.declared.item.Item.{Item}
use Rattle.ft_tree.specs.declared.item.Item.TheVariants.{Normal, Inverted, Vector, Variable}
use Rattle.ft_core.specs.declared.tables.Section.{Section}
use Rattle.ft_core.specs.declared.tables.Section.TheVariants as core
use Rattle.ft_names.specs.meaning.First.{first_of}
use Rattle.ft_types.specs.declared.fault.ItemFault.{ItemFault}
use Rattle.ft_types.specs.declared.fault.ItemFault.TheVariants.{NoTable, TwoTables}
use Rattle.ft_types.specs.meaning.Ranges.{unless}
use Rattle.ft_types.specs.meaning.Sides.{same_section_word}

-- a name that a table of a section defines
abbrev pub Target : Type 0
Target = SectionWord × Word

abbrev pub item_targets : Item → List Target
item_targets (Normal s target columns rows) = (s, target) ∷ []
item_targets (Inverted s target headers rows) = (s, target) ∷ []
item_targets (Vector s columns rows) = map (λ row. (s, row.target)) rows
item_targets _ = []

-- what the tables of a set define, in the order of the text
abbrev pub targets : List Item → List Target
targets items = flat_map item_targets items

abbrev pub is_target : SectionWord → List ℕ → Target → Bool
is_target s name target = same_section_word s target.0 && bytes_eq name target.1.text

abbrev pub is_defined : List Target → SectionWord → List ℕ → Bool
is_defined defined s name = list_any (is_target s name) defined

-- a section by its word
abbrev pub section_of : SectionWord → Section
section_of section.In = core.In
section_of section.Req = core.Req
section_of section.Sof = core.Sof
section_of section.Out = core.Out

abbrev pub lack : List Target → SectionWord → Word → Option ItemFault
lack defined s name = unless (is_defined defined s name.text) (NoTable (section_of s) name.text)

-- a declared variable needs a table of each section that is for its kind, REQ before OUT
abbrev pub item_lack : List Target → Item → Option ItemFault
item_lack defined (Variable word.Mon name of init) = None
item_lack defined (Variable word.Con name of init) = option_or (lack defined section.Req name) (lack defined section.Out name)
item_lack defined (Variable word.Input name of init) = lack defined section.In name
item_lack defined (Variable word.Output name of init) = lack defined section.Sof name
item_lack defined (Variable word.ReqVar name of init) = lack defined section.Req name
item_lack defined (Variable word.SofVar name of init) = lack defined section.Sof name
item_lack defined _ = None

-- the first declared variable that lacks a table
abbrev pub first_lack : List Item → Option ItemFault
first_lack items = first_of (item_lack (targets items)) items

-- each target with those before it
abbrev pub in_turn : List Target → List Target → List (List Target × Target)
in_turn before [] = []
in_turn before (target ∷ more) = (before, target) ∷ in_turn (before ++ target ∷ []) more

-- a target that stands before
abbrev pub twice : List Target × Target → Option ItemFault
twice (before, (s, name)) = if is_defined before s name.text then Some (TwoTables (section_of s) name.text name.place) else None

-- the first name that is defined a second time in a section
abbrev pub first_twice : List Target → Option ItemFault
first_twice defined = first_of twice (in_turn [] defined)

-- a variable that lacks a table, or else a name with two in a section
abbrev pub first_table_fault : List Item → Option ItemFault
first_table_fault items = option_or (first_lack items) (first_twice (targets items))
