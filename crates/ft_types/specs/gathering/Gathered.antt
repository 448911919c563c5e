-- What is kept of the targets so far: their titles, and the first that stood twice.
use Rattle.std.specs.Prelude.{◌≡◌, ℕ, Bool, List, ◌++◌, Option, Some, None, if◌then◌else◌}
use Rattle.ft_tree.specs.declared.item.Word.{Word}
use Rattle.ft_tree.specs.declared.item.SectionWord.{SectionWord}
use Rattle.ft_names.specs.meaning.Declared.{Listing, is_among, names_in}
use Rattle.ft_types.specs.declared.fault.ItemFault.{ItemFault}
use Rattle.ft_types.specs.declared.fault.ItemFault.TheVariants.{TwoTables}
use Rattle.ft_types.specs.meaning.Shapes.{title}
use Rattle.ft_types.specs.meaning.Targets.{Target, first_twice, is_defined, section_of}

-- the titles of these targets, and no other
abbrev pub HasTitles : Listing → List Target → Type 0
HasTitles titles defined = (s : SectionWord) (name : List ℕ) → is_among (names_in titles) (title s name) ≡ is_defined defined s name

pub record AreGathered (titles : Listing) (second : Option ItemFault) (defined : List Target) : Type 0 where
  pub held : HasTitles titles defined
  pub told : second ≡ first_twice defined

-- the fault of a target that stands before, and so is not new
abbrev pub again : (new : Bool) → SectionWord → Word → Option ItemFault
again new s name = if new then None else Some (TwoTables (section_of s) name.text name.place)

-- these targets are gathered besides
abbrev pub Gathers : (old new : Listing) → (was now : Option ItemFault) → List Target → Type 0
Gathers old new was now more = (defined : List Target) → AreGathered old was defined → AreGathered new now (defined ++ more)
