-- The definitions of a set by the sections of their variables.
use Rattle.std.specs.Prelude.{◌≡◌}
use Rattle.ft_core.specs.declared.tables.Tables.{Tables}
use Rattle.ft_core.specs.declared.tables.Section.{Section}
use Rattle.ft_core.specs.declared.tables.Section.TheVariants as section
use Rattle.ft_oblige.specs.building.Homes.{IsHomesOf}
use Rattle.ft_oblige.specs.meaning.Lists.{defined_places}
use Rattle.ft_unroll.specs.declared.defining.Defined.{Defined}
use Rattle.ft_unroll.specs.declared.defining.Definitions.{Definitions}

-- the tables of a section, and the places of the variables that it defines
pub record IsDefinedBy (S : Tables) (section : Section) (defined : Defined) : Type 0 where
  pub homes : IsHomesOf S section defined.homes
  pub places : defined.places ≡ defined_places S section

abbrev pub defined_in : Section → Definitions → Defined
defined_in section.In definitions = definitions.inputs
defined_in section.Req definitions = definitions.required
defined_in section.Sof definitions = definitions.designed
defined_in section.Out definitions = definitions.outputs

pub record AreDefinitions (S : Tables) (definitions : Definitions) : Type 0 where
  pub each : (section : Section) → IsDefinedBy S section (defined_in section definitions)
