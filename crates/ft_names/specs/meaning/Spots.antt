-- The places of a set's items, in the order of the text.
use Rattle.std.specs.Prelude.{List, [], ◌∷◌, ◌++◌, map}
use Rattle.std.specs.List.{flat_map}
use Rattle.ft_tree.specs.declared.expr.Expr.{Expr}
use Rattle.ft_tree.specs.declared.item.Word.{Word}
use Rattle.ft_tree.specs.declared.item.Bound.{Bound}
use Rattle.ft_tree.specs.declared.item.Kind.{Kind}
use Rattle.ft_tree.specs.declared.item.Kind.TheVariants as kind
use Rattle.ft_tree.specs.declared.item.SectionWord.{SectionWord}
use Rattle.ft_tree.specs.declared.item.SectionWord.TheVariants as section
use Rattle.ft_tree.specs.declared.item.NatWord.{NatWord}
use Rattle.ft_tree.specs.declared.item.NatWord.TheVariants as moment
use Rattle.ft_tree.specs.declared.item.Row.{Row}
use Rattle.ft_tree.specs.declared.item.VRow.{VRow}
use Rattle.ft_tree.specs.declared.item.FactItem.{FactItem}
use Rattle.ft_tree.specs.declared.item.FactItem.TheVariants.{Shows, Goal}
use Rattle.ft_tree.specs.declared.item.Item.{Item}
use Rattle.ft_tree.specs.declared.item.Item.TheVariants.{Constant, RangeType, EnumType, Variable, Held, Hyst, Normal, Inverted, Vector, Nat}
use Rattle.ft_tree.specs.declared.item.Item.TheVariants.{Block}
use Rattle.ft_names.specs.declared.site.Site.{Site}
use Rattle.ft_names.specs.declared.site.Site.TheVariants as site
use Rattle.ft_names.specs.declared.walk.Role.{Role}
use Rattle.ft_names.specs.declared.walk.Role.TheVariants as role
use Rattle.ft_names.specs.declared.walk.Entries.{Entries}
use Rattle.ft_names.specs.declared.walk.Entries.TheVariants.{Conditions, Terms}

-- What stands at a place: a name that is used, a bound or a hold, an `init` with its variable's type, or an expression that has
-- to be a condition, a number, or a term for a variable. Names that are declared, and constants' values, are no places here.
pub data Spot : Type 0 where
  named : Role → Word → Spot
  bound : Bound → Spot
  initial : Kind → Bound → Spot
  condition : Site → Expr → Spot
  number : Site → Expr → Spot
  term_for : Site → Word → Expr → Spot

-- where the expressions of a table or memory stand
abbrev pub section_site : SectionWord → Site
section_site section.In = site.In
section_site section.Req = site.Req
section_site section.Sof = site.Sof
section_site section.Out = site.Out

-- where the expression of a clause on the environment stands
abbrev pub moment_site : NatWord → Site
moment_site moment.First = site.First
moment_site moment.Always = site.Always
moment_site moment.Step = site.Step

abbrev pub kind_spots : Kind → List Spot
kind_spots (kind.Range lo hi) = bound lo ∷ bound hi ∷ []
kind_spots (kind.Named word) = named role.TypeName word ∷ []
kind_spots kind.Bool = []

abbrev pub conditions : Site → List Expr → List Spot
conditions s exprs = map (condition s) exprs

abbrev pub terms : Site → Word → List Expr → List Spot
terms s word exprs = map (term_for s word) exprs

-- the entries of a header or a row of a table that defines this variable
abbrev pub entry_spots : Entries → Site → Word → List Expr → List Spot
entry_spots Conditions s word exprs = conditions s exprs
entry_spots Terms s word exprs = terms s word exprs

abbrev pub row_spots : Entries → Site → Word → Row → List Spot
row_spots entries s word row = condition s row.head ∷ entry_spots entries s word row.entries

-- a table for one variable: its name, the header, the rows
abbrev pub grid_spots : SectionWord → Word → Entries → (headers : List Expr) → Entries → List Row → List Spot
grid_spots s word header headers entries rows =
    named (role.Target s) word
    ∷ (entry_spots header (section_site s) word headers ++ flat_map (row_spots entries (section_site s) word) rows)

abbrev pub vector_row : SectionWord → VRow → List Spot
vector_row s row = named (role.Target s) row.target ∷ terms (section_site s) row.target row.entries

abbrev pub vector_spots : SectionWord → (columns : List Expr) → List VRow → List Spot
vector_spots s columns rows = conditions (section_site s) columns ++ flat_map (vector_row s) rows

abbrev pub fact_spots : FactItem → List Spot
fact_spots (Shows name cond) = condition site.Shows cond ∷ []
fact_spots (Goal con) = named role.Goal con ∷ []

abbrev pub item_spots : Item → List Spot
item_spots (Constant name sign value) = []
item_spots (RangeType name lo hi) = bound lo ∷ bound hi ∷ []
item_spots (EnumType name members) = []
item_spots (Variable word name of init) = kind_spots of ++ initial of init ∷ []
item_spots (Held side name cond hold) = condition (section_site side) cond ∷ bound hold ∷ []
item_spots (Hyst side name term lo hi start) = number (section_site side) term ∷ bound lo ∷ bound hi ∷ []
item_spots (Normal s target columns rows) = grid_spots s target Conditions columns Terms rows
item_spots (Inverted s target headers rows) = grid_spots s target Terms headers Conditions rows
item_spots (Vector s columns rows) = vector_spots s columns rows
item_spots (Nat m cond) = condition (moment_site m) cond ∷ []
item_spots (Block name takes uses facts) = map (named role.Taken) takes ++ map (named role.Used) uses ++ flat_map fact_spots facts

-- all places of the items
abbrev pub spots : List Item → List Spot
spots items = flat_map item_spots items
