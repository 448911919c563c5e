-- What is left of a tree without its places.
use Rattle.std.specs.Prelude.{ℕ, ◌≡◌, List, map, Option, Some, None}
use Rattle.ft_base.specs.declared.place.Place.{Place}
use Rattle.ft_tree.specs.declared.expr.Expr.{Expr, Expr-F, fold-Expr}
use Rattle.ft_tree.specs.declared.expr.Expr.TheOpen as layer
use Rattle.ft_tree.specs.declared.expr.Expr.TheVariants as expr
use Rattle.ft_tree.specs.declared.item.Word.{Word}
use Rattle.ft_tree.specs.declared.item.Number.{Number}
use Rattle.ft_tree.specs.declared.item.Bound.{Bound}
use Rattle.ft_tree.specs.declared.item.Kind.{Kind}
use Rattle.ft_tree.specs.declared.item.Kind.TheVariants as kind
use Rattle.ft_tree.specs.declared.item.Row.{Row}
use Rattle.ft_tree.specs.declared.item.VRow.{VRow}
use Rattle.ft_tree.specs.declared.item.FactItem.{FactItem}
use Rattle.ft_tree.specs.declared.item.FactItem.TheVariants as fact
use Rattle.ft_tree.specs.declared.item.Item.{Item}
use Rattle.ft_tree.specs.declared.item.Item.TheVariants as item
use Rattle.ft_tree.specs.declared.tree.Tree.{Tree}

-- the one place that stands for all
abbrev pub start : Place
start = record { line = 1; column = 1 }

abbrev pub bare_layer : Expr-F Expr → Expr
bare_layer (layer.Num value place) = expr.Num value start
bare_layer (layer.Name name place) = expr.Name name start
bare_layer (layer.Truth value place) = expr.Truth value start
bare_layer (layer.Prev name place) = expr.Prev name start
bare_layer (layer.Age name place) = expr.Age name start
bare_layer (layer.Not part place) = expr.Not part start
bare_layer (layer.Neg part place) = expr.Neg part start
bare_layer (layer.Two op left right place) = expr.Two op left right start

unfoldable pub bare_expr : Expr → Expr
bare_expr = fold-Expr Expr bare_layer

abbrev pub bare_word : Word → Word
bare_word word = record word { place = start }

abbrev pub bare_number : Number → Number
bare_number number = record number { place = start }

abbrev pub bare_bound : Bound → Bound
bare_bound bound = record bound { place = start }

abbrev pub bare_kind : Kind → Kind
bare_kind (kind.Range lo hi) = kind.Range (bare_bound lo) (bare_bound hi)
bare_kind (kind.Named word) = kind.Named (bare_word word)
bare_kind kind.Bool = kind.Bool

abbrev pub bare_row : Row → Row
bare_row row = record { place = start; head = bare_expr row.head; entries = map bare_expr row.entries }

abbrev pub bare_vrow : VRow → VRow
bare_vrow row = record { place = start; target = bare_word row.target; entries = map bare_expr row.entries }

abbrev pub bare_fact : FactItem → FactItem
bare_fact (fact.Shows name cond) = fact.Shows (bare_word name) (bare_expr cond)
bare_fact (fact.Goal con) = fact.Goal (bare_word con)

abbrev pub bare_item : Item → Item
bare_item (item.Constant name sign value) = item.Constant (bare_word name) sign (bare_number value)
bare_item (item.RangeType name lo hi) = item.RangeType (bare_word name) (bare_bound lo) (bare_bound hi)
bare_item (item.EnumType name members) = item.EnumType (bare_word name) (map bare_word members)
bare_item (item.Variable words name of init) = item.Variable words (bare_word name) (bare_kind of) (bare_bound init)
bare_item (item.Held side name cond hold) = item.Held side (bare_word name) (bare_expr cond) (bare_bound hold)
bare_item (item.Hyst side name term lo hi begins) =
    item.Hyst side (bare_word name) (bare_expr term) (bare_bound lo) (bare_bound hi) begins
bare_item (item.Normal section target columns rows) =
    item.Normal section (bare_word target) (map bare_expr columns) (map bare_row rows)
bare_item (item.Inverted section target terms rows) =
    item.Inverted section (bare_word target) (map bare_expr terms) (map bare_row rows)
bare_item (item.Vector section columns rows) = item.Vector section (map bare_expr columns) (map bare_vrow rows)
bare_item (item.Nat moment cond) = item.Nat moment (bare_expr cond)
bare_item (item.Block name takes uses facts) =
    item.Block (bare_word name) (map bare_word takes) (map bare_word uses) (map bare_fact facts)

abbrev pub bare_option : Option Number → Option Number
bare_option None = None
bare_option (Some number) = Some (bare_number number)

-- the parts of a tree without their places
pub record BareSet : Type 0 where
  pub name : List ℕ
  pub period : Number
  pub splits : Option Number
  pub depth : Option Number
  pub items : List Item

abbrev pub bare_set : (name : List ℕ) (period : Number) (splits depth : Option Number) (items : List Item) → BareSet
bare_set name period splits depth items = record {
  name = name;
  period = bare_number period;
  splits = bare_option splits;
  depth = bare_option depth;
  items = map bare_item items;
}

abbrev pub bare_tree : Tree → BareSet
bare_tree tree = bare_set tree.name tree.period tree.splits tree.depth tree.items

-- the trees are the same but for places
abbrev pub IsSameTree : Tree → Tree → Type 0
IsSameTree tree other = bare_tree tree ≡ bare_tree other
