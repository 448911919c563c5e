-- What holds of every tree: names are names, the limits hold, and each part stands where it may.
use Rattle.std.specs.Prelude.{ℕ, suc, ◌≤◌, ◌≡◌, ◌&&◌, max, not, nat_le, Bool, true, false, List, length, Option, Some, None, if◌then◌else◌}
use Rattle.std.specs.List.{count_by, list_all, sum_by}
use Rattle.ft_base.specs.Names.{is_name}
use Rattle.ft_tree.specs.declared.expr.Expr.{Expr, Expr-F, fold-Expr}
use Rattle.ft_tree.specs.declared.expr.Expr.TheOpen as layer
use Rattle.ft_tree.specs.declared.item.Word.{Word}
use Rattle.ft_tree.specs.declared.item.Number.{Number}
use Rattle.ft_tree.specs.declared.item.Plain.{Plain}
use Rattle.ft_tree.specs.declared.item.Plain.TheVariants as plain
use Rattle.ft_tree.specs.declared.item.Bound.{Bound}
use Rattle.ft_tree.specs.declared.item.Kind.{Kind}
use Rattle.ft_tree.specs.declared.item.Kind.TheVariants as kind
use Rattle.ft_tree.specs.declared.item.SectionWord.{SectionWord}
use Rattle.ft_tree.specs.declared.item.SectionWord.TheVariants.{In, Req, Sof, Out}
use Rattle.ft_tree.specs.declared.item.Row.{Row}
use Rattle.ft_tree.specs.declared.item.VRow.{VRow}
use Rattle.ft_tree.specs.declared.item.FactItem.{FactItem}
use Rattle.ft_tree.specs.declared.item.FactItem.TheVariants.{Shows, Goal}
use Rattle.ft_tree.specs.declared.item.Item.{Item}
use Rattle.ft_tree.specs.declared.item.Item.TheVariants.{Constant, RangeType, EnumType, Variable, Held, Hyst, Normal, Inverted, Vector}
use Rattle.ft_tree.specs.declared.item.Item.TheVariants.{Nat, Block}
use Rattle.ft_tree.specs.declared.level.Level.{Level}
use Rattle.ft_tree.specs.declared.level.Level.TheVariants.{Negation, Unary, Atom}
use Rattle.ft_tree.specs.meaning.Expression.{expr_pieces}
use Rattle.ft_tree.specs.meaning.Level.{is_looser, left_level, op_level, right_level}

abbrev pub is_number : ℕ → Bool
is_number value = nat_le value 1000000000

-- from one entry to a limit
abbrev pub is_count : ℕ → ℕ → Bool
is_count limit count = nat_le 1 count && nat_le count limit

-- how tightly an expression binds, and how many `(`, `not` and `-` before an operand are open in it at once
pub record Nested : Type 0 where
  pub level : Level
  pub depth : ℕ

abbrev pub nests : Level → ℕ → Nested
nests level depth = record { level = level; depth = depth }

abbrev pub operand_depth : Level → Nested → ℕ
operand_depth needed part = if is_looser part.level needed then suc part.depth else part.depth

abbrev pub nested_layer : Expr-F Nested → Nested
nested_layer (layer.Num value place) = nests Atom 0
nested_layer (layer.Name name place) = nests Atom 0
nested_layer (layer.Truth value place) = nests Atom 0
nested_layer (layer.Prev name place) = nests Atom 1
nested_layer (layer.Age name place) = nests Atom 1
nested_layer (layer.Not part place) = nests Negation (suc (operand_depth Negation part))
nested_layer (layer.Neg part place) = nests Unary (suc (operand_depth Unary part))
nested_layer (layer.Two op left right place) = nests (op_level op) (max (operand_depth (left_level op) left)
    (operand_depth (right_level op) right))

unfoldable pub nested : Expr → Nested
nested = fold-Expr Nested nested_layer

abbrev pub lawful_layer : Expr-F Bool → Bool
lawful_layer (layer.Num value place) = is_number value
lawful_layer (layer.Name name place) = is_name name
lawful_layer (layer.Truth value place) = true
lawful_layer (layer.Prev name place) = is_name name
lawful_layer (layer.Age name place) = is_name name
lawful_layer (layer.Not part place) = part
lawful_layer (layer.Neg part place) = part
lawful_layer (layer.Two op left right place) = left && right

-- the names and numbers of an expression are such
unfoldable pub is_lawful : Expr → Bool
is_lawful = fold-Expr Bool lawful_layer

-- at most 1,000 tokens, and at most 64 open at once
abbrev pub is_expr : Expr → Bool
is_expr expr = is_lawful expr && nat_le (length (expr_pieces expr)) 1000 && nat_le (nested expr).depth 64

abbrev pub is_word : Word → Bool
is_word word = is_name word.text

-- a bound: a number or a name
abbrev pub is_plain : Plain → Bool
is_plain (plain.Number value) = is_number value
is_plain (plain.Name name) = is_name name
is_plain (plain.Truth value) = false

abbrev pub is_bound : Bound → Bool
is_bound bound = is_plain bound.value

abbrev pub is_init_value : Bool → Plain → Bool
is_init_value sign (plain.Number value) = is_number value
is_init_value sign (plain.Name name) = is_name name
is_init_value sign (plain.Truth value) = not sign

-- an `init` value: a bound, or a truth with no minus
abbrev pub is_init : Bound → Bool
is_init bound = is_init_value bound.minus bound.value

-- a hold: a bound with no minus
abbrev pub is_hold : Bound → Bool
is_hold bound = is_bound bound && not bound.minus

abbrev pub is_kind : Kind → Bool
is_kind (kind.Range lo hi) = is_bound lo && is_bound hi
is_kind (kind.Named word) = is_word word
is_kind kind.Bool = true

-- the side of a memory
abbrev pub is_side : SectionWord → Bool
is_side Req = true
is_side Sof = true
is_side In = false
is_side Out = false

-- the entries of a header or of a row
abbrev pub are_entries : List Expr → Bool
are_entries entries = is_count 32 (length entries) && list_all is_expr entries

abbrev pub is_row : Row → Bool
is_row row = is_expr row.head && are_entries row.entries

abbrev pub is_vrow : VRow → Bool
is_vrow row = is_word row.target && are_entries row.entries

abbrev pub is_fact : FactItem → Bool
is_fact (Shows name cond) = is_word name && is_expr cond
is_fact (Goal con) = is_word con

-- the names after `takes` or `uses`
abbrev pub are_listed : List Word → Bool
are_listed words = nat_le (length words) 300 && list_all is_word words

abbrev pub is_item : Item → Bool
is_item (Constant name sign value) = is_word name && is_number value.value
is_item (RangeType name lo hi) = is_word name && is_bound lo && is_bound hi
is_item (EnumType name members) = is_word name && is_count 64 (length members) && list_all is_word members
is_item (Variable word name of init) = is_word name && is_kind of && is_init init
is_item (Held side name cond hold) = is_side side && is_word name && is_expr cond && is_hold hold
is_item (Hyst side name term lo hi start) = is_side side && is_word name && is_expr term && is_bound lo && is_bound hi
is_item (Normal section target columns rows) = is_word target && are_entries columns && is_count 32 (length rows) && list_all is_row rows
is_item (Inverted section target terms rows) = is_word target && are_entries terms && is_count 32 (length rows) && list_all is_row rows
is_item (Vector section columns rows) = are_entries columns && is_count 32 (length rows) && list_all is_vrow rows
is_item (Nat moment cond) = is_expr cond
is_item (Block name takes uses facts) = is_word name && are_listed takes && are_listed uses && nat_le 1 (length facts)
    && list_all is_fact facts

-- what the limits of a set count
pub data Sort : Type 0 where
  constants : Sort
  types : Sort
  variables : Sort
  memories : Sort
  tables : Sort
  clauses : Sort
  blocks : Sort

abbrev pub sort_of : Item → Sort
sort_of (Constant name sign value) = constants
sort_of (RangeType name lo hi) = types
sort_of (EnumType name members) = types
sort_of (Variable word name of init) = variables
sort_of (Held side name cond hold) = memories
sort_of (Hyst side name term lo hi start) = memories
sort_of (Normal section target columns rows) = tables
sort_of (Inverted section target terms rows) = tables
sort_of (Vector section columns rows) = tables
sort_of (Nat moment cond) = clauses
sort_of (Block name takes uses facts) = blocks

-- how many items of a sort there may be
abbrev pub limit_of : Sort → ℕ
limit_of constants = 200
limit_of types = 200
limit_of variables = 500
limit_of memories = 200
limit_of tables = 300
limit_of clauses = 100
limit_of blocks = 300

abbrev pub is_same_sort : Sort → Sort → Bool
is_same_sort constants constants = true
is_same_sort types types = true
is_same_sort variables variables = true
is_same_sort memories memories = true
is_same_sort tables tables = true
is_same_sort clauses clauses = true
is_same_sort blocks blocks = true
is_same_sort _ _ = false

abbrev pub facts_of : Item → ℕ
facts_of (Block name takes uses facts) = length facts
facts_of (Constant name sign value) = 0
facts_of (RangeType name lo hi) = 0
facts_of (EnumType name members) = 0
facts_of (Variable word name of init) = 0
facts_of (Held side name cond hold) = 0
facts_of (Hyst side name term lo hi start) = 0
facts_of (Normal section target columns rows) = 0
facts_of (Inverted section target terms rows) = 0
facts_of (Vector section columns rows) = 0
facts_of (Nat moment cond) = 0

abbrev pub is_option : Option Number → Bool
is_option None = true
is_option (Some number) = is_number number.value

-- the parts of a set's tree
pub record IsSet (name : List ℕ) (period : Number) (splits depth : Option Number) (items : List Item) : Type 0 where
  pub named : is_name name ≡ true
  pub numbers : (is_number period.value && is_option splits && is_option depth) ≡ true
  pub parts : list_all is_item items ≡ true
  pub counts : (sort : Sort) → count_by (λ item. is_same_sort sort (sort_of item)) items ≤ limit_of sort
  pub facts : sum_by facts_of items ≤ 300
