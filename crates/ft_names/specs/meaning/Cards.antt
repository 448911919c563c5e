-- What the declared names of a set stand for.
use Rattle.std.specs.Prelude.{ℕ, suc, ℤ, pos, neg_ℤ, Bool, true, false, List, [], ◌∷◌, ◌++◌, length, map, take, slice_get, count_by}
use Rattle.std.specs.Prelude.{option_map, option_and_then, bytes_eq, find, Option, Some, None, if◌then◌else◌}
use Rattle.std.specs.List.{enumerate_from, flat_map}
use Rattle.ft_tree.specs.declared.item.Word.{Word}
use Rattle.ft_tree.specs.declared.item.Plain.{Plain}
use Rattle.ft_tree.specs.declared.item.Plain.TheVariants as plain
use Rattle.ft_tree.specs.declared.item.Bound.{Bound}
use Rattle.ft_tree.specs.declared.item.Kind.{Kind}
use Rattle.ft_tree.specs.declared.item.Kind.TheVariants as kind
use Rattle.ft_tree.specs.declared.item.FactItem.{FactItem}
use Rattle.ft_tree.specs.declared.item.FactItem.TheVariants.{Shows, Goal}
use Rattle.ft_tree.specs.declared.item.Item.{Item}
use Rattle.ft_tree.specs.declared.item.Item.TheVariants as item
use Rattle.ft_tree.specs.meaning.Limits.{is_number}
use Rattle.ft_names.specs.declared.card.Card.{Card}
use Rattle.ft_names.specs.declared.card.Card.TheVariants.{Constant, TypeName, Member, Variable, Memory, Block, Invariant}
use Rattle.ft_names.specs.declared.card.Values.{Values}
use Rattle.ft_names.specs.declared.card.Values.TheVariants.{Numbers, Truths, Members, Untyped}
use Rattle.ft_names.specs.meaning.Declared.{listing}

-- what a name stands for, where it is declared
abbrev pub Env : Type 0
Env = List ℕ → Option Card

-- the value beside a name in a list, the first where it stands more than once
abbrev pub under : {X : Type 0} → List (List ℕ × X) → List ℕ → Option X
under list name = option_map (λ entry. entry.1) (find (λ entry. bytes_eq name entry.0) list)

-- the number of the item that declares a name
abbrev pub number_of : List Item → List ℕ → Option ℕ
number_of items name = under (listing 0 items) name

abbrev pub signed : Bool → ℤ → ℤ
signed true z = neg_ℤ z
signed false z = z

-- the value of a constant; what is no constant counts as 0
abbrev pub constant_value : Option Item → ℤ
constant_value (Some (item.Constant name minus value)) = signed minus (pos value.value)
constant_value _ = pos 0

-- as in each tree: a number in a bound, a hold or an `init` is at most 10^9
abbrev pub is_small : Plain → Bool
is_small (plain.Number value) = is_number value
is_small (plain.Name name) = true
is_small (plain.Truth value) = true

abbrev pub plain_value : List Item → Plain → ℤ
plain_value items (plain.Number value) = pos value
plain_value items (plain.Name name) = constant_value (option_and_then (slice_get items) (number_of items name))
plain_value items (plain.Truth value) = pos 0

-- the number of a bound, a hold or an `init`
abbrev pub bound_value : List Item → Bound → ℤ
bound_value items b = signed b.minus (plain_value items b.value)

abbrev pub range_values : List Item → Bound → Bound → Values
range_values items lo hi = Numbers (bound_value items lo) (bound_value items hi)

-- the values of an enum type, where the name is its own and not that of a member
abbrev pub enum_values : (own : Bool) → ℕ → (count : ℕ) → Values
enum_values own k count = if own then Members k count else Untyped

-- the values of the type that the item with number k declares under this name
abbrev pub declared_values : List Item → List ℕ → ℕ → Option Item → Values
declared_values items name k (Some (item.RangeType own lo hi)) = range_values items lo hi
declared_values items name k (Some (item.EnumType own members)) = enum_values (bytes_eq name own.text) k (length members)
declared_values items name k _ = Untyped

abbrev pub values_at : List Item → List ℕ → Option ℕ → Values
values_at items name None = Untyped
values_at items name (Some k) = declared_values items name k (slice_get items k)

-- the values of a variable of this type
abbrev pub kind_values : List Item → Kind → Values
kind_values items (kind.Range lo hi) = range_values items lo hi
kind_values items (kind.Named word) = values_at items word.text (number_of items word.text)
kind_values items kind.Bool = Truths

abbrev pub declares_variable : Item → Bool
declares_variable (item.Variable word name of init) = true
declares_variable _ = false

abbrev pub declares_memory : Item → Bool
declares_memory (item.Held side name cond hold) = true
declares_memory (item.Hyst side name term lo hi start) = true
declares_memory _ = false

abbrev pub declares_block : Item → Bool
declares_block (item.Block name takes uses facts) = true
declares_block _ = false

-- how many of these items stand before item k
abbrev pub count_before : (Item → Bool) → List Item → ℕ → ℕ
count_before test items k = count_by test (take k items)

-- a member and a fact come with their positions, from 0
abbrev pub member_card : ℕ → ℕ × Word → List ℕ × Card
member_card k (position, word) = (word.text, Member k position)

abbrev pub fact_cards : ℕ → ℕ × FactItem → List (List ℕ × Card)
fact_cards block (position, Shows name cond) = (name.text, Invariant block position) ∷ []
fact_cards block (position, Goal con) = []

-- what the names stand for that an item declares, the one with number k of all items
abbrev pub item_cards : List Item → ℕ → Item → List (List ℕ × Card)
item_cards all k (item.Constant name minus value) = (name.text, Constant (signed minus (pos value.value))) ∷ []
item_cards all k (item.RangeType name lo hi) = (name.text, TypeName (range_values all lo hi)) ∷ []
item_cards all k (item.EnumType name members) =
    (name.text, TypeName (Members k (length members))) ∷ map (member_card k) (enumerate_from 0 members)
item_cards all k (item.Variable word name of init) =
    (name.text, Variable (count_before declares_variable all k) word (kind_values all of)) ∷ []
item_cards all k (item.Held side name cond hold) =
    (name.text, Memory (count_before declares_memory all k) side (Some (bound_value all hold))) ∷ []
item_cards all k (item.Hyst side name term lo hi start) = (name.text, Memory (count_before declares_memory all k) side None) ∷ []
item_cards all k (item.Normal section target columns rows) = []
item_cards all k (item.Inverted section target headers rows) = []
item_cards all k (item.Vector section columns rows) = []
item_cards all k (item.Nat moment cond) = []
item_cards all k (item.Block name takes uses facts) =
    (name.text, Block (count_before declares_block all k)) ∷ flat_map (fact_cards (count_before declares_block all k))
    (enumerate_from 0 facts)

-- the same of items that are numbered from k on
unfoldable pub cards_from : List Item → ℕ → List Item → List (List ℕ × Card)
cards_from all k [] = []
cards_from all k (x ∷ xs) = item_cards all k x ++ cards_from all (suc k) xs

-- what each declared name of a set stands for, in order of declaration
abbrev pub cards_of : List Item → List (List ℕ × Card)
cards_of items = cards_from items 0 items

abbrev pub env_of : List Item → Env
env_of items name = under (cards_of items) name
