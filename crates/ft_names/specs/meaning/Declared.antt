-- The names that items declare, in order of declaration.
use Rattle.std.specs.Prelude.{ℕ, suc, Bool, List, [], ◌∷◌, ◌++◌, map, bytes_eq, position, Option}
use Rattle.std.specs.List.{flat_map, list_any}
use Rattle.ft_tree.specs.declared.item.Word.{Word}
use Rattle.ft_tree.specs.declared.item.FactItem.{FactItem}
use Rattle.ft_tree.specs.declared.item.FactItem.TheVariants.{Shows, Goal}
use Rattle.ft_tree.specs.declared.item.Item.{Item}
use Rattle.ft_tree.specs.declared.item.Item.TheVariants.{Constant, RangeType, EnumType, Variable, Held, Hyst, Normal, Inverted, Vector, Nat}
use Rattle.ft_tree.specs.declared.item.Item.TheVariants.{Block}

-- declared names, each with the number of the item that declares it, in order of declaration
abbrev pub Listing : Type 0
Listing = List (List ℕ × ℕ)

abbrev pub names_in : Listing → List (List ℕ)
names_in list = map (λ entry. entry.0) list

-- one of these names is this one
abbrev pub is_among : List (List ℕ) → List ℕ → Bool
is_among names name = list_any (bytes_eq name) names

-- the place of a name among names, where it is one of them
abbrev pub place_of : List (List ℕ) → List ℕ → Option ℕ
place_of names name = position (bytes_eq name) names

-- the name under which a fact declares an invariant
abbrev pub fact_words : FactItem → List Word
fact_words (Shows name cond) = name ∷ []
fact_words (Goal con) = []

-- the names that an item declares, in the order of its text
abbrev pub item_words : Item → List Word
item_words (Constant name sign value) = name ∷ []
item_words (RangeType name lo hi) = name ∷ []
item_words (EnumType name members) = name ∷ members
item_words (Variable word name of init) = name ∷ []
item_words (Held side name cond hold) = name ∷ []
item_words (Hyst side name term lo hi start) = name ∷ []
item_words (Normal section target columns rows) = []
item_words (Inverted section target headers rows) = []
item_words (Vector section columns rows) = []
item_words (Nat moment cond) = []
item_words (Block name takes uses facts) = name ∷ flat_map fact_words facts

-- these words as names of the item with this number
abbrev pub entries : ℕ → List Word → Listing
entries k words = map (λ word. (word.text, k)) words

-- the declared names of items that are numbered from k on
unfoldable pub listing : ℕ → List Item → Listing
listing k [] = []
listing k (item ∷ items) = entries k (item_words item) ++ listing (suc k) items
