-- Names that stand a second time.
use Rattle.std.specs.Prelude.{ℕ, List, [], ◌∷◌, ◌++◌, map, Option, Some, None, if◌then◌else◌}
use Rattle.std.specs.List.{flat_map}
use Rattle.ft_tree.specs.declared.item.Word.{Word}
use Rattle.ft_tree.specs.declared.item.Item.{Item}
use Rattle.ft_tree.specs.declared.item.Item.TheVariants.{Constant, RangeType, EnumType, Variable, Held, Hyst, Normal, Inverted, Vector, Nat}
use Rattle.ft_tree.specs.declared.item.Item.TheVariants.{Block}
use Rattle.ft_names.specs.declared.fault.NameFault.{NameFault}
use Rattle.ft_names.specs.declared.fault.NameFault.TheVariants.{DuplicateName}
use Rattle.ft_names.specs.meaning.Declared.{fact_words, is_among, item_words}

-- a word, and the names before it that it must differ from
abbrev pub Naming : Type 0
Naming = List (List ℕ) × Word

abbrev pub texts : List Word → List (List ℕ)
texts words = map (λ word. word.text) words

-- each of these words must differ from names before them, and from the words before itself
abbrev pub namings : List (List ℕ) → List Word → List Naming
namings before [] = []
namings before (word ∷ words) = (before, word) ∷ namings (before ++ word.text ∷ []) words

-- The words of an item that must be new, in the order of its text. After `takes`, and after `uses`, a word must differ from the others
-- there alone.
abbrev pub item_namings : List (List ℕ) → Item → List Naming
item_namings before (Constant name sign value) = namings before (name ∷ [])
item_namings before (RangeType name lo hi) = namings before (name ∷ [])
item_namings before (EnumType name members) = namings before (name ∷ members)
item_namings before (Variable word name of init) = namings before (name ∷ [])
item_namings before (Held side name cond hold) = namings before (name ∷ [])
item_namings before (Hyst side name term lo hi start) = namings before (name ∷ [])
item_namings before (Normal section target columns rows) = []
item_namings before (Inverted section target headers rows) = []
item_namings before (Vector section columns rows) = []
item_namings before (Nat moment cond) = []
item_namings before (Block name takes uses facts) =
    namings before (name ∷ []) ++ namings [] takes ++ namings [] uses ++ namings (before ++ name.text ∷ []) (flat_map fact_words facts)

-- the same of items, one after another, where names stand before them
unfoldable pub set_namings : List (List ℕ) → List Item → List Naming
set_namings before [] = []
set_namings before (item ∷ items) = item_namings before item ++ set_namings (before ++ texts (item_words item)) items

-- a word that is one of the names before it
abbrev pub repeated : Naming → Option NameFault
repeated (before, word) = if is_among before word.text then Some (DuplicateName word.text word.place) else None
