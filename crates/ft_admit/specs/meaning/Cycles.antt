-- Circles in which variables and memories read each other within one scan.
use Rattle.std.specs.Prelude.{ℕ, suc, ◌+◌, ◌-◌, ◌≡◌, ◌<◌, ◌≤◌, Bool, ◌||◌, List, [], ◌∷◌, ◌++◌, length, map, slice_get, slice_index_or}
use Rattle.std.specs.Prelude.{Some}
use Rattle.std.specs.Prelude.{if◌then◌else◌}
use Rattle.std.specs.List.{flat_map}
use Rattle.ft_tree.specs.declared.item.Item.{Item}
use Rattle.ft_tree.specs.declared.item.Item.TheVariants.{Variable, Held, Hyst}
use Rattle.ft_tree.specs.declared.tree.Tree.{Tree}
use Rattle.ft_core.specs.meaning.Items.{ReadsByNumber}
use Rattle.ft_names.specs.meaning.Cards.{declares_memory, declares_variable}
use Rattle.ft_admit.specs.meaning.Trees.{set_of_tree}

-- a variable or a memory
abbrev pub declares_item : Item → Bool
declares_item item = declares_variable item || declares_memory item

abbrev pub item_name : Item → List (List ℕ)
item_name (Variable word name of init) = name.text ∷ []
item_name (Held side name cond hold) = name.text ∷ []
item_name (Hyst side name term lo hi start) = name.text ∷ []
item_name _ = []

-- the names of the variables and memories, both mixed in order of declaration
abbrev pub scan_names : List Item → List (List ℕ)
scan_names items = flat_map item_name items

-- the number of the next variable or memory
abbrev pub number_after : ℕ → Item → ℕ
number_after n item = if declares_item item then n + 1 else n

-- this number, where an item passes a test
abbrev pub number_if : (Item → Bool) → ℕ → Item → List ℕ
number_if test n item = if test item then n ∷ [] else []

-- the numbers of the items that pass a test, where variables and memories are numbered together, from n on
unfoldable pub numbers_from : (Item → Bool) → ℕ → List Item → List ℕ
numbers_from test n [] = []
numbers_from test n (item ∷ items) = number_if test n item ++ numbers_from test (number_after n item) items

-- the number in order of declaration, from 0, of each variable, and after them of each memory
abbrev pub numbering : List Item → List ℕ
numbering items = numbers_from declares_variable 0 items ++ numbers_from declares_memory 0 items

-- within one scan the n-th declared of the variables and memories reads the m-th; `prev` doesn't count
abbrev pub ScanReads : Tree → (n m : ℕ) → Type 0
ScanReads tree n m =
    ReadsByNumber (length (set_of_tree tree).vars) (set_of_tree tree).memories (set_of_tree tree).tables (numbering tree.items) n m

-- each of these reads the next, the last reads the first, and none stands twice
pub record IsScanCircle (tree : Tree) (numbers : List ℕ) : Type 0 where
  pub some : 0 < length numbers
  pub next : (n m p : ℕ) → slice_get numbers p ≡ Some n → slice_get numbers (p + 1) ≡ Some m → ScanReads tree n m
  pub closes : (n m : ℕ) → slice_get numbers (length numbers - 1) ≡ Some n → slice_get numbers 0 ≡ Some m → ScanReads tree n m
  pub once : (n p r : ℕ) → slice_get numbers p ≡ Some n → slice_get numbers r ≡ Some n → p ≡ r

abbrev pub HasNoCycle : Tree → Type 0
HasNoCycle tree = (numbers : List ℕ) → IsScanCircle tree numbers → ⊥

-- the names of a circle whose first is the first declared that lies on any circle
pub record IsCycle (tree : Tree) (names : List (List ℕ)) : Type 0 where
  pub numbers : List ℕ
  pub named : names ≡ map (λ n. slice_index_or (scan_names tree.items) n []) numbers
  pub circle : IsScanCircle tree numbers
  pub least : (first n p : ℕ) (others : List ℕ) → slice_get numbers 0 ≡ Some first → IsScanCircle tree others
      → slice_get others p ≡ Some n → first ≤ n
