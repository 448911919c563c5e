-- An order of items in which each reads only earlier ones, and the circles in which items read each other.
use Rattle.std.specs.Prelude.{ℕ, ◌+◌, ◌-◌, ◌≡◌, ◌<◌, ◌≤◌, List, [], length, slice_get, slice_index_or, Some, Contains}
use Rattle.ft_core.specs.declared.ordering.OrderFault.{OrderFault}
use Rattle.ft_core.specs.declared.ordering.OrderFault.TheVariants.{Cycle, NoMemory}

-- item k reads item q
abbrev pub ReadsItem : List (List ℕ) → ℕ → ℕ → Type 0
ReadsItem reads k q = Contains (slice_index_or reads k []) q

-- every item that is read is one of the items
abbrev pub AreItems : List (List ℕ) → Type 0
AreItems reads = (k q : ℕ) → ReadsItem reads k q → q < length reads

-- each item stands at one place, nothing else stands anywhere, and what an item reads stands before it
pub record IsOrder (reads : List (List ℕ)) (order : List ℕ) : Type 0 where
  pub each : (k : ℕ) → k < length reads → (p : ℕ) × (slice_get order p ≡ Some k)
  pub once : (k p r : ℕ) → slice_get order p ≡ Some k → slice_get order r ≡ Some k → p ≡ r
  pub items : (k p : ℕ) → slice_get order p ≡ Some k → k < length reads
  pub before : (k q p : ℕ) → slice_get order p ≡ Some k → ReadsItem reads k q
      → (r : ℕ) × (r < p) × (slice_get order r ≡ Some q)

-- each of these items reads the next, the last reads the first, and none stands twice
pub record IsCircle (reads : List (List ℕ)) (items : List ℕ) : Type 0 where
  pub some : 0 < length items
  pub next : (k q p : ℕ) → slice_get items p ≡ Some k → slice_get items (p + 1) ≡ Some q → ReadsItem reads k q
  pub closes : (k q : ℕ) → slice_get items (length items - 1) ≡ Some k → slice_get items 0 ≡ Some q
      → ReadsItem reads k q
  pub once : (k p r : ℕ) → slice_get items p ≡ Some k → slice_get items r ≡ Some k → p ≡ r

-- a circle whose first item is the least that lies on any circle
pub record IsFirstCircle (reads : List (List ℕ)) (items : List ℕ) : Type 0 where
  pub circle : IsCircle reads items
  pub least : (first k p : ℕ) (others : List ℕ) → slice_get items 0 ≡ Some first → IsCircle reads others
      → slice_get others p ≡ Some k → first ≤ k

-- what a fault says of the items
abbrev pub IsCause : List (List ℕ) → OrderFault → Type 0
IsCause reads (Cycle items) = IsFirstCircle reads items
IsCause reads NoMemory = Unit {0}

-- each item has a number below the number of items, and reads only items of lower numbers
pub record HasRank (reads : List (List ℕ)) (rank : ℕ → ℕ) : Type 0 where
  pub bounded : (k : ℕ) → k < length reads → rank k < length reads
  pub falls : (k q : ℕ) → k < length reads → ReadsItem reads k q → rank q < rank k

-- from an order, a rank
abbrev pub OrderGivesRank : Type 0
OrderGivesRank = (reads : List (List ℕ)) (order : List ℕ) → IsOrder reads order
    → (rank : ℕ → ℕ) × HasRank reads rank

-- where items have a rank, none of them read each other in a circle
abbrev pub RankExcludesCircles : Type 0
RankExcludesCircles = (reads : List (List ℕ)) (rank : ℕ → ℕ) → HasRank reads rank
    → (items : List ℕ) → IsCircle reads items → ⊥
