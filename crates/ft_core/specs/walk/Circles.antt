-- Ways from item to item, and the search for a way back.
use Rattle.std.specs.Prelude.{ℕ, ◌+◌, ◌-◌, ◌≡◌, ◌<◌, ◌⊎◌, Bool, true, false, if◌then◌else◌, List, [], ◌∷◌, ◌++◌, length, slice_get}
use Rattle.std.specs.Prelude.{slice_set, Some, sum_by}
use Rattle.ft_core.specs.declared.circle.Search.{Search}
use Rattle.ft_core.specs.meaning.Order.{ReadsItem}

-- a way of one read or more leads from item k to another
pub data Leads (reads : List (List ℕ)) (k : ℕ) : ℕ → Type 0 where
  one : {q : ℕ} → ReadsItem reads k q → Leads reads k q
  more : {m q : ℕ} → Leads reads k m → ReadsItem reads m q → Leads reads k q

-- The items met from a start. Each but the first was read by the item at its parent's place.
pub record IsSearch (reads : List (List ℕ)) (start : ℕ) (met parents : List ℕ) (seen : List Bool) : Type 0 where
  pub flags : length seen ≡ length reads
  pub long : length parents ≡ length met
  pub first : slice_get met 0 ≡ Some start
  pub items : (k p : ℕ) → slice_get met p ≡ Some k → k < length reads
  pub once : (k p r : ℕ) → slice_get met p ≡ Some k → slice_get met r ≡ Some k → p ≡ r
  pub seen_met : (k : ℕ) → slice_get seen k ≡ Some true → (p : ℕ) × (slice_get met p ≡ Some k)
  pub met_seen : (k p : ℕ) → slice_get met p ≡ Some k → slice_get seen k ≡ Some true
  pub way : (q p r : ℕ) → 0 < p → slice_get met p ≡ Some q → slice_get parents p ≡ Some r
      → (k : ℕ) × (r < p) × (slice_get met r ≡ Some k) × ReadsItem reads k q

-- the reads of the first places were met, and none of them is the start
abbrev pub AreRead : List (List ℕ) → ℕ → List ℕ → ℕ → Type 0
AreRead reads start met at = (k q p : ℕ) → p < at → slice_get met p ≡ Some k → ReadsItem reads k q
    → (q ≡ start → ⊥) × ((r : ℕ) × (slice_get met r ≡ Some q))

-- the item at this place reads the start
abbrev pub IsEnd : List (List ℕ) → ℕ → List ℕ → ℕ → Type 0
IsEnd reads start met end = (k : ℕ) → slice_get met end ≡ Some k → ReadsItem reads k start

-- The way from an end back to this place, taken backwards: each item is read by the one after it.
pub record IsWayBack (reads : List (List ℕ)) (met : List ℕ) (end at : ℕ) (items : List ℕ) : Type 0 where
  pub below : at < length met
  pub none : items ≡ [] → at ≡ end
  pub last : (k : ℕ) → slice_get items 0 ≡ Some k → slice_get met end ≡ Some k
  pub next : (k q p : ℕ) → slice_get items p ≡ Some q → slice_get items (p + 1) ≡ Some k → ReadsItem reads k q
  pub read : (k q : ℕ) → slice_get met at ≡ Some k → slice_get items (length items - 1) ≡ Some q → ReadsItem reads k q
  pub later : (k p : ℕ) → slice_get items p ≡ Some k → (r : ℕ) × (at < r) × (slice_get met r ≡ Some k)
  pub once : (k p r : ℕ) → slice_get items p ≡ Some k → slice_get items r ≡ Some k → p ≡ r

-- what is known of the search
abbrev pub Searches : List (List ℕ) → ℕ → Search → Type 0
Searches reads start s = IsSearch reads start s.met s.parents s.seen

-- how many items weren't met
abbrev pub unseen : List Bool → ℕ
unseen seen = sum_by (λ b. if b then 0 else 1) seen

-- an item is met: it is added, unless it was met before
abbrev pub IsMet : (item parent : ℕ) → Search → Search → Type 0
IsMet item parent old new =
    ((slice_get old.seen item ≡ Some true) × (new.met ≡ old.met) × (new.parents ≡ old.parents) × (new.seen ≡ old.seen))
    ⊎ ((slice_get old.seen item ≡ Some false) × (new.met ≡ old.met ++ item ∷ []) × (new.parents ≡ old.parents ++ parent ∷ [])
    × (new.seen ≡ slice_set old.seen item true))

-- the first of these reads were met and aren't the start, and what was met stays where it was
pub record AreFollowed (reads : List (List ℕ)) (start : ℕ) (items : List ℕ) (done : ℕ) (old new : Search) : Type 0 where
  pub search : Searches reads start new
  pub kept : (k p : ℕ) → slice_get old.met p ≡ Some k → slice_get new.met p ≡ Some k
  pub left : length new.met + unseen new.seen ≡ length old.met + unseen old.seen
  pub met : (q j : ℕ) → j < done → slice_get items j ≡ Some q
      → (q ≡ start → ⊥) × ((r : ℕ) × (slice_get new.met r ≡ Some q))
