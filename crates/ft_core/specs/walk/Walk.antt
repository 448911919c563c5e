-- The walk that puts items in order and finds the components of items that lead to each other.
use Rattle.std.specs.Prelude.{ℕ, zero, suc, ◌+◌, ◌≡◌, ◌<◌, ◌≤◌, ◌⊎◌, List, [], ◌∷◌, ◌++◌, length, slice_get, slice_set, slice_index_or}
use Rattle.std.specs.Prelude.{Option, Some, None}
use Rattle.ft_core.specs.declared.walk.Stage.{Stage}
use Rattle.ft_core.specs.declared.walk.Stage.TheVariants.{New, Open, Done}
use Rattle.ft_core.specs.declared.walk.Component.{Component}
use Rattle.ft_core.specs.declared.walk.Walk.{Walk}
use Rattle.ft_core.specs.meaning.Order.{ReadsItem}
use Rattle.ft_core.specs.walk.Circles.{Leads}

-- the item stands in the list
abbrev pub IsIn : List ℕ → ℕ → Type 0
IsIn items k = (p : ℕ) × (slice_get items p ≡ Some k)

-- the item is below the least one that is known to lie on a circle, so it lies on none once it is finished
abbrev pub IsLone : Option ℕ → ℕ → Type 0
IsLone None k = Unit {0}
IsLone (Some least) k = k < least

-- where a read of an item of this component, or of a later one, may lead
pub data IsReached (path pending order : List ℕ) (taken : Option ℕ) (c : Component) (q : ℕ) : Type 0 where
  finished : (p : ℕ) → slice_get order p ≡ Some q → IsReached path pending order taken c q
  ahead : (p : ℕ) → c.first ≤ p → slice_get path p ≡ Some q → IsReached path pending order taken c q
  waiting : (e : ℕ) → c.pending ≤ e → slice_get pending e ≡ Some q → IsReached path pending order taken c q
  in_hand : taken ≡ Some q → IsReached path pending order taken c q

-- The finished items stand in the order, the others that were met on the path, a component of it after the other.
-- One read may be taken off those that wait, to be followed next.
pub record IsWalk (reads : List (List ℕ)) (stages : List Stage) (path : List ℕ) (components : List Component) (pending order : List ℕ)
    (least taken : Option ℕ) : Type 0 where
  pub long : length stages ≡ length reads
  pub open_path : (k p : ℕ) → slice_get stages k ≡ Some (Open p) → slice_get path p ≡ Some k
  pub path_open : (k p : ℕ) → slice_get path p ≡ Some k → slice_get stages k ≡ Some (Open p)
  pub done_order : (k p : ℕ) → slice_get stages k ≡ Some (Done p) → slice_get order p ≡ Some k
  pub order_done : (k p : ℕ) → slice_get order p ≡ Some k → slice_get stages k ≡ Some (Done p)
  -- what a finished item reads is finished
  pub closed : (k q p : ℕ) → slice_get order p ≡ Some k → ReadsItem reads k q → IsIn order q
  -- what an item that lies on no circle reads, and what those before it read, stands before it
  pub cut : (k j q p r : ℕ) → slice_get order p ≡ Some k → IsLone least k → r ≤ p → slice_get order r ≡ Some j → ReadsItem reads j q
      → (s : ℕ) × (s < p) × (slice_get order s ≡ Some q)
  pub on_circle : (k : ℕ) → least ≡ Some k → Leads reads k k
  pub within : (c : Component) (i : ℕ) → slice_get components i ≡ Some c → (c.first < length path) × (c.pending ≤ length pending)
  pub rises : (c d : Component) (i j : ℕ) → i < j → slice_get components i ≡ Some c → slice_get components j ≡ Some d
      → (c.first < d.first) × (c.pending ≤ d.pending)
  -- the path begins with the first component
  pub bottom : (k p : ℕ) → slice_get path p ≡ Some k → (c : Component) × (slice_get components 0 ≡ Some c) × (c.first ≡ 0)
  pub reached : (c : Component) (k q i p : ℕ) → slice_get components i ≡ Some c → c.first ≤ p → slice_get path p ≡ Some k
      → ReadsItem reads k q → IsReached path pending order taken c q
  -- the items of a component lead to each other and to those of later components
  pub linked : (k q a b : ℕ) → slice_get path a ≡ Some k → slice_get path b ≡ Some q → (a ≡ b → ⊥)
      → ((c : Component) (i : ℕ) → slice_get components i ≡ Some c → b < c.first → c.first ≤ a → ⊥) → Leads reads k q
  -- what waits is read by an item of the component that it waits in
  pub reader : (q e : ℕ) → slice_get pending e ≡ Some q → (k : ℕ) × (p : ℕ) × (slice_get path p ≡ Some k) × ReadsItem reads k q
      × ((c : Component) (i : ℕ) → slice_get components i ≡ Some c → (c.pending ≤ e → c.first ≤ p) × (e < c.pending → p < c.first))
  pub taker : (q : ℕ) → taken ≡ Some q → (k : ℕ) × (p : ℕ) × (slice_get path p ≡ Some k) × ReadsItem reads k q
      × ((c : Component) (i : ℕ) → slice_get components i ≡ Some c → c.first ≤ p)

-- what is known of the walk, with a read taken off or none
abbrev pub Walks : List (List ℕ) → Option ℕ → Walk → Type 0
Walks reads taken w = IsWalk reads w.stages w.path w.components w.pending w.order w.least taken

-- 1 and the number of its reads for an item that wasn't met
abbrev pub weight : List ℕ → Stage → ℕ
weight reads New = suc (length reads)
weight reads (Open p) = zero
weight reads (Done p) = zero

-- the items that weren't met, with their reads
abbrev pub work : List (List ℕ) → List Stage → ℕ
work [] stages = zero
work (r ∷ reads) [] = zero
work (r ∷ reads) (s ∷ stages) = weight r s + work reads stages

-- how much of the walk is left
abbrev pub left : List (List ℕ) → Walk → ℕ
left reads w = work reads w.stages + length w.pending + length w.components

-- the item wasn't met
abbrev pub IsNew : List Stage → ℕ → Type 0
IsNew stages k = slice_get stages k ≡ Some New

-- no item becomes new again
abbrev pub Advances : Walk → Walk → Type 0
Advances old new = (k : ℕ) → IsNew new.stages k → IsNew old.stages k

-- these items go to the end of the order
pub record Finishes (items : List ℕ) (stages new : List Stage) (order after : List ℕ) : Type 0 where
  pub long : length new ≡ length stages
  pub added : after ≡ order ++ items
  pub here : (k p : ℕ) → slice_get items p ≡ Some k → slice_get new k ≡ Some (Done (length order + p))
  pub there : (k : ℕ) → ((p : ℕ) → slice_get items p ≡ Some k → ⊥) → slice_get new k ≡ slice_get stages k

-- the last component of the path
abbrev pub IsTop : List Component → Component → Type 0
IsTop components c = (i : ℕ) × (length components ≡ i + 1) × (slice_get components i ≡ Some c)

-- a new item is put on the path, as a component of its own, and its reads wait
pub record IsOpened (reads : List (List ℕ)) (item : ℕ) (old new : Walk) : Type 0 where
  pub stages : new.stages ≡ slice_set old.stages item (Open (length old.path))
  pub path : new.path ≡ old.path ++ item ∷ []
  pub components : new.components ≡ old.components ++ record { first = length old.path; pending = length old.pending } ∷ []
  pub pending : new.pending ≡ old.pending ++ slice_index_or reads item []
  pub order : new.order ≡ old.order
  pub least : new.least ≡ old.least

-- the first component begins at or before this place
abbrev pub BeginsBy : ℕ → List Component → Type 0
BeginsBy at components = (c : Component) × (slice_get components 0 ≡ Some c) × (c.first ≤ at)

-- the last components are gone, some or none, and none that begins at or before this place
pub record Joins (at : ℕ) (old new : List Component) : Type 0 where
  pub begins : BeginsBy at new
  pub same : (c : Component) (i : ℕ) → slice_get new i ≡ Some c → slice_get old i ≡ Some c
  pub kept : (c : Component) (i : ℕ) → slice_get old i ≡ Some c → c.first ≤ at → slice_get new i ≡ Some c
  pub fewer : length new ≤ length old

-- the least of an item, if there is one, and the first of these items
pub record IsLeast (least result : Option ℕ) (items : List ℕ) (done : ℕ) : Type 0 where
  pub from : (k : ℕ) → result ≡ Some k → (least ≡ Some k) ⊎ ((p : ℕ) × (slice_get items p ≡ Some k))
  pub below : (k : ℕ) → IsLone result k → IsLone least k
  pub none : (k p : ℕ) → p < done → slice_get items p ≡ Some k → IsLone result k → ⊥

-- the least item on a circle, once the items of a component are finished
pub record IsLeastAfter (reads : List (List ℕ)) (items : List ℕ) (old new : Option ℕ) : Type 0 where
  pub below : (k : ℕ) → IsLone new k → IsLone old k
  -- an item that is still below it is alone and doesn't read itself
  pub alone : (k i : ℕ) → slice_get items i ≡ Some k → IsLone new k → (items ≡ k ∷ []) × (ReadsItem reads k k → ⊥)
  -- where it is one of the items, it is not alone or reads itself
  pub from : (k : ℕ) → new ≡ Some k
      → (old ≡ Some k) ⊎ ((i : ℕ) × (slice_get items i ≡ Some k) × (items ≡ k ∷ [] → ReadsItem reads k k))
