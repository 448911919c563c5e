-- What the walk knows after its steps, and at its end.
use Rattle.std.proofs.Common.{arith, ◌≡◌, ◌∙◌, sym, ap, subst, refl, inl, inr, ℕ, ◌<◌, ◌≤◌, List, [], ◌∷◌, length, slice_get, slice_set}
use Rattle.std.proofs.Common.{slice_index_or, Option, Some, None}
use Rattle.std.proofs.lemmas.Bool.{cases_eq, cases_lt}
use Rattle.std.proofs.lemmas.Option.{slice_get_within, same_Some}
use Rattle.std.proofs.lemmas.List.{length-append}
use Rattle.ft_core.specs.declared.walk.Stage.{Stage}
use Rattle.ft_core.specs.declared.walk.Stage.TheVariants.{New, Open, Done}
use Rattle.ft_core.specs.declared.walk.Component.{Component}
use Rattle.ft_core.specs.declared.walk.Walk.{Walk}
use Rattle.ft_core.specs.meaning.Order.{ReadsItem, IsOrder, IsCircle, IsFirstCircle}
use Rattle.ft_core.specs.walk.Circles.{Leads, one, more}
use Rattle.ft_core.specs.walk.Walk.{IsIn, IsLone, IsWalk, Walks, Advances, IsNew, IsOpened, Joins, IsTop, left, work}
use Rattle.ft_core.specs.laws.Places.{one-at, none-at, of-set, set-here, some-at}
use Rattle.ft_core.proofs.CircleLemmas.{comes-back, start-is-item, stays}
use Rattle.ft_core.proofs.WalkLemmas.{opened, joined, filled, work-open}

-- all items of the path lead to what is followed next
pub all-lead : (reads : List (List ℕ)) (w : Walk) (q : ℕ) → Walks reads (Some q) w → (k p : ℕ) → slice_get w.path p ≡ Some k
    → Leads reads k q
all-lead reads w q is k p at =
    let t = is.taker q refl in
    elim (cases_eq p t.1) [
      | inl e ↦ one (subst (λ (j : ℕ). ReadsItem reads j q) (one-at w.path p t.0 k
          (subst (λ (j : ℕ). slice_get w.path j ≡ Some t.0) (sym e) t.2) at) t.3)
      | inr other ↦ more (is.linked k t.0 p t.1 at t.2 other (λ c i has low high. let f = t.4 c i has in omega (arith, f, low))) t.3
    ]

pub opens : (reads : List (List ℕ)) (taken : Option ℕ) (old new : Walk) (item : ℕ) → Walks reads taken old → IsOpened reads item old new
    → IsNew old.stages item
    → item < length reads → ((k p : ℕ) → slice_get old.path p ≡ Some k → Leads reads k item) → ((x : ℕ) → taken ≡ Some x → x ≡ item)
    → Walks reads None new × Advances old new × (left reads new ≤ left reads old)
opens reads taken old new item is o fresh within leads hand =
    let known = opened reads old.stages old.path old.components old.pending old.order old.least taken is item fresh leads hand in
    let saved = work-open reads old.stages item (length old.path) within fresh in
    let single : Component = record { first = length old.path; pending = length old.pending } in
    let a = ap length o.pending ∙ length-append old.pending (slice_index_or reads item []) in
    let b = ap length o.components ∙ length-append old.components (single ∷ []) in
    let e : work reads new.stages ≡ work reads (slice_set old.stages item (Open (length old.path))) = ap (work reads) o.stages in (
      rw (o.stages, o.path, o.components, o.pending, o.order, o.least) known,
      λ k now. elim (of-set old.stages item (Open (length old.path)) k New (sym (ap (λ (l : List Stage). slice_get l k) o.stages) ∙ now)) [
        | inl (same, wrong) ↦ absurd (cc)
        | inr (other, was) ↦ was
      ],
      omega (arith, saved, a, b, e),
    )

-- what a read leads to that was met
pub joins-up : (reads : List (List ℕ)) (w : Walk) (item at : ℕ) (new : List Component) → Walks reads (Some item) w → slice_get w.stages item
    ≡ Some (Open at)
    → Joins at w.components new → ((c : Component) → IsTop new c → c.first ≤ at)
    → IsWalk reads w.stages w.path new w.pending w.order w.least None
joins-up reads w item at new is stage joins low =
    joined reads w.stages w.path w.components w.pending w.order w.least (Some item) is item at new refl (is.open_path item at stage) joins
    low

pub passes : (reads : List (List ℕ)) (w : Walk) (item p : ℕ) → Walks reads (Some item) w → slice_get w.stages item ≡ Some (Done p)
    → Walks reads None w
passes reads w item p is stage = filled reads w.stages w.path w.components w.pending w.order w.least (Some item) is item refl
    (inl (p, is.done_order item p stage))

-- with no component the path is empty
pub empty-path : (reads : List (List ℕ)) (taken : Option ℕ) (w : Walk) → Walks reads taken w → w.components ≡ [] → (k p : ℕ)
    → slice_get w.path p ≡ Some k → ⊥
empty-path reads taken w is none k p at =
    let b = is.bottom k p at in
    none-at 0 b.0 (subst (λ (l : List Component). slice_get l 0 ≡ Some b.0) none b.1)

pub not-new : (reads : List (List ℕ)) (old new : Walk) (item : ℕ) → IsOpened reads item old new → IsNew old.stages item
    → IsNew new.stages item → ⊥
not-new reads old new item o fresh now =
    let there = set-here old.stages item (Open (length old.path)) (slice_get_within old.stages item New fresh) in
    let e = same_Some New (Open (length old.path)) (sym now ∙ ap (λ (l : List Stage). slice_get l item) o.stages ∙ there) in
    absurd (cc)

in-order : (reads : List (List ℕ)) (w : Walk) → Walks reads None w → w.components ≡ [] → (k : ℕ) (s : Stage) → (IsNew w.stages k → ⊥)
    → slice_get w.stages k ≡ Some s → IsIn w.order k
in-order reads w is none k New met stage = absurd (met stage)
in-order reads w is none k (Open p) met stage = absurd (empty-path reads None w is none k p (is.open_path k p stage))
in-order reads w is none k (Done p) met stage = (p, is.done_order k p stage)

-- at the end each item is finished
pub all-in : (reads : List (List ℕ)) (w : Walk) → Walks reads None w → w.components ≡ [] → (k : ℕ) → k < length reads
    → (IsNew w.stages k → ⊥) → IsIn w.order k
all-in reads w is none k item met = let long = is.long in let s = some-at w.stages k (omega (arith, long, item)) in
    in-order reads w is none k s.0 met s.1

same-place : (reads : List (List ℕ)) (w : Walk) → Walks reads None w → (k p r : ℕ) → slice_get w.order p ≡ Some k → slice_get w.order r
    ≡ Some k → p ≡ r
same-place reads w is k p r at to =
    let e = same_Some (Done p) (Done r) (sym (is.order_done k p at) ∙ is.order_done k r to) in
    cc

-- where no item is known to lie on a circle, the finished items are an order
pub is-order : (reads : List (List ℕ)) (w : Walk) → Walks reads None w → ((k : ℕ) → k < length reads → IsIn w.order k) → w.least ≡ None
    → IsOrder reads w.order
is-order reads w is all none = record {
  each = all;
  once = same-place reads w is;
  items = λ k p at. let within = slice_get_within w.stages k (Done p) (is.order_done k p at) in let long = is.long in
      omega (arith, within, long);
  before = λ k q p at r. is.cut k k q p p at (subst (λ (l : Option ℕ). IsLone l k) (sym none) tt) (omega arith) at r;
}

-- an item below the least one lies on no circle
alone : (reads : List (List ℕ)) (w : Walk) → Walks reads None w → ((k : ℕ) → k < length reads → IsIn w.order k) → (k : ℕ) → IsLone w.least k
    → Leads reads k k → ⊥
alone reads w is all k lone way =
    let s = all k (start-is-item reads k k way) in
    let back = stays reads (λ (q : ℕ). (r : ℕ) × (r < s.0) × (slice_get w.order r ≡ Some q)) k k
    (λ j r. is.cut k k j s.0 s.0 s.1 lone (omega arith) s.1 r)
    (λ i j h r. is.cut k i j s.0 h.0 s.1 lone (let low = h.1 in omega (arith, low)) h.2 r)
    way in
    let e = same-place reads w is k back.0 s.0 back.2 s.1 in
    omega (arith, e, back.1)

pub first-circle : (reads : List (List ℕ)) (w : Walk) → Walks reads None w → ((k : ℕ) → k < length reads → IsIn w.order k) → (start : ℕ)
    → w.least ≡ Some start
    → (items : List ℕ) → IsCircle reads items → slice_get items 0 ≡ Some start → IsFirstCircle reads items
first-circle reads w is all start now items circle head = record {
  circle = circle;
  least = λ first k p others at other to. elim (cases_lt k first) [
    | inr high ↦ high
    | inl low ↦
        let same : first ≡ start = one-at items 0 first start at head in
        let lone : IsLone w.least k = subst (λ (l : Option ℕ). IsLone l k) (sym now) (subst (λ (j : ℕ). k < j) same low) in
        absurd (alone reads w is all k lone (comes-back reads others other k p to))
  ];
}
