-- The view that has the values of the slots of an obligation: it has them for the names, and keeps the sizes of the set.
use Rattle.std.proofs.Common.{◌≡◌, ◌∙◌, sym, ap, subst, refl, ℕ, zero, suc, ◌+◌, ◌-◌, ◌<◌, ◌≤◌, ℤ, pos, Bool, true, false, not}
use Rattle.std.proofs.Common.{◌&&◌, cond, List, [], ◌∷◌, map, length, Some, None, slice_get, get_or, arith, ⊎_elim, true≢false}
use Rattle.std.specs.Prelude.{◌==◌, nat_lt, unsigned_abs}
use Rattle.std.specs.List.{position_or_len}
use Rattle.std.specs.Ordering.{int_eq}
use Rattle.std.proofs.lemmas.Int.{ints}
use Rattle.std.proofs.lemmas.Bool.{cases_Bool, cases_lt, cond-true, cond-false, and_parts, and_from, eqb-true, eq-eqb, lt-ltb, le-ltb}
use Rattle.std.proofs.lemmas.List.{length-map}
use Rattle.std.proofs.lemmas.List.Sums.{passes_at_first}
use Rattle.std.proofs.lemmas.Option.{none-some, same_Some, slice_get_within, slice_get-get_or}
use Rattle.ft_base.specs.Interval.{IsWithin}
use Rattle.ft_core.specs.declared.tables.Tables.{Tables}
use Rattle.ft_core.specs.declared.tables.Memory.{Memory}
use Rattle.ft_core.specs.declared.tables.Memory.TheVariants.{Held, Hyst}
use Rattle.ft_core.specs.checked.Size.{var_size}
use Rattle.ft_core.specs.laws.Places.{some-at}
use Rattle.ft_core.specs.meaning.Reads.{Read}
use Rattle.ft_linear.specs.meaning.Form.{values_at}
use Rattle.ft_mean.specs.judge.Safe.{KeepsSizes}
use Rattle.ft_mean.specs.laws.Moves.{span_of}
use Rattle.ft_mean.specs.meaning.Proper.{IsLocal}
use Rattle.ft_mean.specs.meaning.Value.{View}
use Rattle.ft_claims.specs.laws.CellLaws.{HasKept}
use Rattle.ft_claims.specs.meaning.Areas.{Obliged}
use Rattle.ft_claims.specs.meaning.Names.{width, memo}
use Rattle.ft_claims.specs.meaning.Numbers.{cover_numbers}
use Rattle.ft_oblige.specs.declared.labelling.Slot.{Slot}
use Rattle.ft_oblige.specs.declared.labelling.Slot.TheVariants.{Variable, Memory as Remembered}
use Rattle.ft_oblige.specs.meaning.Labels.{slot_in, slot_at}
use Rattle.ft_cover.specs.building.KeptView.{same_slot, kept_value, table_view}
use Rattle.ft_cover.specs.laws.Laws.{Laws}

-- the place of the only one that passes
pub only-place : {A : Type 0} (p : A → Bool) (xs : List A) (i : ℕ) (x : A) → slice_get xs i ≡ Some x → p x ≡ true
    → ((j : ℕ) (y : A) → slice_get xs j ≡ Some y → p y ≡ true → j ≡ i) → position_or_len p xs ≡ i
only-place p [] i x at is only = absurd (none-some x at)
only-place p (y ∷ xs) zero x at is only = cond-false {A = ℕ} (not (p y)) (1 + position_or_len p xs) 0
    (ap not (ap p (same_Some y x at) ∙ is))
only-place p (y ∷ xs) (suc i) x at is only = ⊎_elim
    (λ first. absurd (let none = only zero y refl first in omega (arith, none)))
    (λ later.
    let more = only-place p xs i x at is (λ j z e q. let same = only (suc j) z e q in omega (arith, same)) in
    cond-true {A = ℕ} (not (p y)) (1 + position_or_len p xs) 0 (ap not later) ∙ omega (arith, more))
    (cases_Bool (p y))

pub of-mapped : {A B : Type 0} (f : A → B) (xs : List A) (i : ℕ) (b : B) → slice_get (map f xs) i ≡ Some b → (a : A)
    × (slice_get xs i ≡ Some a) × (f a ≡ b)
of-mapped f [] i b e = absurd (none-some b e)
of-mapped f (x ∷ xs) zero b e = (x, refl, same_Some (f x) b e)
of-mapped f (x ∷ xs) (suc i) b e = of-mapped f xs i b e

pub mapped-at : {A B : Type 0} (f : A → B) (xs : List A) (i : ℕ) (a : A) → slice_get xs i ≡ Some a → slice_get (map f xs) i ≡ Some (f a)
mapped-at f [] i a e = absurd (none-some a e)
mapped-at f (x ∷ xs) zero a e = ap (λ y. Some (f y)) (same_Some x a e)
mapped-at f (x ∷ xs) (suc i) a e = mapped-at f xs i a e

-- past its end a list of values has 0
pub past-end : (values : List ℤ) (i : ℕ) → length values ≤ i → values_at values i ≡ pos 0
past-end [] i l = refl
past-end (v ∷ values) zero l = absurd (omega (arith, l))
past-end (v ∷ values) (suc i) l = past-end values i (omega (arith, l))

-- what a name stands for, by its kind
pub slot-cases : (S : Tables) (n : ℕ) (P : Slot → Type 0) → (n < length S.vars → P (Variable n 0))
    → (length S.vars ≤ n → n < width S → P (Remembered (n - length S.vars) 0))
    → (width S ≤ n → n - width S < length S.vars → P (Variable (n - width S) 1))
    → (width S ≤ n → length S.vars ≤ n - width S → P (Remembered (n - width S - length S.vars) 1)) → P (slot_at S n)
slot-cases S n P now kept past old = ⊎_elim
    (λ this. subst P (sym (cond-true (nat_lt n (width S)) (slot_in S 0 n) (slot_in S 1 (n - width S)) (lt-ltb n (width S) this)))
    (⊎_elim
    (λ var. subst P (sym (cond-true (nat_lt n (length S.vars)) (Variable n 0) (Remembered (n - length S.vars) 0)
    (lt-ltb n (length S.vars) var))) (now var))
    (λ memory. subst P (sym (cond-false (nat_lt n (length S.vars)) (Variable n 0) (Remembered (n - length S.vars) 0)
    (le-ltb n (length S.vars) memory))) (kept memory this))
    (cases_lt n (length S.vars))))
    (λ prior. subst P (sym (cond-false (nat_lt n (width S)) (slot_in S 0 n) (slot_in S 1 (n - width S)) (le-ltb n (width S) prior)))
    (⊎_elim
    (λ var. subst P (sym (cond-true (nat_lt (n - width S) (length S.vars)) (Variable (n - width S) 1)
    (Remembered (n - width S - length S.vars) 1) (lt-ltb (n - width S) (length S.vars) var))) (past prior var))
    (λ memory. subst P (sym (cond-false (nat_lt (n - width S) (length S.vars)) (Variable (n - width S) 1)
    (Remembered (n - width S - length S.vars) 1) (le-ltb (n - width S) (length S.vars) memory))) (old prior memory))
    (cases_lt (n - width S) (length S.vars))))
    (cases_lt n (width S))

pub none : {A : Type 0} → (false ≡ true) → A
none h = absurd (true≢false (sym h))

other-scan : {A : Type 0} (b : Bool) → (b && false) ≡ true → A
other-scan true h = none h
other-scan false h = none h

module _ (S : Tables) where
  -- the name of a slot
  now-name : (x n : ℕ) → same_slot (Variable x 0) (slot_at S n) ≡ true → (n ≡ x) × (x < length S.vars)
  now-name x n = slot-cases S n (λ s. same_slot (Variable x 0) s ≡ true → (n ≡ x) × (x < length S.vars))
      (λ l h. let e = eqb-true x n (and_parts (x == n) true h).0 in (sym e, omega (arith, e, l)))
      (λ a b h. none h)
      (λ a b h. other-scan (x == n - width S) h)
      (λ a b h. none h)

  past-name : (x n : ℕ) → same_slot (Variable x 1) (slot_at S n) ≡ true → (n ≡ width S + x) × (x < length S.vars)
  past-name x n = slot-cases S n (λ s. same_slot (Variable x 1) s ≡ true → (n ≡ width S + x) × (x < length S.vars))
      (λ l h. other-scan (x == n) h)
      (λ a b h. none h)
      (λ a b h. let e = eqb-true x (n - width S) (and_parts (x == n - width S) true h).0 in (omega (arith, e, a), omega (arith, e, b)))
      (λ a b h. none h)

  kept-name : (m n : ℕ) → same_slot (Remembered m 0) (slot_at S n) ≡ true → n ≡ memo S 0 m
  kept-name m n = slot-cases S n (λ s. same_slot (Remembered m 0) s ≡ true → n ≡ memo S 0 m)
      (λ l h. none h)
      (λ a b h. let e = eqb-true m (n - length S.vars) (and_parts (m == n - length S.vars) true h).0 in omega (arith, e, a))
      (λ a b h. none h)
      (λ a b h. other-scan (m == n - width S - length S.vars) h)

  -- and the slot of a name
  now-slot : (x : ℕ) → x < length S.vars → same_slot (Variable x 0) (slot_at S (0 + x)) ≡ true
  now-slot x l = slot-cases S (0 + x) (λ s. same_slot (Variable x 0) s ≡ true)
      (λ a. and_from (x == 0 + x) true (eq-eqb x (0 + x) (omega arith)) refl)
      (λ a b. absurd (omega (arith, a, l)))
      (λ a b. absurd (omega (arith, a, l)))
      (λ a b. absurd (omega (arith, a, l)))

  past-slot : (x : ℕ) → x < length S.vars → same_slot (Variable x 1) (slot_at S (width S + x)) ≡ true
  past-slot x l = slot-cases S (width S + x) (λ s. same_slot (Variable x 1) s ≡ true)
      (λ a. absurd (omega (arith, a)))
      (λ a b. absurd (omega (arith, b)))
      (λ a b. and_from (x == width S + x - width S) true (eq-eqb x (width S + x - width S) (omega arith)) refl)
      (λ a b. absurd (omega (arith, b, l)))

  kept-slot : (m : ℕ) → m < length S.memories → same_slot (Remembered m 0) (slot_at S (memo S 0 m)) ≡ true
  kept-slot m l = slot-cases S (memo S 0 m) (λ s. same_slot (Remembered m 0) s ≡ true)
      (λ a. absurd (omega (arith, a)))
      (λ a b. and_from (m == memo S 0 m - length S.vars) true (eq-eqb m (memo S 0 m - length S.vars) (omega arith)) refl)
      (λ a b. absurd (omega (arith, a, l)))
      (λ a b. absurd (omega (arith, a, l)))

-- a bit as a number, and back
abbrev bit : Bool → ℤ
bit b = cond b (pos 1) (pos 0)

bit_back : (b : Bool) → int_eq (bit b) (pos 1) ≡ b
bit_back true = refl
bit_back false = refl

module _ (laws : Laws) (S : Tables) (o : Obliged) (once : (i j u : ℕ) → slice_get o.names i ≡ Some u → slice_get o.names j ≡ Some u → i ≡ j)
    (slots : List Slot) (are : slots ≡ map (slot_at S) o.names) (values : List ℤ) where
  abbrev K : View
  K = table_view S slots values

  -- the value of the slot of a name
  value-of : (wanted : Slot) (i u : ℕ) → slice_get o.names i ≡ Some u → same_slot wanted (slot_at S u) ≡ true
      → ((n : ℕ) → same_slot wanted (slot_at S n) ≡ true → n ≡ u) → kept_value slots values wanted ≡ values_at values i
  value-of wanted i u at is only = ap (values_at values) (ap (position_or_len (same_slot wanted)) are
      ∙ only-place (same_slot wanted) (map (slot_at S) o.names) i (slot_at S u) (mapped-at (slot_at S) o.names i u at) is
      (λ j s e passes.
      let from = of-mapped (slot_at S) o.names j s e in
      let same = only from.0 (subst (λ t. same_slot wanted t ≡ true) (sym from.2) passes) in
      once j i u (from.1 ∙ ap Some same) at))

  module _ (V : View) (has : HasKept S o values V) where
    abbrev bits : View → ℕ → ℤ
    bits W m = bit (W.memory m)

    now_kept : (i x : ℕ) → x < length S.vars → slice_get o.names i ≡ Some (0 + x) → values_at values i ≡ cover_numbers S K (0 + x)
    now_kept i x l at = sym ((laws.made S K.now (bits K) K.before (λ m. pos 0)).is_now x l
        ∙ value-of (Variable x 0) i (0 + x) at (now-slot S x l) (λ n h. let e = (now-name S x n h).0 in omega (arith, e)))

    past_kept : (i x : ℕ) → x < length S.vars → slice_get o.names i ≡ Some (width S + x) → values_at values i
        ≡ cover_numbers S K (width S + x)
    past_kept i x l at = sym ((laws.made S K.now (bits K) K.before (λ m. pos 0)).is_past x l
        ∙ value-of (Variable x 1) i (width S + x) at (past-slot S x l) (λ n h. (past-name S x n h).0))

    bit_kept : (i m : ℕ) → m < length S.memories → slice_get o.names i ≡ Some (memo S 0 m) → values_at values i
        ≡ cover_numbers S K (memo S 0 m)
    bit_kept i m l at =
        let from = has i (memo S 0 m) at (omega (arith, l)) ∙ (laws.made S V.now (bits V) V.before (λ m. pos 0)).is_kept m l in
        let value = value-of (Remembered m 0) i (memo S 0 m) at (kept-slot S m l) (λ n h. kept-name S m n h) in
        from ∙ sym ((laws.made S K.now (bits K) K.before (λ m. pos 0)).is_kept m l
        ∙ ap (λ z. bit (int_eq z (pos 1))) (value ∙ from) ∙ ap bit (bit_back (V.memory m)))

    pub has_kept : HasKept S o values K
    has_kept i u at low = ⊎_elim
        (λ var. let e : 0 + u ≡ u = omega arith in
        subst (λ n. slice_get o.names i ≡ Some n → values_at values i ≡ cover_numbers S K n) e (now_kept i u var) at)
        (λ later. ⊎_elim
        (λ memory.
        let e : memo S 0 (u - length S.vars) ≡ u = omega (arith, later) in
        subst (λ n. slice_get o.names i ≡ Some n → values_at values i ≡ cover_numbers S K n) e
        (bit_kept i (u - length S.vars) (omega (arith, later, memory))) at)
        (λ prior.
        let e : width S + (u - width S) ≡ u = omega (arith, prior) in
        subst (λ n. slice_get o.names i ≡ Some n → values_at values i ≡ cover_numbers S K n) e
        (past_kept i (u - width S) (omega (arith, prior, low))) at)
        (cases_lt u (width S)))
        (cases_lt u (length S.vars))

    -- the values of a local view, and 0 where there is no variable
    abbrev only_there : (ℕ → ℤ) → ℕ → ℤ
    only_there f x = cond (nat_lt x (length S.vars)) (f x) (pos 0)

    abbrev L : View
    L = record { now = only_there V.now; before = only_there V.before; age = λ m. pos 0; memory = λ m. false }

    age_within : (memory : Memory) (m : ℕ) → slice_get S.memories m ≡ Some memory → IsWithin (span_of memory) (pos 0)
    age_within (Held name side c hold) m at = let h = S.sound.timers m name side c hold at in let low = h.0 in (omega (arith, ints), low)
    age_within (Hyst name side e lo hi start) m at = (omega (arith, ints), omega (arith, ints))

    there_at : (f : ℕ → ℤ) (x : ℕ) → x < length S.vars → only_there f x ≡ f x
    there_at f x l = cond-true (nat_lt x (length S.vars)) (f x) (pos 0) (lt-ltb x (length S.vars) l)

    none_at : (f : ℕ → ℤ) (x : ℕ) → slice_get S.vars x ≡ None → only_there f x ≡ pos 0
    none_at f x e = ⊎_elim
        (λ l. absurd (let v = some-at S.vars x l in none-some v.0 (sym e ∙ v.1)))
        (λ past. cond-false (nat_lt x (length S.vars)) (f x) (pos 0) (le-ltb x (length S.vars) past))
        (cases_lt x (length S.vars))

    sizes : (reads : List Read) → IsLocal S reads V → KeepsSizes S.vars S.memories L
    sizes reads local = laws.keep_sizes S L
        (record {
          in_range = λ x v is. subst (IsWithin v.range) (sym (there_at V.now x (slice_get_within S.vars x v is))) (local.now x v is);
          none = none_at V.now;
        })
        (record {
          in_range = λ x v is. subst (IsWithin v.range) (sym (there_at V.before x (slice_get_within S.vars x v is))) (local.before x v is);
          none = none_at V.before;
        })
        (record { in_span = λ m memory at. age_within memory m at; none = λ m at. (omega (arith, ints), omega (arith, ints)) })

    -- the value of a slot is that of its name, or 0
    slot-value : (P : ℤ → Type 0) (wanted : Slot) → length values ≡ length o.names
        → ((i n : ℕ) → slice_get o.names i ≡ Some n → same_slot wanted (slot_at S n) ≡ true → P (values_at values i)) → P (pos 0)
        → P (kept_value slots values wanted)
    slot-value P wanted long found empty = ⊎_elim
        (λ l.
        let at = slice_get-get_or slots (position_or_len (same_slot wanted) slots) (Variable 0 0) l in
        let from = of-mapped (slot_at S) o.names (position_or_len (same_slot wanted) slots) _
        (subst (λ ss. slice_get ss (position_or_len (same_slot wanted) slots)
        ≡ Some (get_or slots (position_or_len (same_slot wanted) slots) (Variable 0 0))) are at) in
        found (position_or_len (same_slot wanted) slots) from.0 from.1
        (ap (same_slot wanted) from.2 ∙ passes_at_first (same_slot wanted) slots (Variable 0 0) l))
        (λ past.
        let many = ap length are ∙ length-map o.names (slot_at S) in
        subst P (sym (past-end values (position_or_len (same_slot wanted) slots) (omega (arith, past, many, long)))) empty)
        (cases_lt (position_or_len (same_slot wanted) slots) (length slots))

    pub keeps : length values ≡ length o.names → (reads : List Read) → IsLocal S reads V → KeepsSizes S.vars S.memories K
    keeps long reads local =
        let small = sizes reads local in
        record {
          now = λ x. slot-value (λ z. unsigned_abs z ≤ var_size (slice_get S.vars x)) (Variable x 0) long
              (λ i n at h.
              let name = now-name S x n h in
              let e : n ≡ 0 + x = omega (arith, name.0) in
              let value = has i (0 + x) (at ∙ ap Some e) (omega (arith, name.1))
              ∙ (laws.made S V.now (bits V) V.before (λ m. pos 0)).is_now x name.1 in
              subst (λ z. unsigned_abs z ≤ var_size (slice_get S.vars x)) (sym (value ∙ sym (there_at V.now x name.1))) (small.now x))
              (omega arith);
          before = λ x. slot-value (λ z. unsigned_abs z ≤ var_size (slice_get S.vars x)) (Variable x 1) long
              (λ i n at h.
              let name = past-name S x n h in
              let value = has i (width S + x) (at ∙ ap Some name.0) (omega (arith, name.1))
              ∙ (laws.made S V.now (bits V) V.before (λ m. pos 0)).is_past x name.1 in
              subst (λ z. unsigned_abs z ≤ var_size (slice_get S.vars x)) (sym (value ∙ sym (there_at V.before x name.1))) (small.before x))
              (omega arith);
          age = small.age;
        }
