-- The names of slots, and the values of slots that are those of names.
use Rattle.std.proofs.Common.{◌≡◌, ◌∙◌, sym, ap, subst, refl, ℕ, zero, suc, ◌+◌, ◌<◌, ◌≤◌, ℤ, Bool, true, List, [], ◌∷◌}
use Rattle.std.proofs.Common.{map, length, Some, slice_get, not, arith, ⊎_elim}
use Rattle.std.specs.Prelude.{◌==◌}
use Rattle.std.specs.List.{position_or_len}
use Rattle.std.proofs.lemmas.Bool.{cases_Bool, cases_lt, cond-true, cond-false, and_parts, and_from, eqb-true, eq-eqb}
use Rattle.std.proofs.lemmas.List.{length-map}
use Rattle.std.proofs.lemmas.List.Sums.{passes_at_first}
use Rattle.std.proofs.lemmas.Option.{none-some, same_Some, slice_get-get_or, slice_get_within}
use Rattle.ft_core.specs.declared.tables.Tables.{Tables}
use Rattle.ft_linear.specs.meaning.Form.{values_at}
use Rattle.ft_claims.specs.meaning.Names.{width}
use Rattle.ft_oblige.specs.declared.labelling.Slot.{Slot}
use Rattle.ft_oblige.specs.declared.labelling.Slot.TheVariants.{Variable, Memory}
use Rattle.ft_oblige.specs.meaning.Labels.{slot_at}
use Rattle.ft_cover.specs.building.KeptView.{same_slot, kept_value}
use Rattle.ft_cover.specs.laws.KeptLaws.{AreOnce, IsKept, of_name, of_none}
use Rattle.ft_cover.proofs.KeptLemmas.{slot-cases, only-place, of-mapped, mapped-at, past-end, none}

-- the name of a slot
abbrev name_of : Tables → Slot → ℕ
name_of S (Variable p zero) = p
name_of S (Variable p (suc s)) = width S + p
name_of S (Memory p zero) = length S.vars + p
name_of S (Memory p (suc s)) = width S + (length S.vars + p)

back : (S : Tables) (n : ℕ) → name_of S (slot_at S n) ≡ n
back S n = slot-cases S n (λ s. name_of S s ≡ n)
    (λ l. refl)
    (λ a b. omega (arith, a))
    (λ a b. omega (arith, a))
    (λ a b. omega (arith, a, b))

pub differ : (S : Tables) (u v : ℕ) → slot_at S u ≡ slot_at S v → u ≡ v
differ S u v e = sym (back S u) ∙ ap (name_of S) e ∙ back S v

same-self : (slot : Slot) → same_slot slot slot ≡ true
same-self (Variable p s) = and_from (p == p) (s == s) (eq-eqb p p refl) (eq-eqb s s refl)
same-self (Memory p s) = and_from (p == p) (s == s) (eq-eqb p p refl) (eq-eqb s s refl)

same-one : (a b : Slot) → same_slot a b ≡ true → b ≡ a
same-one (Variable p s) (Variable q t) h =
    let parts = and_parts (p == q) (s == t) h in
    let e = eqb-true p q parts.0 in let f = eqb-true s t parts.1 in λ i. Variable (sym e i) (sym f i)
same-one (Variable p s) (Memory q t) h = none h
same-one (Memory p s) (Variable q t) h = none h
same-one (Memory p s) (Memory q t) h =
    let parts = and_parts (p == q) (s == t) h in
    let e = eqb-true p q parts.0 in let f = eqb-true s t parts.1 in λ i. Memory (sym e i) (sym f i)

pub have_values : (S : Tables) (names : List ℕ) → AreOnce names → (values : List ℤ) (i u : ℕ) → slice_get names i ≡ Some u
    → kept_value (map (slot_at S) names) values (slot_at S u) ≡ values_at values i
have_values S names once values i u at = ap (values_at values)
    (only-place (same_slot (slot_at S u)) (map (slot_at S) names) i (slot_at S u) (mapped-at (slot_at S) names i u at)
    (same-self (slot_at S u))
    (λ j s e passes.
    let from = of-mapped (slot_at S) names j s e in
    let same = differ S from.0 u (from.2 ∙ same-one (slot_at S u) s passes) in
    once j i u (from.1 ∙ ap Some same) at))

-- an element that passes doesn't stand before the first such place
first-before : {A : Type 0} (p : A → Bool) (xs : List A) (i : ℕ) (x : A) → slice_get xs i ≡ Some x → p x ≡ true → position_or_len p xs ≤ i
first-before p [] i x at is = absurd (none-some x at)
first-before p (y ∷ xs) zero x at is =
    let e = cond-false {A = ℕ} (not (p y)) (1 + position_or_len p xs) 0 (ap not (ap p (same_Some y x at) ∙ is)) in omega (arith, e)
first-before p (y ∷ xs) (suc i) x at is = ⊎_elim
    (λ here. let e = cond-false {A = ℕ} (not (p y)) (1 + position_or_len p xs) 0 (ap not here) in omega (arith, e))
    (λ later.
    let e = cond-true {A = ℕ} (not (p y)) (1 + position_or_len p xs) 0 (ap not later) in
    let more = first-before p xs i x at is in omega (arith, e, more))
    (cases_Bool (p y))

module _ (S : Tables) (names : List ℕ) (values : List ℤ) (long : length values ≡ length names) (slot : Slot) where
  abbrev slots : List Slot
  slots = map (slot_at S) names

  abbrev first : ℕ
  first = position_or_len (same_slot slot) slots

  there : first < length slots → IsKept S names values slot
  there l =
      let from = of-mapped (slot_at S) names first _ (slice_get-get_or slots first (Variable 0 0) l) in
      of_name first from.0 from.1 (from.2 ∙ same-one slot _ (passes_at_first (same_slot slot) slots (Variable 0 0) l)) refl

  nowhere : length slots ≤ first → IsKept S names values slot
  nowhere past = let many = length-map names (slot_at S) in of_none
      (λ i u at e.
      let before = first-before (same_slot slot) slots i (slot_at S u) (mapped-at (slot_at S) names i u at)
      (subst (λ s. same_slot slot s ≡ true) (sym e) (same-self slot)) in
      let within = slice_get_within names i u at in
      absurd (omega (arith, before, within, many, past)))
      (past-end values first (omega (arith, past, many, long)))

  pub are_kept : IsKept S names values slot
  are_kept = ⊎_elim there nowhere (cases_lt first (length slots))
