-- What the tests of a row come to, and scans one by one.
use Rattle.std.proofs.Common.{◌≡◌, ◌∙◌, sym, ap, subst, refl, ℕ, zero, suc, ◌<◌, ◌-◌, ℤ, pos, Bool, true, false, not, ◌&&◌, ◌||◌, List, [], ◌∷◌, length}
use Rattle.std.proofs.Common.{slice_get, slice_index_or, Option, Some, None, true≢false, cond, arith, rules}
use Rattle.std.specs.Prelude.{◌==◌}
use Rattle.std.specs.List.{count_by, list_all, filter}
use Rattle.std.proofs.Math.Nat.{not-suc-le-zero, le_of_suc-le-suc}
use Rattle.std.proofs.lemmas.Bool.Decides.{Decides-eqb}
use Rattle.std.proofs.lemmas.List.Sums.{length-filter}
use Rattle.std.proofs.lemmas.Option.{get_or_from_slice_get, slice_get-get_or, slice_get_within}
use Rattle.ft_base.specs.Interval.{IsWithin}
use Rattle.ft_core.specs.declared.tables.Tables.{Tables}
use Rattle.ft_core.specs.declared.tables.Var.{Var}
use Rattle.ft_core.specs.declared.tables.VarKind.TheVariants as kind
use Rattle.ft_core.specs.laws.Lists.{all_pass}
use Rattle.ft_core.specs.laws.Ranges.{is_within, within}
use Rattle.ft_core.specs.laws.VarPlaces.{own-place}
use Rattle.ft_core.specs.meaning.Kinds.{Kinds, after_first, count_of, monitored, place_of}
use Rattle.ft_mean.specs.meaning.Allowed.{Allowed, nat_at}
use Rattle.ft_mean.specs.meaning.Reading.{Scans, IsListOf, IsVar, reading_of}
use Rattle.ft_mean.specs.laws.Laws.{AllowedByScan}
use Rattle.ft_mean.specs.laws.RowLaws.{PlacesAreInside, ReadAtPlace}
use Rattle.ft_allowed.specs.building.Ranging.{has_value, is_monitored, is_served}
use Rattle.ft_allowed.specs.meaning.Refused.{IsAllowedAt}

-- how many variables are monitored, wherever they stand
counted-by : (kinds : Kinds) → ((x : ℕ) (v : Var) → kinds x v ≡ is_monitored v) → (vars : List Var)
    → count_of kinds vars ≡ length (filter is_monitored vars)
counted-by kinds same [] = refl
counted-by kinds same (v ∷ vars) =
    ap (λ b. cond b (suc (count_of (after_first kinds) vars)) (count_of (after_first kinds) vars)) (same zero v)
    ∙ elim (is_monitored v) as (λ b. cond b (suc (count_of (after_first kinds) vars)) (count_of (after_first kinds) vars)
    ≡ length (cond b (v ∷ filter is_monitored vars) (filter is_monitored vars))) [
      | true ↦ ap suc (counted-by (after_first kinds) (λ x. same (suc x)) vars)
      | false ↦ counted-by (after_first kinds) (λ x. same (suc x)) vars
    ]

counted : (vars : List Var) → count_of monitored vars ≡ count_by is_monitored vars
counted vars = counted-by monitored (λ x v. refl) vars ∙ length-filter is_monitored vars

pass-all : (test : Var → Bool) (xs : List Var) → ((k : ℕ) (a : Var) → slice_get xs k ≡ Some a → test a ≡ true) → list_all test xs ≡ true
pass-all test [] h = refl
pass-all test (x ∷ xs) h = λ i. h zero x refl i && pass-all test xs (λ k. h (suc k)) i

implied : (b c : Bool) → (not b || c) ≡ true → b ≡ true → c ≡ true
implied true c h e = h
implied false c h e = absurd (true≢false (sym e))

asked : (b c : Bool) → (b ≡ true → c ≡ true) → (not b || c) ≡ true
asked true c h = h refl
asked false c h = refl

tested : (o : Option ℤ) (range : ℤ × ℤ) → elim o as (λ z. Bool) [ None ↦ false | Some z ↦ is_within range z ] ≡ true
    → (z : ℤ) × (o ≡ Some z) × (is_within range z ≡ true)
tested None range h = absurd (true≢false (sym h))
tested (Some z) range h = (z, refl, h)

inside : (range : ℤ × ℤ) (z : ℤ) → IsWithin range z → is_within range z ≡ true
inside range z h = search rules

module _ (S : Tables) (row : List ℤ) where
  -- the value that a test finds in range is what the row tells of the variable
  told : ReadAtPlace → (x : ℕ) (v : Var) → IsVar S monitored x v → has_value row v ≡ true
      → IsWithin v.range (reading_of S monitored (row ∷ []) zero x)
  told at_place x v is h =
      let found = tested (slice_get row v.place) v.range h in
      let read : reading_of S monitored (row ∷ []) zero x ≡ found.0 =
      at_place S monitored (row ∷ []) zero x v is
      ∙ ap (λ p. slice_index_or row p (pos 0)) (sym (own-place S kind.Mon x v is))
      ∙ get_or_from_slice_get row v.place found.0 (pos 0) found.1 in
      subst (IsWithin v.range) (sym read) (within v.range found.0 found.2)

  pub row-is : ReadAtPlace → length row ≡ count_by is_monitored S.vars → list_all (is_served row) S.vars ≡ true
      → IsListOf S monitored (row ∷ [])
  row-is at_place long served = record {
    widths = λ t below. elim t as (λ t. t < 1 → length (slice_index_or (row ∷ []) t []) ≡ count_of monitored S.vars) [
      | zero ↦ λ _. long ∙ sym (counted S.vars)
      | suc k ↦ λ below. absurd (not-suc-le-zero (le_of_suc-le-suc below))
    ] below;
    ranges = λ t x v below is. elim t as (λ t. t < 1 → IsWithin v.range (reading_of S monitored (row ∷ []) t x)) [
      | zero ↦ λ _. told at_place x v is (implied (is_monitored v) (has_value row v)
          (all_pass (is_served row) S.vars served v
          (x, slice_get_within S.vars x v is.0, get_or_from_slice_get S.vars x v v is.0)) is.1)
      | suc k ↦ λ below. absurd (not-suc-le-zero (le_of_suc-le-suc below))
    ] below;
  }

  -- and the other way round
  has : PlacesAreInside → ReadAtPlace → IsListOf S monitored (row ∷ []) → (x : ℕ) (v : Var) → slice_get S.vars x ≡ Some v
      → is_monitored v ≡ true → has_value row v ≡ true
  has within_row at_place list x v there is =
      let var : IsVar S monitored x v = (there, is) in
      let place = own-place S kind.Mon x v var in
      let found : slice_get row v.place ≡ Some (slice_index_or row v.place (pos 0)) =
      slice_get-get_or row v.place (pos 0)
      (subst (λ p. p < length row) (sym place) (subst (λ n. place_of monitored S.vars x < n) (sym (list.widths zero refl-below))
      (within_row S monitored x v var))) in
      let read : reading_of S monitored (row ∷ []) zero x ≡ slice_index_or row v.place (pos 0) =
      at_place S monitored (row ∷ []) zero x v var ∙ ap (λ p. slice_index_or row p (pos 0)) (sym place) in
      ap (λ (o : Option ℤ). elim o as (λ z. Bool) [ None ↦ false | Some z ↦ is_within v.range z ]) found
      ∙ inside v.range (slice_index_or row v.place (pos 0)) (subst (IsWithin v.range) read (list.ranges zero x v refl-below var))
    where
      refl-below : zero < 1
      refl-below = omega arith

  pub row-has : PlacesAreInside → ReadAtPlace → IsListOf S monitored (row ∷ [])
      → (length row ≡ count_by is_monitored S.vars) × (list_all (is_served row) S.vars ≡ true)
  row-has within_row at_place list = (
    list.widths zero (omega arith) ∙ counted S.vars,
    pass-all (is_served row) S.vars
        (λ x v there. asked (is_monitored v) (has_value row v) (has within_row at_place list x v there)),
  )

-- an allowed list is allowed at each scan
pub each-allowed : (S : Tables) (h : Scans) → Allowed S h → (t : ℕ) → t < length h → IsAllowedAt S h t
each-allowed S h a t below = record {
  values = record {
    widths = λ k less. elim k as (λ k. k < 1 → length (slice_index_or (slice_index_or h t [] ∷ []) k []) ≡ count_of monitored S.vars) [
      | zero ↦ λ _. a.monitored_list.values.widths t below
      | suc k ↦ λ less. absurd (not-suc-le-zero (le_of_suc-le-suc less))
    ] less;
    ranges = λ k x v less is.
        elim k as (λ k. k < 1 → IsWithin v.range (reading_of S monitored (slice_index_or h t [] ∷ []) k x)) [
          | zero ↦ λ _. a.monitored_list.values.ranges t x v below is
          | suc k ↦ λ less. absurd (not-suc-le-zero (le_of_suc-le-suc less))
        ] less;
  };
  clauses = a.clauses t below;
}

pub all-allowed : (S : Tables) (h : Scans) → (h ≡ [] → ⊥) → ((t : ℕ) → t < length h → IsAllowedAt S h t) → Allowed S h
all-allowed S h some each = record {
  monitored_list = record {
    nonempty = some;
    values = record {
      widths = λ t below. (each t below).values.widths zero (omega arith);
      ranges = λ t x v below is. (each t below).values.ranges zero x v (omega arith) is;
    };
  };
  clauses = λ t below. (each t below).clauses;
}

one-less : (t : ℕ) → suc t - 1 ≡ t
one-less t = omega arith

-- NAT at a scan of a list is as at the rows of that scan and the one before
module _ (by_scan : AllowedByScan) (S : Tables) (h : Scans) where
  pub at-first : (t : ℕ) (row : List ℤ) → t ≡ 0 → row ≡ slice_index_or h t []
      → nat_at S (reading_of S monitored (row ∷ [])) 0 ≡ nat_at S (reading_of S monitored h) t
  at-first zero row first is = ap (λ (r : List ℤ). nat_at S (reading_of S monitored (r ∷ [])) 0) is ∙ sym ((by_scan S h).0)
  at-first (suc t) row first is = absurd (omega (arith, first))

  pub at-later : (t : ℕ) (before row : List ℤ) → (t ≡ 0 → ⊥) → before ≡ slice_index_or h (t - 1) [] → row ≡ slice_index_or h t []
      → nat_at S (reading_of S monitored (before ∷ row ∷ [])) 1 ≡ nat_at S (reading_of S monitored h) t
  at-later zero before row later was is = absurd (later refl)
  at-later (suc t) before row later was is =
      ap (λ (r : List ℤ). nat_at S (reading_of S monitored (r ∷ row ∷ [])) 1) (was ∙ ap (λ k. slice_index_or h k []) (one-less t))
      ∙ ap (λ (r : List ℤ). nat_at S (reading_of S monitored (slice_index_or h t [] ∷ r ∷ [])) 1) is
      ∙ sym ((by_scan S h).1 t)

pub no-eqb : (m n : ℕ) → (m ≡ n → ⊥) → (m == n) ≡ true → ⊥
no-eqb m n differ same = differ ((Decides-eqb m n).0 same)
