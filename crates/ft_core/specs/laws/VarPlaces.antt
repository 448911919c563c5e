-- A variable's place among those of some kinds, as a count that goes on from one variable to the next, without a tactic.
use Rattle.std.proofs.Common.{◌≡◌, ◌∙◌, sym, ap, subst, refl, ⊎_elim, ℕ, zero, suc, ◌+◌, ◌<◌, Bool, true, false, cond, List, [], ◌∷◌}
use Rattle.std.proofs.Common.{slice_get, Some, true≢false, add-one, suc-le-suc}
use Rattle.std.specs.Prelude.{IsTrue}
use Rattle.std.proofs.Math.Nat.{not-suc-le-zero, le_of_suc-le-suc, zero-lt-suc, ne_of_lt, le_antisymm}
use Rattle.std.proofs.lemmas.Bool.{cases_lt, cond-true, cond-false}
use Rattle.std.proofs.lemmas.Option.{none-some, same_Some}
use Rattle.ft_core.specs.declared.tables.Tables.{Tables}
use Rattle.ft_core.specs.declared.tables.Var.{Var}
use Rattle.ft_core.specs.declared.tables.VarKind.{VarKind}
use Rattle.ft_core.specs.declared.tables.VarKind.TheVariants as kind
use Rattle.ft_core.specs.meaning.Kinds.{Kinds, after_first, count_of, of_kind, place_of, same_kind}

-- a count that goes on where a variable is of the kinds
abbrev one_more : Bool → ℕ → ℕ
one_more b n = cond b (suc n) n

-- the place after a variable
pub next-place : (kinds : Kinds) (vars : List Var) (x : ℕ) (v : Var) → slice_get vars x ≡ Some v
    → place_of kinds vars (suc x) ≡ cond (kinds x v) (suc (place_of kinds vars x)) (place_of kinds vars x)
next-place kinds [] x v e = absurd (none-some v e)
next-place kinds (u ∷ vars) zero v e = ap (λ (w : Var). cond (kinds zero w) 1 0) (same_Some u v e)
next-place kinds (u ∷ vars) (suc x) v e =
    elim (kinds zero u) as (λ b. one_more b (place_of (after_first kinds) vars (suc x))
    ≡ one_more (kinds (suc x) v) (one_more b (place_of (after_first kinds) vars x))) [
      | true ↦ ap suc (next-place (after_first kinds) vars x v e) ∙ inside (kinds (suc x) v)
      | false ↦ next-place (after_first kinds) vars x v e
    ]
  where
    inside : (b : Bool) → suc (cond b (suc (place_of (after_first kinds) vars x)) (place_of (after_first kinds) vars x))
        ≡ cond b (suc (suc (place_of (after_first kinds) vars x))) (suc (place_of (after_first kinds) vars x))
    inside true = refl
    inside false = refl

module _ (kinds : Kinds) (vars : List Var) (x : ℕ) (v : Var) (e : slice_get vars x ≡ Some v) where
  -- it is one more after one of these kinds, and the same after another
  pub counted : kinds x v ≡ true → place_of kinds vars (x + 1) ≡ place_of kinds vars x + 1
  counted is = ap (place_of kinds vars) (add-one x) ∙ next-place kinds vars x v e ∙ cond-true (kinds x v) _ _ is
      ∙ sym (add-one (place_of kinds vars x))

  pub passed : kinds x v ≡ false → place_of kinds vars (x + 1) ≡ place_of kinds vars x
  passed other = ap (place_of kinds vars) (add-one x) ∙ next-place kinds vars x v e ∙ cond-false (kinds x v) _ _ other

-- the place of a variable of these kinds is one of as many as there are
pub below-count : (kinds : Kinds) (vars : List Var) (x : ℕ) (v : Var) → slice_get vars x ≡ Some v → IsTrue (kinds x v)
    → place_of kinds vars x < count_of kinds vars
below-count kinds [] x v e k = absurd (none-some v e)
below-count kinds (u ∷ vars) zero v e k =
    let is : kinds zero u ≡ true = ap (λ (w : Var). kinds zero w) (same_Some u v e) ∙ k in
    subst (λ b. 0 < one_more b (count_of (after_first kinds) vars)) (sym is) (zero-lt-suc (count_of (after_first kinds) vars))
below-count kinds (u ∷ vars) (suc x) v e k =
    let below = below-count (after_first kinds) vars x v e k in
    elim (kinds zero u) as (λ b. one_more b (place_of (after_first kinds) vars x) < one_more b (count_of (after_first kinds) vars)) [
      | true ↦ suc-le-suc below
      | false ↦ below
    ]

-- and stands before the place of what comes after it
pub lower-place : (kinds : Kinds) (vars : List Var) (y x : ℕ) (v : Var) → y < x → slice_get vars y ≡ Some v → IsTrue (kinds y v)
    → place_of kinds vars y < place_of kinds vars x
lower-place kinds [] y x v l e k = absurd (none-some v e)
lower-place kinds (u ∷ vars) y zero v l e k = absurd (not-suc-le-zero l)
lower-place kinds (u ∷ vars) zero (suc x) v l e k =
    let is : kinds zero u ≡ true = ap (λ (w : Var). kinds zero w) (same_Some u v e) ∙ k in
    subst (λ b. 0 < one_more b (place_of (after_first kinds) vars x)) (sym is) (zero-lt-suc (place_of (after_first kinds) vars x))
lower-place kinds (u ∷ vars) (suc y) (suc x) v l e k =
    let below = lower-place (after_first kinds) vars y x v (le_of_suc-le-suc l) e k in
    elim (kinds zero u) as (λ b. one_more b (place_of (after_first kinds) vars y) < one_more b (place_of (after_first kinds) vars x)) [
      | true ↦ suc-le-suc below
      | false ↦ below
    ]

-- two of them have two places
pub other-place : (kinds : Kinds) (vars : List Var) (x y : ℕ) (v w : Var) → slice_get vars x ≡ Some v → slice_get vars y ≡ Some w
    → IsTrue (kinds x v) → IsTrue (kinds y w) → (x ≡ y → ⊥) → place_of kinds vars x ≡ place_of kinds vars y → ⊥
other-place kinds vars x y v w there at k l other same = ⊎_elim
    (λ less. ne_of_lt (lower-place kinds vars x y v less there k) same)
    (λ least. ⊎_elim
    (λ more. ne_of_lt (lower-place kinds vars y x w more at l) (sym same))
    (λ most. other (le_antisymm most least))
    (cases_lt y x))
    (cases_lt x y)

same-kinds : (a b : VarKind) → IsTrue (same_kind a b) → a ≡ b
same-kinds kind.Mon kind.Mon e = refl
same-kinds kind.Con kind.Con e = refl
same-kinds kind.Input kind.Input e = refl
same-kinds kind.Output kind.Output e = refl
same-kinds kind.ReqInner kind.ReqInner e = refl
same-kinds kind.SofInner kind.SofInner e = refl
same-kinds a b e = absurd (true≢false (sym e))

-- the place that a variable is said to have is its own among those of its kind
pub own-place : (S : Tables) (k : VarKind) (x : ℕ) (v : Var) → (slice_get S.vars x ≡ Some v) × IsTrue (of_kind k x v) → v.place
    ≡ place_of (of_kind k) S.vars x
own-place S k x v is = S.sound.places x v is.0
    ∙ ap (λ (kinds : Kinds). place_of kinds S.vars x) (ap of_kind (sym (same-kinds k v.kind is.1)))
