-- The places of all variables of some kinds, listed in order of declaration.
use Rattle.std.proofs.Common.{◌≡◌, ◌∙◌, sym, ap, subst, refl, ℕ, suc, ◌+◌, ◌<◌, Bool, false, cond, List, [], ◌∷◌, ◌++◌, length, slice_get}
use Rattle.std.proofs.Common.{Option, Some, None, arith, ⊎_elim, true≢false}
use Rattle.std.specs.Prelude.{IsTrue}
use Rattle.std.proofs.lemmas.Bool.{cases_lt, cond-true, cond-false}
use Rattle.std.proofs.lemmas.List.{length_push, take_all}
use Rattle.std.proofs.lemmas.Option.{slice_get_within}
use Rattle.ft_core.specs.declared.tables.Tables.{Tables}
use Rattle.ft_core.specs.declared.tables.Var.{Var}
use Rattle.ft_core.specs.meaning.Kinds.{Kinds, count_of, place_of, is_of}
use Rattle.ft_core.specs.laws.Places.{on-left, at-end, one-at}
use Rattle.ft_mean.specs.meaning.Reading.{IsVar}
use Rattle.ft_scan.specs.steps.Put.{ArePlacesIn, AreOnce}
use Rattle.ft_scan.specs.steps.Stands.{ArePlaces}
use Rattle.ft_core.specs.laws.VarPlaces.{next-place}
use Rattle.ft_scan.specs.laws.Laws.{Laws}

-- the places of those among the first n variables
pub record AreListed (kinds : Kinds) (vars : List Var) (n : ℕ) (places : List ℕ) : Type 0 where
  pub count : length places ≡ place_of kinds vars n
  pub each : (x : ℕ) → x < n → IsTrue (is_of vars kinds x) → slice_get places (place_of kinds vars x) ≡ Some x

module _ (kinds : Kinds) (vars : List Var) where
  -- whether the variable at a place is of these kinds
  pub of_var : (x : ℕ) (v : Var) → slice_get vars x ≡ Some v → is_of vars kinds x ≡ kinds x v
  of_var x v e = ap (λ o. elim o as (λ z. Bool) [ None ↦ false | Some u ↦ kinds x u ]) e

  pub within : (x : ℕ) → IsTrue (is_of vars kinds x) → x < length vars
  within x t = at (slice_get vars x) refl
    where
      at : (o : Option Var) → slice_get vars x ≡ o → x < length vars
      at None e = absurd (true≢false (sym t ∙ ap (λ o. elim o as (λ z. Bool) [ None ↦ false | Some u ↦ kinds x u ]) e))
      at (Some v) e = slice_get_within vars x v e

  module _ (n : ℕ) (v : Var) (there : slice_get vars n ≡ Some v) (places : List ℕ) (so_far : AreListed kinds vars n places) where
    one : suc n ≡ n + 1
    one = omega arith

    place : place_of kinds vars (n + 1) ≡ cond (kinds n v) (suc (place_of kinds vars n)) (place_of kinds vars n)
    place = ap (place_of kinds vars) (sym one) ∙ next-place kinds vars n v there

    -- one more, at the end
    pub listed_more : IsTrue (kinds n v) → AreListed kinds vars (n + 1) (places ++ n ∷ [])
    listed_more is = record {
      count = length_push places n ∙ ap (λ k. k + 1) so_far.count ∙ (let more : place_of kinds vars n + 1 ≡ suc (place_of kinds vars n) =
          omega arith in more)
          ∙ sym (place ∙ cond-true (kinds n v) (suc (place_of kinds vars n)) (place_of kinds vars n) is);
      each = λ x l t. ⊎_elim
          (λ less. on-left places (n ∷ []) (place_of kinds vars x) x (so_far.each x less t))
          (λ most. let same : n ≡ x = omega (arith, l, most) in
          subst (λ y. slice_get (places ++ n ∷ []) (place_of kinds vars y) ≡ Some y) same
          (subst (λ k. slice_get (places ++ n ∷ []) k ≡ Some n) so_far.count (at-end places n)))
          (cases_lt x n);
    }

    -- a variable of another kind is left out
    pub listed_other : kinds n v ≡ false → AreListed kinds vars (n + 1) places
    listed_other not_so = record {
      count = so_far.count ∙ sym (place ∙ cond-false (kinds n v) (suc (place_of kinds vars n)) (place_of kinds vars n) not_so);
      each = λ x l t. ⊎_elim
          (λ less. so_far.each x less t)
          (λ most. let same : n ≡ x = omega (arith, l, most) in
          absurd (true≢false (sym t ∙ sym (ap (is_of vars kinds) same) ∙ of_var n v there ∙ not_so)))
          (cases_lt x n);
    }

module _ (S : Tables) (kinds : Kinds) (places : List ℕ) where
  pub listed_all : AreListed kinds S.vars (length S.vars) places → ArePlaces S kinds places
  listed_all all = record {
    count = all.count ∙ ap (count_of kinds) (take_all (length S.vars) S.vars (omega arith));
    each = λ x t. all.each x (within kinds S.vars x t) t;
  }

module _ (L : Laws) (S : Tables) (kinds : Kinds) (places : List ℕ) (are : ArePlaces S kinds places) where
  -- what stands at a place of the list is a variable of these kinds
  pub listed_at : (k p : ℕ) → slice_get places k ≡ Some p → (v : Var) × IsVar S kinds p v × (place_of kinds S.vars p ≡ k)
  listed_at k p e =
      let at = L.taken S kinds k (let below = slice_get_within places k p e in omega (arith, below, are.count)) in
      let here : slice_get places (place_of kinds S.vars at.x) ≡ Some at.x =
      are.each at.x (of_var kinds S.vars at.x at.v at.is.0 ∙ at.is.1) in
      let same : at.x ≡ p = one-at places k at.x p (subst (λ i. slice_get places i ≡ Some at.x) at.place here) e in
      (at.v, subst (λ x. IsVar S kinds x at.v) same at.is, subst (λ x. place_of kinds S.vars x ≡ k) same at.place)

  pub listed_within : ArePlacesIn places (length S.vars)
  listed_within k p e = let at = listed_at k p e in slice_get_within S.vars p at.0 at.1.0

  pub listed_once : AreOnce places
  listed_once k l p e f = let at = listed_at k p e in let other = listed_at l p f in sym at.2 ∙ other.2

  -- a variable of these kinds stands at its place
  pub listed : (x : ℕ) (v : Var) → IsVar S kinds x v → slice_get places (place_of kinds S.vars x) ≡ Some x
  listed x v is = are.each x (of_var kinds S.vars x v is.0 ∙ is.1)
