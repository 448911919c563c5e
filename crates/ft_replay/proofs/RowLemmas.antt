-- What is known of the rows of a scan after each variable.
use Rattle.std.proofs.Common.{◌≡◌, ◌∙◌, sym, ap, subst, refl, ℕ, ◌+◌, ◌<◌, ◌≤◌, ℤ, pos, Bool, true, false, cond, List, [], ◌∷◌, length}
use Rattle.std.proofs.Common.{slice_get, slice_index_or, slice_set, Some, arith, ⊎_elim, true≢false}
use Rattle.std.specs.Prelude.{IsTrue, MatchBool}
use Rattle.std.proofs.lemmas.Bool.{cases_lt}
use Rattle.std.proofs.lemmas.List.{get_or-set_other, get_or-set_same, length-set}
use Rattle.std.proofs.lemmas.Option.{same_Some, slice_get_within}
use Rattle.ft_core.specs.declared.tables.Tables.{Tables}
use Rattle.ft_core.specs.declared.tables.Var.{Var}
use Rattle.ft_core.specs.declared.tables.VarKind.TheVariants as kind
use Rattle.ft_core.specs.declared.tables.Side.{Side}
use Rattle.ft_core.specs.declared.tables.Side.TheVariants as side
use Rattle.ft_core.specs.meaning.Kinds.{controlled, count_of, outputs, place_of, side_kinds}
use Rattle.ft_mean.specs.meaning.Reading.{IsVar, reading_of}
use Rattle.ft_mean.specs.meaning.Refines.{SameAt}
use Rattle.ft_replay.specs.scans.Differing.{DiffersAt, IsAlike, IsDifferent}
use Rattle.ft_replay.specs.laws.Laws.{Laws}
use Rattle.ft_replay.specs.scans.Outputs.{AreOutputs}
use Rattle.ft_replay.specs.scans.Rows.{HasPlaces}
use Rattle.ft_core.specs.laws.VarPlaces.{counted, own-place, passed}
use Rattle.ft_replay.proofs.CountLemmas.{controlled-of-requirement, goes-with, output-of-design}

-- the place in a row of the next variable of a side
pub record IsPlace (S : Tables) (s : Side) (n at : ℕ) : Type 0 where
  pub place : at ≡ place_of (side_kinds s) S.vars n
  pub low : at ≤ n

pub place-more : (S : Tables) (s : Side) (n at next : ℕ) (v : Var) → slice_get S.vars n ≡ Some v → IsPlace S s n at
    → next ≡ cond (side_kinds s n v) (at + 1) at → IsPlace S s (n + 1) next
place-more S s n at next v there is next_is = record {
  place = goes-with (side_kinds s) S.vars n v there at next is.place next_is;
  low = by (side_kinds s n v) next_is;
}
  where
    by : (b : Bool) → next ≡ cond b (at + 1) at → next ≤ n + 1
    by true e = omega (arith, e, is.low)
    by false e = omega (arith, e, is.low)

-- the first n variables that are outputs have their values, at places before that of the next one
pub record ArePutOut (S : Tables) (design : List ℤ) (n : ℕ) (old new : List ℤ) : Type 0 where
  pub width : length new ≡ length old
  pub below : (x : ℕ) (v : Var) → x < n → IsVar S outputs x v → place_of outputs S.vars x < place_of outputs S.vars n
  pub told : (x : ℕ) (v : Var) → x < n → IsVar S outputs x v
      → slice_index_or new (place_of outputs S.vars x) (pos 0) ≡ slice_index_or design (place_of (side_kinds side.Sof) S.vars x) (pos 0)

-- the first n variables that are controlled have one value in both rows
abbrev pub AreAlike : Tables → (required row : List ℤ) → ℕ → Type 0
AreAlike S required row n = (x : ℕ) (v : Var) → x < n → IsVar S controlled x v
    → slice_index_or required (place_of (side_kinds side.Req) S.vars x) (pos 0) ≡ slice_index_or row (place_of controlled S.vars x) (pos 0)

module _ (L : Laws) (S : Tables) (n : ℕ) (v : Var) (there : slice_get S.vars n ≡ Some v) where
  -- an output has its places in the row of the design and in that of the outputs
  pub output-places : (design row : List ℤ) (at : ℕ) → IsPlace S side.Sof n at → length design ≡ count_of (side_kinds side.Sof) S.vars
      → length row ≡ count_of outputs S.vars → HasPlaces outputs v at design row
  output-places design row at is wide room out =
      let inside = L.inside S (side_kinds side.Sof) n v (there, output-of-design n v out) in
      let among = L.inside S outputs n v (there, out) in
      (omega (arith, inside, wide, is.place), omega (arith, among, room, own-place S kind.Output n v (there, out)))

  pub controlled-places : (required row : List ℤ) (at : ℕ) → IsPlace S side.Req n at
      → length required ≡ count_of (side_kinds side.Req) S.vars
      → length row ≡ count_of controlled S.vars → HasPlaces controlled v at required row
  controlled-places required row at is wide room out =
      let inside = L.inside S (side_kinds side.Req) n v (there, controlled-of-requirement n v out) in
      let among = L.inside S controlled n v (there, out) in
      (omega (arith, inside, wide, is.place), omega (arith, among, room, own-place S kind.Con n v (there, out)))

  -- one more variable
  pub put-more : (design old now new : List ℤ) (at : ℕ) → IsPlace S side.Sof n at → length old ≡ count_of outputs S.vars
      → ArePutOut S design n old now
      → MatchBool (outputs 0 v) (new ≡ slice_set now v.place (slice_index_or design at (pos 0))) (new ≡ now)
      → ArePutOut S design (n + 1) old new
  put-more design old now new at is room so_far put = by (outputs n v) refl put
    where
      one-of : (x : ℕ) (w : Var) → x < n + 1 → IsVar S outputs x w → (x < n → ⊥) → (x ≡ n) × IsTrue (outputs n v)
      one-of x w less var least =
          let e : x ≡ n = omega (arith, less, least) in
          (e, ap (λ (u : Var). outputs n u) (same_Some v w (sym there ∙ ap (λ (k : ℕ). slice_get S.vars k) (sym e) ∙ var.0)) ∙ var.1)

      by : (b : Bool) → outputs n v ≡ b → MatchBool b (new ≡ slice_set now v.place (slice_index_or design at (pos 0))) (new ≡ now)
          → ArePutOut S design (n + 1) old new
      by true out e =
          let place : v.place ≡ place_of outputs S.vars n = own-place S kind.Output n v (there, out) in
          let among = L.inside S outputs n v (there, out) in
          let next = counted outputs S.vars n v there out in
          record {
            width = ap length e ∙ length-set now v.place _ ∙ so_far.width;
            below = λ x w less var. ⊎_elim
                (λ l. let b = so_far.below x w l var in omega (arith, b, next))
                (λ m. let q : place_of outputs S.vars x ≡ place_of outputs S.vars n = ap (place_of outputs S.vars)
                (one-of x w less var (λ l. omega (arith, l, m))).0 in omega (arith, q, next))
                (cases_lt x n);
            told = λ x w less var. ⊎_elim
                (λ l. ap (λ (row : List ℤ). slice_index_or row (place_of outputs S.vars x) (pos 0)) e
                ∙ get_or-set_other now v.place (place_of outputs S.vars x) _ (pos 0) (λ q. let b = so_far.below x w l var in
                omega (arith, b, place, q))
                ∙ so_far.told x w l var)
                (λ m. let q : x ≡ n = (one-of x w less var (λ l. omega (arith, l, m))).0 in
                ap (λ (row : List ℤ). slice_index_or row (place_of outputs S.vars x) (pos 0)) e
                ∙ ap (λ (k : ℕ). slice_index_or (slice_set now v.place (slice_index_or design at (pos 0))) k (pos 0))
                (ap (place_of outputs S.vars) q ∙ sym place)
                ∙ get_or-set_same now v.place (slice_index_or design at (pos 0)) (pos 0) (omega (arith, among, place, so_far.width, room))
                ∙ ap (λ (k : ℕ). slice_index_or design k (pos 0)) (is.place ∙ ap (place_of (side_kinds side.Sof) S.vars) (sym q)))
                (cases_lt x n);
          }
      by false other e =
          let next = passed outputs S.vars n v there other in
          record {
            width = ap length e ∙ so_far.width;
            below = λ x w less var. ⊎_elim
                (λ l. let b = so_far.below x w l var in omega (arith, b, next))
                (λ m. absurd (true≢false (sym (one-of x w less var (λ l. omega (arith, l, m))).1 ∙ other)))
                (cases_lt x n);
            told = λ x w less var. ⊎_elim
                (λ l. ap (λ (row : List ℤ). slice_index_or row (place_of outputs S.vars x) (pos 0)) e ∙ so_far.told x w l var)
                (λ m. absurd (true≢false (sym (one-of x w less var (λ l. omega (arith, l, m))).1 ∙ other)))
                (cases_lt x n);
          }

  pub alike-more : (required row : List ℤ) (at : ℕ) → IsPlace S side.Req n at → AreAlike S required row n → IsAlike v at required row
      → AreAlike S required row (n + 1)
  alike-more required row at is so_far one x w less var = ⊎_elim
      (λ l. so_far x w l var)
      (λ m. let q : x ≡ n = omega (arith, less, m) in
      let out : IsTrue (controlled n v) = ap (λ (u : Var). controlled n u)
      (same_Some v w (sym there ∙ ap (λ (k : ℕ). slice_get S.vars k) (sym q) ∙ var.0)) ∙ var.1 in
      ap (λ (k : ℕ). slice_index_or required k (pos 0)) (ap (place_of (side_kinds side.Req) S.vars) q ∙ sym is.place)
      ∙ one out
      ∙ ap (λ (k : ℕ). slice_index_or row k (pos 0)) (own-place S kind.Con n v (there, out) ∙ ap (place_of controlled S.vars) (sym q)))
      (cases_lt x n)

  -- one that has two values
  pub differ-here : (required row : List ℤ) (at : ℕ) → IsPlace S side.Req n at → IsDifferent v at required row
      → DiffersAt S (required ∷ []) (row ∷ []) 0
  differ-here required row at is other = record {
    variable = n;
    declared = v;
    is_controlled = (there, other.0);
    differs = λ e. other.1 (ap (λ (k : ℕ). slice_index_or required k (pos 0)) is.place
        ∙ sym (L.at_place S (side_kinds side.Req) (required ∷ []) 0 n v (there, controlled-of-requirement n v other.0)) ∙ e
        ∙ L.at_place S controlled (row ∷ []) 0 n v (there, other.0)
        ∙ ap (λ (k : ℕ). slice_index_or row k (pos 0)) (sym (own-place S kind.Con n v (there, other.0))));
  }

module _ (L : Laws) (S : Tables) (n : ℕ) (all : n ≡ length S.vars) where
  within : (x : ℕ) (v : Var) → slice_get S.vars x ≡ Some v → x < n
  within x v is = let l = slice_get_within S.vars x v is in omega (arith, l, all)

  -- all variables
  pub all-put-out : (design old new : List ℤ) → ArePutOut S design n old new → AreOutputs S (design ∷ []) (new ∷ [])
  all-put-out design old new put = (
    refl,
    λ t x v l is.
        let e : t ≡ 0 = omega (arith, l) in
        subst (λ (k : ℕ). reading_of S (side_kinds side.Sof) (design ∷ []) k x ≡ reading_of S outputs (new ∷ []) k x) (sym e)
        (L.at_place S (side_kinds side.Sof) (design ∷ []) 0 x v (is.0, output-of-design x v is.1)
        ∙ sym (put.told x v (within x v is.0) is) ∙ sym (L.at_place S outputs (new ∷ []) 0 x v is)),
  )

  pub all-alike : (required row : List ℤ) → AreAlike S required row n → SameAt S (required ∷ []) (row ∷ []) 0
  all-alike required row alike x v is =
      L.at_place S (side_kinds side.Req) (required ∷ []) 0 x v (is.0, controlled-of-requirement x v is.1)
      ∙ alike x v (within x v is.0) is ∙ sym (L.at_place S controlled (row ∷ []) 0 x v is)
