-- The rows of a list that a point tells, as they are made.
use Rattle.std.proofs.Common.{◌≡◌, ◌∙◌, sym, ap, subst, ℕ, ◌+◌, ◌*◌, ◌<◌, ◌≤◌, ℤ, pos, true, false, List, [], ◌∷◌, ◌++◌, length}
use Rattle.std.proofs.Common.{slice_get, slice_index_or, Some, arith, ⊎_elim, true≢false}
use Rattle.std.proofs.lemmas.Bool.{cases_lt}
use Rattle.std.proofs.lemmas.List.{get_or_append_left, get_or_push, length_push, take_all}
use Rattle.std.proofs.lemmas.Option.{same_Some, slice_get_within}
use Rattle.ft_core.specs.declared.tables.Tables.{Tables}
use Rattle.ft_core.specs.declared.tables.Var.{Var}
use Rattle.ft_core.specs.laws.VarPlaces.{counted, passed, lower-place}
use Rattle.ft_core.specs.meaning.Kinds.{monitored, place_of, count_of}
use Rattle.ft_mean.specs.meaning.Reading.{Scans, IsVar}
use Rattle.ft_claims.specs.meaning.Names.{width}
use Rattle.ft_unroll.specs.building.Telling.{told_or, IsRowBefore, IsRow, AreRows}

module _ (S : Tables) (names : List ℕ) (values : List ℤ) where
  module _ (base n : ℕ) (v : Var) (there : slice_get S.vars n ≡ Some v) (row new : List ℤ)
      (is : IsRowBefore S names values base n row) where
    same-var : (x : ℕ) (w : Var) → x ≡ n → IsVar S monitored x w → w ≡ v
    same-var x w e var = same_Some w v (sym var.0 ∙ ap (λ k. slice_get S.vars k) e ∙ there)

    -- one more variable that is monitored
    pub row-more : (value : ℤ) → monitored n v ≡ true → value ≡ told_or names values (base + n) v.range.0 → new ≡ row ++ value ∷ []
        → IsRowBefore S names values base (n + 1) new
    row-more value mine its e = record {
      width = ap length e ∙ length_push row value ∙ ap (λ k. k + 1) is.width ∙ sym (counted monitored S.vars n v there mine);
      told = λ x w less var. ⊎_elim
          (λ l.
          let before = lower-place monitored S.vars x n w l var.0 var.1 in
          ap (λ (r : List ℤ). slice_index_or r (place_of monitored S.vars x) (pos 0)) e
          ∙ get_or_append_left row (value ∷ []) (pos 0) (place_of monitored S.vars x)
          (subst (λ k. place_of monitored S.vars x < k) (sym is.width) before)
          ∙ is.told x w l var)
          (λ most.
          let q : x ≡ n = omega (arith, less, most) in
          ap (λ (r : List ℤ). slice_index_or r (place_of monitored S.vars x) (pos 0)) e
          ∙ get_or_push row value (pos 0) (place_of monitored S.vars x) (is.width ∙ ap (place_of monitored S.vars) (sym q))
          ∙ its ∙ (λ i. told_or names values (base + sym q i) (sym (same-var x w q var) i).range.0))
          (cases_lt x n);
    }

    -- one that is not
    pub row-same : monitored n v ≡ false → new ≡ row → IsRowBefore S names values base (n + 1) new
    row-same other e = record {
      width = ap length e ∙ is.width ∙ sym (passed monitored S.vars n v there other);
      told = λ x w less var. ⊎_elim
          (λ l. ap (λ (r : List ℤ). slice_index_or r (place_of monitored S.vars x) (pos 0)) e ∙ is.told x w l var)
          (λ most.
          let q : x ≡ n = omega (arith, less, most) in
          absurd (true≢false (sym var.1 ∙ (λ i. monitored (q i) (same-var x w q var i)) ∙ other)))
          (cases_lt x n);
    }

  -- all variables
  pub row-all : (base n : ℕ) (row : List ℤ) → length S.vars ≤ n → IsRowBefore S names values base n row → IsRow S names values base row
  row-all base n row past is = record {
    width = is.width ∙ ap (count_of monitored) (take_all n S.vars past);
    told = λ x v var. is.told x v (let l = slice_get_within S.vars x v var.0 in omega (arith, l, past)) var;
  }

  -- one more scan
  pub rows-more : (n base : ℕ) (h new : Scans) (row : List ℤ) → base ≡ n * width S → IsRow S names values base row
      → AreRows S names values n h → new ≡ h ++ row ∷ [] → AreRows S names values (n + 1) new
  rows-more n base h new row begins one are e = record {
    long = ap length e ∙ length_push h row ∙ ap (λ k. k + 1) are.long;
    rows = λ t less. ⊎_elim
        (λ l. subst (λ (r : List ℤ). IsRow S names values (t * width S) r)
        (sym (ap (λ (g : Scans). slice_index_or g t []) e
        ∙ get_or_append_left h (row ∷ []) [] t (subst (λ k. t < k) (sym are.long) l)))
        (are.rows t l))
        (λ most.
        let q : n ≡ t = omega (arith, less, most) in
        subst (λ (r : List ℤ). IsRow S names values (t * width S) r)
        (sym (ap (λ (g : Scans). slice_index_or g t []) e ∙ get_or_push h row [] t (are.long ∙ q)))
        (subst (λ k. IsRow S names values k row) (begins ∙ ap (λ k. k * width S) q) one))
        (cases_lt t n);
  }
