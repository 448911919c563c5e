-- Where the value of a variable stands in a scan.
use Rattle.std.proofs.Common.{◌≡◌, ◌∙◌, sym, ap, subst, refl, ℕ, zero, suc, ◌<◌, true, false, cond, List, [], ◌∷◌, length, slice_set}
use Rattle.std.specs.List.{count_by, filter}
use Rattle.std.proofs.lemmas.List.Sums.{length-filter}
use Rattle.ft_core.specs.declared.tables.Tables.{Tables}
use Rattle.ft_core.specs.declared.tables.Var.{Var}
use Rattle.ft_core.specs.declared.tables.VarKind.TheVariants as kind
use Rattle.ft_core.specs.meaning.Kinds.{Kinds, after_first, count_of, monitored}
use Rattle.ft_core.specs.laws.VarPlaces.{below-count, own-place}
use Rattle.ft_mean.specs.meaning.Reading.{IsVar}
use Rattle.ft_trace.specs.rows.Row.{is_monitored}

pub set-length : {A : Type 0} (xs : List A) (i : ℕ) (y : A) → length (slice_set xs i y) ≡ length xs
set-length [] i y = refl
set-length (x ∷ xs) zero y = refl
set-length (x ∷ xs) (suc i) y = ap suc (set-length xs i y)

-- the monitored ones are those that a test of the declaration passes, wherever they stand
counted-by : (kinds : Kinds) → ((x : ℕ) (v : Var) → kinds x v ≡ is_monitored v) → (vars : List Var)
    → count_of kinds vars ≡ length (filter is_monitored vars)
counted-by kinds same [] = refl
counted-by kinds same (v ∷ vars) =
    ap (λ b. cond b (suc (count_of (after_first kinds) vars)) (count_of (after_first kinds) vars)) (same zero v)
    ∙ elim (is_monitored v) as (λ b. cond b (suc (count_of (after_first kinds) vars)) (count_of (after_first kinds) vars)
    ≡ length (cond b (v ∷ filter is_monitored vars) (filter is_monitored vars))) [
      | true ↦ ap suc (counted-by (after_first kinds) (λ x. same (suc x)) vars)
      | false ↦ counted-by (after_first kinds) (λ x. same (suc x)) vars
    ]

pub filtered : (vars : List Var) → count_of monitored vars ≡ length (filter is_monitored vars)
filtered vars = counted-by monitored (λ x v. refl) vars

pub counted : (vars : List Var) → count_of monitored vars ≡ count_by is_monitored vars
counted vars = filtered vars ∙ length-filter is_monitored vars

-- the place that a monitored variable is said to have is inside a scan
pub place-within : (S : Tables) (x : ℕ) (v : Var) → IsVar S monitored x v → v.place < count_of monitored S.vars
place-within S x v is = subst (λ (p : ℕ). p < count_of monitored S.vars) (sym (own-place S kind.Mon x v is))
    (below-count monitored S.vars x v is.0 is.1)
