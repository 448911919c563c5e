-- A row in range keeps the sizes of its set, and clauses that read no more hold as in a list.
use Rattle.std.proofs.Common.{◌≡◌, ◌∙◌, sym, ap, subst, refl, ℕ, ◌≤◌, max, ℤ, pos, negsuc, Bool, true, false, ◌&&◌, List, [], ◌∷◌, ◌++◌}
use Rattle.std.proofs.Common.{slice_get, Option, Some, None, arith, ⊎_elim}
use Rattle.std.specs.Prelude.{unsigned_abs, if◌then◌else◌}
use Rattle.std.specs.List.{list_all}
use Rattle.std.proofs.lemmas.Int.{ints}
use Rattle.std.proofs.lemmas.Bool.{and_parts, cond-true, cond-false, cases_Bool}
use Rattle.std.proofs.lemmas.List.Folds.{list_all-append}
use Rattle.ft_base.specs.Interval.{IsWithin}
use Rattle.ft_core.specs.declared.tables.Tables.{Tables}
use Rattle.ft_core.specs.declared.tables.Var.{Var}
use Rattle.ft_core.specs.declared.tables.Memory.{Memory}
use Rattle.ft_core.specs.declared.tables.Memory.TheVariants.{Held, Hyst}
use Rattle.ft_core.specs.declared.term.Cond.{Cond}
use Rattle.ft_core.specs.meaning.Kinds.{Kinds, monitored, is_of}
use Rattle.ft_core.specs.meaning.Reads.{Read, cond_reads}
use Rattle.ft_core.specs.checked.Size.{var_size, age_size, is_sized}
use Rattle.ft_core.specs.checked.Sound.{AllRead, now_of, step_of}
use Rattle.ft_mean.specs.meaning.Allowed.{nat_at}
use Rattle.ft_mean.specs.meaning.Value.{View, truth}
use Rattle.ft_mean.specs.meaning.Reading.{IsListOf, reading_of, init_of}
use Rattle.ft_mean.specs.meaning.Memory.{look}
use Rattle.ft_mean.specs.laws.Alike.{now_alike, step_alike}
use Rattle.ft_mean.specs.laws.EvaluationLaws.{Same}
use Rattle.ft_core.specs.laws.Lists.{from_one}
use Rattle.ft_scan.specs.steps.Rows.{row_view}
use Rattle.ft_mean.specs.judge.Safe.{KeepsSizes, AreSafeConds}
use Rattle.ft_scan.specs.laws.Laws.{Laws}

within_size : (range : ℤ × ℤ) (z : ℤ) → IsWithin range z → unsigned_abs z ≤ max 1 (max (unsigned_abs range.0) (unsigned_abs range.1))
within_size range z h = grind (arith, ints, h.0, h.1)

-- what is in range where a variable is, and 0 elsewhere, keeps the sizes
pub value_size : (vars : List Var) (f : ℕ → ℤ) → ((x : ℕ) (v : Var) → slice_get vars x ≡ Some v → IsWithin v.range (f x))
    → ((x : ℕ) → slice_get vars x ≡ None → f x ≡ pos 0)
    → (x : ℕ) → unsigned_abs (f x) ≤ var_size (slice_get vars x)
value_size vars f range none x = of (slice_get vars x) refl
  where
    of : (o : Option Var) → slice_get vars x ≡ o → unsigned_abs (f x) ≤ var_size o
    of None e = subst (λ z. unsigned_abs z ≤ 1) (sym (none x e)) (omega arith)
    of (Some v) e = within_size v.range (f x) (range x v e)

pub no_age : (o : Option Memory) → unsigned_abs (negsuc 0) ≤ age_size o
no_age None = omega arith
no_age (Some (Held name side c hold)) = grind arith
no_age (Some (Hyst name side e lo hi start)) = omega arith

no_init : (S : Tables) (x : ℕ) → slice_get S.vars x ≡ None → init_of S x ≡ pos 0
no_init S x e = ap (λ o. elim o as (λ z. ℤ) [ None ↦ pos 0 | Some u ↦ u.init ]) e

init_range : (S : Tables) (x : ℕ) (v : Var) → slice_get S.vars x ≡ Some v → IsWithin v.range (init_of S x)
init_range S x v e = subst (λ z. IsWithin v.range z) (sym (ap (λ o. elim o as (λ z. ℤ) [ None ↦ pos 0 | Some u ↦ u.init ]) e))
    (S.sound.inits x v e)

pub no_reading : (S : Tables) (kinds : Kinds) (row : List ℤ) (x : ℕ) → slice_get S.vars x ≡ None → reading_of S kinds (row ∷ []) 0 x ≡ pos 0
no_reading S kinds row x e =
    cond-false (is_of S.vars kinds x) _ (init_of S x) (ap (λ o. elim o as (λ z. Bool) [ None ↦ false | Some v ↦ kinds x v ]) e)
    ∙ no_init S x e

module _ (L : Laws) (S : Tables) (kinds : Kinds) (row earlier : List ℤ) (begins : Bool) (now : IsListOf S kinds (row ∷ []))
    (before : begins ≡ false → IsListOf S kinds (earlier ∷ [])) where
  pub row_keeps : KeepsSizes S.vars S.memories (row_view S kinds row earlier begins)
  row_keeps = record {
    now = value_size S.vars (reading_of S kinds (row ∷ []) 0) (λ x v e. L.in_range S kinds (row ∷ []) now 0 x v (omega arith) e)
        (no_reading S kinds row);
    before = value_size S.vars (λ x. if begins then init_of S x else reading_of S kinds (earlier ∷ []) 0 x)
        (λ x v e. ⊎_elim
        (λ is. subst (λ z. IsWithin v.range z) (sym (cond-true begins (init_of S x) (reading_of S kinds (earlier ∷ []) 0 x) is))
        (init_range S x v e))
        (λ not_so. subst (λ z. IsWithin v.range z) (sym (cond-false begins (init_of S x) (reading_of S kinds (earlier ∷ []) 0 x) not_so))
        (L.in_range S kinds (earlier ∷ []) (before not_so) 0 x v (omega arith) e))
        (cases_Bool begins))
        (λ x e. elim begins as (λ b. (if b then init_of S x else reading_of S kinds (earlier ∷ []) 0 x) ≡ pos 0)
        [ true ↦ no_init S x e | false ↦ no_reading S kinds earlier x e ]);
    age = λ m. no_age (slice_get S.memories m);
  }

  clauses_sized : (list_all (is_sized S.vars S.memories) S.first ≡ true) × (list_all (is_sized S.vars S.memories) S.always ≡ true)
      × (list_all (is_sized S.vars S.memories) S.step ≡ true)
  clauses_sized =
      let test = is_sized S.vars S.memories in
      let outer = and_parts (list_all test (S.first ++ S.always)) (list_all test S.step)
      (sym (list_all-append test (S.first ++ S.always) S.step) ∙ S.sound.sized_clauses) in
      let inner = and_parts (list_all test S.first) (list_all test S.always) (sym (list_all-append test S.first S.always) ∙ outer.0) in
      (inner.0, inner.1, outer.1)

  pub safe_first : AreSafeConds (row_view S kinds row earlier begins) S.first
  safe_first = record { vars = S.vars; memories = S.memories; keeps = row_keeps; small = clauses_sized.0 }

  pub safe_always : AreSafeConds (row_view S kinds row earlier begins) S.always
  safe_always = record { vars = S.vars; memories = S.memories; keeps = row_keeps; small = clauses_sized.1 }

  pub safe_step : AreSafeConds (row_view S kinds row earlier begins) S.step
  safe_step = record { vars = S.vars; memories = S.memories; keeps = row_keeps; small = clauses_sized.2 }

module _ (L : Laws) where
  -- clauses whose reads are seen alike hold alike
  clauses_alike : (may : Read → Bool) (conds : List Cond) (V W : View) → AllRead may conds → ((r : Read) → may r ≡ true → Same V W r)
      → list_all (truth V) conds ≡ list_all (truth W) conds
  clauses_alike may conds V W all same =
      L.same_truths V W conds (λ r c. let at = from_one cond_reads conds r c in same r (all at.0 at.1 r at.2 at.3))

  -- the environment's clauses at a scan that begins or doesn't
  abbrev clauses_where : Tables → View → (begins : Bool) → Bool
  clauses_where S W begins = list_all (truth W) S.always && list_all (truth W) (if begins then S.first else S.step)

  -- the clauses at a row are those at the one scan of a list, or at the second of two
  pub begin_is : (S : Tables) (row : List ℤ) → (list_all (truth (row_view S monitored row [] true)) S.always
      && list_all (truth (row_view S monitored row [] true)) S.first)
      ≡ nat_at S (reading_of S monitored (row ∷ [])) 0
  begin_is S row =
      let V = row_view S monitored row [] true in
      let a = reading_of S monitored (row ∷ []) in
      let W = look S a 0 in
      let always = clauses_alike (now_of S.vars monitored) S.always V W S.sound.always_reads (now_alike S V W (λ x. refl)) in
      let first = clauses_alike (now_of S.vars monitored) S.first V W S.sound.first_reads (now_alike S V W (λ x. refl)) in
      (λ i. always i && first i) ∙ ap (clauses_where S W) (sym (L.begins_first S a))

  pub follow_is : (S : Tables) (earlier row : List ℤ)
      → (list_all (truth (row_view S monitored row earlier false)) S.always
      && list_all (truth (row_view S monitored row earlier false)) S.step)
      ≡ nat_at S (reading_of S monitored (earlier ∷ row ∷ [])) 1
  follow_is S earlier row =
      let V = row_view S monitored row earlier false in
      let a = reading_of S monitored (earlier ∷ row ∷ []) in
      let W = look S a 1 in
      let always = clauses_alike (now_of S.vars monitored) S.always V W S.sound.always_reads (now_alike S V W (λ x. refl)) in
      let past : (x : ℕ) → V.before x ≡ W.before x = λ x. sym (L.before_later S a 0 x (L.begins_once S a 0)) in
      let next = clauses_alike (step_of S.vars monitored) S.step V W S.sound.step_reads (step_alike S V W (λ x. refl) past) in
      (λ i. always i && next i) ∙ ap (clauses_where S W) (sym (L.begins_once S a 0))
