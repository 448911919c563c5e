-- An environment with no clause allows each monitored list.
use Rattle.std.proofs.Common.{◌≡◌, sym, subst, refl, ℕ, Bool, true, false, cond, ◌&&◌, List, []}
use Rattle.std.specs.List.{list_all}
use Rattle.ft_core.specs.declared.tables.Tables.{Tables}
use Rattle.ft_core.specs.meaning.Kinds.{monitored}
use Rattle.ft_mean.specs.meaning.Allowed.{Allowed, IsMonitored, nat_at}
use Rattle.ft_mean.specs.meaning.Memory.{look}
use Rattle.ft_mean.specs.meaning.Reading.{Reading, Scans, begins, reading_of}
use Rattle.ft_mean.specs.meaning.Value.{truth}

both_empty : {A : Type 0} (test : A → Bool) (xs ys : List A) → xs ≡ [] → ys ≡ [] → (list_all test xs && list_all test ys) ≡ true
both_empty test xs ys e f = subst (λ l. (list_all test l && list_all test ys) ≡ true) (sym e)
    (subst (λ l. list_all test l ≡ true) (sym f) refl)

module _ (S : Tables) (no_first : S.first ≡ []) (no_always : S.always ≡ []) (no_step : S.step ≡ []) where
  -- no scan has a clause, whether it begins or not
  none_where : (begins : Bool) → cond begins S.first S.step ≡ []
  none_where true = no_first
  none_where false = no_step

  no_clause : (ρ : Reading) (t : ℕ) → nat_at S ρ t ≡ true
  no_clause ρ t = both_empty (truth (look S ρ t)) S.always (cond (begins S ρ t) S.first S.step) no_always (none_where (begins S ρ t))

  pub all_allowed : (h : Scans) → IsMonitored S h → Allowed S h
  all_allowed h list = record { monitored_list = list; clauses = λ t l. no_clause (reading_of S monitored h) t }
