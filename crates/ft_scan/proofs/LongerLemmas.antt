-- What a list of scans tells once a scan is put at its end.
use Rattle.std.proofs.Common.{◌∙◌, sym, ap, subst, ℤ, List, [], ◌∷◌, ◌++◌, length, arith, ⊎_elim}
use Rattle.std.proofs.lemmas.Bool.{cases_lt}
use Rattle.std.proofs.lemmas.List.{length_push, get_or_push, get_or_append_left}
use Rattle.ft_base.specs.Interval.{IsWithin}
use Rattle.ft_core.specs.declared.tables.Tables.{Tables}
use Rattle.ft_core.specs.meaning.Kinds.{Kinds}
use Rattle.ft_mean.specs.laws.Ends.{last-tells}
use Rattle.ft_mean.specs.meaning.Reading.{Scans, IsListOf}
use Rattle.ft_scan.specs.laws.Laws.{Laws}

module _ (L : Laws) where
  -- a list of the kind goes on by a scan of the kind
  pub list_longer : (S : Tables) (kinds : Kinds) (h : Scans) (g : List ℤ) → IsListOf S kinds h → IsListOf S kinds (g ∷ [])
      → IsListOf S kinds (h ++ g ∷ [])
  list_longer S kinds h g list one = record {
    widths = λ t l. ⊎_elim
        (λ less. ap length (get_or_append_left h (g ∷ []) [] t less) ∙ list.widths t less)
        (λ most. ap length (get_or_push h g [] t (omega (arith, l, most, length_push h g))) ∙ one.widths 0 (omega arith))
        (cases_lt t (length h));
    ranges = λ t x v l is. ⊎_elim
        (λ less. subst (λ z. IsWithin v.range z) (sym (L.in_front S kinds h (g ∷ []) t x less)) (list.ranges t x v less is))
        (λ most. subst (λ z. IsWithin v.range z) (sym (last-tells S kinds h g t x (omega (arith, l, most, length_push h g))))
        (one.ranges 0 x v (omega arith) is))
        (cases_lt t (length h));
  }
