-- What can be computed of a list of rows can be computed of a row.
use Rattle.std.proofs.Common.{◌≡◌, List, Some, slice_get, ℕ}
use Rattle.std.specs.List.{list_all}
use Rattle.ft_core.specs.checked.Size.{is_sized_term, is_sized}
use Rattle.ft_core.specs.declared.term.Term.{Term}
use Rattle.ft_core.specs.declared.term.Cond.{Cond}
use Rattle.ft_mean.specs.judge.Safe.{AreSafeConds, AreSafe, AreSafeRows, AreSafeCondRows}
use Rattle.ft_mean.specs.meaning.Value.{View}
use Rattle.ft_oblige.specs.laws.Tests.{at_place}
use Rattle.ft_cover.specs.laws.Laws.{Laws}

module _ (laws : Laws) (V : View) where
  pub row_safe : (rows : List (List Term)) (i : ℕ) (es : List Term) → slice_get rows i ≡ Some es → AreSafeRows V rows → AreSafe V es
  row_safe rows i es at = laws.by_less V _ _ (λ vars memories h. at_place (list_all (is_sized_term vars memories)) rows h i es at)

  pub conds_safe : (rows : List (List Cond)) (i : ℕ) (cs : List Cond) → slice_get rows i ≡ Some cs → AreSafeCondRows V rows
      → AreSafeConds V cs
  conds_safe rows i cs at = laws.by_less V _ _ (λ vars memories h. at_place (list_all (is_sized vars memories)) rows h i cs at)
