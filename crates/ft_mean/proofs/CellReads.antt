-- One cell at a time: what it reads, and what views that agree on that say of it.
use Rattle.std.proofs.Common.{◌≡◌, subst, refl, ℕ, zero, suc, cond, List, [], ◌∷◌, slice_get, Some}
use Rattle.std.specs.List.{Contains, flat_map}
use Rattle.std.proofs.lemmas.List.Elements.{Contains-append_left, Contains-append_right}
use Rattle.std.proofs.lemmas.Option.{none-some, same_Some}
use Rattle.ft_core.specs.meaning.Grids.{Cell, cells}
use Rattle.ft_core.specs.meaning.Reads.{cond_reads, term_reads, grid_reads}
use Rattle.ft_mean.specs.meaning.Cells.{holding}
use Rattle.ft_mean.specs.laws.EvaluationLaws.{SameCell, SameHolding}
use Rattle.ft_mean.specs.laws.TableLaws.{CellsReadTheirs}
use Rattle.ft_mean.specs.meaning.Value.{View}
use Rattle.ft_mean.proofs.Agree.{same_value}
use Rattle.ft_mean.proofs.CellLemmas.{Each, OfCell, SameCell as Alike, all_alike, cells_read, cells_alike}

pub each_get : {A : Type 0} (P : A → Type 0) (xs : List A) → Each P xs → (k : ℕ) (a : A) → slice_get xs k ≡ Some a → P a
each_get P [] h k a e = absurd (none-some a e)
each_get P (x ∷ xs) h zero a e = subst P (same_Some x a e) h.0
each_get P (x ∷ xs) h (suc k) a e = each_get P xs h.1 k a e

pub same_cell : SameCell
same_cell V W cell same = (
  all_alike V W cell.conds (λ r c. same r (Contains-append_left (flat_map cond_reads cell.conds) (term_reads cell.term) r c)),
  same_value V W cell.term (λ r c. same r (Contains-append_right (flat_map cond_reads cell.conds) (term_reads cell.term) r c)),
)

module _ (V W : View) where
  hold_alike : (cs : List Cell) → Each (Alike V W) cs → holding V cs ≡ holding W cs
  hold_alike [] h = refl
  hold_alike (c ∷ cs) h =
      let here = h.0.0 in
      let more = hold_alike cs h.1 in
      λ i. cond (here i) (c ∷ more i) (more i)

pub same_holding : SameHolding
same_holding V W cs same = hold_alike V W cs (cells_alike V W cs same)

pub cells_read_theirs : CellsReadTheirs
cells_read_theirs grid k cell r there c =
    each_get (OfCell (Contains (grid_reads grid))) (cells grid) (cells_read (Contains (grid_reads grid)) grid (λ q k. k)) k cell there r c
