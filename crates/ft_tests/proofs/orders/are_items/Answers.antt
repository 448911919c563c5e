use Rattle.std.proofs.Common.{arith, ◌∙◌, ap, sym, subst, refl, inl, inr, ℕ, List, [], length, slice_index_or, Contains}
use Rattle.std.proofs.lemmas.Bool.{cases_eq}
use Rattle.std.proofs.lemmas.List.{get_or_default}
use Rattle.ft_core.specs.meaning.Order.{ReadsItem}
use Rattle.ft_tests.proofs.OrderLemmas.{reader-is-item}
use Rattle.ft_tests.proofs.orders.are_items.Goals as goal

pub rows-preserved : goal.rows-preserved
rows-preserved c = λ k q less r. elim (cases_eq k c.rows.row-index) [
  | inl e ↦
      let row =
      ap (λ (l : List (List ℕ)). slice_index_or l c.rows.row-index []) (sym c.as_slice-row-items.ensures)
      ∙ get_or_default c.as_slice-row-items.result.now c.rows.row-index [] c.row-item.result c.rows-test.true ∙ sym c.row-item.is
      ∙ sym c.as_slice.ensures in
      let below = c.if-not-are_below.ensures refl q (subst (λ (l : List ℕ). Contains l q) row
      (subst (λ (j : ℕ). ReadsItem c.args.reads.now j q) e r)) in
      omega (arith, below, c.len.ensures)
  | inr other ↦ c.rows.invariant k q (omega (arith, less, other)) r
]

pub returns : goal.returns
returns c = λ _ k q r.
    c.rows.invariant k q (let item = reader-is-item c.args.reads.now k q r in let same = ap length c.as_slice-row-items.ensures in
    omega (arith, item, same, c.rows-test.false)) r
