-- The members of a state, label by label.
use Rattle.std.proofs.Common.{◌≡◌, ◌∙◌, ap, sym, subst, ℕ, ℤ, ◌+◌, ◌<◌, ◌≤◌, List, [], ◌∷◌, ◌++◌, length, take, get_or, arith, take_all}
use Rattle.std.specs.Prelude.{min}
use Rattle.std.specs.List.{fold, zip}
use Rattle.std.proofs.lemmas.List.{take_more}
use Rattle.std.proofs.lemmas.List.Sums.{fold-append}
use Rattle.std.proofs.lemmas.Slice.Zip.{get_or-zip, length-zip}
use Rattle.serde_json.specs.Data.{Members, no_members}
use Rattle.ft_core.specs.declared.label.Label.{Label}
use Rattle.ft_json.specs.meaning.Values.{with_label}

module _ (labels : List Label) (values : List ℤ) where
  pairs : List (Label × ℤ)
  pairs = zip labels values

  -- a label more
  pub one-more : (i : ℕ) (label : Label) (value : ℤ) (old new : Members) → i < length labels → i < length values
      → label ≡ get_or labels i label → value ≡ get_or values i value → old ≡ fold with_label no_members (take i (zip labels values))
      → new ≡ with_label old (label, value) → new ≡ fold with_label no_members (take (i + 1) (zip labels values))
  one-more i label value old new in-labels in-values is is' so_far here =
      let long : i < length (zip labels values) = subst (λ n. i < n) (sym (length-zip labels values)) (omega (arith, in-labels, in-values)) in
      let pair = get_or-zip labels values i (label, value) in-labels in-values ∙ (λ j. (sym is j, sym is' j)) in
      let next = take_more (zip labels values) i (label, value) long ∙ ap (λ p. take i (zip labels values) ++ p ∷ []) pair in
      here ∙ ap (λ ms. with_label ms (label, value)) so_far
      ∙ sym (ap (fold with_label no_members) next ∙ fold-append with_label no_members (take i (zip labels values)) ((label, value) ∷ []))

  -- all of them
  pub all-labels : (i : ℕ) (new : Members) → i ≡ min (length labels) (length values)
      → new ≡ fold with_label no_members (take i (zip labels values)) → new ≡ fold with_label no_members (zip labels values)
  all-labels i new whole so_far =
      let least : length (zip labels values) ≤ i = omega (arith, length-zip labels values, whole) in
      so_far ∙ ap (fold with_label no_members) (take_all i (zip labels values) least)
