-- What reads something is an item.
use Rattle.std.proofs.Common.{arith, ◌≡◌, ap, inl, inr, ℕ, [], List, ◌<◌, length, slice_index_or}
use Rattle.std.proofs.lemmas.Bool.{cases_lt}
use Rattle.std.proofs.lemmas.List.{get_or_past}
use Rattle.ft_core.specs.meaning.Order.{ReadsItem}

pub reader-is-item : (reads : List (List ℕ)) (k q : ℕ) → ReadsItem reads k q → k < length reads
reader-is-item reads k q r = elim (cases_lt k (length reads)) [
  | inl less ↦ less
  | inr past ↦
      let none : slice_index_or reads k [] ≡ [] = get_or_past reads k [] past in
      let short : length (slice_index_or reads k []) ≡ 0 = ap length none in
      absurd (omega (arith, short, r.1))
]
