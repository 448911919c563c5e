-- The place of the first that passes, and where there is one.
use Rattle.std.proofs.Common.{◌≡◌, ◌∙◌, ◌≤◌, inl, inr, ap, ℕ, Bool, cond, not, nat_lt, false, List, length, position, Some, None, arith}
use Rattle.std.specs.List.{position_or_len}
use Rattle.std.proofs.lemmas.Bool.{cases_Bool}
use Rattle.std.proofs.lemmas.List.Sums.{prefix_len-le-length}

module _ {X : Type 0} (p : X → Bool) (xs : List X) where
  abbrev first : ℕ
  first = position_or_len p xs

  pub place-there : (place : ℕ) → Some place ≡ position p xs → place ≡ first
  place-there place at = elim (cases_Bool (nat_lt first (length xs))) [
    | inl within ↦ cc (at ∙ ap (λ b. cond b (Some first) None) within)
    | inr past ↦ cc (at ∙ ap (λ b. cond b (Some first) None) past)
  ]

  pub place-absent : None ≡ position p xs → length xs ≡ first
  place-absent at = elim (cases_Bool (nat_lt first (length xs))) [
    | inl within ↦ cc (at ∙ ap (λ b. cond b (Some first) None) within)
    | inr past ↦ at-most first (length xs) past (prefix_len-le-length (λ x. not (p x)) xs)
  ]
    where
      at-most : (a b : ℕ) → nat_lt a b ≡ false → a ≤ b → b ≡ a
      at-most a b past most = grind (arith, past, most)
