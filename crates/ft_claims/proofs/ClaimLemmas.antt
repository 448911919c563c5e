-- Comparisons over numbered names, by at most and less.
use Rattle.std.proofs.Common.{◌≡◌, ◌∙◌, ap, ℕ, ℤ, true, not, ◌&&◌, [], ◌∷◌, arith}
use Rattle.std.specs.Prelude.{int_le, int_lt}
use Rattle.std.specs.Ordering.{int_eq}
use Rattle.std.proofs.lemmas.Int.{ints}
use Rattle.ft_core.specs.declared.term.Rel.{Rel}
use Rattle.ft_core.specs.declared.term.Rel.TheVariants as rel
use Rattle.ft_mean.specs.meaning.Value.{compares}
use Rattle.ft_claims.specs.declared.claim.Sym.{Sym}
use Rattle.ft_claims.specs.declared.claim.Claim.TheVariants.{Le, Lt, Not}
use Rattle.ft_claims.specs.meaning.Claims.{sym_value, claim_true, equal, compared}
use Rattle.ft_claims.specs.laws.Equations.{true-Le, true-Lt, true-Not, true-And}

le_not_lt : (a b : ℤ) → (int_le a b && (not (int_lt a b) && true)) ≡ int_eq a b
le_not_lt a b = grind (arith, ints)

not_lt : (a b : ℤ) → not (int_lt a b) ≡ int_le b a
not_lt a b = grind (arith, ints)

not_le : (a b : ℤ) → not (int_le a b) ≡ int_lt b a
not_le a b = grind (arith, ints)

module _ (σ : ℕ → ℤ) where
  pub true-equal : (a b : Sym) → claim_true σ (equal a b) ≡ int_eq (sym_value σ a) (sym_value σ b)
  true-equal a b =
      true-And σ (Le a b ∷ Not (Lt a b) ∷ [])
      ∙ (λ i. true-Le σ a b i && ((true-Not σ (Lt a b) ∙ ap not (true-Lt σ a b)) i && true))
      ∙ le_not_lt (sym_value σ a) (sym_value σ b)

  pub true-ge : (a b : Sym) → claim_true σ (Not (Lt a b)) ≡ int_le (sym_value σ b) (sym_value σ a)
  true-ge a b = true-Not σ (Lt a b) ∙ ap not (true-Lt σ a b) ∙ not_lt (sym_value σ a) (sym_value σ b)

  pub true-gt : (a b : Sym) → claim_true σ (Not (Le a b)) ≡ int_lt (sym_value σ b) (sym_value σ a)
  true-gt a b = true-Not σ (Le a b) ∙ ap not (true-Le σ a b) ∙ not_le (sym_value σ a) (sym_value σ b)

  pub true-compared : (r : Rel) (a b : Sym) → claim_true σ (compared r a b) ≡ compares r (sym_value σ a) (sym_value σ b)
  true-compared rel.Eq a b = true-equal a b
  true-compared rel.Ne a b = true-Not σ (equal a b) ∙ ap not (true-equal a b)
  true-compared rel.Lt a b = true-Lt σ a b
  true-compared rel.Le a b = true-Le σ a b
  true-compared rel.Gt a b = true-gt a b
  true-compared rel.Ge a b = true-ge a b
