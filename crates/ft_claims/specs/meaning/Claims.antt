-- What terms and conditions over numbered names say where each name stands for a number.
use Rattle.std.specs.Prelude.{ℕ, ℤ, ◌+ℤ◌, ◌-ℤ◌, ◌*ℤ◌, neg_ℤ, int_le, int_lt, Bool, not, [], ◌∷◌}
use Rattle.std.specs.List.{list_all, list_any}
use Rattle.ft_base.specs.Division.{floor_of}
use Rattle.ft_core.specs.declared.term.Rel.{Rel}
use Rattle.ft_core.specs.declared.term.Rel.TheVariants as rel
use Rattle.ft_claims.specs.declared.claim.Sym.{Sym, Sym-F, fold-Sym}
use Rattle.ft_claims.specs.declared.claim.Sym.TheOpen as part
use Rattle.ft_claims.specs.declared.claim.Claim.{Claim, Claim-F, fold-Claim}
use Rattle.ft_claims.specs.declared.claim.Claim.TheOpen as layer
use Rattle.ft_claims.specs.declared.claim.Claim.TheVariants.{Le, Lt, Not, And}

abbrev pub itself : Bool → Bool
itself b = b

-- the value of a term, from the values of its parts
abbrev pub layer_sym_value : (ℕ → ℤ) → Sym-F ℤ → ℤ
layer_sym_value σ (part.Num n) = n
layer_sym_value σ (part.Slot x) = σ x
layer_sym_value σ (part.Neg e) = neg_ℤ e
layer_sym_value σ (part.Add a b) = a +ℤ b
layer_sym_value σ (part.Sub a b) = a -ℤ b
layer_sym_value σ (part.Times c e) = c *ℤ e
layer_sym_value σ (part.Div e k) = floor_of e k

unfoldable pub sym_value : (ℕ → ℤ) → Sym → ℤ
sym_value σ = fold-Sym ℤ (layer_sym_value σ)

-- the truth of a condition, from the truths of its parts
abbrev pub layer_claim_true : (ℕ → ℤ) → Claim-F Bool → Bool
layer_claim_true σ (layer.Le a b) = int_le (sym_value σ a) (sym_value σ b)
layer_claim_true σ (layer.Lt a b) = int_lt (sym_value σ a) (sym_value σ b)
layer_claim_true σ (layer.Not inner) = not inner
layer_claim_true σ (layer.And parts) = list_all itself parts
layer_claim_true σ (layer.Or parts) = list_any itself parts

unfoldable pub claim_true : (ℕ → ℤ) → Claim → Bool
claim_true σ = fold-Claim Bool (layer_claim_true σ)

-- comparisons by at most and less
abbrev pub equal : Sym → Sym → Claim
equal a b = And (Le a b ∷ Not (Lt a b) ∷ [])

abbrev pub compared : Rel → Sym → Sym → Claim
compared rel.Eq a b = equal a b
compared rel.Ne a b = Not (equal a b)
compared rel.Lt a b = Lt a b
compared rel.Le a b = Le a b
compared rel.Gt a b = Not (Le a b)
compared rel.Ge a b = Not (Lt a b)
