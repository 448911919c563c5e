-- The value of each kind of term and the truth of each kind of claim over numbered names, by its parts.
use Rattle.std.proofs.Common.{◌∙◌, sym, ap}
use Rattle.std.specs.Prelude.{◌≡◌, ℕ, ℤ, ◌+ℤ◌, ◌-ℤ◌, ◌*ℤ◌, neg_ℤ, int_le, int_lt, Bool, not, List}
use Rattle.std.specs.List.{list_all, list_any}
use Rattle.std.proofs.lemmas.List.Folds.{list_all-map}
use Rattle.ft_base.specs.Division.{floor_of}
use Rattle.ft_linear.specs.laws.Nodes.{list_any-map}
use Rattle.ft_claims.specs.declared.claim.Sym.{Sym, Sym-F, map-Sym, fold-Sym, roll-Sym, fold-roll-Sym}
use Rattle.ft_claims.specs.declared.claim.Sym.TheOpen as part
use Rattle.ft_claims.specs.declared.claim.Sym.TheVariants.{Num, Slot, Neg, Add, Sub, Times, Div, rolls-Num, rolls-Slot, rolls-Neg}
use Rattle.ft_claims.specs.declared.claim.Sym.TheVariants.{rolls-Add, rolls-Sub, rolls-Times, rolls-Div}
use Rattle.ft_claims.specs.declared.claim.Claim.{Claim, Claim-F, map-Claim, fold-Claim, roll-Claim, fold-roll-Claim}
use Rattle.ft_claims.specs.declared.claim.Claim.TheOpen as layer
use Rattle.ft_claims.specs.declared.claim.Claim.TheVariants.{Le, Lt, Not, And, Or, rolls-Le, rolls-Lt, rolls-Not, rolls-And, rolls-Or}
use Rattle.ft_claims.specs.meaning.Claims.{sym_value, layer_sym_value, claim_true, layer_claim_true, itself}

module _ (σ : ℕ → ℤ) where
  value-rolled : (e : Sym) (a_layer : Sym-F Sym) → roll-Sym a_layer ≡ e → sym_value σ e
      ≡ layer_sym_value σ (map-Sym Sym ℤ (sym_value σ) a_layer)
  unfolding sym_value
  value-rolled e a_layer is = ap (fold-Sym ℤ (layer_sym_value σ)) (sym is) ∙ fold-roll-Sym ℤ (layer_sym_value σ) a_layer

  true-rolled : (c : Claim) (a_layer : Claim-F Claim) → roll-Claim a_layer ≡ c → claim_true σ c
      ≡ layer_claim_true σ (map-Claim Claim Bool (claim_true σ) a_layer)
  unfolding claim_true
  true-rolled c a_layer is = ap (fold-Claim Bool (layer_claim_true σ)) (sym is) ∙ fold-roll-Claim Bool (layer_claim_true σ) a_layer

  pub sym-Num : (n : ℤ) → sym_value σ (Num n) ≡ n
  sym-Num n = value-rolled _ (part.Num n) (rolls-Num n)

  pub sym-Slot : (x : ℕ) → sym_value σ (Slot x) ≡ σ x
  sym-Slot x = value-rolled _ (part.Slot x) (rolls-Slot x)

  pub sym-Neg : (e : Sym) → sym_value σ (Neg e) ≡ neg_ℤ (sym_value σ e)
  sym-Neg e = value-rolled _ (part.Neg e) (rolls-Neg e)

  pub sym-Add : (a b : Sym) → sym_value σ (Add a b) ≡ sym_value σ a +ℤ sym_value σ b
  sym-Add a b = value-rolled _ (part.Add a b) (rolls-Add a b)

  pub sym-Sub : (a b : Sym) → sym_value σ (Sub a b) ≡ sym_value σ a -ℤ sym_value σ b
  sym-Sub a b = value-rolled _ (part.Sub a b) (rolls-Sub a b)

  pub sym-Times : (c : ℤ) (e : Sym) → sym_value σ (Times c e) ≡ c *ℤ sym_value σ e
  sym-Times c e = value-rolled _ (part.Times c e) (rolls-Times c e)

  pub sym-Div : (e : Sym) (k : ℤ) → sym_value σ (Div e k) ≡ floor_of (sym_value σ e) k
  sym-Div e k = value-rolled _ (part.Div e k) (rolls-Div e k)

  pub true-Le : (a b : Sym) → claim_true σ (Le a b) ≡ int_le (sym_value σ a) (sym_value σ b)
  true-Le a b = true-rolled _ (layer.Le a b) (rolls-Le a b)

  pub true-Lt : (a b : Sym) → claim_true σ (Lt a b) ≡ int_lt (sym_value σ a) (sym_value σ b)
  true-Lt a b = true-rolled _ (layer.Lt a b) (rolls-Lt a b)

  pub true-Not : (c : Claim) → claim_true σ (Not c) ≡ not (claim_true σ c)
  true-Not c = true-rolled _ (layer.Not c) (rolls-Not c)

  pub true-And : (cs : List Claim) → claim_true σ (And cs) ≡ list_all (claim_true σ) cs
  true-And cs = true-rolled _ (layer.And cs) (rolls-And cs) ∙ list_all-map itself (claim_true σ) cs

  pub true-Or : (cs : List Claim) → claim_true σ (Or cs) ≡ list_any (claim_true σ) cs
  true-Or cs = true-rolled _ (layer.Or cs) (rolls-Or cs) ∙ list_any-map itself (claim_true σ) cs

-- all of them, for a tactic to rewrite by
pub ruleset claims = (
  sym-Num,
  sym-Slot,
  sym-Neg,
  sym-Add,
  sym-Sub,
  sym-Times,
  sym-Div,
  true-Le,
  true-Lt,
  true-Not,
  true-And,
  true-Or,
)
