-- Conditions as formulas over linear forms, and the formula of some parts: the parts, and for each pair of a form and a divisor
-- what makes its unknown the quotient.
use Rattle.std.specs.Prelude.{◌≡◌, ℕ, suc, ℤ, pos, ◌-ℤ◌, nat_eq, Bool, ◌&&◌, List, [], ◌∷◌, ◌++◌, map, if◌then◌else◌}
use Rattle.std.specs.List.{list_all, flat_map}
use Rattle.ft_base.specs.Division.{floor_of}
use Rattle.ft_linear.specs.meaning.Form.{LinView, form_at}
use Rattle.ft_settle.specs.declared.raw.Raw.{Raw, Raw-F, fold-Raw}
use Rattle.ft_settle.specs.declared.raw.Raw.TheOpen as open_raw
use Rattle.ft_settle.specs.declared.raw.Raw.TheVariants as raw
use Rattle.ft_claims.specs.declared.claim.Claim.{Claim, Claim-F, fold-Claim}
use Rattle.ft_claims.specs.declared.claim.Claim.TheOpen as layer
use Rattle.ft_claims.specs.meaning.Forms.{constant_form, unknown, plus, minus, times, Entry, Entries, Gathered, gathered}

-- the same of a condition
pub record Collected : Type 0 where
  pub formula : Entries → Raw
  pub entries : Entries → Entries
  pub has : Entries → Bool
  pub good : Bool

abbrev pub leaf : (LinView → LinView → LinView) → Gathered → Gathered → Collected
leaf f a b = record {
  formula = λ T. raw.Le (f (a.form T) (b.form T));
  entries = λ T. b.entries (a.entries T);
  has = λ T. a.has T && b.has T;
  good = a.good && b.good;
}

-- the pairs of all parts, from left to right
abbrev pub chain : List Collected → Entries → Entries
chain [] T = T
chain (c ∷ cs) T = chain cs (c.entries T)

abbrev pub all_of : (List Raw → Raw) → List Collected → Collected
all_of node parts = record {
  formula = λ T. node (map (λ c. c.formula T) parts);
  entries = chain parts;
  has = λ T. list_all (λ c. c.has T) parts;
  good = list_all (λ c. c.good) parts;
}

abbrev pub less : LinView → LinView → LinView
less a b = plus (minus a b) (constant_form (pos 1))

abbrev pub layer_collected : ℕ → Claim-F Collected → Collected
layer_collected base (layer.Le a b) = leaf minus (gathered base a) (gathered base b)
layer_collected base (layer.Lt a b) = leaf less (gathered base a) (gathered base b)
layer_collected base (layer.Not inner) = record {
  formula = λ T. raw.Not (inner.formula T);
  entries = inner.entries;
  has = inner.has;
  good =
      inner.good;
}
layer_collected base (layer.And parts) = all_of raw.And parts
layer_collected base (layer.Or parts) = all_of raw.Or parts

unfoldable pub collected : ℕ → Claim → Collected
collected base = fold-Claim Collected (layer_collected base)

-- k*q - e <= 0 and e - k*q - k + 1 <= 0
abbrev pub at_most : ℕ → Entry → Raw
at_most q e = raw.Le (minus (times e.1 (unknown q)) e.0)

abbrev pub at_least : ℕ → Entry → Raw
at_least q e = raw.Le (plus (minus e.0 (times e.1 (unknown q))) (constant_form (pos 1 -ℤ e.1)))

abbrev pub conjuncts : ℕ → Entries → List Raw
conjuncts q [] = []
conjuncts q (e ∷ T) = at_most q e ∷ at_least q e ∷ conjuncts (suc q) T

-- the pairs of some parts, and their formula
abbrev pub entries_of : ℕ → List Claim → Entries
entries_of base parts = chain (map (collected base) parts) []

abbrev pub parts_of : ℕ → Entries → List Claim → List Raw
parts_of base T parts = map (λ (c : Collected). c.formula T) (map (collected base) parts)

abbrev pub formula_of : ℕ → List Claim → Raw
formula_of base parts = raw.And (parts_of base (entries_of base parts) parts ++ conjuncts base (entries_of base parts))

-- the unknowns of a formula
abbrev pub layer_unknowns : Raw-F (List ℕ) → List ℕ
layer_unknowns (open_raw.Le l) = map (λ f. f.0) l.factors
layer_unknowns (open_raw.Not inner) = inner
layer_unknowns (open_raw.And parts) = flat_map (λ us. us) parts
layer_unknowns (open_raw.Or parts) = flat_map (λ us. us) parts

unfoldable pub unknowns_of : Raw → List ℕ
unknowns_of = fold-Raw (List ℕ) layer_unknowns

-- numbers with another one for one of them
abbrev pub set_at : (ℕ → ℤ) → ℕ → ℤ → ℕ → ℤ
set_at ν n z u = if nat_eq u n then z else ν u

-- the floor of each pair in turn
abbrev pub fill : ℕ → (ℕ → ℤ) → Entries → ℕ → ℤ
fill n ν [] = ν
fill n ν (e ∷ T) = fill (suc n) (set_at ν n (floor_of (form_at ν e.0) e.1)) T

-- a formula is a condition's by a list of pairs, which is another one with the pairs that the condition adds
pub record Collects (base : ℕ) (c : Claim) (T U : Entries) (r : Raw) : Type 0 where
  pub entries : U ≡ (collected base c).entries T
  pub formula : r ≡ (collected base c).formula U

-- the same of some conditions
pub record CollectsAll (base : ℕ) (cs : List Claim) (T U : Entries) (rs : List Raw) : Type 0 where
  pub entries : U ≡ chain (map (collected base) cs) T
  pub formulas : rs ≡ map (λ (c : Collected). c.formula U) (map (collected base) cs)
