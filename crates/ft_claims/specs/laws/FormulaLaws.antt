-- The claims of some parts against the formula over numbered unknowns that is made of them.
use Rattle.std.specs.Prelude.{◌≡◌, ◌<◌, ℕ, ℤ, IsTrue, List, length, map}
use Rattle.std.specs.List.{list_all}
use Rattle.ft_linear.specs.meaning.Form.{InArea, values_at}
use Rattle.ft_linear.specs.meaning.Formula.{truth_at}
use Rattle.ft_settle.specs.meaning.Raw.{raw_truth}
use Rattle.ft_settle.specs.meaning.Settled.{settled}
use Rattle.ft_claims.specs.declared.claim.Claim.{Claim}
use Rattle.ft_claims.specs.meaning.Areas.{Spans, is_used, used, place_in, finished}
use Rattle.ft_claims.specs.meaning.Claims.{claim_true}
use Rattle.ft_claims.specs.meaning.Formulas.{Collected, collected, entries_of, fill}
use Rattle.ft_claims.specs.meaning.Points.{IsPointOf}

-- the names of these parts are below the number of spans, and their divisors positive
abbrev pub AreGood : Spans → List Claim → Type 0
AreGood spans parts = IsTrue (list_all (λ (c : Collected). c.good) (map (collected (length spans)) parts))

-- these numbers for names are the values of a point, at each name that the formula has
abbrev pub Gives : Spans → List Claim → List ℤ → (ℕ → ℤ) → Type 0
Gives spans parts p σ = (u : ℕ) → u < length spans → IsTrue (is_used (length spans) parts u)
    → values_at p (place_in (used (length spans) parts) u) ≡ σ u

-- at all numbers that have the values of a point each part is true
abbrev pub PointsTell : Type 0
PointsTell = (spans : Spans) (parts : List Claim) → AreGood spans parts → (p : List ℤ) → IsPointOf (finished spans parts) p
    → (σ : ℕ → ℤ) → Gives spans parts p σ → IsTrue (list_all (claim_true σ) parts)

-- numbers in their spans at which each part is true make a point, with the floors of quotients for their unknowns
abbrev pub NumbersMakePoints : Type 0
NumbersMakePoints = (spans : Spans) (parts : List Claim) → AreGood spans parts → (σ : ℕ → ℤ) → InArea spans σ
    → IsTrue (list_all (claim_true σ) parts)
    → IsPointOf (finished spans parts) (map (fill (length spans) σ (entries_of (length spans) parts)) (used (length spans) parts))

-- parts are true alike at numbers that agree on the names that their formula has
abbrev pub TrueAlike : Type 0
TrueAlike = (spans : Spans) (parts : List Claim) → AreGood spans parts → (σ τ : ℕ → ℤ)
    → ((u : ℕ) → u < length spans → IsTrue (is_used (length spans) parts u) → σ u ≡ τ u)
    → IsTrue (list_all (claim_true σ) parts) → IsTrue (list_all (claim_true τ) parts)

-- the settled formula of some parts is as true as the formula, at every point
abbrev pub SettledAlike : Type 0
SettledAlike = (spans : Spans) (parts : List Claim) (x : ℕ → ℤ) → truth_at (settled (finished spans parts).formula) x
    ≡ raw_truth x (finished spans parts).formula
