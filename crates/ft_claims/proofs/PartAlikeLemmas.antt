-- What stands within claims is as true at numbers that agree on the names of their formula.
use Rattle.std.proofs.Common.{◌≡◌, ◌∙◌, sym, subst, ℕ, zero, suc, ◌+◌, ◌-◌, ◌<◌, ℤ, true, List, [], ◌∷◌, map, length, Some, slice_get}
use Rattle.std.proofs.Common.{arith, ⊎_elim}
use Rattle.std.specs.List.{list_all, flat_map}
use Rattle.std.proofs.lemmas.Bool.{cases_lt}
use Rattle.std.proofs.lemmas.Option.{none-some, same_Some}
use Rattle.ft_settle.specs.declared.raw.Raw.{Raw}
use Rattle.ft_claims.specs.declared.claim.Claim.{Claim}
use Rattle.ft_claims.specs.declared.claim.Claim.TheOpen as layer
use Rattle.ft_claims.specs.declared.claim.Claim.TheVariants.{Not, And, Or, rolls-Not, rolls-And, rolls-Or}
use Rattle.ft_claims.specs.laws.CellLaws.{IsWithinOne, one, of_not, of_and, of_or, PartsAlike}
use Rattle.ft_claims.specs.meaning.Areas.{Spans, is_used}
use Rattle.ft_claims.specs.meaning.Claims.{claim_true}
use Rattle.ft_claims.specs.meaning.Forms.{Entry, Entries}
use Rattle.ft_claims.specs.meaning.Formulas.{Collected, collected, entries_of, parts_of, unknowns_of, fill}
use Rattle.ft_claims.proofs.FormulaLemmas.{collected-rolled, tells}
use Rattle.ft_claims.proofs.KernelLemmas.{AllOf, all-left, all-right, unknowns-Not, unknowns-And, unknowns-Or, raw-same, low_claim, has}
use Rattle.ft_claims.proofs.KernelLemmas.{ordered, same-floors}
use Rattle.ft_claims.proofs.Lists.{at_place, mapped-at}
use Rattle.ft_claims.proofs.ObligedLemmas.{both-of, raws_named, pairs_named}
use Rattle.ft_claims.proofs.UnknownLemmas.{AllIn, all-weaker, fill-below, fill-floors}

-- what holds of all unknowns of some formulas, holds of those of one of them
all-at : (P : ℕ → Type 0) (rs : List Raw) (k : ℕ) (r : Raw) → slice_get rs k ≡ Some r → AllOf P (flat_map unknowns_of rs)
    → AllOf P (unknowns_of r)
all-at P [] k r at h = absurd (none-some r at)
all-at P (b ∷ rs) zero r at h = subst (λ a. AllOf P (unknowns_of a)) (same_Some b r at)
    (all-left P (unknowns_of b) (flat_map unknowns_of rs) h)
all-at P (b ∷ rs) (suc k) r at h = all-at P rs k r at (all-right P (unknowns_of b) (flat_map unknowns_of rs) h)

module _ (spans : Spans) (parts : List Claim) (good : list_all (λ (g : Collected). g.good) (map (collected (length spans)) parts) ≡ true)
  where
    abbrev base : ℕ
    base = length spans

    abbrev T : Entries
    T = entries_of base parts

    abbrev IsNamed : ℕ → Type 0
    IsNamed u = is_used base parts u ≡ true

    -- its pairs are there, its names and divisors good, and its names among those of the formula
    record IsTold (g : Collected) : Type 0 where
      has_all : g.has T ≡ true
      is_good : g.good ≡ true
      named : AllOf IsNamed (unknowns_of (g.formula T))

    of_several : (cs : List Claim) → list_all (λ (g : Collected). g.has T) (map (collected base) cs) ≡ true
        → list_all (λ (g : Collected). g.good) (map (collected base) cs) ≡ true → AllOf IsNamed (flat_map unknowns_of (parts_of base T cs))
        → (k : ℕ) (c : Claim) → slice_get cs k ≡ Some c → IsTold (collected base c)
    of_several cs h g n k c at =
        let place = mapped-at (collected base) cs k c at in
        record {
          has_all = at_place (λ (g : Collected). g.has T) (map (collected base) cs) h k (collected base c) place;
          is_good = at_place (λ (g : Collected). g.good) (map (collected base) cs) g k (collected base c) place;
          named = all-at IsNamed (parts_of base T cs) k ((collected base c).formula T)
              (mapped-at (λ (g : Collected). g.formula T) (map (collected base) cs) k (collected base c) place) n;
        }

    told : (c : Claim) → IsWithinOne parts c → IsTold (collected base c)
    told c (one k at) = of_several parts (has base parts good) good (raws_named spans parts good) k c at
    told c (of_not within) =
        let h = subst IsTold (collected-rolled base (Not c) (layer.Not c) (rolls-Not c)) (told (Not c) within) in
        record {
          has_all = h.has_all;
          is_good = h.is_good;
          named = subst (AllOf IsNamed) (unknowns-Not ((collected base c).formula T)) h.named;
        }
    told c (of_and k cs within at) =
        let h = subst IsTold (collected-rolled base (And cs) (layer.And cs) (rolls-And cs)) (told (And cs) within) in
        of_several cs h.has_all h.is_good (subst (AllOf IsNamed) (unknowns-And (parts_of base T cs)) h.named) k c at
    told c (of_or k cs within at) =
        let h = subst IsTold (collected-rolled base (Or cs) (layer.Or cs) (rolls-Or cs)) (told (Or cs) within) in
        of_several cs h.has_all h.is_good (subst (AllOf IsNamed) (unknowns-Or (parts_of base T cs)) h.named) k c at

    module _ (σ τ : ℕ → ℤ) (agree : (u : ℕ) → u < base → is_used base parts u ≡ true → σ u ≡ τ u) where
      abbrev μ : ℕ → ℤ
      μ = fill base σ T

      abbrev ν : ℕ → ℤ
      ν = fill base τ T

      below : (u : ℕ) → IsNamed u → u < base → μ u ≡ ν u
      below u named l = fill-below T base σ u l ∙ agree u l named ∙ sym (fill-below T base τ u l)

      names : (d : ℕ) (e : Entry) → slice_get T d ≡ Some e → AllIn (λ u. u < base → μ u ≡ ν u) e.0.factors
      names d e at = all-weaker IsNamed (λ u. u < base → μ u ≡ ν u) e.0.factors below (pairs_named spans parts good d e at)

      each : (u : ℕ) → u < base + length T → IsNamed u → μ u ≡ ν u
      each u low named = ⊎_elim
          (λ l. below u named l)
          (λ past.
          let is : base + (u - base) ≡ u = omega (arith, past) in
          subst (λ v. μ v ≡ ν v) is (same-floors base T μ ν (ordered base parts good) (fill-floors T base σ (ordered base parts good))
          (fill-floors T base τ (ordered base parts good)) names (suc (u - base)) (u - base) (omega arith) (omega (arith, low, past))))
          (cases_lt u base)

      alike : (c : Claim) → IsWithinOne parts c → claim_true σ c ≡ claim_true τ c
      alike c within =
          let t = told c within in
          sym (tells base σ μ T (λ x l. fill-below T base σ x l) (fill-floors T base σ (ordered base parts good)) c t.has_all t.is_good)
          ∙ raw-same μ ν ((collected base c).formula T) (both-of (λ u. u < base + length T) IsNamed (λ u. μ u ≡ ν u)
          (unknowns_of ((collected base c).formula T)) each (low_claim base T c t.has_all t.is_good) t.named)
          ∙ tells base τ ν T (λ x l. fill-below T base τ x l) (fill-floors T base τ (ordered base parts good)) c t.has_all t.is_good

pub parts_alike : PartsAlike
parts_alike spans parts good σ τ agree c within = alike spans parts good σ τ agree c within
