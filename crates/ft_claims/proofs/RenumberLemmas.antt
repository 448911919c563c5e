-- Formulas whose unknowns get the same numbers become the same formula.
use Rattle.std.proofs.Common.{◌≡◌, ◌∙◌, sym, ap, subst, refl, ℕ, ◌+◌, ◌<◌, pos, true, false, Bool, List, [], ◌∷◌, map, length, filter}
use Rattle.std.proofs.Common.{arith}
use Rattle.std.specs.Prelude.{slice_index_or}
use Rattle.std.specs.List.{flat_map, range_with_len}
use Rattle.ft_linear.specs.meaning.Form.{Factor}
use Rattle.ft_settle.specs.declared.raw.Raw.{Raw}
use Rattle.ft_settle.specs.declared.raw.Raw.TheVariants as raw
use Rattle.ft_settle.specs.laws.Raws.{WithRaw, bare_raw, raw_induction}
use Rattle.ft_claims.specs.meaning.Formulas.{unknowns_of}
use Rattle.ft_claims.specs.meaning.Areas.{counts, number_by, place_in, renumber}
use Rattle.ft_claims.proofs.CountingLemmas.{count-place}
use Rattle.ft_claims.proofs.KernelLemmas.{AllOf, all-left, all-right, unknowns-Le, unknowns-Not, unknowns-And, unknowns-Or}
use Rattle.ft_claims.proofs.ObligedLemmas.{renumber-Le, renumber-Not, renumber-And, renumber-Or}

module _ (ρ τ : ℕ → ℕ) where
  abbrev Agree : ℕ → Type 0
  Agree u = ρ u ≡ τ u

  factors-alike : (fs : List Factor) → AllOf Agree (map (λ f. f.0) fs) → map {A = Factor} {B = Factor} (λ f. (ρ f.0, f.1)) fs
      ≡ map {A = Factor} {B = Factor} (λ f. (τ f.0, f.1)) fs
  factors-alike [] h = refl
  factors-alike (f ∷ fs) h = let here = h.0 in let more = factors-alike fs h.1 in λ i. (here i, f.1) ∷ more i

  abbrev IsAlike : Raw → Type 0
  IsAlike r = AllOf Agree (unknowns_of r) → renumber ρ r ≡ renumber τ r

  parts-alike : (parts : List (WithRaw IsAlike)) → AllOf Agree (flat_map unknowns_of (bare_raw parts)) → map (renumber ρ) (bare_raw parts)
      ≡ map (renumber τ) (bare_raw parts)
  parts-alike [] h = refl
  parts-alike (p ∷ parts) h =
      let here = p.1 (all-left Agree (unknowns_of p.0) (flat_map unknowns_of (bare_raw parts)) h) in
      let more = parts-alike parts (all-right Agree (unknowns_of p.0) (flat_map unknowns_of (bare_raw parts)) h) in
      λ i. here i ∷ more i

  pub numbered-alike : (r : Raw) → IsAlike r
  numbered-alike = raw_induction IsAlike (record {
    form = λ l h. renumber-Le ρ (λ u. pos 0) l ∙ (let same = factors-alike l.factors (subst (AllOf Agree) (unknowns-Le l) h) in
        λ i. raw.Le (record { factors = same i; constant = l.constant })) ∙ sym (renumber-Le τ (λ u. pos 0) l);
    negated = λ r p h. renumber-Not ρ (λ u. pos 0) r ∙ ap raw.Not (p (subst (AllOf Agree) (unknowns-Not r) h))
        ∙ sym (renumber-Not τ (λ u. pos 0) r);
    all = λ parts h. renumber-And ρ (λ u. pos 0) (bare_raw parts) ∙ ap raw.And
        (parts-alike parts (subst (AllOf Agree) (unknowns-And (bare_raw parts)) h)) ∙ sym (renumber-And τ (λ u. pos 0) (bare_raw parts));
    any = λ parts h. renumber-Or ρ (λ u. pos 0) (bare_raw parts) ∙ ap raw.Or
        (parts-alike parts (subst (AllOf Agree) (unknowns-Or (bare_raw parts)) h)) ∙ sym (renumber-Or τ (λ u. pos 0) (bare_raw parts));
  })

-- where the marks are those of a test, a marked place has its number among those that pass
pub marked-number : (p : ℕ → Bool) (marks : List Bool) (u : ℕ) → ((i : ℕ) → i < length marks → p i ≡ slice_index_or marks i false)
    → u < length marks → p u ≡ true
    → number_by (counts 0 marks) u ≡ place_in (filter p (range_with_len 0 (length marks))) u
marked-number p marks u same within is =
    let start : (i : ℕ) → 0 + i ≡ i = λ i. omega arith in
    let none : 0 + place_in (filter p (range_with_len 0 (length marks))) (0 + u)
    ≡ place_in (filter p (range_with_len 0 (length marks))) (0 + u) = omega arith in
    count-place p marks 0 0 u (λ i l. ap p (start i) ∙ same i l) within (ap p (start u) ∙ is) ∙ none
    ∙ ap (place_in (filter p (range_with_len 0 (length marks)))) (start u)
