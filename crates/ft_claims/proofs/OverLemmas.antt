-- The settled formula of an obligation has only unknowns that have a span.
use Rattle.std.proofs.Common.{◌≡◌, ◌∙◌, sym, ap, subst, ℕ, ◌+◌, ◌<◌, neg_ℤ, pos, Bool, true, false, List, [], ◌∷◌, ◌++◌, map, length, slice_get}
use Rattle.std.specs.Prelude.{All, ◌==◌}
use Rattle.std.specs.List.{list_all, list_any, flat_map}
use Rattle.std.proofs.lemmas.Bool.{cond_both}
use Rattle.std.proofs.lemmas.List.{length-map}
use Rattle.std.proofs.lemmas.List.Elements.{All-nil, All-cons, All-head, All-tail, All-append, All-map}
use Rattle.std.proofs.lemmas.Option.{slice_get_within}
use Rattle.ft_base.specs.Division.{floor_of}
use Rattle.ft_linear.specs.meaning.Form.{Factor, LinView, HasUnknowns, span_at}
use Rattle.ft_linear.specs.meaning.Formula.{IsOver}
use Rattle.ft_linear.specs.meaning.Rules.{literal_form}
use Rattle.ft_settle.specs.declared.raw.Raw.{Raw}
use Rattle.ft_settle.specs.declared.raw.Raw.TheOpen as layer
use Rattle.ft_settle.specs.declared.raw.Raw.TheVariants.{Le, Not, And, Or, rolls-Le, rolls-Not, rolls-And, rolls-Or}
use Rattle.ft_settle.specs.laws.Raws.{WithRaw, bare_raw, raw_induction, folds}
use Rattle.ft_settle.specs.meaning.Canonical.{canonical, divided, gcd_of, is_positive}
use Rattle.ft_settle.specs.meaning.Settled.{atoms_in, forms_of, layer_atoms, same_form, settled, with_form, with_forms}
use Rattle.ft_claims.specs.declared.claim.Claim.{Claim}
use Rattle.ft_claims.specs.meaning.Areas.{Spans, finished, is_one_of, place_in, renumber, renumbered, used, with_spans}
use Rattle.ft_claims.specs.meaning.Formulas.{Collected, collected, entries_of, formula_of, unknowns_of}
use Rattle.ft_claims.proofs.GatherLemmas.{place-found}
use Rattle.ft_claims.proofs.KernelLemmas.{AllOf, all-append, all-left, all-right, factors-of, flat-map-map, unknowns-Le, unknowns-Not, unknowns-And, unknowns-Or}
use Rattle.ft_claims.proofs.MarkedLemmas.{over-factors}
use Rattle.ft_claims.proofs.ObligedLemmas.{all-of-weaker, all_used, renumber-Le, renumber-Not, renumber-And, renumber-Or}

forms-Le : (l : LinView) → forms_of (Le l) ≡ atoms_in l l.factors
unfolding forms_of
forms-Le l = folds (List LinView) layer_atoms _ (layer.Le l) (rolls-Le l)

forms-Not : (inner : Raw) → forms_of (Not inner) ≡ forms_of inner
unfolding forms_of
forms-Not inner = folds (List LinView) layer_atoms _ (layer.Not inner) (rolls-Not inner)

forms-And : (parts : List Raw) → forms_of (And parts) ≡ flat_map forms_of parts
unfolding forms_of
forms-And parts = folds (List LinView) layer_atoms _ (layer.And parts) (rolls-And parts) ∙ flat-map-map (λ ls. ls) forms_of parts

forms-Or : (parts : List Raw) → forms_of (Or parts) ≡ flat_map forms_of parts
unfolding forms_of
forms-Or parts = folds (List LinView) layer_atoms _ (layer.Or parts) (rolls-Or parts) ∙ flat-map-map (λ ls. ls) forms_of parts

module _ (n : ℕ) where
  abbrev Low : ℕ → Type 0
  Low u = u < n

  abbrev IsLow : LinView → Type 0
  IsLow l = HasUnknowns n l.factors

  literal-low : (b : Bool) (l : LinView) → IsLow l → IsLow (literal_form b l)
  literal-low true l low = low
  literal-low false l low = All-map (λ (f : Factor). f.0 < n) (λ f. (f.0, neg_ℤ f.1)) l.factors low

  canonical-low : (l : LinView) → IsLow l → IsLow (canonical l)
  canonical-low l low = literal-low (is_positive l.factors) (divided (gcd_of l.factors) l)
      (All-map (λ (f : Factor). f.0 < n) (λ f. (f.0, floor_of f.1 (pos (gcd_of l.factors)))) l.factors low)

  atoms-low : (l : LinView) (fs : List Factor) → IsLow l → All IsLow (atoms_in l fs)
  atoms-low l [] low = All-nil IsLow
  atoms-low l (f ∷ fs) low = All-cons IsLow (canonical l) [] (canonical-low l low) (All-nil IsLow)

  abbrev GoesLow : Raw → Type 0
  GoesLow r = AllOf Low (unknowns_of r) → All IsLow (forms_of r)

  parts-low : (parts : List (WithRaw GoesLow)) → AllOf Low (flat_map unknowns_of (bare_raw parts))
      → All IsLow (flat_map forms_of (bare_raw parts))
  parts-low [] all = All-nil IsLow
  parts-low (p ∷ parts) all = All-append IsLow (forms_of p.0) (flat_map forms_of (bare_raw parts))
      (p.1 (all-left Low (unknowns_of p.0) (flat_map unknowns_of (bare_raw parts)) all))
      (parts-low parts (all-right Low (unknowns_of p.0) (flat_map unknowns_of (bare_raw parts)) all))

  forms-low : (r : Raw) → GoesLow r
  forms-low = raw_induction GoesLow (record {
    form = λ l all. subst (All IsLow) (sym (forms-Le l)) (atoms-low l l.factors (over-factors n l.factors
        (factors-of Low l.factors (subst (AllOf Low) (unknowns-Le l) all))));
    negated = λ r p all. subst (All IsLow) (sym (forms-Not r)) (p (subst (AllOf Low) (unknowns-Not r) all));
    all = λ parts all. subst (All IsLow) (sym (forms-And (bare_raw parts)))
        (parts-low parts (subst (AllOf Low) (unknowns-And (bare_raw parts)) all));
    any = λ parts all. subst (All IsLow) (sym (forms-Or (bare_raw parts)))
        (parts-low parts (subst (AllOf Low) (unknowns-Or (bare_raw parts)) all));
  })

  with-low : (ls fs : List LinView) → All IsLow fs → All IsLow ls → All IsLow (with_forms fs ls)
  with-low [] fs all more = all
  with-low (l ∷ ls) fs all more =
      with-low ls (with_form fs l)
      (cond_both (list_any (same_form l) fs) fs (fs ++ l ∷ []) (All IsLow) (λ is. all)
      (λ isnt. All-append IsLow fs (l ∷ []) all (All-cons IsLow l [] (All-head IsLow l ls more) (All-nil IsLow))))
      (All-tail IsLow l ls more)

  settled-low : (r : Raw) → AllOf Low (unknowns_of r) → IsOver n (settled r)
  settled-low r all = with-low (forms_of r) [] (All-nil IsLow) (forms-low r all)

-- other numbers for unknowns
module _ (P : ℕ → Type 0) (ρ : ℕ → ℕ) where
  abbrev Goes : Raw → Type 0
  Goes r = AllOf (λ u. P (ρ u)) (unknowns_of r) → AllOf P (unknowns_of (renumber ρ r))

  factors-go : (fs : List Factor) → AllOf (λ u. P (ρ u)) (map (λ (f : Factor). f.0) fs)
      → AllOf P (map (λ (f : Factor). f.0) (map {A = Factor} {B = Factor} (λ f. (ρ f.0, f.1)) fs))
  factors-go [] all = tt
  factors-go (f ∷ fs) all = (all.0, factors-go fs all.1)

  parts-go : (parts : List (WithRaw Goes)) → AllOf (λ u. P (ρ u)) (flat_map unknowns_of (bare_raw parts))
      → AllOf P (flat_map unknowns_of (map (renumber ρ) (bare_raw parts)))
  parts-go [] all = tt
  parts-go (p ∷ parts) all = all-append P (unknowns_of (renumber ρ p.0)) (flat_map unknowns_of (map (renumber ρ) (bare_raw parts)))
      (p.1 (all-left (λ u. P (ρ u)) (unknowns_of p.0) (flat_map unknowns_of (bare_raw parts)) all))
      (parts-go parts (all-right (λ u. P (ρ u)) (unknowns_of p.0) (flat_map unknowns_of (bare_raw parts)) all))

  renumbered-all : (r : Raw) → Goes r
  renumbered-all = raw_induction Goes (record {
    form = λ l all. subst (λ r. AllOf P (unknowns_of r)) (sym (renumber-Le ρ (λ u. pos 0) l))
        (subst (AllOf P) (sym (unknowns-Le (renumbered ρ l))) (factors-go l.factors (subst (AllOf (λ u. P (ρ u))) (unknowns-Le l) all)));
    negated = λ r p all. subst (λ q. AllOf P (unknowns_of q)) (sym (renumber-Not ρ (λ u. pos 0) r))
        (subst (AllOf P) (sym (unknowns-Not (renumber ρ r))) (p (subst (AllOf (λ u. P (ρ u))) (unknowns-Not r) all)));
    all = λ parts all. subst (λ q. AllOf P (unknowns_of q)) (sym (renumber-And ρ (λ u. pos 0) (bare_raw parts)))
        (subst (AllOf P) (sym (unknowns-And (map (renumber ρ) (bare_raw parts))))
        (parts-go parts (subst (AllOf (λ u. P (ρ u))) (unknowns-And (bare_raw parts)) all)));
    any = λ parts all. subst (λ q. AllOf P (unknowns_of q)) (sym (renumber-Or ρ (λ u. pos 0) (bare_raw parts)))
        (subst (AllOf P) (sym (unknowns-Or (map (renumber ρ) (bare_raw parts))))
        (parts-go parts (subst (AllOf (λ u. P (ρ u))) (unknowns-Or (bare_raw parts)) all)));
  })

pub finished-over : (spans : Spans) (parts : List Claim) → list_all (λ (g : Collected). g.good) (map (collected (length spans)) parts) ≡ true
    → IsOver (length (finished spans parts).spans) (settled (finished spans parts).formula)
finished-over spans parts good =
    subst (λ n. IsOver n (settled (finished spans parts).formula)) (sym (length-map us (span_at all)))
    (settled-low (length us) (finished spans parts).formula
    (renumbered-all (λ u. u < length us) (place_in us) (formula_of (length spans) parts)
    (all-of-weaker (λ u. is_one_of us u ≡ true) (λ u. place_in us u < length us) (unknowns_of (formula_of (length spans) parts))
    (λ u one. let at = place-found (λ v. v == u) us one in slice_get_within us (place_in us u) at.0 at.1) (all_used spans parts good))))
  where
    us : List ℕ
    us = used (length spans) parts

    all : Spans
    all = with_spans spans (entries_of (length spans) parts)
