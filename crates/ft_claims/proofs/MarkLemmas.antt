-- The marks of some unknowns and of more.
use Rattle.std.proofs.Common.{◌≡◌, ◌∙◌, sym, ap, refl, ℕ, ◌+◌, ◌<◌, Bool, List, [], ◌∷◌, ◌++◌, map, take, length}
use Rattle.std.specs.Prelude.{slice_index_or}
use Rattle.std.specs.List.{flat_map}
use Rattle.std.proofs.lemmas.List.{take_more, append-nil, map-append}
use Rattle.std.proofs.lemmas.List.Concat.{flat_map-append}
use Rattle.ft_linear.specs.meaning.Form.{Factor}
use Rattle.ft_settle.specs.declared.raw.Raw.{Raw}
use Rattle.ft_claims.specs.meaning.Formulas.{unknowns_of}
use Rattle.ft_claims.specs.meaning.Areas.{marked_at, pair_unknowns, with_marks}
use Rattle.ft_claims.specs.meaning.Forms.{Entry, Entries}

marks-append : (marks : List Bool) (us vs : List ℕ) → with_marks marks (us ++ vs) ≡ with_marks (with_marks marks us) vs
marks-append marks [] vs = refl
marks-append marks (u ∷ us) vs = marks-append (marked_at marks u) us vs

pub factor-more : (marks mid now : List Bool) (factors : List Factor) (i : ℕ) (d : Factor) → i < length factors
    → mid ≡ with_marks marks (map (λ (g : Factor). g.0) (take i factors)) → now ≡ marked_at mid (slice_index_or factors i d).0
    → now ≡ with_marks marks (map (λ (g : Factor). g.0) (take (i + 1) factors))
factor-more marks mid now factors i d within before here =
    let f = slice_index_or factors i d in
    here ∙ ap (λ ms. marked_at ms f.0) before ∙ sym (marks-append marks (map (λ (g : Factor). g.0) (take i factors)) (f.0 ∷ []))
    ∙ ap (with_marks marks) (sym (ap (map (λ (g : Factor). g.0)) (take_more factors i d within)
    ∙ map-append (λ (g : Factor). g.0) (take i factors) (f ∷ [])))

pub unknowns-more : (marks mid now : List Bool) (parts : List Raw) (i : ℕ) (part : Raw) → i < length parts → part
    ≡ slice_index_or parts i part
    → mid ≡ with_marks marks (flat_map unknowns_of (take i parts)) → now ≡ with_marks mid (unknowns_of part) → now
    ≡ with_marks marks (flat_map unknowns_of (take (i + 1) parts))
unknowns-more marks mid now parts i part within is before here =
    here ∙ ap (λ ms. with_marks ms (unknowns_of part)) before ∙ sym (marks-append marks (flat_map unknowns_of (take i parts))
    (unknowns_of part))
    ∙ ap (with_marks marks) (sym more)
  where
    more : flat_map unknowns_of (take (i + 1) parts) ≡ flat_map unknowns_of (take i parts) ++ unknowns_of part
    more = ap (flat_map unknowns_of) (take_more parts i part within ∙ ap (λ (p : Raw). take i parts ++ p ∷ []) (sym is))
        ∙ flat_map-append unknowns_of (take i parts) (part ∷ [])
        ∙ ap (λ (l : List ℕ). flat_map unknowns_of (take i parts) ++ l) (append-nil (unknowns_of part))

abbrev names : Entry → List ℕ
names e = map (λ (g : Factor). g.0) e.0.factors

pub pairs-more : (marks mid now : List Bool) (pairs : Entries) (i : ℕ) (pair : Entry) → i < length pairs → pair
    ≡ slice_index_or pairs i pair
    → mid ≡ with_marks marks (pair_unknowns (take i pairs)) → now ≡ with_marks mid (map (λ (g : Factor). g.0) pair.0.factors) → now
    ≡ with_marks marks (pair_unknowns (take (i + 1) pairs))
pairs-more marks mid now pairs i pair within is before here =
    here ∙ ap (λ ms. with_marks ms (names pair)) before ∙ sym (marks-append marks (pair_unknowns (take i pairs)) (names pair))
    ∙ ap (with_marks marks) (sym more)
  where
    more : pair_unknowns (take (i + 1) pairs) ≡ pair_unknowns (take i pairs) ++ names pair
    more = ap pair_unknowns (take_more pairs i pair within ∙ ap (λ (p : Entry). take i pairs ++ p ∷ []) (sym is))
        ∙ flat_map-append names (take i pairs) (pair ∷ [])
        ∙ ap (λ (l : List ℕ). pair_unknowns (take i pairs) ++ l) (append-nil (names pair))
