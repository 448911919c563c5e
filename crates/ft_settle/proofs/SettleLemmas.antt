-- The atoms of a settled formula, and its truth.
use Rattle.std.proofs.Common.{◌≡◌, ◌∙◌, inl, inr, sym, ap, subst, refl, ℕ, ◌+◌, ◌<◌, ℤ, pos, ◌+ℤ◌, Bool, true, false, not, ◌&&◌, ◌||◌, cond}
use Rattle.std.proofs.Common.{List, [], ◌∷◌, ◌++◌, map, length, take, Some, slice_get, arith}
use Rattle.std.specs.Prelude.{nat_eq, nat_lt, int_le, int_lt, slice_index_or, find}
use Rattle.std.specs.Ordering.{int_eq}
use Rattle.std.specs.Cmp.Lexicographic.{pointwise}
use Rattle.std.specs.List.{list_all, list_any, flat_map}
use Rattle.std.proofs.lemmas.Bool.{cases_Bool, and_parts, eqb-true}
use Rattle.std.proofs.lemmas.Int.{ints}
use Rattle.std.proofs.lemmas.List.{take_more, append-nil}
use Rattle.std.proofs.lemmas.List.Concat.{flat_map-append}
use Rattle.std.proofs.lemmas.List.Folds.{find_at, list_all-map, list_all_more}
use Rattle.std.proofs.lemmas.Option.{slice_get_within}
use Rattle.ft_linear.specs.declared.node.Node.{Node}
use Rattle.ft_linear.specs.declared.node.Node.TheVariants as node
use Rattle.ft_settle.specs.declared.raw.Raw.{Raw}
use Rattle.ft_settle.specs.declared.raw.Raw.TheVariants.{Le, Not, And, Or}
use Rattle.ft_linear.specs.meaning.Form.{Factor, LinView, form_at, sum_at}
use Rattle.ft_linear.specs.meaning.Truth.{truth}
use Rattle.ft_linear.specs.laws.Forms.{LiteralsHold, DividedHolds, QuotientIsExact}
use Rattle.ft_linear.specs.meaning.Formula.{atoms_below, atom_at, form_truth}
use Rattle.ft_settle.specs.meaning.Canonical.{canonical, is_positive}
use Rattle.ft_settle.specs.meaning.Raw.{raw_truth}
use Rattle.ft_settle.specs.meaning.Settled.{same_factor, same_form, with_form, with_forms, atoms_in, forms_of, place_of, placed}
use Rattle.ft_settle.specs.meaning.Settled.{placed_form}
use Rattle.ft_settle.specs.meaning.Raw.{all_begin_well, begins_well}
use Rattle.ft_linear.specs.laws.Nodes.{list_any-map, truth-At, truth-Not, truth-And, truth-Or, below-At, below-Not, below-And, below-Or}
use Rattle.ft_settle.proofs.CanonicalLemmas.{canonical-same}
use Rattle.ft_settle.proofs.RawLemmas.{WithRaw, bare_raw, InductiveRaw, raw_induction, raw-Le, raw-Not, raw-And, raw-Or, begins-Le}
use Rattle.ft_settle.proofs.RawLemmas.{begins-Not, begins-And, begins-Or, forms-Le, forms-Not, forms-And, forms-Or, placed-Le, placed-Not}
use Rattle.ft_settle.proofs.RawLemmas.{placed-And, placed-Or}
use Rattle.std.proofs.Math.Bool.{or-false, or_assoc}

same-int : (a b : ℤ) → int_eq a b ≡ true → a ≡ b
same-int a b e = grind (arith, ints)

int-itself : (a : ℤ) → int_eq a a ≡ true
int-itself a = grind (arith, ints)

nat-itself : (a : ℕ) → nat_eq a a ≡ true
nat-itself a = grind arith

factor-itself : (f : Factor) → same_factor f f ≡ true
factor-itself f = ap (λ b. b && int_eq f.1 f.1) (nat-itself f.0) ∙ int-itself f.1

factors-itself : (fs : List Factor) → pointwise same_factor fs fs ≡ true
factors-itself [] = refl
factors-itself (f ∷ fs) = ap (λ b. b && pointwise same_factor fs fs) (factor-itself f) ∙ factors-itself fs

same-factors : (fs gs : List Factor) → pointwise same_factor fs gs ≡ true → fs ≡ gs
same-factors [] [] e = refl
same-factors [] (g ∷ gs) e = cc e
same-factors (f ∷ fs) [] e = cc e
same-factors (f ∷ fs) (g ∷ gs) e =
    let (here, rest) = and_parts (same_factor f g) (pointwise same_factor fs gs) e in
    let (u, z) = and_parts (nat_eq f.0 g.0) (int_eq f.1 g.1) here in
    λ i. (eqb-true f.0 g.0 u i, same-int f.1 g.1 z i) ∷ same-factors fs gs rest i

pub form-itself : (l : LinView) → same_form l l ≡ true
form-itself l = ap (λ b. b && pointwise same_factor l.factors l.factors) (int-itself l.constant) ∙ factors-itself l.factors

pub same-forms : (l m : LinView) → same_form l m ≡ true → l ≡ m
same-forms l m e =
    let (c, fs) = and_parts (int_eq l.constant m.constant) (pointwise same_factor l.factors m.factors) e in
    λ i. record { factors = same-factors l.factors m.factors fs i; constant = same-int l.constant m.constant c i }

-- the place of a form that is there
finds : (l : LinView) (forms : List LinView) → list_any (same_form l) forms ≡ true → find (same_form l) forms ≡ Some l
finds l [] e = cc e
finds l (m ∷ forms) e = elim (cases_Bool (same_form l m)) [
  | inl so ↦ ap (λ b. cond b (Some m) (find (same_form l) forms)) so ∙ ap Some (sym (same-forms l m so))
  | inr isnt ↦ ap (λ b. cond b (Some m) (find (same_form l) forms)) isnt ∙ finds l forms (rw isnt at e)
]

pub found-at : (l : LinView) (forms : List LinView) → list_any (same_form l) forms ≡ true → slice_get forms (place_of forms l) ≡ Some l
found-at l forms e = sym (find_at (same_form l) forms) ∙ finds l forms e

place-below : (l : LinView) (forms : List LinView) → list_any (same_form l) forms ≡ true → nat_lt (place_of forms l) (length forms) ≡ true
place-below l forms e = let h = slice_get_within forms (place_of forms l) l (found-at l forms e) in test (place_of forms l) (length forms) h
  where
    test : (a b : ℕ) → a < b → nat_lt a b ≡ true
    test a b h = grind (arith, h)

any-append : (q : LinView → Bool) (xs : List LinView) (y : LinView) → list_any q (xs ++ y ∷ []) ≡ (list_any q xs || q y)
any-append q [] y = or-false (q y)
any-append q (x ∷ xs) y = ap (λ b. q x || b) (any-append q xs y) ∙ sym (or_assoc (q x) (list_any q xs) (q y))

kept : (q : LinView → Bool) (forms : List LinView) (l : LinView) → list_any q forms ≡ true → list_any q (with_form forms l) ≡ true
kept q forms l e = elim (cases_Bool (list_any (same_form l) forms)) [
  | inl so ↦ ap (λ b. list_any q (cond b forms (forms ++ l ∷ []))) so ∙ e
  | inr isnt ↦ ap (λ b. list_any q (cond b forms (forms ++ l ∷ []))) isnt ∙ any-append q forms l ∙ ap (λ b. b || q l) e
]

all-kept : (q : LinView → Bool) (forms ls : List LinView) → list_any q forms ≡ true → list_any q (with_forms forms ls) ≡ true
all-kept q forms [] e = e
all-kept q forms (l ∷ ls) e = all-kept q (with_form forms l) ls (kept q forms l e)

there : (forms : List LinView) (l : LinView) → list_any (same_form l) (with_form forms l) ≡ true
there forms l = elim (cases_Bool (list_any (same_form l) forms)) [
  | inl so ↦ ap (λ b. list_any (same_form l) (cond b forms (forms ++ l ∷ []))) so ∙ so
  | inr isnt ↦ ap (λ b. list_any (same_form l) (cond b forms (forms ++ l ∷ []))) isnt ∙ any-append (same_form l) forms l
      ∙ ap (λ b. b || same_form l l) isnt ∙ form-itself l
]

-- each of these forms is among those
abbrev pub Has : List LinView → List LinView → Type 0
Has forms ls = list_all (λ l. list_any (same_form l) forms) ls ≡ true

pub has-all : (forms ls : List LinView) → Has (with_forms forms ls) ls
has-all forms [] = refl
has-all forms (l ∷ ls) =
    ap (λ b. b && list_all (λ m. list_any (same_form m) (with_forms (with_form forms l) ls)) ls)
    (all-kept (same_form l) (with_form forms l) ls (there forms l))
    ∙ has-all (with_form forms l) ls

forms-append : (forms xs ys : List LinView) → with_forms forms (xs ++ ys) ≡ with_forms (with_forms forms xs) ys
forms-append forms [] ys = refl
forms-append forms (x ∷ xs) ys = forms-append (with_form forms x) xs ys

-- the forms of one part more
pub forms-more : (forms mid now : List LinView) (parts : List Raw) (i : ℕ) (part : Raw) → i < length parts → part
    ≡ slice_index_or parts i part
    → mid ≡ with_forms forms (flat_map forms_of (take i parts)) → now ≡ with_forms mid (forms_of part) → now
    ≡ with_forms forms (flat_map forms_of (take (i + 1) parts))
forms-more forms mid now parts i part within is before here =
    here ∙ ap (λ (l : List LinView). with_forms l (forms_of part)) before
    ∙ sym (forms-append forms (flat_map forms_of (take i parts)) (forms_of part))
    ∙ ap (with_forms forms) (sym more)
  where
    more : flat_map forms_of (take (i + 1) parts) ≡ flat_map forms_of (take i parts) ++ forms_of part
    more = ap (flat_map forms_of) (take_more parts i part within ∙ ap (λ (p : Raw). take i parts ++ p ∷ []) (sym is))
        ∙ flat_map-append forms_of (take i parts) (part ∷ [])
        ∙ ap (λ (l : List LinView). flat_map forms_of (take i parts) ++ l) (append-nil (forms_of part))

pub begins-more : (parts : List Raw) (i : ℕ) (part : Raw) → i < length parts → part ≡ slice_index_or parts i part
    → list_all all_begin_well (take i parts) ≡ true → all_begin_well part ≡ true → list_all all_begin_well (take (i + 1) parts) ≡ true
begins-more parts i part within is before here =
    list_all_more all_begin_well parts i part within ∙ ap (λ b. b && all_begin_well (slice_index_or parts i part)) before
    ∙ ap all_begin_well (sym is) ∙ here

all-append : (q : LinView → Bool) (xs ys : List LinView) → list_all q (xs ++ ys) ≡ (list_all q xs && list_all q ys)
all-append q [] ys = refl
all-append q (x ∷ xs) ys = ap (λ b. q x && b) (all-append q xs ys) ∙ sym (and-assoc (q x) (list_all q xs) (list_all q ys))
  where
    and-assoc : (a b c : Bool) → ((a && b) && c) ≡ (a && (b && c))
    and-assoc true b c = refl
    and-assoc false b c = refl

module _ (literal : LiteralsHold) (divide : DividedHolds) (quotient : QuotientIsExact) (forms : List LinView) (x : ℕ → ℤ) where
  -- a placed node has only atoms that are there, and the truth of what it is made of
  pub record IsPlaced (whole : Node) (so : Bool) : Type 0 where
    pub below : atoms_below (length forms) whole ≡ true
    pub same : truth (atom_at forms x) whole ≡ so

  atom-placed : (l : LinView) → list_any (same_form l) forms ≡ true → IsPlaced (node.At (place_of forms l)) (int_le (form_at x l) (pos 0))
  atom-placed l e = record {
    below = below-At (length forms) (place_of forms l) ∙ place-below l forms e;
    same = truth-At (atom_at forms x) (place_of forms l) ∙ ap (form_truth x) (found-at l forms e);
  }

  negated-placed : (whole : Node) (so : Bool) → IsPlaced whole so → IsPlaced (node.Not whole) (not so)
  negated-placed whole so h = record {
    below = below-Not (length forms) whole ∙ h.below;
    same = truth-Not (atom_at forms x) whole ∙ ap not h.same;
  }

  constant-placed : (c s : ℤ) → s ≡ c → IsPlaced (cond (int_le c (pos 0)) (node.And []) (node.Or [])) (int_le s (pos 0))
  constant-placed c s e = subst (λ (z : ℤ). IsPlaced (cond (int_le c (pos 0)) (node.And []) (node.Or [])) (int_le z (pos 0))) (sym e)
      (by-truth (int_le c (pos 0)))
    where
      by-truth : (b : Bool) → IsPlaced (cond b (node.And []) (node.Or [])) b
      by-truth true = record { below = below-And (length forms) []; same = truth-And (atom_at forms x) [] }
      by-truth false = record { below = below-Or (length forms) []; same = truth-Or (atom_at forms x) [] }

  form-placed : (l : LinView) (fs : List Factor) → l.factors ≡ fs → Has forms (atoms_in l fs) → begins_well fs ≡ true
      → IsPlaced (placed_form forms l fs) (int_le (form_at x l) (pos 0))
  form-placed l [] is has well = constant-placed l.constant (form_at x l)
      (ap (λ (fs : List Factor). sum_at x fs +ℤ l.constant) is ∙ nothing l.constant)
    where
      nothing : (z : ℤ) → pos 0 +ℤ z ≡ z
      nothing z = omega (arith, ints)
  form-placed l (f ∷ fs) is has well =
      let is_there : list_any (same_form (canonical l)) forms ≡ true = (and_parts (list_any (same_form (canonical l)) forms) true has).0 in
      let some : 0 < length l.factors = let long = ap length is in omega (arith, long) in
      let law = canonical-same literal divide quotient x l some (ap begins_well is ∙ well) in
      let sign = ap is_positive is in
      by-sign (int_lt f.1 (pos 0)) (int_le (form_at x (canonical l)) (pos 0)) (int_le (form_at x l) (pos 0))
      (atom-placed (canonical l) is_there)
      (law ∙ ap (λ b. cond b (int_le (form_at x (canonical l)) (pos 0)) (not (int_le (form_at x (canonical l)) (pos 0)))) sign)
    where
      by-sign : (b t u : Bool) → IsPlaced (node.At (place_of forms (canonical l))) t → u ≡ cond (not b) t (not t)
          → IsPlaced (cond b (node.Not (node.At (place_of forms (canonical l)))) (node.At (place_of forms (canonical l)))) u
      by-sign true t u h e = subst (IsPlaced (node.Not (node.At (place_of forms (canonical l))))) (sym e)
          (negated-placed (node.At (place_of forms (canonical l))) t h)
      by-sign false t u h e = subst (IsPlaced (node.At (place_of forms (canonical l)))) (sym e) h

  abbrev Places : Raw → Type 0
  Places raw = Has forms (forms_of raw) → all_begin_well raw ≡ true → IsPlaced (placed forms raw) (raw_truth x raw)

  each-placed : (parts : List (WithRaw Places)) → Has forms (flat_map forms_of (bare_raw parts)) → list_all all_begin_well (bare_raw parts)
      ≡ true
      → (list_all (atoms_below (length forms)) (map (placed forms) (bare_raw parts)) ≡ true)
      × (map (λ r. truth (atom_at forms x) (placed forms r)) (bare_raw parts) ≡ map (raw_truth x) (bare_raw parts))
  each-placed [] has well = (refl, refl)
  each-placed (p ∷ parts) has well =
      let (here, more) = and_parts (list_all (λ l. list_any (same_form l) forms) (forms_of p.0))
      (list_all (λ l. list_any (same_form l) forms) (flat_map forms_of (bare_raw parts)))
      (sym (all-append (λ l. list_any (same_form l) forms) (forms_of p.0) (flat_map forms_of (bare_raw parts))) ∙ has) in
      let (first, rest) = and_parts (all_begin_well p.0) (list_all all_begin_well (bare_raw parts)) well in
      let whole = p.1 here first in
      let (below, same) = each-placed parts more rest in (
        ap (λ b. b && list_all (atoms_below (length forms)) (map (placed forms) (bare_raw parts))) whole.below ∙ below,
        λ i. whole.same i ∷ same i,
      )

  all-of : (q : Raw → Bool) (parts : List Raw) → list_all q parts ≡ list_all (λ (b : Bool). b) (map q parts)
  all-of q parts = sym (list_all-map (λ (b : Bool). b) q parts)

  any-of : (q : Raw → Bool) (parts : List Raw) → list_any q parts ≡ list_any (λ (b : Bool). b) (map q parts)
  any-of q parts = sym (list_any-map (λ (b : Bool). b) q parts)

  places : InductiveRaw Places
  places = record {
    form = λ l has well. subst (λ (n : Node). IsPlaced n (raw_truth x (Le l))) (sym (placed-Le forms l))
        (subst (IsPlaced (placed_form forms l l.factors)) (sym (raw-Le x l))
        (form-placed l l.factors refl (subst (Has forms) (forms-Le l) has) (sym (begins-Le l) ∙ well)));
    negated = λ inner h has well. subst (λ (n : Node). IsPlaced n (raw_truth x (Not inner))) (sym (placed-Not forms inner))
        (subst (IsPlaced (node.Not (placed forms inner))) (sym (raw-Not x inner))
        (negated-placed (placed forms inner) (raw_truth x inner) (h (subst (Has forms) (forms-Not inner) has)
        (sym (begins-Not inner) ∙ well))));
    all = λ parts has well.
        let (below, same) = each-placed parts (subst (Has forms) (forms-And (bare_raw parts)) has)
        (sym (begins-And (bare_raw parts)) ∙ well) in
        subst (λ (n : Node). IsPlaced n (raw_truth x (And (bare_raw parts)))) (sym (placed-And forms (bare_raw parts))) (record {
          below = below-And (length forms) (map (placed forms) (bare_raw parts)) ∙ below;
          same = truth-And (atom_at forms x) (map (placed forms) (bare_raw parts))
              ∙ list_all-map (truth (atom_at forms x)) (placed forms) (bare_raw parts)
              ∙ all-of (λ r. truth (atom_at forms x) (placed forms r)) (bare_raw parts) ∙ ap (list_all (λ (b : Bool). b)) same
              ∙ sym (all-of (raw_truth x) (bare_raw parts)) ∙ sym (raw-And x (bare_raw parts));
        });
    any = λ parts has well.
        let (below, same) = each-placed parts (subst (Has forms) (forms-Or (bare_raw parts)) has) (sym (begins-Or (bare_raw parts)) ∙ well)
        in
        subst (λ (n : Node). IsPlaced n (raw_truth x (Or (bare_raw parts)))) (sym (placed-Or forms (bare_raw parts))) (record {
          below = below-Or (length forms) (map (placed forms) (bare_raw parts)) ∙ below;
          same = truth-Or (atom_at forms x) (map (placed forms) (bare_raw parts))
              ∙ list_any-map (truth (atom_at forms x)) (placed forms) (bare_raw parts)
              ∙ any-of (λ r. truth (atom_at forms x) (placed forms r)) (bare_raw parts) ∙ ap (list_any (λ (b : Bool). b)) same
              ∙ sym (any-of (raw_truth x) (bare_raw parts)) ∙ sym (raw-Or x (bare_raw parts));
        });
  }

  pub is-placed : (raw : Raw) → Has forms (forms_of raw) → all_begin_well raw ≡ true → IsPlaced (placed forms raw) (raw_truth x raw)
  is-placed raw = raw_induction Places places raw
