-- Bounds of forms over areas, and what a part says of its points.
use Rattle.std.proofs.Common.{◌≤◌, ◌+◌, suc, zero, ◌≡◌, ◌∙◌, ◌⊎◌, inl, inr, sym, ap, subst, refl, ℕ, ◌<◌, ℤ, pos, negsuc, ◌+ℤ◌, ◌*ℤ◌, ◌≤ℤ◌}
use Rattle.std.proofs.Common.{Bool, true, false, cond, List, [], ◌∷◌, ◌||◌, length, arith, Option, Some, None, slice_get}
use Rattle.std.specs.Prelude.{int_lt, int_le, unwrap_or}
use Rattle.std.specs.List.{list_any, list_all, range_with_len}
use Rattle.std.specs.Prelude.{nat_lt}
use Rattle.std.proofs.lemmas.Bool.{cases_Bool, cases_eq, and_parts}
use Rattle.std.proofs.lemmas.Int.{ints}
use Rattle.std.proofs.lemmas.Option.{slice_get-get_or, slice_get_past, get_or_from_slice_get, slice_get_within}
use Rattle.std.proofs.lemmas.List.Elements.{All-head, All-tail}
use Rattle.ft_base.specs.Interval.{IsWithin}
use Rattle.ft_base.specs.declared.three.Three.{Three}
use Rattle.ft_base.specs.declared.three.Three.TheVariants.{No, Maybe, Yes}
use Rattle.ft_linear.specs.meaning.Form.{LinView, Factor, sum_at, InArea, span_at, HasUnknowns, most, least, high_end, low_end}
use Rattle.ft_linear.specs.meaning.Formula.{FormulaView, atom_at, form_truth, Satisfies, IsOver}
use Rattle.ft_linear.specs.meaning.Truth.{truth}
use Rattle.ft_linear.specs.meaning.Forced.{value_of}
use Rattle.ft_base.specs.Three.{is_yes, is_no}
use Rattle.ft_linear.specs.meaning.Part.{PartView, agrees, is_against, is_forced_both, fixed_form, fixed, decision, value_by, atom_value}
use Rattle.ft_linear.specs.meaning.Part.{is_decision, forced, against, atoms_of, truth_of, PointOf}
use Rattle.ft_linear.proofs.ForcedLaws.{Agrees, SoundAtoms, no-false, yes-true, value_agrees, forced_so, same-bools}
use Rattle.ft_linear.proofs.Basics.{not-under}
use Rattle.ft_linear.proofs.Whole.{times-up, times-down}

high-most : (f x : ℤ) (s : ℤ × ℤ) → IsWithin s x → (f *ℤ x) ≤ℤ high_end f s
high-most (pos k) x s within = subst (λ (t : Bool). (pos k *ℤ x) ≤ℤ (pos k *ℤ cond t s.0 s.1)) (sym (not-under k))
    (times-up k x s.1 within.1)
high-most (negsuc k) x s within = times-down k s.0 x within.0

low-least : (f x : ℤ) (s : ℤ × ℤ) → IsWithin s x → low_end f s ≤ℤ (f *ℤ x)
low-least (pos k) x s within = subst (λ (t : Bool). (pos k *ℤ cond t s.1 s.0) ≤ℤ (pos k *ℤ x)) (sym (not-under k))
    (times-up k s.0 x within.0)
low-least (negsuc k) x s within = times-down k x s.1 within.1

pub in-span : (spans : List (ℤ × ℤ)) (x : ℕ → ℤ) (u : ℕ) → InArea spans x → u < length spans → IsWithin (span_at spans u) (x u)
in-span spans x u area within = area u (span_at spans u) (slice_get-get_or spans u (pos 0, pos 0) within)

pub at-most : (spans : List (ℤ × ℤ)) (x : ℕ → ℤ) (fs : List Factor) → InArea spans x → HasUnknowns (length spans) fs
    → sum_at x fs ≤ℤ most spans fs
at-most spans x [] area h = omega (arith, ints)
at-most spans x (f ∷ fs) area h =
    let e = high-most f.1 (x f.0) (span_at spans f.0) (in-span spans x f.0 area (All-head (λ (g : Factor). g.0 < length spans) f fs h)) in
    let r = at-most spans x fs area (All-tail (λ (g : Factor). g.0 < length spans) f fs h) in
    omega (arith, ints, e, r)

pub at-least : (spans : List (ℤ × ℤ)) (x : ℕ → ℤ) (fs : List Factor) → InArea spans x → HasUnknowns (length spans) fs
    → least spans fs ≤ℤ sum_at x fs
at-least spans x [] area h = omega (arith, ints)
at-least spans x (f ∷ fs) area h =
    let e = low-least f.1 (x f.0) (span_at spans f.0) (in-span spans x f.0 area (All-head (λ (g : Factor). g.0 < length spans) f fs h)) in
    let r = at-least spans x fs area (All-tail (λ (g : Factor). g.0 < length spans) f fs h) in
    omega (arith, ints, e, r)

by-tests : (high low v c : ℤ) → v ≤ℤ high → low ≤ℤ v → Agrees (cond (int_le (high +ℤ c) (pos 0)) Yes
    (cond (int_lt (pos 0) (low +ℤ c)) No Maybe)) (int_le (v +ℤ c) (pos 0))
by-tests high low v c a b = elim (cases_Bool (int_le (high +ℤ c) (pos 0))) [
  | inl so ↦ rw so (grind (arith, ints))
  | inr isnt ↦ elim (cases_Bool (int_lt (pos 0) (low +ℤ c))) [
    | inl above ↦ rw (isnt, above) (grind (arith, ints))
    | inr other ↦ rw (isnt, other) tt
  ]
]

fixed-agrees : (spans : List (ℤ × ℤ)) (x : ℕ → ℤ) (o : Option LinView) → InArea spans x
    → ((l : LinView) → o ≡ Some l → HasUnknowns (length spans) l.factors) → Agrees (fixed_form spans o) (form_truth x o)
fixed-agrees spans x None area h = tt
fixed-agrees spans x (Some l) area h = by-tests (most spans l.factors) (least spans l.factors) (sum_at x l.factors) l.constant
    (at-most spans x l.factors area (h l refl)) (at-least spans x l.factors area (h l refl))

by-decision : (o : Option Bool) (v : Three) (b : Bool) → Agrees v b → ((d : Bool) → o ≡ Some d → b ≡ d) → Agrees (value_by o v) b
by-decision None v b h k = h
by-decision (Some true) v b h k = k true refl
by-decision (Some false) v b h k = k false refl

over-at : (count : ℕ) (f : FormulaView) → IsOver count f → (a : ℕ) (l : LinView) → slice_get f.atoms a ≡ Some l
    → HasUnknowns count l.factors
over-at count f over a l is = subst (λ (m : LinView). HasUnknowns count m.factors) (get_or_from_slice_get f.atoms a l l is)
    (over a l (slice_get_within f.atoms a l is))

module _ (f : FormulaView) (p : PartView) (x : ℕ → ℤ) (over : IsOver (length p.spans) f) (point : PointOf f p x) where
  fixed-sound : (a : ℕ) → Agrees (fixed f p a) (atom_at f.atoms x a)
  fixed-sound a = fixed-agrees p.spans x (slice_get f.atoms a) point.0 (over-at (length p.spans) f over a)

  sound : SoundAtoms (atom_value f p) (atom_at f.atoms x)
  sound a = by-decision (decision p a) (fixed f p a) (atom_at f.atoms x a) (fixed-sound a) (point.1 a)

  decided-so : (o : Option Bool) (s b : Bool) → ((d : Bool) → o ≡ Some d → b ≡ d) → is_decision o s ≡ true → b ≡ s
  decided-so None s b k e = cc e
  decided-so (Some d) s b k e = k d refl ∙ same-bools d s e

  pub forced-point : (a : ℕ) (s : Bool) → Satisfies f x → forced f p a s ≡ true → atom_at f.atoms x a ≡ s
  forced-point a s sat e = elim (cases_Bool (is_decision (decision p a) s)) [
    | inl here ↦ decided-so (decision p a) s (atom_at f.atoms x a) (point.1 a) here
    | inr isnt ↦ forced_so (atom_value f p) (atom_at f.atoms x) f.root true a s sound sat (rw isnt at e)
  ]

  never-against : (o : Option Bool) (v : Three) (b : Bool) → Agrees v b → ((d : Bool) → o ≡ Some d → b ≡ d) → against o v ≡ true → ⊥
  never-against None v b h k e = cc e
  never-against (Some true) No b h k e = cc (sym h ∙ k true refl)
  never-against (Some true) Maybe b h k e = cc e
  never-against (Some true) Yes b h k e = cc e
  never-against (Some false) No b h k e = cc e
  never-against (Some false) Maybe b h k e = cc e
  never-against (Some false) Yes b h k e = cc (sym h ∙ k false refl)

  none-of : (q : ℕ → Bool) → ((a : ℕ) → q a ≡ true → ⊥) → (numbers : List ℕ) → list_any q numbers ≡ true → ⊥
  none-of q h [] e = cc e
  none-of q h (a ∷ numbers) e = elim (cases_Bool (q a)) [
    | inl bad ↦ h a bad
    | inr fine ↦ none-of q h numbers (rw fine at e)
  ]

  no-against : (a : ℕ) → is_against f p a ≡ true → ⊥
  no-against a bad = never-against (decision p a) (fixed f p a) (atom_at f.atoms x a) (fixed-sound a) (point.1 a) bad

  no-both : Satisfies f x → (a : ℕ) → is_forced_both f p a ≡ true → ⊥
  no-both sat a bad = let (t, n) = and_parts (forced f p a true) (forced f p a false) bad in
      cc (sym (forced-point a true sat t) ∙ forced-point a false sat n)

  by-answer : (a b d c : Bool) → cond (a || b || d) No (cond c Yes Maybe) ≡ No → (a ≡ true) ⊎ ((b ≡ true) ⊎ (d ≡ true))
  by-answer true b d c e = inl refl
  by-answer false true d c e = inr (inl refl)
  by-answer false false true c e = inr (inr refl)
  by-answer false false false true e = cc e
  by-answer false false false false e = cc e

  pub no-point : truth_of f p ≡ No → Satisfies f x → ⊥
  no-point e sat = elim (by-answer _ _ _ _ e) [
    | inl bad ↦ cc (sym (no-false (value_of (atom_value f p) f.root) (truth (atom_at f.atoms x) f.root)
        (value_agrees (atom_value f p) (atom_at f.atoms x) f.root sound) bad) ∙ sat)
    | inr more ↦ elim more [
      | inl bad ↦ none-of (is_against f p) no-against (atoms_of f) bad
      | inr bad ↦ none-of (is_forced_both f p) (no-both sat) (atoms_of f) bad
    ]
  ]

module _ (f : FormulaView) (p : PartView) (x : ℕ → ℤ) (over : IsOver (length p.spans) f) (area : InArea p.spans x) where
  fixed-in : (a : ℕ) → Agrees (fixed f p a) (atom_at f.atoms x a)
  fixed-in a = fixed-agrees p.spans x (slice_get f.atoms a) area (over-at (length p.spans) f over a)

  as-fixed : (o : Option Bool) (v : Three) (b : Bool) → Agrees v b → agrees o v ≡ true → Agrees (value_by o v) b
  as-fixed None v b h e = h
  as-fixed (Some true) No b h e = cc e
  as-fixed (Some true) Maybe b h e = cc e
  as-fixed (Some true) Yes b h e = h
  as-fixed (Some false) No b h e = h
  as-fixed (Some false) Maybe b h e = cc e
  as-fixed (Some false) Yes b h e = cc e

  yes-answer : (a b d c : Bool) → cond (a || b || d) No (cond c Yes Maybe) ≡ Yes → c ≡ true
  yes-answer true b d c e = cc e
  yes-answer false true d c e = cc e
  yes-answer false false true c e = cc e
  yes-answer false false false true e = refl
  yes-answer false false false false e = cc e

  satisfied : ((a : ℕ) → agrees (decision p a) (fixed f p a) ≡ true) → is_yes (value_of (atom_value f p) f.root) ≡ true → Satisfies f x
  satisfied all yes_value = yes-true (value_of (atom_value f p) f.root) (truth (atom_at f.atoms x) f.root)
      (value_agrees (atom_value f p) (atom_at f.atoms x) f.root (λ a. as-fixed (decision p a) (fixed f p a) (atom_at f.atoms x a)
      (fixed-in a) (all a))) yes_value

all-range : (q : ℕ → Bool) (from n : ℕ) → list_all q (range_with_len from n) ≡ true → (a : ℕ) → from ≤ a → a < from + n → q a ≡ true
all-range q from zero e a low high = absurd (omega (arith, low, high))
all-range q from (suc n) e a low high = elim (cases_Bool (q from)) [
  | inl so ↦ elim (cases_eq a from) [
    | inl same ↦ ap q same ∙ so
    | inr other ↦ all-range q (from + 1) n (rw so at e) a (grind (arith, low, other)) (omega (arith, high))
  ]
  | inr isnt ↦ cc (rw isnt at e)
]

past-none : (f : FormulaView) (p : PartView) (a : ℕ) → length p.decided ≡ length f.atoms → length f.atoms ≤ a
    → agrees (decision p a) (fixed f p a) ≡ true
past-none f p a same past = ap (λ (o : Option (Option Bool)). agrees (unwrap_or o None) (fixed f p a))
    (slice_get_past p.decided a (omega (arith, same, past)))

pub yes-point : (f : FormulaView) (p : PartView) (x : ℕ → ℤ) → IsOver (length p.spans) f → length p.decided ≡ length f.atoms
    → InArea p.spans x → truth_of f p ≡ Yes → Satisfies f x
yes-point f p x over same area e =
    let (root, all) = and_parts (is_yes (value_of (atom_value f p) f.root))
    (list_all (λ a. agrees (decision p a) (fixed f p a)) (atoms_of f))
    (yes-answer f p x over area (is_no (value_of (atom_value f p) f.root)) (list_any (is_against f p) (atoms_of f))
    (list_any (is_forced_both f p) (atoms_of f)) _ e) in
    satisfied f p x over area (λ a. elim (cases_Bool (nat_lt a (length f.atoms))) [
      | inl below ↦ all-range (λ a. agrees (decision p a) (fixed f p a)) 0 (length f.atoms) all a (omega arith) (grind (arith, below))
      | inr above ↦ past-none f p a same (grind (arith, above))
    ]) root
