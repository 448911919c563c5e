-- What is known of a part stays known of a narrower one: its atoms and its forced literals.
use Rattle.std.proofs.Common.{◌≡◌, ◌∙◌, inl, inr, sym, ap, subst, refl, ℕ, suc, ◌+◌, ◌*◌, ◌<◌, ◌≤◌, ℤ, pos, negsuc, ◌+ℤ◌, ◌-ℤ◌, ◌*ℤ◌}
use Rattle.std.proofs.Common.{◌≤ℤ◌, Bool, true, false, not, cond, List, [], ◌∷◌, ◌++◌, drop, length, Option, Some, None, slice_get, arith}
use Rattle.std.specs.Prelude.{int_le, int_lt, slice_set, unwrap_or}
use Rattle.std.proofs.lemmas.Bool.{cases_Bool, cases_eq}
use Rattle.std.proofs.lemmas.Int.{ints}
use Rattle.std.proofs.lemmas.Option.{get_or_from_slice_get, slice_get_within}
use Rattle.std.proofs.lemmas.List.{drop_more, get_or-set_other, get_or-set_same, length-set}
use Rattle.std.proofs.Math.Nat.{mul-le-mul_left}
use Rattle.ft_base.specs.declared.three.Three.{Three}
use Rattle.ft_base.specs.declared.three.Three.TheVariants.{No, Maybe, Yes}
use Rattle.ft_base.specs.Three.{is_no}
use Rattle.ft_linear.specs.laws.Sums.{SinglesTighten}
use Rattle.ft_linear.specs.meaning.Form.{Factor, LinView, high_end, least, low_end, most, span_at}
use Rattle.ft_linear.specs.meaning.Formula.{FormulaView}
use Rattle.ft_linear.specs.meaning.Forced.{value_of}
use Rattle.ft_linear.specs.meaning.Halving.{single_lines}
use Rattle.ft_linear.specs.meaning.Part.{PartView, atom_value, decision, fixed, fixed_form, forced, is_decision, truth_of, value_by}
use Rattle.ft_linear.specs.meaning.Rules.{Tightens, factor_of, literal_form}
use Rattle.ft_search.specs.declared.halving.Single.{Single}
use Rattle.ft_search.specs.searching.Kept.{form_of}
use Rattle.ft_search.specs.searching.Single.{IsTight}
use Rattle.ft_search.specs.searching.Sweep.{AreSweep, IsNarrower, IsOpen, IsSweepOf, IsSwept, after, tightened}
use Rattle.ft_search.proofs.AreaLemmas.{Inside, inside-narrowed, nonempty-narrowed}
use Rattle.ft_search.proofs.StayingLemmas.{Stays, forces-stay, value-stays}

times-up : (k : ℕ) (a b : ℤ) → a ≤ℤ b → (pos k *ℤ a) ≤ℤ (pos k *ℤ b)
times-up k (pos a) (pos b) h = let m : k * a ≤ k * b = mul-le-mul_left k (omega (arith, ints)) in grind (arith, ints)
times-up k (pos a) (negsuc b) h = absurd (omega (arith, ints))
times-up k (negsuc a) (pos b) h = grind (arith, ints)
times-up k (negsuc a) (negsuc b) h = let m : k * suc b ≤ k * suc a = mul-le-mul_left k (omega (arith, ints)) in grind (arith, ints)

times-down : (k : ℕ) (a b : ℤ) → a ≤ℤ b → (negsuc k *ℤ b) ≤ℤ (negsuc k *ℤ a)
times-down k (pos a) (pos b) h = let m : suc k * a ≤ suc k * b = mul-le-mul_left (suc k) (omega (arith, ints)) in grind (arith, ints)
times-down k (pos a) (negsuc b) h = absurd (omega (arith, ints))
times-down k (negsuc a) (pos b) h = grind (arith, ints)
times-down k (negsuc a) (negsuc b) h = let m : suc k * suc b ≤ suc k * suc a = mul-le-mul_left (suc k) (omega (arith, ints)) in
    grind (arith, ints)

not-under : (n : ℕ) → int_lt (pos n) (pos 0) ≡ false
not-under n = grind (arith, ints)

high-less : (g : ℤ) (s t : ℤ × ℤ) → s.0 ≤ℤ t.0 → t.1 ≤ℤ s.1 → high_end g t ≤ℤ high_end g s
high-less (pos k) s t low high = subst (λ (b : Bool). (pos k *ℤ cond b t.0 t.1) ≤ℤ (pos k *ℤ cond b s.0 s.1)) (sym (not-under k))
    (times-up k t.1 s.1 high)
high-less (negsuc k) s t low high = times-down k s.0 t.0 low

low-more : (g : ℤ) (s t : ℤ × ℤ) → s.0 ≤ℤ t.0 → t.1 ≤ℤ s.1 → low_end g s ≤ℤ low_end g t
low-more (pos k) s t low high = subst (λ (b : Bool). (pos k *ℤ cond b s.1 s.0) ≤ℤ (pos k *ℤ cond b t.1 t.0)) (sym (not-under k))
    (times-up k s.0 t.0 low)
low-more (negsuc k) s t low high = times-down k t.1 s.1 high

low-high : (g : ℤ) (t : ℤ × ℤ) → t.0 ≤ℤ t.1 → low_end g t ≤ℤ high_end g t
low-high (pos k) t some = subst (λ (b : Bool). (pos k *ℤ cond b t.1 t.0) ≤ℤ (pos k *ℤ cond b t.0 t.1)) (sym (not-under k))
    (times-up k t.0 t.1 some)
low-high (negsuc k) t some = times-down k t.0 t.1 some

by-tests : (m l n k c : ℤ) → n ≤ℤ m → l ≤ℤ k → k ≤ℤ n → Stays (cond (int_le (m +ℤ c) (pos 0)) Yes (cond (int_lt (pos 0) (l +ℤ c)) No Maybe))
    (cond (int_le (n +ℤ c) (pos 0)) Yes (cond (int_lt (pos 0) (k +ℤ c)) No Maybe))
by-tests m l n k c less more some = elim (cases_Bool (int_le (m +ℤ c) (pos 0))) [
  | inl so ↦ let also = still m n c less so in rw (so, also) refl
  | inr isnt ↦ elim (cases_Bool (int_lt (pos 0) (l +ℤ c))) [
    | inl above ↦
        let neither = over l k n c more some above in
        let also = higher l k c more above in
        rw (isnt, above, neither, also) refl
    | inr other ↦ rw (isnt, other) tt
  ]
]
  where
    still : (m n c : ℤ) → n ≤ℤ m → int_le (m +ℤ c) (pos 0) ≡ true → int_le (n +ℤ c) (pos 0) ≡ true
    still m n c less so = grind (arith, ints, less, so)

    higher : (l k c : ℤ) → l ≤ℤ k → int_lt (pos 0) (l +ℤ c) ≡ true → int_lt (pos 0) (k +ℤ c) ≡ true
    higher l k c more so = grind (arith, ints, more, so)

    over : (l k n c : ℤ) → l ≤ℤ k → k ≤ℤ n → int_lt (pos 0) (l +ℤ c) ≡ true → int_le (n +ℤ c) (pos 0) ≡ false
    over l k n c more some so = grind (arith, ints, more, some, so)

by-stays : (o : Option Bool) (v w : Three) → Stays v w → Stays (value_by o v) (value_by o w)
by-stays None v w h = h
by-stays (Some true) v w h = refl
by-stays (Some false) v w h = refl

module _ (p q : PartView) (n : IsNarrower p q) where
  most-less : (fs : List Factor) → most q.spans fs ≤ℤ most p.spans fs
  most-less [] = omega (arith, ints)
  most-less (f ∷ fs) =
      let e = high-less f.1 (span_at p.spans f.0) (span_at q.spans f.0) (n.low f.0) (n.high f.0) in
      let r = most-less fs in
      omega (arith, ints, e, r)

  least-more : (fs : List Factor) → least p.spans fs ≤ℤ least q.spans fs
  least-more [] = omega (arith, ints)
  least-more (f ∷ fs) =
      let e = low-more f.1 (span_at p.spans f.0) (span_at q.spans f.0) (n.low f.0) (n.high f.0) in
      let r = least-more fs in
      omega (arith, ints, e, r)

  least-most : (fs : List Factor) → least q.spans fs ≤ℤ most q.spans fs
  least-most [] = omega (arith, ints)
  least-most (f ∷ fs) =
      let e = low-high f.1 (span_at q.spans f.0) (n.some f.0) in let r = least-most fs in omega (arith, ints, e, r)

  form-stays : (o : Option LinView) → Stays (fixed_form p.spans o) (fixed_form q.spans o)
  form-stays None = tt
  form-stays (Some l) =
      by-tests (most p.spans l.factors) (least p.spans l.factors) (most q.spans l.factors) (least q.spans l.factors) l.constant
      (most-less l.factors) (least-more l.factors) (least-most l.factors)

  module _ (f : FormulaView) where
    same-decision : (a : ℕ) → decision q a ≡ decision p a
    same-decision a = ap (λ (ds : List (Option Bool)). unwrap_or (slice_get ds a) None) n.decided

    atom-stays : (a : ℕ) → Stays (atom_value f p a) (atom_value f q a)
    atom-stays a = subst (λ (o : Option Bool). Stays (value_by (decision p a) (fixed f p a)) (value_by o (fixed f q a)))
        (sym (same-decision a)) (by-stays (decision p a) (fixed f p a) (fixed f q a) (form-stays (slice_get f.atoms a)))

    pub root-stays : is_no (value_of (atom_value f q) f.root) ≡ false → is_no (value_of (atom_value f p) f.root) ≡ false
    root-stays = back (value_of (atom_value f p) f.root) (value_of (atom_value f q) f.root)
        (value-stays (atom_value f p) (atom_value f q) atom-stays f.root)
      where
        back : (v w : Three) → Stays v w → is_no w ≡ false → is_no v ≡ false
        back No w h e = cc (sym e ∙ ap is_no h)
        back Maybe w h e = refl
        back Yes w h e = refl

    pub forced-stays : (a : ℕ) (s : Bool) → is_no (value_of (atom_value f q) f.root) ≡ false → forced f p a s ≡ true
        → forced f q a s ≡ true
    forced-stays a s opened e = elim (cases_Bool (is_decision (decision q a) s)) [
      | inl here ↦ rw here refl
      | inr isnt ↦
          let before : is_decision (decision p a) s ≡ false = ap (λ (o : Option Bool). is_decision o s) (sym (same-decision a)) ∙ isnt in
          rw isnt
          (forces-stay (atom_value f p) (atom_value f q) atom-stays f.root true a s (ap not opened) (rw before at e))
    ]

narrower-same : (p : PartView) → ((u : ℕ) → (span_at p.spans u).0 ≤ℤ (span_at p.spans u).1) → IsNarrower p p
narrower-same p full = record {
  decided = refl;
  long = refl;
  low = λ u. omega (arith, ints);
  high = λ u. omega (arith, ints);
  some = full;
}

narrower-join : (p q r : PartView) → IsNarrower p q → IsNarrower q r → IsNarrower p r
narrower-join p q r a b = record {
  decided = b.decided ∙ a.decided;
  long = b.long ∙ a.long;
  low = λ u. let x = a.low u in let y = b.low u in omega (arith, ints, x, y);
  high = λ u. let x = a.high u in let y = b.high u in omega (arith, ints, x, y);
  some = b.some;
}

-- one span in the place of another
narrower-cut : (q : PartView) (u : ℕ) (t : ℤ × ℤ) → u < length q.spans → Inside t (span_at q.spans u) → t.0 ≤ℤ t.1
    → ((w : ℕ) → (span_at q.spans w).0 ≤ℤ (span_at q.spans w).1)
    → IsNarrower q (record { spans = slice_set q.spans u t; decided = q.decided })
narrower-cut q u t within inside some full = record {
  decided = refl;
  long = length-set q.spans u t;
  low = λ w. at w (λ s. (span_at q.spans w).0 ≤ℤ s.0) (λ e. subst (λ (k : ℕ). (span_at q.spans k).0 ≤ℤ t.0) (sym e) inside.0)
      (omega (arith, ints));
  high = λ w. at w (λ s. s.1 ≤ℤ (span_at q.spans w).1) (λ e. subst (λ (k : ℕ). t.1 ≤ℤ (span_at q.spans k).1) (sym e) inside.1)
      (omega (arith, ints));
  some = λ w. at w (λ s. s.0 ≤ℤ s.1) (λ e. some) (full w);
}
  where
    at : (w : ℕ) (P : ℤ × ℤ → Type 0) → (w ≡ u → P t) → P (span_at q.spans w) → P (span_at (slice_set q.spans u t) w)
    at w P here there = elim (cases_eq w u) [
      | inl same ↦ subst P (sym (ap (λ (k : ℕ). span_at (slice_set q.spans u t) k) same ∙ get_or-set_same q.spans u t (pos 0, pos 0) within))
          (here same)
      | inr other ↦ subst P (sym (get_or-set_other q.spans u w t (pos 0, pos 0) other)) there
    ]

module _ (f : FormulaView) (p : PartView) where
  narrower-step : (q : PartView) (s : Single) → IsSweepOf f p q s → ((w : ℕ) → (span_at q.spans w).0 ≤ℤ (span_at q.spans w).1)
      → IsNarrower q (tightened q s)
  narrower-step q s is full =
      let m = literal_form s.value is.l in
      let g = factor_of s.unknown m.factors in
      let k = m.constant +ℤ (least q.spans m.factors -ℤ low_end g (span_at q.spans s.unknown)) in
      narrower-cut q s.unknown s.span is.unknown (inside-narrowed g k (span_at q.spans s.unknown) s.span is.span)
      (nonempty-narrowed g k (span_at q.spans s.unknown) s.span is.span) full

  narrower-after : (q : PartView) (ss : List Single) → AreSweep f p q ss → ((w : ℕ) → (span_at q.spans w).0 ≤ℤ (span_at q.spans w).1)
      → IsNarrower q (after q ss)
  narrower-after q [] are full = narrower-same q full
  narrower-after q (s ∷ ss) are full =
      let step = narrower-step q s are.0 full in
      narrower-join q (tightened q s) (after (tightened q s) ss) step (narrower-after (tightened q s) ss are.1 step.some)

  pub sweep-push : (q : PartView) (ss : List Single) (s : Single) → AreSweep f p q ss → IsSweepOf f p (after q ss) s
      → AreSweep f p q (ss ++ s ∷ [])
  sweep-push q [] s are is = (is, tt)
  sweep-push q (t ∷ ss) s are is = (are.0, sweep-push (tightened q t) ss s are.1 is)

pub after-push : (q : PartView) (ss : List Single) (s : Single) → after q (ss ++ s ∷ []) ≡ tightened (after q ss) s
after-push q [] s = refl
after-push q (t ∷ ss) s = after-push (tightened q t) ss s

pub swept-more : (f : FormulaView) (p q : PartView) (ss : List Single) (s : Single) → IsSwept f p ss q → IsSweepOf f p q s
    → IsSwept f p (ss ++ s ∷ []) (tightened q s)
swept-more f p q ss s swept is = record {
  are = sweep-push f p p ss s swept.are (subst (λ (r : PartView). IsSweepOf f p r s) (sym swept.ends) is);
  ends = after-push p ss s ∙ ap (λ (r : PartView). tightened r s) swept.ends;
  full = swept.full;
}

-- where the commit of a sweep stands
pub record IsCommitted (f : FormulaView) (p q : PartView) (rest : List Single) : Type 0 where
  pub narrower : IsNarrower p q
  pub are : AreSweep f p q rest

pub committed-begins : (f : FormulaView) (p q : PartView) (ss : List Single) → IsSwept f p ss q → IsCommitted f p p ss
committed-begins f p q ss swept = record { narrower = narrower-same p swept.full; are = swept.are }

pub open-before : (f : FormulaView) (p q : PartView) (rest : List Single) → IsCommitted f p q rest → IsOpen f (after q rest) → IsOpen f q
open-before f p q rest c opened = root-stays q (after q rest) (narrower-after f p q rest c.are c.narrower.some) f opened

pub committed-more : (f : FormulaView) (p q : PartView) (s : Single) (rest : List Single) → IsCommitted f p q (s ∷ rest)
    → IsCommitted f p (tightened q s) rest
committed-more f p q s rest c = record {
  narrower = narrower-join p q (tightened q s) c.narrower (narrower-step f p q s c.are.0 c.narrower.some);
  are = c.are.1;
}

-- a tightening holds at its own part where that is opened
pub tight-at : (law : SinglesTighten) (f : FormulaView) (p q : PartView) (s : Single) (rest : List Single)
    → IsCommitted f p q (s ∷ rest) → IsOpen f q → IsTight f q s
tight-at law f p q s rest c opened =
    let is = c.are.0 in
    let here : form_of f s.atom ≡ is.l = ap (λ (o : Option LinView). unwrap_or o (record { factors = []; constant = pos 0 })) is.form in
    let now = forced-stays p q c.narrower f s.atom s.value opened is.at_first in
    subst (λ (l : LinView). Tightens f q s.unknown (single_lines s.atom s.value s.unknown l) s.span) (sym here)
    ((law f q s.atom s.value s.unknown is.l s.span is.form is.proper is.has is.few now is.unknown).1 is.span)

next-of : (xs : List Single) (i : ℕ) (x : Single) → slice_get xs i ≡ Some x → drop i xs ≡ x ∷ drop (i + 1) xs
next-of xs i x got =
    drop_more xs i x (slice_get_within xs i x got) ∙ ap (λ (y : Single). y ∷ drop (i + 1) xs) (get_or_from_slice_get xs i x x got)

-- the next of a sweep's tightenings
module _ (f : FormulaView) (p q : PartView) (made : List Single) (i : ℕ) (s : Single) (got : slice_get made i ≡ Some s)
    (c : IsCommitted f p q (drop i made)) where
  pub next-committed : IsCommitted f p q (s ∷ drop (i + 1) made)
  next-committed = subst (λ (ss : List Single). IsCommitted f p q ss) (next-of made i s got) c

  pub next-after : (r : PartView) → after q (drop i made) ≡ r → after (tightened q s) (drop (i + 1) made) ≡ r
  next-after r ends = ap (λ (ss : List Single). after q ss) (sym (next-of made i s got)) ∙ ends

  pub next-more : (next : PartView) → next ≡ tightened q s → IsCommitted f p next (drop (i + 1) made)
  next-more next is = subst (λ (r : PartView). IsCommitted f p r (drop (i + 1) made)) (sym is)
      (committed-more f p q s (drop (i + 1) made) next-committed)

  pub next-tight : (law : SinglesTighten) → IsOpen f q → IsTight f q s
  next-tight law opened = tight-at law f p q s (drop (i + 1) made) next-committed opened

pub open-by : (f : FormulaView) (p : PartView) → (truth_of f p ≡ No → ⊥) → IsOpen f p
open-by f p other = elim (cases_Bool (is_no (value_of (atom_value f p) f.root))) [
  | inl so ↦ absurd (other (rw so refl))
  | inr isnt ↦ isnt
]
