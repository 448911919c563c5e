-- Forms and formulas made from left to right, with one list of pairs that grows.
use Rattle.std.proofs.Common.{◌≡◌, ◌∙◌, sym, ap, subst, refl, ℕ, ◌+◌, ◌<◌, ◌≤◌, ℤ, negsuc, true, false, Bool, not, ◌||◌, cond, List, []}
use Rattle.std.proofs.Common.{◌∷◌, ◌++◌, length, arith, ⊎_elim, if◌then◌else◌}
use Rattle.std.specs.List.{list_any, position_or_len}
use Rattle.std.proofs.lemmas.Bool.{cases_Bool, cond-true, cond-false}
use Rattle.ft_base.specs.Division.{floor_of}
use Rattle.ft_linear.specs.meaning.Form.{Factor, LinView}
use Rattle.ft_claims.specs.declared.claim.Sym.{Sym}
use Rattle.ft_claims.specs.declared.claim.Sym.TheOpen as part
use Rattle.ft_claims.specs.declared.claim.Sym.TheVariants.{Num, Slot, Neg, Add, Sub, Times, Div, rolls-Num, rolls-Slot, rolls-Neg}
use Rattle.ft_claims.specs.declared.claim.Sym.TheVariants.{rolls-Add, rolls-Sub, rolls-Times, rolls-Div}
use Rattle.ft_claims.specs.meaning.Forms.{constant_form, unknown, plus, minus, times, Entry, Entries, same_entry, is_constant, is_in}
use Rattle.ft_claims.specs.meaning.Forms.{quotient, with_entry, Gathered, gathered, Gathers}
use Rattle.ft_claims.proofs.GatherLemmas.{Extends, entry-itself, extends-entry, form_longer, rolled, stable}

module _ (base : ℕ) where
  gathers : (e : Sym) (g : Gathered) → gathered base e ≡ g → (T U : Entries) (f : LinView) → U ≡ g.entries T → f ≡ g.form U
      → Gathers base e T U f
  gathers e g is T U f t h = record {
    entries = t ∙ sym (ap (λ (x : Gathered). x.entries T) is);
    form = h
        ∙ sym (ap (λ (x : Gathered). x.form U) is);
  }

  pub gathers-Num : (n : ℤ) (T : Entries) → Gathers base (Num n) T T (constant_form n)
  gathers-Num n T = gathers (Num n) _ (rolled base _ (part.Num n) (rolls-Num n)) T T (constant_form n) refl refl

  pub gathers-Slot : (x : ℕ) (T : Entries) → Gathers base (Slot x) T T (unknown x)
  gathers-Slot x T = gathers (Slot x) _ (rolled base _ (part.Slot x) (rolls-Slot x)) T T (unknown x) refl refl

  pub gathers-Neg : (a : Sym) (T U : Entries) (f : LinView) → Gathers base a T U f → Gathers base (Neg a) T U (times (negsuc 0) f)
  gathers-Neg a T U f m = gathers (Neg a) _ (rolled base _ (part.Neg a) (rolls-Neg a)) T U _ m.entries (ap (times (negsuc 0)) m.form)

  pub gathers-Times : (c : ℤ) (a : Sym) (T U : Entries) (f : LinView) → Gathers base a T U f → Gathers base (Times c a) T U (times c f)
  gathers-Times c a T U f m = gathers (Times c a) _ (rolled base _ (part.Times c a) (rolls-Times c a)) T U _ m.entries (ap (times c) m.form)

  -- the form by a longer list
  pub later : (a : Sym) (T U W : Entries) (f : LinView) → Gathers base a T U f → Extends U W → f ≡ (gathered base a).form W
  later a T U W f m more =
      m.form ∙ sym (form_longer (gathered base a) (stable base a) U W more (ap (gathered base a).has m.entries ∙ (stable base a).gets T))

  pub gathers-Add : (a b : Sym) (T U W : Entries) (f g : LinView) → Gathers base a T U f → Gathers base b U W g
      → Gathers base (Add a b) T W (plus f g)
  gathers-Add a b T U W f g m n =
      let early = later a T U W f m (subst (Extends U) (sym n.entries) ((stable base b).grows U)) in
      gathers (Add a b) _ (rolled base _ (part.Add a b) (rolls-Add a b)) T W (plus f g) (n.entries ∙ ap (gathered base b).entries m.entries)
      (λ i. plus (early i) (n.form i))

  pub gathers-Sub : (a b : Sym) (T U W : Entries) (f g : LinView) → Gathers base a T U f → Gathers base b U W g
      → Gathers base (Sub a b) T W (minus f g)
  gathers-Sub a b T U W f g m n =
      let early = later a T U W f m (subst (Extends U) (sym n.entries) ((stable base b).grows U)) in
      gathers (Sub a b) _ (rolled base _ (part.Sub a b) (rolls-Sub a b)) T W (minus f g)
      (n.entries ∙ ap (gathered base b).entries m.entries) (λ i. minus (early i) (n.form i))

  pub gathers-Div : (a : Sym) (k : ℤ) (T U W : Entries) (f q : LinView) → Gathers base a T U f → W ≡ with_entry U f k → q
      ≡ quotient base W f k
      → Gathers base (Div a k) T W q
  gathers-Div a k T U W f q m grown made =
      let early = later a T U W f m (subst (Extends U) (sym grown) (extends-entry U f k)) in
      let own = m.form ∙ ap (gathered base a).form m.entries in
      gathers (Div a k) _ (rolled base _ (part.Div a k) (rolls-Div a k)) T W q (grown ∙ (λ i. with_entry (m.entries i) (own i) k))
      (made ∙ ap (λ (h : LinView). quotient base W h k) early)

  -- the same of what equals it
  pub alike : {e d : Sym} {T U : Entries} {f g : LinView} → e ≡ d → f ≡ g → Gathers base d T U g → Gathers base e T U f
  alike {d = d} {T = T} {U = U} {f = f} p q m = subst (λ e. Gathers base e T U f) (sym p) (subst (λ h. Gathers base d T U h) (sym q) m)

filled : (fs : List Factor) → (fs ≡ [] → ⊥) → is_constant fs ≡ false
filled [] h = absurd (h refl)
filled (f ∷ fs) h = refl

-- the quotient of a form without unknowns, and of one with some
pub constant-table : (T : Entries) (f : LinView) (k : ℤ) → f.factors ≡ [] → T ≡ with_entry T f k
constant-table T f k none = sym (cond-true (is_constant f.factors || is_in T (f, k)) T (T ++ (f, k) ∷ [])
    (ap (λ fs. is_constant fs || is_in T (f, k)) none))

pub constant-quotient : (base : ℕ) (T : Entries) (f : LinView) (k : ℤ) → f.factors ≡ [] → constant_form (floor_of f.constant k)
    ≡ quotient base T f k
constant-quotient base T f k none =
    sym (cond-true (is_constant f.factors) (constant_form (floor_of f.constant k)) (unknown (base + position_or_len (same_entry (f, k)) T))
    (ap is_constant none))

pub unknown-table : (T U : Entries) (f : LinView) (k : ℤ) → (f.factors ≡ [] → ⊥) → U ≡ (if is_in T (f, k) then T else T ++ (f, k) ∷ []) → U
    ≡ with_entry T f k
unknown-table T U f k some is = is ∙ ap (λ b. cond (b || is_in T (f, k)) T (T ++ (f, k) ∷ [])) (sym (filled f.factors some))

pub unknown-quotient : (base : ℕ) (T : Entries) (f : LinView) (k : ℤ) → (f.factors ≡ [] → ⊥)
    → unknown (base + position_or_len (same_entry (f, k)) T) ≡ quotient base T f k
unknown-quotient base T f k some =
    sym (cond-false (is_constant f.factors) (constant_form (floor_of f.constant k)) (unknown (base + position_or_len (same_entry (f, k)) T))
    (filled f.factors some))
