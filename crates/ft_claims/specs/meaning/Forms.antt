-- Terms as linear forms. Each different pair of a form and a divisor has an unknown of its own, numbered by the place of the pair
-- in a list.
use Rattle.std.specs.Prelude.{◌≡◌, ◌≢◌, ◌≤◌, ℕ, ◌+◌, ℤ, pos, negsuc, ◌+ℤ◌, ◌*ℤ◌, int_le, nat_eq, nat_lt, Bool, true, false, ◌&&◌, ◌||◌}
use Rattle.std.specs.Prelude.{List, [], ◌∷◌, ◌++◌, map, if◌then◌else◌}
use Rattle.std.specs.List.{list_any, position_or_len}
use Rattle.std.specs.Ordering.{int_eq}
use Rattle.std.specs.Cmp.Lexicographic.{pointwise}
use Rattle.ft_base.specs.Division.{floor_of}
use Rattle.ft_linear.specs.meaning.Form.{Factor, LinView}
use Rattle.ft_claims.specs.declared.claim.Sym.{Sym, Sym-F, fold-Sym}
use Rattle.ft_claims.specs.declared.claim.Sym.TheOpen as part

abbrev pub constant_form : ℤ → LinView
constant_form n = record { factors = []; constant = n }

abbrev pub unknown : ℕ → LinView
unknown u = record { factors = (u, pos 1) ∷ []; constant = pos 0 }

-- unknowns that rise strictly from this one on, none with the factor 0
abbrev pub Rises : ℕ → List Factor → Type 0
Rises from [] = Unit {0}
Rises from (f ∷ fs) = (from ≤ f.0) × (f.1 ≢ pos 0) × Rises (f.0 + 1) fs

-- a factor unless it is 0
abbrev pub with_front : ℕ → ℤ → List Factor → List Factor
with_front u z fs = if int_eq z (pos 0) then fs else (u, z) ∷ fs

-- one more multiple of an unknown
abbrev pub with_factor : ℕ → ℤ → List Factor → List Factor
with_factor u z [] = with_front u z []
with_factor u z (g ∷ gs) =
    if nat_lt u g.0 then with_front u z (g ∷ gs)
    else if nat_eq u g.0 then with_front u (z +ℤ g.1) gs
    else g ∷ with_factor u z gs

abbrev pub with_factors : List Factor → List Factor → List Factor
with_factors [] gs = gs
with_factors (f ∷ fs) gs = with_factor f.0 f.1 (with_factors fs gs)

abbrev pub plus : LinView → LinView → LinView
plus a b = record { factors = with_factors a.factors b.factors; constant = a.constant +ℤ b.constant }

-- each factor times a number that isn't 0
abbrev pub times_factors : ℤ → List Factor → List Factor
times_factors c fs = if int_eq c (pos 0) then [] else map (λ f. (f.0, c *ℤ f.1)) fs

abbrev pub times : ℤ → LinView → LinView
times c a = record { factors = times_factors c a.factors; constant = c *ℤ a.constant }

abbrev pub minus : LinView → LinView → LinView
minus a b = plus a (times (negsuc 0) b)

-- a form and a divisor
abbrev pub Entry : Type 0
Entry = LinView × ℤ

abbrev pub Entries : Type 0
Entries = List Entry

abbrev pub same_factor : Factor → Factor → Bool
same_factor f g = nat_eq f.0 g.0 && int_eq f.1 g.1

abbrev pub same_entry : Entry → Entry → Bool
same_entry a b = int_eq a.1 b.1 && int_eq a.0.constant b.0.constant && pointwise same_factor a.0.factors b.0.factors

abbrev pub is_constant : List Factor → Bool
is_constant [] = true
is_constant (f ∷ fs) = false

abbrev pub is_in : Entries → Entry → Bool
is_in T entry = list_any (same_entry entry) T

-- the quotient of a form: a number where the form is one, and else the unknown of its pair, from number `base` on
abbrev pub quotient : (base : ℕ) → Entries → LinView → ℤ → LinView
quotient base T f k = if is_constant f.factors then constant_form (floor_of f.constant k) else unknown
    (base + position_or_len (same_entry (f, k)) T)

abbrev pub with_entry : Entries → LinView → ℤ → Entries
with_entry T f k = if is_constant f.factors || is_in T (f, k) then T else T ++ (f, k) ∷ []

-- of a term: its form by a list of pairs, that list with the pairs that it adds, whether a list has all of its pairs, and
-- whether its names are below `base` and its divisors positive
pub record Gathered : Type 0 where
  pub form : Entries → LinView
  pub entries : Entries → Entries
  pub has : Entries → Bool
  pub good : Bool

abbrev pub alone : LinView → Bool → Gathered
alone form good = record { form = λ T. form; entries = λ T. T; has = λ T. true; good = good }

abbrev pub together : (LinView → LinView → LinView) → Gathered → Gathered → Gathered
together f a b = record {
  form = λ T. f (a.form T) (b.form T);
  entries = λ T. b.entries (a.entries T);
  has = λ T. a.has T && b.has T;
  good = a.good && b.good;
}

abbrev pub over : (LinView → LinView) → Gathered → Gathered
over f a = record { form = λ T. f (a.form T); entries = a.entries; has = a.has; good = a.good }

abbrev pub divided : ℕ → Gathered → ℤ → Gathered
divided base a k = record {
  form = λ T. quotient base T (a.form T) k;
  entries = λ T. with_entry (a.entries T) (a.form (a.entries T)) k;
  has = λ T. a.has T && (is_constant (a.form T).factors || is_in T (a.form T, k));
  good = a.good && int_le (pos 1) k;
}

abbrev pub layer_gathered : ℕ → Sym-F Gathered → Gathered
layer_gathered base (part.Num n) = alone (constant_form n) true
layer_gathered base (part.Slot x) = alone (unknown x) (nat_lt x base)
layer_gathered base (part.Neg a) = over (times (negsuc 0)) a
layer_gathered base (part.Add a b) = together plus a b
layer_gathered base (part.Sub a b) = together minus a b
layer_gathered base (part.Times c a) = over (times c) a
layer_gathered base (part.Div a k) = divided base a k

unfoldable pub gathered : ℕ → Sym → Gathered
gathered base = fold-Sym Gathered (layer_gathered base)

-- a form is a term's by a list of pairs, which is another one with the pairs that the term adds
pub record Gathers (base : ℕ) (e : Sym) (T U : Entries) (f : LinView) : Type 0 where
  pub entries : U ≡ (gathered base e).entries T
  pub form : f ≡ (gathered base e).form U
