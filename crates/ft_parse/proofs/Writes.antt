-- Pieces that a part of the grammar spells wherever their tokens stand.
use Rattle.std.proofs.Common.{◌≡◌, ◌∙◌, inl, inr, ℕ, suc, ◌+◌, List, [], ◌∷◌, ◌++◌, length, map, Option, Some, None, refl, sym, ap, subst}
use Rattle.std.proofs.Common.{append_assoc}
use Rattle.std.specs.List.{flat_map}
use Rattle.std.proofs.lemmas.List.{append-nil, length-map, map-append}
use Rattle.std.proofs.lemmas.List.Concat.{flat_map-cons}
use Rattle.ft_base.specs.declared.place.Place.{Place}
use Rattle.ft_tree.specs.meaning.Line.{Piece}
use Rattle.ft_tree.specs.laws.Tokens.{Shape, piece_shape}
use Rattle.ft_read.specs.meaning.Lexeme.{Lexeme}
use Rattle.ft_parse.specs.meaning.Language.{Language, PassNoLimit, Step, alternative, lexemes, nothing, repeated, step, times, token, ◌▷◌}
use Rattle.ft_read.specs.meaning.Limit.{Passes}
use Rattle.ft_parse.proofs.Faithful.{no_limit-append}

-- a lexeme without its place
abbrev pub shape : Lexeme → Shape
shape l = (l.kind, l.text)

abbrev pub shapes : List Piece → List Shape
shapes pieces = map piece_shape pieces

-- the token of a shape at a place
abbrev pub lexeme_at : Shape → Place → Lexeme
lexeme_at s place = record { kind = s.0; text = s.1; place = place }

-- these lexemes spell a value with a property, and pass no limit
pub record Spelt {A : Type 0} (L : Language A) (at : ℕ) (ls : List Lexeme) (Good : A → Type 0) : Type 0 where
  pub steps : List Step
  pub value : A
  pub same : lexemes steps ≡ ls
  pub no_limit : PassNoLimit steps
  pub means : L at steps value
  pub good : Good value

-- all lexemes of these shapes do
pub record Writes {A : Type 0} (L : Language A) (at : ℕ) (ss : List Shape) (Good : A → Type 0) : Type 0 where
  pub all : (ls : List Lexeme) → map shape ls ≡ ss → Spelt L at ls Good

abbrev pub tail : {X : Type 0} → List X → List X
tail [] = []
tail (x ∷ xs) = xs

abbrev pub head_or : {X : Type 0} → X → List X → X
head_or x [] = x
head_or x (y ∷ ys) = y

pub cut : (xs ys : List Shape) (ls : List Lexeme) → map shape ls ≡ xs ++ ys
    → (us vs : List Lexeme) × (ls ≡ us ++ vs) × (map shape us ≡ xs) × (map shape vs ≡ ys)
cut [] ys ls e = ([], ls, refl, refl, e)
cut (x ∷ xs) ys [] e = absurd (cc e)
cut (x ∷ xs) ys (l ∷ ls) e =
    let (us, vs, is, f, g) = cut xs ys ls (ap tail e) in
    let first : shape l ≡ x = ap (head_or x) e in
    (l ∷ us, vs, ap (λ (more : List Lexeme). l ∷ more) is, (λ i. first i ∷ f i), g)

as-long : (steps : List Step) (ls : List Lexeme) (ss : List Shape) → lexemes steps ≡ ls → map shape ls ≡ ss
    → length steps ≡ length ss
as-long steps ls ss e f =
    sym (length-map steps (λ (s : Step). s.lexeme)) ∙ ap length e ∙ sym (length-map ls shape) ∙ ap length f

-- one part, and then another
pub and_then : {A B : Type 0} {L : Language A} {M : A → Language B} {at : ℕ} {xs ys : List Shape} {G : A → Type 0} {H : B
    → Type 0}
    → Writes L at xs G → ((a : A) → G a → Writes (M a) (at + length xs) ys H) → Writes (L ▷ M) at (xs ++ ys) H
unfolding ◌▷◌
and_then {A} {B} {L} {M} {at} {xs} {ys} {G} {H} first second = record { all = go } where
  go : (ls : List Lexeme) → map shape ls ≡ xs ++ ys → Spelt (L ▷ M) at ls H
  go ls e =
      let (us, vs, is, f, g) = cut xs ys ls e in
      let one = first.all us f in
      let other = (second one.value one.good).all vs g in
      let long = as-long one.steps us xs one.same f in
      record {
        steps = one.steps ++ other.steps;
        value = other.value;
        same = map-append (λ (s : Step). s.lexeme) one.steps other.steps ∙ (λ i. one.same i ++ other.same i) ∙ sym is;
        no_limit = no_limit-append one.steps other.steps one.no_limit other.no_limit;
        means = (
          one.value,
          one.steps,
          other.steps,
          refl,
          one.means,
          subst (λ (n : ℕ). M one.value (at + n) other.steps other.value) (sym long) other.means,
        );
        good = other.good;
      }

-- a token
pub one : {A : Type 0} {read : Lexeme → Option A} {passes : Passes} {at : ℕ} {G : A → Type 0} (s : Shape)
    → ((place : Place) → (a : A) × (read (lexeme_at s place) ≡ Some a) × (passes at (lexeme_at s place) ≡ None) × G a)
    → Writes (token read passes) at (s ∷ []) G
one {A} {read} {passes} {at} {G} s each = record { all = go } where
  go : (ls : List Lexeme) → map shape ls ≡ s ∷ [] → Spelt (token read passes) at ls G
  go [] e = absurd (cc e)
  go (l ∷ k ∷ ls) e = absurd (cc (ap tail e))
  go (l ∷ []) e =
      let is : shape l ≡ s = ap (head_or s) e in
      let same : lexeme_at s l.place ≡ l = λ i. lexeme_at (sym is i) l.place in
      let (a, reads, passed, good) = each l.place in
      record {
        steps = step l (passes at l) ∷ [];
        value = a;
        same = refl;
        no_limit = (subst (λ (k : Lexeme). passes at k ≡ None) same passed, tt);
        means = (l, refl, subst (λ (k : Lexeme). read k ≡ Some a) same reads);
        good = good;
      }

-- a token, and then another part
pub next : {A B : Type 0} {L : Language A} {M : A → Language B} {at : ℕ} {x : Shape} {ys : List Shape} {G : A → Type 0} {H : B
    → Type 0}
    → Writes L at (x ∷ []) G → ((a : A) → G a → Writes (M a) (at + 1) ys H) → Writes (L ▷ M) at (x ∷ ys) H
next first second = and_then first second

-- no token
pub none : {A : Type 0} {a : A} {at : ℕ} {G : A → Type 0} → G a → Writes (nothing a) at [] G
none {A} {a} {at} {G} good = record { all = go } where
  go : (ls : List Lexeme) → map shape ls ≡ [] → Spelt (nothing a) at ls G
  go [] e = record { steps = []; value = a; same = refl; no_limit = tt; means = (refl, refl); good = good }
  go (l ∷ ls) e = absurd (cc e)

-- what is made of a part's value
pub made : {A B : Type 0} {L : Language A} {at : ℕ} {ss : List Shape} {G : A → Type 0} {H : B → Type 0} (f : A → B)
    → Writes L at ss G → ((a : A) → G a → H (f a)) → Writes (L ▷ λ a. nothing (f a)) at ss H
made {A} {B} {L} {at} {ss} {G} {H} f first good =
    subst (λ (us : List Shape). Writes (L ▷ λ a. nothing (f a)) at us H) (append-nil ss) (and_then first (λ a h. none (good a h)))

-- every text of the first part is one of the second, with the same value
pub record Within {A : Type 0} (L M : Language A) : Type 0 where
  pub up : (at : ℕ) (steps : List Step) (a : A) → L at steps a → M at steps a

-- a wider part
pub wider : {A : Type 0} {L M : Language A} {at : ℕ} {ss : List Shape} {G : A → Type 0} → Within L M → Writes L at ss G
    → Writes M at ss G
wider {A} {L} {M} {at} {ss} {G} h w = record { all = go } where
  go : (ls : List Lexeme) → map shape ls ≡ ss → Spelt M at ls G
  go ls e = let s = w.all ls e in record {
    steps = s.steps;
    value = s.value;
    same = s.same;
    no_limit = s.no_limit;
    means = h.up at s.steps s.value s.means;
    good = s.good;
  }

-- a weaker property
pub weaker : {A : Type 0} {L : Language A} {at : ℕ} {ss : List Shape} {G H : A → Type 0}
    → ((a : A) → G a → H a) → Writes L at ss G → Writes L at ss H
weaker {A} {L} {at} {ss} {G} {H} f w = record { all = go } where
  go : (ls : List Lexeme) → map shape ls ≡ ss → Spelt L at ls H
  go ls e = let s = w.all ls e in record {
    steps = s.steps;
    value = s.value;
    same = s.same;
    no_limit = s.no_limit;
    means = s.means;
    good = f s.value s.good;
  }

-- the one or the other of two parts
pub left : {A : Type 0} {L : Language A} {at : ℕ} {ss : List Shape} {G : A → Type 0} (M : Language A) → Writes L at ss G
    → Writes (alternative L M) at ss G
left {A} {L} M w = wider {L = L} {M = alternative L M} (record { up = λ at steps a h. inl h }) w

pub right : {A : Type 0} {M : Language A} {at : ℕ} {ss : List Shape} {G : A → Type 0} (L : Language A) → Writes M at ss G
    → Writes (alternative L M) at ss G
right {A} {M} L w = wider {L = M} {M = alternative L M} (record { up = λ at steps a h. inr h }) w

-- the same shapes
pub shaped : {A : Type 0} {L : Language A} {at : ℕ} {ss ts : List Shape} {G : A → Type 0} → ss ≡ ts → Writes L at ss G
    → Writes L at ts G
shaped {A} {L} {at} {ss} {ts} {G} e w = subst (λ (us : List Shape). Writes L at us G) e w

no-turn : {S : Type 0} (part : S → Language S) (s : S) → Within (nothing s) (times 0 part s)
unfolding times
no-turn part s = record { up = λ at steps a h. h }

one-turn : {S : Type 0} (part : S → Language S) (n : ℕ) (s : S) → Within (part s ▷ times n part) (times (suc n) part s)
unfolding times
one-turn part n s = record { up = λ at steps a h. h }

-- a part for each of a list, where those before it are known
module _ {X S : Type 0} (part : S → Language S) (written : X → List Shape) (whole : List X) (Good : List X → S → Type 0)
    (each : (at : ℕ) (front rest : List X) (x : X) (s : S) → whole ≡ front ++ x ∷ rest → Good front s
    → Writes (part s) at (written x) (Good (front ++ x ∷ []))) where
  Times : ℕ → List X → List X → Type 0
  Times n front rest =
      (at : ℕ) (s : S) → whole ≡ front ++ rest → Good front s → Writes (times n part s) at (flat_map written rest) (Good whole)

  by-times : (front rest : List X) → Times (length rest) front rest
  unfolding Times
  by-times front [] at s e good =
      wider (no-turn part s) (none (subst (λ (l : List X). Good l s) (sym (append-nil front) ∙ sym e) good))
  by-times front (x ∷ rest) at s e good =
      shaped (sym (flat_map-cons written x rest)) (wider (one-turn part (length rest) s) (and_then (each at front rest x s e good)
      (λ t done. by-times (front ++ x ∷ []) rest (at + length (written x)) t (e ∙ sym (append_assoc front (x ∷ []) rest)) done)))

  pub many : (at : ℕ) (front rest : List X) (s : S) → whole ≡ front ++ rest → Good front s
      → Writes (repeated part s) at (flat_map written rest) (Good whole)
  unfolding Times
  many at front rest s e good =
      wider {L = times (length rest) part s} {M = repeated part s} (record { up = λ k steps a h. (length rest, h) })
      (by-times front rest at s e good)
