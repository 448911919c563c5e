-- Parts of the grammar that grow: a union of steps, each within the next ones.
use Rattle.std.proofs.Common.{◌≡◌, inl, inr, ℕ, zero, suc, ◌+◌, List, length}
use native.Mathlib.Omega.{arith}
use Rattle.ft_parse.specs.meaning.Language.{Language, Step, alternative, nothing, repeated, times, ◌▷◌}

pub record Rises {A : Type 0} (F : ℕ → Language A) (L : Language A) : Type 0 where
  pub up : (n m at : ℕ) (steps : List Step) (a : A) → F n at steps a → F (n + m) at steps a
  pub bound : (at : ℕ) (steps : List Step) (a : A) → L at steps a → (n : ℕ) × F n at steps a
  pub back : (n at : ℕ) (steps : List Step) (a : A) → F n at steps a → L at steps a

pub rises-same : {A : Type 0} (L : Language A) → Rises (λ n. L) L
rises-same L = record { up = λ n m at steps a h. h; bound = λ at steps a h. (0, h); back = λ n at steps a h. h }

-- up from the right
pub upper : {A : Type 0} (F : ℕ → Language A) (L : Language A) → Rises F L → (n m at : ℕ) (steps : List Step) (a : A) → F m at steps a
    → F (n + m) at steps a
upper F L r n m at steps a h =
    let same : m + n ≡ n + m = omega arith in
    rw same at (r.up m n at steps a h)

module _ {A B : Type 0} (F : ℕ → Language A) (L : Language A) (G : A → ℕ → Language B) (M : A → Language B) where
  pub rises-then : Rises F L → ((a : A) → Rises (G a) (M a)) → Rises (λ n. F n ▷ λ a. G a n) (L ▷ M)
  unfolding ◌▷◌
  rises-then r t = record {
    up = λ n m at steps b h.
        let (a, us, vs, is, f, g) = h in
        (a, us, vs, is, r.up n m at us a f, (t a).up n m (at + length us) vs b g);
    bound = λ at steps b h.
        let (a, us, vs, is, f, g) = h in
        let (n, x) = r.bound at us a f in
        let (m, y) = (t a).bound (at + length us) vs b g in
        (n + m, (a, us, vs, is, r.up n m at us a x, upper (G a) (M a) (t a) n m (at + length us) vs b y));
    back = λ n at steps b h.
        let (a, us, vs, is, f, g) = h in
        (a, us, vs, is, r.back n at us a f, (t a).back n (at + length us) vs b g);
  }

module _ {A : Type 0} (F G : ℕ → Language A) (L M : Language A) where
  pub rises-alternative : Rises F L → Rises G M → Rises (λ n. alternative (F n) (G n)) (alternative L M)
  rises-alternative r t = record { up = up-alternative; bound = bound-alternative; back = back-alternative } where
    up-alternative : (n m at : ℕ) (steps : List Step) (a : A) → alternative (F n) (G n) at steps a
        → alternative (F (n + m)) (G (n + m)) at steps a
    up-alternative n m at steps a (inl h) = inl (r.up n m at steps a h)
    up-alternative n m at steps a (inr h) = inr (t.up n m at steps a h)

    bound-alternative : (at : ℕ) (steps : List Step) (a : A) → alternative L M at steps a → (n : ℕ) × alternative (F n) (G n) at steps a
    bound-alternative at steps a (inl h) = let (n, x) = r.bound at steps a h in (n, inl x)
    bound-alternative at steps a (inr h) = let (n, x) = t.bound at steps a h in (n, inr x)

    back-alternative : (n at : ℕ) (steps : List Step) (a : A) → alternative (F n) (G n) at steps a → alternative L M at steps a
    back-alternative n at steps a (inl h) = inl (r.back n at steps a h)
    back-alternative n at steps a (inr h) = inr (t.back n at steps a h)

module _ {A : Type 0} (F : A → ℕ → Language A) (part : A → Language A) (r : (a : A) → Rises (F a) (part a)) where
  rises-times : (k : ℕ) (a : A) → Rises (λ n. times k (λ b. F b n) a) (times k part a)
  unfolding times
  rises-times zero a = rises-same (nothing a)
  rises-times (suc k) a = rises-then (F a) (part a) (λ b n. times k (λ c. F c n) b) (times k part) (r a) (rises-times k)

  pub rises-repeated : (a : A) → Rises (λ n. repeated (λ b. F b n) a) (repeated part a)
  rises-repeated a = record {
    up = λ n m at steps b h. let (k, x) = h in (k, (rises-times k a).up n m at steps b x);
    bound = λ at steps b h.
        let (k, x) = h in
        let (n, y) = (rises-times k a).bound at steps b x in
        (n, (k, y));
    back = λ n at steps b h. let (k, x) = h in (k, (rises-times k a).back n at steps b x);
  }
