-- Scans back to the last that begins, and what two readings that tell the same time have in common. All is by the laws of time.
use Rattle.std.proofs.Common.{◌≡◌, ◌∙◌, sym, ap, subst, ℕ, zero, suc, ◌<◌, ◌≤◌, ℤ, pos, ◌+ℤ◌, ◌≤ℤ◌, true, false, arith, ⊎_elim}
use Rattle.std.proofs.Common.{true≢false}
use Rattle.std.proofs.lemmas.Bool.{cases_Bool, cases_lt, cond-true, cond-false}
use Rattle.ft_core.specs.declared.tables.Tables.{Tables}
use Rattle.ft_mean.specs.laws.TimeLaws.{BeforeSame}
use Rattle.ft_mean.specs.meaning.Reading.{Reading, init_of, begins, begun, since, scan_before, before}
use Rattle.ft_mean.proofs.TimeLemmas.{begins_first, begun_here, begun_past, since_none, since_next, SameTime, same_time}

module _ (S : Tables) (ρ : Reading) where
  -- a scan that does not begin has one before it
  pub later : (t : ℕ) → begins S ρ t ≡ false → (k : ℕ) × (t ≡ suc k)
  later zero is = absurd (true≢false (sym (begins_first S ρ) ∙ is))
  later (suc k) is = (k, λ i. suc k)

  pub begun_zero : begun S ρ zero ≡ zero
  begun_zero = begun_here S ρ zero (begins_first S ρ)

  pub before_begins : (t x : ℕ) → begins S ρ t ≡ true → before S ρ t x ≡ init_of S x
  before_begins t x is = cond-true (begins S ρ t) (init_of S x) (ρ (scan_before t) x) is

  pub before_later : (k x : ℕ) → begins S ρ (suc k) ≡ false → before S ρ (suc k) x ≡ ρ k x
  before_later k x is = cond-false (begins S ρ (suc k)) (init_of S x) (ρ k x) is

  -- the value one scan before is the `init` or that of the scan before
  pub before_by : (P : ℤ → Type 0) (t x : ℕ) → P (init_of S x) → ((k : ℕ) → t ≡ suc k → P (ρ k x)) → P (before S ρ t x)
  before_by P t x first past = ⊎_elim
      (λ is. subst P (sym (before_begins t x is)) first)
      (λ is. let k = later t is in
      subst (λ j. P (before S ρ j x)) (sym k.1) (subst P (sym (before_later k.0 x (ap (begins S ρ) (sym k.1) ∙ is))) (past k.0 k.1)))
      (cases_Bool (begins S ρ t))

module _ (S : Tables) (a b : Reading) where
  -- readings that tell the same time begin at the same scans
  pub begun_same : (t : ℕ) → ((j : ℕ) → j ≤ t → SameTime S a b j) → begun S a t ≡ begun S b t
  begun_same zero same = begun_zero S a ∙ sym (begun_zero S b)
  begun_same (suc t) same =
      let here = (same (suc t) (omega arith)).0 in
      ⊎_elim
      (λ is. begun_here S a (suc t) is ∙ sym (begun_here S b (suc t) (sym here ∙ is)))
      (λ is. begun_past S a t is ∙ begun_same t (λ j l. same j (omega (arith, l))) ∙ sym (begun_past S b t (sym here ∙ is)))
      (cases_Bool (begins S a (suc t)))

  -- and as much time passes between them
  pub since_same : (up : pos 0 ≤ℤ S.period) (j t : ℕ) → j ≤ t → ((i : ℕ) → i ≤ t → SameTime S a b i) → since S a j t ≡ since S b j t
  since_same up j zero low same =
      let is : j ≡ zero = omega (arith, low) in
      subst (λ i. since S a i zero ≡ since S b i zero) (sym is) (since_none S a up zero ∙ sym (since_none S b up zero))
  since_same up j (suc t) low same = ⊎_elim
      (λ less. since_next S a up j t (omega (arith, less))
      ∙ (λ i. since_same up j t (omega (arith, less)) (λ k l. same k (omega (arith, l))) i +ℤ (same (suc t) (omega arith)).1 i)
      ∙ sym (since_next S b up j t (omega (arith, less))))
      (λ most. let is : j ≡ suc t = omega (arith, low, most) in
      subst (λ i. since S a i (suc t) ≡ since S b i (suc t)) (sym is) (since_none S a up (suc t) ∙ sym (since_none S b up (suc t))))
      (cases_lt j (suc t))

  -- one scan before a scan at which both begin or both do not, they have the same value where they have it at each scan before
  pub before_same : (t x : ℕ) → SameTime S a b t → ((j : ℕ) → j < t → a j x ≡ b j x) → before S a t x ≡ before S b t x
  before_same t x same past = ⊎_elim
      (λ is. before_begins S a t x is ∙ sym (before_begins S b t x (sym same.0 ∙ is)))
      (λ is. let k = later S a t is in
      subst (λ j. before S a j x ≡ before S b j x) (sym k.1)
      (before_later S a k.0 x (ap (begins S a) (sym k.1) ∙ is) ∙ past k.0 (omega (arith, k.1))
      ∙ sym (before_later S b k.0 x (ap (begins S b) (sym k.1) ∙ sym same.0 ∙ is))))
      (cases_Bool (begins S a t))

-- no value tells time, so that is so at every scan
pub before_alike : BeforeSame
before_alike S a b t x past = before_same S a b t x (same_time S a b t) past
