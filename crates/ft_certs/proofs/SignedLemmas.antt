-- Numbers with their signs.
use Rattle.std.proofs.Common.{◌≡◌, ◌∙◌, sym, ap, subst, refl, ℕ, zero, suc, ◌^◌, ◌<◌, ◌≤◌, ℤ, pos, negsuc, neg_ℤ, true, false}
use Rattle.std.proofs.Common.{List, [], ◌∷◌, ◌++◌, length, append_assoc, arith}
use Rattle.std.specs.List.{list_all}
use Rattle.std.specs.Fmt.{decimal, signed_decimal}
use Rattle.std.proofs.lemmas.Bool.{and_parts, true≢false}
use Rattle.std.proofs.lemmas.Fmt.{decimal_nonempty}
use Rattle.std.proofs.lemmas.List.{length-append}
use Rattle.ft_base.specs.Digits.{is_digit}
use Rattle.ft_certs.specs.meaning.Text.{IsShort}
use Rattle.ft_certs.specs.building.Pieces.{NoDigit, Numbers, Signeds, is_one_of}
use Rattle.ft_certs.specs.building.Stuck.{Stuck}
use Rattle.ft_certs.proofs.StuckLemmas.{head-same, stuck-among, stuck-second, tail-same}
use Rattle.ft_certs.proofs.NumberLemmas.{all-digits, numbers-free, stuck-empty}

abbrev most : ℕ
most = 999999999999999999

pub negative-text : (n : ℕ) → 0 < n → signed_decimal (neg_ℤ (pos n)) ≡ 45 ∷ decimal n
negative-text zero some = absurd (omega (arith, some))
negative-text (suc n) some = refl

pub negative-short : (n : ℕ) → n ≤ most → IsShort (neg_ℤ (pos n))
negative-short zero few = omega arith
negative-short (suc n) few = omega (arith, few)

-- a number of digits doesn't begin with `-`
no-minus : (n : ℕ) (u v : List ℕ) → n < 2 ^ 64 → decimal n ++ u ≡ 45 ∷ v → ⊥
no-minus n u v small e = by (decimal n) (decimal_nonempty n small) (all-digits n small) e
  where
    by : (ds : List ℕ) → 0 < length ds → list_all is_digit ds ≡ true → ds ++ u ≡ 45 ∷ v → ⊥
    by [] some all e = omega (arith, some)
    by (d ∷ ds) some all e =
        true≢false (sym (and_parts (is_digit d) (list_all is_digit ds) all).0 ∙ ap is_digit (head-same d 45 (ds ++ u) v e))

-- one number with its sign, whatever stands after it
pub signeds-free : (y z : ℤ) (e f : ℕ) (u v : List ℕ) → IsShort y → IsShort z → is_digit e ≡ false → is_digit f ≡ false
    → signed_decimal y ++ e ∷ u ≡ signed_decimal z ++ f ∷ v → (y ≡ z) × (e ≡ f) × (u ≡ v)
signeds-free (pos n) (pos m) e f u v a b c d q =
    let s = numbers-free n m e f u v (omega (arith, a)) (omega (arith, b)) c d q in
    (ap pos s.0, s.1, s.2)
signeds-free (pos n) (negsuc m) e f u v a b c d q = absurd (no-minus n (e ∷ u) (decimal (suc m) ++ f ∷ v) (omega (arith, a)) q)
signeds-free (negsuc n) (pos m) e f u v a b c d q = absurd (no-minus m (f ∷ v) (decimal (suc n) ++ e ∷ u) (omega (arith, b)) (sym q))
signeds-free (negsuc n) (negsuc m) e f u v a b c d q =
    let s = numbers-free (suc n) (suc m) e f u v (omega (arith, a)) (omega (arith, b)) c d
    (tail-same 45 45 (decimal (suc n) ++ e ∷ u) (decimal (suc m) ++ f ∷ v) q) in
    (ap negsuc (omega (arith, s.0)), s.1, s.2)

module _ (ends : List ℕ) (apart : NoDigit ends) where
  negative-goes : (w : List ℕ) → Numbers 1 most ends w → Signeds ends (45 ∷ w)
  negative-goes w t = (
    neg_ℤ (pos t.0),
    t.1,
    negative-short t.0 t.3,
    t.4,
    ap (λ (l : List ℕ). 45 ∷ l) t.5 ∙ ap (λ (l : List ℕ). l ++ t.1 ∷ []) (sym (negative-text t.0 (omega (arith, t.2)))),
  )

  negative-only : (w x y : List ℕ) → Signeds ends w → w ++ x ≡ (45 ∷ []) ++ y → (q : List ℕ) × (w ≡ (45 ∷ []) ++ q) × Numbers 1 most ends q
  negative-only w x y t e = by t.0 t.2 t.4
    where
      by : (z : ℤ) → IsShort z → w ≡ signed_decimal z ++ t.1 ∷ [] → (q : List ℕ) × (w ≡ (45 ∷ []) ++ q) × Numbers 1 most ends q
      by (pos n) short is = absurd (no-minus n (t.1 ∷ [] ++ x) y (omega (arith, short))
          (sym (append_assoc (decimal n) (t.1 ∷ []) x) ∙ ap (λ (l : List ℕ). l ++ x) (sym is) ∙ e))
      by (negsuc n) short is = (decimal (suc n) ++ t.1 ∷ [], is, (suc n, t.1, omega arith, omega (arith, short), t.3, refl))

  -- a number below 0
  pub negative-stuck : (bytes digits : List ℕ) (left : ℕ) → bytes ≡ 45 ∷ digits → Stuck (Numbers 1 most ends) digits left → Stuck (Signeds ends) bytes left
  negative-stuck bytes digits left e s =
      subst (λ (l : List ℕ). Stuck (Signeds ends) l left) (sym e)
      (stuck-second (Numbers 1 most ends) (Signeds ends) (45 ∷ []) negative-goes negative-only digits left s)

  natural-goes : (w : List ℕ) → Numbers 0 most ends w → Signeds ends w
  natural-goes w t = (pos t.0, t.1, omega (arith, t.3), t.4, t.5)

  signed-empty : Signeds ends [] → ⊥
  signed-empty t = omega (arith, ap length t.4, length-append (signed_decimal t.0) (t.1 ∷ []))

  -- a number that isn't below 0
  pub natural-stuck : (bytes : List ℕ) (left : ℕ) → ((v : List ℕ) → bytes ≡ 45 ∷ v → ⊥) → Stuck (Numbers 0 most ends) bytes left → Stuck (Signeds ends) bytes left
  natural-stuck bytes left plain s = stuck-among (Numbers 0 most ends) (Signeds ends) bytes natural-goes signed-empty
      (λ b u v t e. by b u v t.0 t.1 t.2 t.3 t.4 e) left s
    where
      by : (b : ℕ) (u v : List ℕ) (z : ℤ) (end : ℕ) → IsShort z → is_one_of ends end ≡ true → b ∷ u ≡ signed_decimal z ++ end ∷ [] → bytes ≡ b ∷ v → Numbers 0 most ends (b ∷ u)
      by b u v (pos n) end short one is e = (n, end, omega arith, omega (arith, short), one, is)
      by b u v (negsuc n) end short one is e =
          absurd (plain v (e ∙ ap (λ (x : ℕ). x ∷ v) (head-same b 45 u (decimal (suc n) ++ end ∷ []) is)))

  pub signed-ended : (bytes : List ℕ) → bytes ≡ [] → Stuck (Signeds ends) bytes 0
  signed-ended bytes e = natural-stuck bytes 0 (λ v f. omega (arith, ap length (sym e ∙ f)))
      (stuck-empty 0 most ends (omega arith) (omega arith) (omega arith) apart bytes e)
