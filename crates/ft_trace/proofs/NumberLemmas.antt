-- Numbers that are written read back.
use Rattle.std.proofs.Common.{◌≡◌, ◌∙◌, sym, ap, refl, ℕ, zero, suc, ◌+◌, ◌*◌, ◌/◌, ◌%◌, ◌^◌, ◌<◌, ◌≤◌, ℤ, pos, negsuc, Bool, true, false}
use Rattle.std.proofs.Common.{◌||◌, List, [], ◌∷◌, ◌++◌, length, Option, Some, None, arith, cond, ◌==◌, unsigned_abs, inl, inr}
use Rattle.std.specs.Prelude.{nat_lt, option_map, option_and_then}
use Rattle.std.specs.List.{list_any}
use Rattle.std.specs.Fmt.{decimal, signed_decimal}
use Rattle.std.proofs.lemmas.Fmt.{decimal_by_steps, decimal_nonempty, length-decimal-le}
use Rattle.std.proofs.lemmas.Option.{none-some, same_Some}
use Rattle.std.proofs.lemmas.Bool.{cases_Bool, ltb-true, cond-false, eqb-true}
use Rattle.csv.specs.Writing.{default_writer, needs_byte}
use Rattle.ft_trace.specs.meaning.Decimal.{digit_of, digits_after, minus, natural_of, negated, number_of}

digit-is : (d : ℕ) → d < 10 → digit_of (48 + d) ≡ Some d
digit-is zero l = refl
digit-is (suc zero) l = refl
digit-is (suc (suc zero)) l = refl
digit-is (suc (suc (suc zero))) l = refl
digit-is (suc (suc (suc (suc zero)))) l = refl
digit-is (suc (suc (suc (suc (suc zero))))) l = refl
digit-is (suc (suc (suc (suc (suc (suc zero)))))) l = refl
digit-is (suc (suc (suc (suc (suc (suc (suc zero))))))) l = refl
digit-is (suc (suc (suc (suc (suc (suc (suc (suc zero)))))))) l = refl
digit-is (suc (suc (suc (suc (suc (suc (suc (suc (suc zero))))))))) l = refl
digit-is (suc (suc (suc (suc (suc (suc (suc (suc (suc (suc d)))))))))) l = absurd (omega (arith, l))

plain-is : (d : ℕ) → d < 10 → needs_byte default_writer (48 + d) ≡ false
plain-is zero l = refl
plain-is (suc zero) l = refl
plain-is (suc (suc zero)) l = refl
plain-is (suc (suc (suc zero))) l = refl
plain-is (suc (suc (suc (suc zero)))) l = refl
plain-is (suc (suc (suc (suc (suc zero))))) l = refl
plain-is (suc (suc (suc (suc (suc (suc zero)))))) l = refl
plain-is (suc (suc (suc (suc (suc (suc (suc zero))))))) l = refl
plain-is (suc (suc (suc (suc (suc (suc (suc (suc zero)))))))) l = refl
plain-is (suc (suc (suc (suc (suc (suc (suc (suc (suc zero))))))))) l = refl
plain-is (suc (suc (suc (suc (suc (suc (suc (suc (suc (suc d)))))))))) l = absurd (omega (arith, l))

no-minus : (d : ℕ) → d < 10 → ((48 + d) == minus) ≡ false
no-minus zero l = refl
no-minus (suc zero) l = refl
no-minus (suc (suc zero)) l = refl
no-minus (suc (suc (suc zero))) l = refl
no-minus (suc (suc (suc (suc zero)))) l = refl
no-minus (suc (suc (suc (suc (suc zero))))) l = refl
no-minus (suc (suc (suc (suc (suc (suc zero)))))) l = refl
no-minus (suc (suc (suc (suc (suc (suc (suc zero))))))) l = refl
no-minus (suc (suc (suc (suc (suc (suc (suc (suc zero)))))))) l = refl
no-minus (suc (suc (suc (suc (suc (suc (suc (suc (suc zero))))))))) l = refl
no-minus (suc (suc (suc (suc (suc (suc (suc (suc (suc (suc d)))))))))) l = absurd (omega (arith, l))

-- one more digit at the end
digits-push : (ds : List ℕ) (value n d : ℕ) → d < 10 → digits_after value ds ≡ Some n
    → digits_after value (ds ++ (48 + d) ∷ []) ≡ Some (n * 10 + d)
unfolding digits_after
digits-push [] value n d l e = ap (λ o. option_and_then (λ x. Some (value * 10 + x)) o) (digit-is d l)
    ∙ ap (λ (v : ℕ). Some (v * 10 + d)) (same_Some value n e)
digits-push (b ∷ bs) value n d l e = by (λ x f. digits-push bs (value * 10 + x) n d l f) (digit_of b) e
  where
    by : ((x : ℕ) → digits_after (value * 10 + x) bs ≡ Some n → digits_after (value * 10 + x) (bs ++ (48 + d) ∷ []) ≡ Some (n * 10 + d))
        → (o : Option ℕ) → option_and_then (λ x. digits_after (value * 10 + x) bs) o ≡ Some n
        → option_and_then (λ x. digits_after (value * 10 + x) (bs ++ (48 + d) ∷ [])) o ≡ Some (n * 10 + d)
    by h None f = absurd (none-some n f)
    by h (Some x) f = h x f

or-push : (ds : List ℕ) (b : ℕ) → list_any (needs_byte default_writer) ds ≡ false → needs_byte default_writer b ≡ false
    → list_any (needs_byte default_writer) (ds ++ b ∷ []) ≡ false
or-push [] b e f = ap (λ x. x || false) f
or-push (c ∷ ds) b e f = by (needs_byte default_writer c) e (λ g. or-push ds b g f)
  where
    by : (x : Bool) → (x || list_any (needs_byte default_writer) ds) ≡ false
        → (list_any (needs_byte default_writer) ds ≡ false → list_any (needs_byte default_writer) (ds ++ b ∷ []) ≡ false)
        → (x || list_any (needs_byte default_writer) (ds ++ b ∷ [])) ≡ false
    by true g h = g
    by false g h = h g

-- what is told of the digits of a number
pub record IsDecimal (n : ℕ) (ds : List ℕ) : Type 0 where
  pub value : digits_after 0 ds ≡ Some n
  pub plain : list_any (needs_byte default_writer) ds ≡ false
  pub first : ℕ
  pub rest : List ℕ
  pub parts : ds ≡ first ∷ rest
  pub not_minus : (first == minus) ≡ false

one-digit : (n : ℕ) → n < 10 → IsDecimal n ((48 + n) ∷ [])
unfolding digits_after
one-digit n l = record {
  value = ap (λ o. option_and_then (λ x. Some (0 * 10 + x)) o) (digit-is n l) ∙ ap (λ (v : ℕ). Some v) (omega arith);
  plain = ap (λ x. x || false) (plain-is n l);
  first = 48 + n;
  rest = [];
  parts = refl;
  not_minus = no-minus n l;
}

more-digits : (n : ℕ) (ds : List ℕ) → 10 ≤ n → IsDecimal (n / 10) ds → IsDecimal n (ds ++ ((48 + n % 10) ∷ []))
more-digits n ds large d =
    let below : n % 10 < 10 = omega arith in
    record {
      value = digits-push ds 0 (n / 10) (n % 10) below d.value ∙ ap (λ (v : ℕ). Some v) (omega arith);
      plain = or-push ds (48 + n % 10) d.plain (plain-is (n % 10) below);
      first = d.first;
      rest = d.rest ++ (48 + n % 10) ∷ [];
      parts = ap (λ (xs : List ℕ). xs ++ (48 + n % 10) ∷ []) d.parts;
      not_minus = d.not_minus;
    }

pub decimal-is : (n : ℕ) → n < 2 ^ 64 → IsDecimal n (decimal n)
decimal-is n small = decimal_by_steps IsDecimal one-digit more-digits n small

no-limit : (k : ℕ) (o : Option ℕ) → 0 < k → k ≤ 18 → cond ((k == 0) || nat_lt 18 k) None o ≡ o
no-limit k o some few = elim (cases_Bool (k == 0)) [
  | inl z ↦ absurd (omega (arith, some, eqb-true k 0 z))
  | inr nz ↦ elim (cases_Bool (nat_lt 18 k)) [
    | inl t ↦ absurd (omega (arith, few, ltb-true 18 k t))
    | inr f ↦ rw (nz, f) refl
  ]
]

pub natural-is : (n : ℕ) → n < 10 ^ 18 → natural_of (decimal n) ≡ Some n
natural-is n small =
    let wide : n < 2 ^ 64 = omega (arith, small) in
    no-limit (length (decimal n)) (digits_after 0 (decimal n)) (decimal_nonempty n wide) (length-decimal-le 18 n (omega arith) small wide)
    ∙ (decimal-is n wide).value

-- a number that is written reads back
pub number-is : (z : ℤ) → unsigned_abs z < 10 ^ 18 → number_of (signed_decimal z) ≡ Some z
number-is (pos n) small =
    let d = decimal-is n (omega (arith, small)) in
    ap number_of d.parts
    ∙ cond-false (d.first == minus) (option_map negated (natural_of d.rest)) (option_map (λ k. pos k) (natural_of (d.first ∷ d.rest)))
    d.not_minus
    ∙ ap (λ (ds : List ℕ). option_map (λ k. pos k) (natural_of ds)) (sym d.parts)
    ∙ ap (λ o. option_map (λ k. pos k) o) (natural-is n small)
number-is (negsuc n) small = ap (λ o. option_map negated o) (natural-is (suc n) small)
