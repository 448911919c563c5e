-- Which number each name of two scans has.
use Rattle.std.proofs.Common.{◌≡◌, ◌∙◌, ap, ℕ, ◌+◌, ◌-◌, ◌<◌, ◌≤◌, ℤ, length, arith}
use Rattle.std.specs.Prelude.{nat_lt}
use Rattle.std.proofs.lemmas.Bool.{cond-true, cond-false, lt-ltb, le-ltb}
use Rattle.ft_core.specs.declared.tables.Tables.{Tables}
use Rattle.ft_claims.specs.meaning.Names.{width, memo}
use Rattle.ft_claims.specs.meaning.Numbers.{numbers}

module _ (S : Tables) (now kept_now past kept_past : ℕ → ℤ) where
  abbrev σ : ℕ → ℤ
  σ = numbers S now kept_now past kept_past

  first_part : (n : ℕ) → n < length S.vars → σ n ≡ now n
  first_part n l = cond-true (nat_lt n (length S.vars)) _ _ (lt-ltb n (length S.vars) l)

  second_part : (n : ℕ) → length S.vars ≤ n → n < width S → σ n ≡ kept_now (n - length S.vars)
  second_part n a l = cond-false (nat_lt n (length S.vars)) _ _ (le-ltb n (length S.vars) a)
      ∙ cond-true (nat_lt n (width S)) _ _ (lt-ltb n (width S) l)

  third_part : (n : ℕ) → width S ≤ n → n < width S + length S.vars → σ n ≡ past (n - width S)
  third_part n a l = cond-false (nat_lt n (length S.vars)) _ _ (le-ltb n (length S.vars) (omega (arith, a)))
      ∙ cond-false (nat_lt n (width S)) _ _ (le-ltb n (width S) a)
      ∙ cond-true (nat_lt n (width S + length S.vars)) _ _ (lt-ltb n (width S + length S.vars) l)

  fourth_part : (n : ℕ) → width S + length S.vars ≤ n → σ n ≡ kept_past (n - (width S + length S.vars))
  fourth_part n a = cond-false (nat_lt n (length S.vars)) _ _ (le-ltb n (length S.vars) (omega (arith, a)))
      ∙ cond-false (nat_lt n (width S)) _ _ (le-ltb n (width S) (omega (arith, a)))
      ∙ cond-false (nat_lt n (width S + length S.vars)) _ _ (le-ltb n (width S + length S.vars) a)

  pub number_now : (x : ℕ) → x < length S.vars → σ (0 + x) ≡ now x
  number_now x l = let e : 0 + x ≡ x = omega arith in first_part (0 + x) (omega (arith, l)) ∙ ap now e

  pub number_kept : (m : ℕ) → m < length S.memories → σ (memo S 0 m) ≡ kept_now m
  number_kept m l =
      let e : memo S 0 m - length S.vars ≡ m = omega arith in
      second_part (memo S 0 m) (omega arith) (omega (arith, l)) ∙ ap kept_now e

  pub number_past : (x : ℕ) → x < length S.vars → σ (width S + x) ≡ past x
  number_past x l =
      let e : (width S + x) - width S ≡ x = omega arith in
      third_part (width S + x) (omega arith) (omega (arith, l)) ∙ ap past e

  pub number_kept_past : (m : ℕ) → σ (memo S (width S) m) ≡ kept_past m
  number_kept_past m =
      let e : memo S (width S) m - (width S + length S.vars) ≡ m = omega arith in
      fourth_part (memo S (width S) m) (omega arith) ∙ ap kept_past e
