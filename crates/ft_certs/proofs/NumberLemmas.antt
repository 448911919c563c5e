-- Numbers and the bytes after them.
use Rattle.std.proofs.Common.{◌≡◌, ◌∙◌, sym, ap, subst, refl, ℕ, zero, suc, ◌+◌, ◌*◌, ◌-◌, ◌/◌, ◌%◌, ◌^◌, ◌<◌, ◌≤◌, Bool, true, false, ◌==◌, ◌||◌, ◌&&◌}
use Rattle.std.proofs.Common.{List, [], ◌∷◌, ◌++◌, length, get_or, append_assoc, append-nil, arith}
use Rattle.std.specs.List.{list_all, list_any}
use Rattle.std.specs.Fmt.{decimal}
use Rattle.std.proofs.lemmas.Bool.{and_parts, eq-eqb, eqb-true, true≢false}
use Rattle.std.proofs.lemmas.Fmt.{decimal_by_steps, decimal_digit, decimal_injective, decimal_nonempty, decimal_step, first_decimal}
use Rattle.std.proofs.lemmas.List.{length-append}
use Rattle.std.proofs.lemmas.List.Sums.{fold-append}
use Rattle.std.proofs.lemmas.Bool.Decides.{nat_tests}
use Rattle.std.proofs.lemmas.List.Folds.{list_all-append}
use Rattle.ft_base.specs.Digits.{decimal_value, is_digit}
use Rattle.ft_certs.specs.meaning.Fault.{Stops}
use Rattle.ft_certs.specs.building.Pieces.{NoDigit, Numbers, is_one_of}
use Rattle.ft_certs.specs.building.Stuck.{Stuck}
use Rattle.ft_certs.proofs.StuckLemmas.{head-same, stuck-here, tail-same}

-- bytes that pass a test, with one that doesn't after them

pub same-span : (p : ℕ → Bool) (xs ys : List ℕ) (e f : ℕ) (u v : List ℕ)
    → list_all p xs ≡ true → list_all p ys ≡ true → p e ≡ false → p f ≡ false
    → xs ++ e ∷ u ≡ ys ++ f ∷ v → (xs ≡ ys) × (e ≡ f) × (u ≡ v)
same-span p [] [] e f u v a b c d q = (refl, head-same e f u v q, tail-same e f u v q)
same-span p [] (y ∷ ys) e f u v a b c d q =
    absurd (true≢false (sym (and_parts (p y) (list_all p ys) b).0 ∙ ap p (sym (head-same e y u (ys ++ f ∷ v) q)) ∙ c))
same-span p (x ∷ xs) [] e f u v a b c d q =
    absurd (true≢false (sym (and_parts (p x) (list_all p xs) a).0 ∙ ap p (head-same x f (xs ++ e ∷ u) v q) ∙ d))
same-span p (x ∷ xs) (y ∷ ys) e f u v a b c d q =
    let same : x ≡ y = head-same x y (xs ++ e ∷ u) (ys ++ f ∷ v) q in
    let s = same-span p xs ys e f u v (and_parts (p x) (list_all p xs) a).1 (and_parts (p y) (list_all p ys) b).1 c d
    (tail-same x y (xs ++ e ∷ u) (ys ++ f ∷ v) q) in
    (ap (λ (l : List ℕ). x ∷ l) s.0 ∙ ap (λ (z : ℕ). z ∷ ys) same, s.1, s.2)

-- what passes stands before what doesn't
pub within-span : (p : ℕ → Bool) (xs ys : List ℕ) (e : ℕ) (u v : List ℕ) → list_all p xs ≡ true → p e ≡ false
    → xs ++ v ≡ ys ++ e ∷ u → (r : List ℕ) × (ys ≡ xs ++ r)
within-span p [] ys e u v a c q = (ys, refl)
within-span p (x ∷ xs) [] e u v a c q =
    absurd (true≢false (sym (and_parts (p x) (list_all p xs) a).0 ∙ ap p (head-same x e (xs ++ v) u q) ∙ c))
within-span p (x ∷ xs) (y ∷ ys) e u v a c q =
    let r = within-span p xs ys e u v (and_parts (p x) (list_all p xs) a).1 c (tail-same x y (xs ++ v) (ys ++ e ∷ u) q) in
    (r.0, ap (λ (z : ℕ). z ∷ ys) (sym (head-same x y (xs ++ v) (ys ++ e ∷ u) q)) ∙ ap (λ (l : List ℕ). x ∷ l) r.1)

-- the digits of a number

digit-is : (n : ℕ) → n < 10 → is_digit (48 + n) ≡ true
digit-is n h = grind (arith, nat_tests)

pub digit-back : (b : ℕ) → is_digit b ≡ true → (48 + (b - 48) ≡ b) × (b - 48 < 10)
digit-back b h = grind (arith, nat_tests)

record IsDecimal (n : ℕ) (ds : List ℕ) : Type 0 where
  all : list_all is_digit ds ≡ true
  value : decimal_value ds ≡ n

value-push : (ds : List ℕ) (b : ℕ) → decimal_value (ds ++ b ∷ []) ≡ decimal_value ds * 10 + (b - 48)
value-push ds b = fold-append (λ value digit. value * 10 + (digit - 48)) 0 ds (b ∷ [])

decimal-is : (n : ℕ) → n < 2 ^ 64 → IsDecimal n (decimal n)
decimal-is n small = decimal_by_steps IsDecimal
    (λ m below. record { all = rw (digit-is m below) refl; value = omega arith })
    (λ m ds large before. record {
      all = list_all-append is_digit ds ((48 + m % 10) ∷ []) ∙ rw (before.all, digit-is (m % 10) (omega arith)) refl;
      value = value-push ds (48 + m % 10) ∙ omega (arith, before.value);
    }) n small

pub all-digits : (n : ℕ) → n < 2 ^ 64 → list_all is_digit (decimal n) ≡ true
all-digits n small = (decimal-is n small).all

-- more digits make no less
value-more : (ds more : List ℕ) → decimal_value ds ≤ decimal_value (ds ++ more)
value-more ds [] = omega (arith, ap decimal_value (append-nil ds))
value-more ds (b ∷ more) =
    omega (arith, value-push ds b, value-more (ds ++ b ∷ []) more, ap decimal_value (append_assoc ds (b ∷ []) more))

pub decimal-first : (b : ℕ) → is_digit b ≡ true → decimal (b - 48) ≡ b ∷ []
decimal-first b h = decimal_digit (b - 48) (digit-back b h).1 ∙ ap (λ (x : ℕ). x ∷ []) (digit-back b h).0

pub decimal-more : (n b : ℕ) → 0 < n → is_digit b ≡ true → n * 10 + (b - 48) < 2 ^ 64 → decimal (n * 10 + (b - 48)) ≡ decimal n ++ b ∷ []
decimal-more n b some h small =
    let d = digit-back b h in
    let m : ℕ = n * 10 + (b - 48) in
    let front : m / 10 ≡ n = omega (arith, d.1) in
    let end : 48 + m % 10 ≡ b = omega (arith, d.0, d.1) in
    decimal_step m (omega (arith, some)) small ∙ ap (λ (k : ℕ). decimal k ++ (48 + m % 10) ∷ []) front ∙ ap (λ (c : ℕ). decimal n ++ c ∷ []) end

-- a number goes on with a digit where it isn't 0, and is then as great as its digits say
longer : (n v b : ℕ) (more : List ℕ) → n < 2 ^ 64 → v < 2 ^ 64 → decimal n ≡ (decimal v ++ b ∷ []) ++ more → (0 < v) × (v * 10 + (b - 48) ≤ n)
longer n v b more n-small v-small e =
    let value : v * 10 + (b - 48) ≤ n =
    omega (arith, value-push (decimal v) b, value-more (decimal v ++ b ∷ []) more, ap decimal_value e, (decimal-is n n-small).value, (decimal-is v v-small).value) in
    (nonzero v refl, value)
  where
    length-two : (n : ℕ) → n < 2 ^ 64 → n ≡ 0 → decimal n ≡ (decimal 0 ++ b ∷ []) ++ more → ⊥
    length-two n small z e =
        omega (arith, ap length (ap decimal (sym z) ∙ e), ap length (decimal_digit 0 (omega arith)), length-append (decimal 0 ++ b ∷ []) more, length-append (decimal 0) (b ∷ []))

    first-zero : (n : ℕ) → n < 2 ^ 64 → 0 < n → decimal n ≡ (decimal 0 ++ b ∷ []) ++ more → ⊥
    first-zero n small some e =
        omega (arith, first_decimal n some small, ap (λ (l : List ℕ). get_or l 0 0) (e ∙ ap (λ (l : List ℕ). (l ++ b ∷ []) ++ more) (decimal_digit 0 (omega arith))))

    by-n : (n : ℕ) → n < 2 ^ 64 → decimal n ≡ (decimal 0 ++ b ∷ []) ++ more → ⊥
    by-n zero small e = length-two zero small refl e
    by-n (suc n) small e = first-zero (suc n) small (omega arith) e

    nonzero : (u : ℕ) → v ≡ u → 0 < v
    nonzero zero z = absurd (by-n n n-small (e ∙ ap (λ (u : ℕ). (decimal u ++ b ∷ []) ++ more) z))
    nonzero (suc u) z = omega (arith, z)

-- the ends

neither : (a b : Bool) → (a || b) ≡ false → (a ≡ false) × (b ≡ false)
neither true b h = absurd (true≢false h)
neither false b h = (refl, h)

end-by : (x e : ℕ) (ends : List ℕ) → is_digit x ≡ false → (is_one_of ends e ≡ true → is_digit e ≡ false)
    → (t : Bool) → (x == e) ≡ t → (t || is_one_of ends e) ≡ true → is_digit e ≡ false
end-by x e ends first later true same h = ap is_digit (sym (eqb-true x e same)) ∙ first
end-by x e ends first later false other h = later h

pub end-no_digit : (ends : List ℕ) (e : ℕ) → list_any is_digit ends ≡ false → is_one_of ends e ≡ true → is_digit e ≡ false
end-no_digit [] e all is = absurd (true≢false (sym is))
end-no_digit (x ∷ ends) e all is = let (first, later) = neither (is_digit x) (list_any is_digit ends) all in end-by x e ends first (end-no_digit ends e later) (x == e) refl is

pub first-end : (ends : List ℕ) → 0 < length ends → is_one_of ends (get_or ends 0 0) ≡ true
first-end [] some = absurd (omega (arith, some))
first-end (x ∷ ends) some = rw (eq-eqb x x refl) refl

-- one number, whatever stands after it
pub numbers-free : (n m e f : ℕ) (u v : List ℕ) → n < 2 ^ 64 → m < 2 ^ 64 → is_digit e ≡ false → is_digit f ≡ false
    → decimal n ++ e ∷ u ≡ decimal m ++ f ∷ v → (n ≡ m) × (e ≡ f) × (u ≡ v)
numbers-free n m e f u v n-small m-small c d q =
    let s = same-span is_digit (decimal n) (decimal m) e f u v (all-digits n n-small) (all-digits m m-small) c d q in
    (decimal_injective n m n-small m-small s.0, s.1, s.2)

module _ (least most : ℕ) (ends : List ℕ) (few : least ≤ 1) (enough : 9 ≤ most) (small : most < 2 ^ 64) (apart : NoDigit ends) where
  abbrev end : ℕ
  end = get_or ends 0 0

  -- one number with an end
  some-number : (n : ℕ) → least ≤ n → n ≤ most → Numbers least most ends (decimal n ++ end ∷ [])
  some-number n l m = (n, end, l, m, first-end ends apart.0, refl)

  no-empty : Numbers least most ends [] → ⊥
  no-empty t = omega (arith, ap length t.5, length-append (decimal t.0) (t.1 ∷ []))

  abbrev NoStart : List ℕ → Type 0
  NoStart [] = Unit {0}
  NoStart (b ∷ rest) = is_digit b ≡ true → b - 48 < least

  begins-by : (n b e : ℕ) (more ds : List ℕ) → decimal n ≡ ds → 0 < length ds → n < 2 ^ 64 → b ∷ more ≡ ds ++ e ∷ [] → (is_digit b ≡ true) × (0 < n → 48 < b)
  begins-by n b e more [] d some small q = absurd (omega (arith, some))
  begins-by n b e more (c ∷ cs) d some small q =
      let same : b ≡ c = head-same b c more (cs ++ e ∷ []) q in (
        ap is_digit same ∙ (and_parts (is_digit c) (list_all is_digit cs) (ap (list_all is_digit) (sym d) ∙ all-digits n small)).0,
        λ more-than. omega (arith, first_decimal n more-than small, ap (λ (l : List ℕ). get_or l 0 0) d, same),
      )

  start-stops : (bytes : List ℕ) → NoStart bytes → Stops (Numbers least most ends) [] bytes
  start-stops [] bad = no-empty
  start-stops (b ∷ rest) bad = λ g.
      let t = g.1 in
      let below : t.0 < 2 ^ 64 = omega (arith, t.3, small) in
      let k = begins-by t.0 b t.1 g.0 (decimal t.0) refl (decimal_nonempty t.0 below) below t.5 in
      let less = bad k.0 in
      let digit = digit-back b k.0 in
      omega (arith, less, digit.0, t.2, few, k.1 (omega (arith, less, t.2)))

  start-stuck : (bytes : List ℕ) → NoStart bytes → Stuck (Numbers least most ends) bytes (length bytes)
  start-stuck bytes bad = stuck-here (Numbers least most ends) bytes (decimal least ++ end ∷ [], some-number least (omega arith) (omega (arith, few, enough)))
      no-empty (start-stops bytes bad)

  -- no number begins with the first byte
  pub stuck-at_start : (bytes : List ℕ) (b : ℕ) (rest : List ℕ) → bytes ≡ b ∷ rest → (is_digit b ≡ true → b - 48 < least)
      → Stuck (Numbers least most ends) bytes (length bytes)
  stuck-at_start bytes b rest e bad = subst (λ (l : List ℕ). Stuck (Numbers least most ends) l (length l)) (sym e) (start-stuck (b ∷ rest) bad)

  pub stuck-empty : (bytes : List ℕ) → bytes ≡ [] → Stuck (Numbers least most ends) bytes 0
  stuck-empty bytes e = subst (λ (l : List ℕ). Stuck (Numbers least most ends) l 0) (sym e) (start-stuck [] tt)

  abbrev NoMore : ℕ → List ℕ → Type 0
  NoMore v [] = Unit {0}
  NoMore v (b ∷ rest) = (is_digit b ≡ true → 0 < v → most < v * 10 + (b - 48)) × (is_digit b ≡ false → is_one_of ends b ≡ false)

  digits-no_text : (v : ℕ) (p q : List ℕ) → v < 2 ^ 64 → decimal v ≡ p ++ q → Numbers least most ends p → ⊥
  digits-no_text v p q below e t =
      let bad : is_digit t.1 ≡ false = end-no_digit ends t.1 apart.1 t.4 in
      let same : decimal v ≡ decimal t.0 ++ t.1 ∷ q = e ∙ ap (λ (l : List ℕ). l ++ q) t.5 ∙ append_assoc (decimal t.0) (t.1 ∷ []) q in
      let all : (list_all is_digit (decimal t.0) && (is_digit t.1 && list_all is_digit q)) ≡ true =
      sym (list_all-append is_digit (decimal t.0) (t.1 ∷ q)) ∙ ap (list_all is_digit) (sym same) ∙ all-digits v below in
      true≢false (sym (and_parts (is_digit t.1) (list_all is_digit q) (and_parts (list_all is_digit (decimal t.0)) (is_digit t.1 && list_all is_digit q) all).1).0 ∙ bad)

  middle-stops : (v : ℕ) (rest : List ℕ) → v ≤ most → NoMore v rest → Stops (Numbers least most ends) (decimal v) rest
  middle-stops v [] below bad = λ t. digits-no_text v (decimal v) [] (omega (arith, below, small)) (sym (append-nil (decimal v))) t
  middle-stops v (b ∷ rest) below bad = λ g. by g.0 g.1 (is_digit b) refl
    where
      by : (more : List ℕ) → Numbers least most ends ((decimal v ++ b ∷ []) ++ more) → (t : Bool) → is_digit b ≡ t → ⊥
      by more t true digit =
          let n-small : t.0 < 2 ^ 64 = omega (arith, t.3, small) in
          let v-small : v < 2 ^ 64 = omega (arith, below, small) in
          let all : list_all is_digit (decimal v ++ b ∷ []) ≡ true =
          list_all-append is_digit (decimal v) (b ∷ []) ∙ rw (all-digits v v-small, digit) refl in
          let r = within-span is_digit (decimal v ++ b ∷ []) (decimal t.0) t.1 [] more all (end-no_digit ends t.1 apart.1 t.4) t.5 in
          let k = longer t.0 v b r.0 n-small v-small r.1 in
          omega (arith, bad.0 digit k.0, k.1, t.3)
      by more t false other =
          let s = numbers-free v t.0 b t.1 more [] (omega (arith, below, small)) (omega (arith, t.3, small)) other (end-no_digit ends t.1 apart.1 t.4)
          (sym (append_assoc (decimal v) (b ∷ []) more) ∙ t.5) in
          true≢false (sym t.4 ∙ ap (is_one_of ends) (sym s.1) ∙ bad.1 other)

  middle-stuck : (bytes rest : List ℕ) (v : ℕ) → bytes ≡ decimal v ++ rest → least ≤ v → v ≤ most → NoMore v rest
      → Stuck (Numbers least most ends) bytes (length rest)
  middle-stuck bytes rest v parts l m bad = record {
    front = decimal v;
    rest = rest;
    parts = parts;
    count = refl;
    begins = (end ∷ [], some-number v l m);
    none = λ p q e t. digits-no_text v p q (omega (arith, m, small)) e t;
    stops = middle-stops v rest m bad;
  }

  -- no number goes on with the next byte
  pub stuck-later : (bytes rest : List ℕ) (v : ℕ) (b : ℕ) (more : List ℕ) → rest ≡ b ∷ more → bytes ≡ decimal v ++ rest → least ≤ v → v ≤ most
      → (is_digit b ≡ true → 0 < v → most < v * 10 + (b - 48)) → (is_digit b ≡ false → is_one_of ends b ≡ false)
      → Stuck (Numbers least most ends) bytes (length rest)
  stuck-later bytes rest v b more e parts l m great other =
      subst (λ (x : List ℕ). Stuck (Numbers least most ends) bytes (length x)) (sym e)
      (middle-stuck bytes (b ∷ more) v (parts ∙ ap (λ (x : List ℕ). decimal v ++ x) e) l m (great, other))

  pub stuck-end : (bytes rest : List ℕ) (v : ℕ) → rest ≡ [] → bytes ≡ decimal v ++ rest → least ≤ v → v ≤ most → Stuck (Numbers least most ends) bytes 0
  stuck-end bytes rest v e parts l m = middle-stuck bytes [] v (parts ∙ ap (λ (x : List ℕ). decimal v ++ x) e) l m tt
