-- The reading of one token gives its shape, and no other.
use Rattle.std.proofs.Common.{◌≡◌, ◌∙◌, sym, ap, subst, refl, ℕ, zero, suc, ◌<◌, ◌≤◌, List, [], ◌∷◌, ◌||◌, inl, inr, not, Bool, true, false}
use Rattle.std.proofs.Common.{length, take, arith}
use Rattle.std.specs.Io.{StartsWith}
use Rattle.std.specs.List.{Contains, list_all, prefix_len}
use Rattle.std.proofs.lemmas.Bool.{true≢false, cases_Bool}
use Rattle.std.proofs.lemmas.Bool.Decides.{nat_tests}
use Rattle.std.proofs.lemmas.List.{length-take}
use Rattle.std.proofs.lemmas.List.Elements.{All-contains}
use Rattle.std.proofs.lemmas.List.Sums.{prefix_len-le-length}
use Rattle.ft_lex.specs.declared.token.TokenKind.{TokenKind}
use Rattle.ft_lex.specs.declared.token.TokenKind.TheVariants.{Name, Number, Word, Sign, End, Bad}
use Rattle.ft_base.specs.Names.{is_letter, is_name_byte, is_reserved_word}
use Rattle.ft_base.specs.Digits.{is_digit}
use Rattle.ft_lex.specs.meaning.Tokens.{BeginsNone, IsLongestSign, IsNameShape, IsShape, is_last}
use Rattle.ft_lex.specs.meaning.Signs.{signs}
use Rattle.ft_lex.specs.lexing.Lexing.{Shape, name_shape, shape_of, sign_len, sign_shape}
use Rattle.ft_lex.proofs.SpaceLemmas.{not_true}
use Rattle.ft_lex.proofs.SignLemmas.{all-tested, sign_len-found, sign_len-longest}

-- what begins a sign begins neither a name nor a number
begins_no_word : List ℕ → Bool
begins_no_word [] = false
begins_no_word (b ∷ _) = not (is_letter b || is_digit b)

no_word-all : list_all begins_no_word signs ≡ true
unfolding begins_no_word signs
no_word-all = refl

abbrev IsFree : List ℕ → Type 0
IsFree [] = ⊥
IsFree (b ∷ _) = (is_letter b ≡ false) × (is_digit b ≡ false)

free-begins : (bytes sign : List ℕ) → begins_no_word sign ≡ true → StartsWith bytes sign → IsFree bytes
unfolding begins_no_word
free-begins bytes [] h here = absurd (true≢false (sym h))
free-begins [] (c ∷ sign) h here = cc
free-begins (b ∷ bytes) (c ∷ sign) h here =
    let same : b ≡ c = cc in
    subst (λ (x : ℕ). (is_letter x ≡ false) × (is_digit x ≡ false)) (sym same) (grind (arith, nat_tests), grind (arith, nat_tests))

free-sign : (bytes sign : List ℕ) → Contains signs sign → StartsWith bytes sign → IsFree bytes
free-sign bytes sign listed here =
    free-begins bytes sign (All-contains (λ x. begins_no_word x ≡ true) signs sign (all-tested begins_no_word signs no_word-all) listed)
    here

sign-some : (sign : List ℕ) → begins_no_word sign ≡ true → 0 < length sign
unfolding begins_no_word
sign-some [] h = absurd (true≢false (sym h))
sign-some (b ∷ sign) h = omega arith

listed-some : (sign : List ℕ) → Contains signs sign → 0 < length sign
listed-some sign listed = sign-some sign (All-contains (λ x. begins_no_word x ≡ true) signs sign
    (all-tested begins_no_word signs no_word-all) listed)

-- the four ways in which a token begins
of_letter : (b : ℕ) (more : List ℕ) → is_letter b ≡ true → shape_of (b ∷ more) ≡ name_shape (b ∷ more) (prefix_len is_name_byte (b ∷ more))
of_letter b more h = rw h refl

of_digit : (b : ℕ) (more : List ℕ) → is_letter b ≡ false → is_digit b ≡ true → shape_of (b ∷ more)
    ≡ (Number, prefix_len is_digit (b ∷ more))
of_digit b more h k = rw (h, k) refl

of_other : (b : ℕ) (more : List ℕ) → is_letter b ≡ false → is_digit b ≡ false → shape_of (b ∷ more) ≡ sign_shape (sign_len (b ∷ more))
of_other b more h k = rw (h, k) refl

as_name : (bytes : List ℕ) (n : ℕ) → is_reserved_word (take n bytes) ≡ false → name_shape bytes n ≡ (Name, n)
as_name bytes n h = rw h refl

as_word : (bytes : List ℕ) (n : ℕ) → is_reserved_word (take n bytes) ≡ true → name_shape bytes n ≡ (Word, n)
as_word bytes n h = rw h refl

as_sign : (n : ℕ) → 0 < n → sign_shape n ≡ (Sign, n)
as_sign zero h = absurd (omega arith)
as_sign (suc n) h = refl

digit-no_letter : (b : ℕ) → is_digit b ≡ true → is_letter b ≡ false
digit-no_letter b h = grind (arith, nat_tests)

abbrev Shaped : List ℕ → Shape → Type 0
Shaped bytes shape = IsShape shape.0 bytes shape.1

signed : (b : ℕ) (more : List ℕ) → is_letter b ≡ false → is_digit b ≡ false → Shaped (b ∷ more) (sign_shape (sign_len (b ∷ more)))
signed b more h k = elim (sign_len-found (b ∷ more)) [
  | inl none ↦ subst (λ (n : ℕ). Shaped (b ∷ more) (sign_shape n)) (sym none) (
    record {
      some = omega arith;
      letter = λ e. true≢false (sym e ∙ h);
      digit = λ e. true≢false (sym e ∙ k);
      sign = λ other listed here. absurd (omega (arith, listed-some other listed, sign_len-longest (b ∷ more) other listed here));
    },
    refl,
  )
  | inr found ↦ subst (λ (s : Shape). Shaped (b ∷ more) s) (sym (as_sign _ (omega (arith, found.all, listed-some found.text found.listed))))
      (record {
        sign = found.text;
        listed = found.listed;
        here = found.here;
        all = found.all;
        longest = λ other listed here. sign_len-longest (b ∷ more) other listed here;
      })
]

named : (b : ℕ) (more : List ℕ) (n : ℕ) → is_letter b ≡ true → n ≡ prefix_len is_name_byte (b ∷ more)
    → Shaped (b ∷ more) (name_shape (b ∷ more) n)
named b more n h whole = elim (cases_Bool (is_reserved_word (take n (b ∷ more)))) [
  | inl reserved ↦ subst (λ (s : Shape). Shaped (b ∷ more) s) (sym (as_word (b ∷ more) n reserved))
      (record { letter = h; whole = whole }, reserved)
  | inr free ↦ subst (λ (s : Shape). Shaped (b ∷ more) s) (sym (as_name (b ∷ more) n free)) (record { letter = h; whole = whole }, free)
]

-- what is read is a token's shape
pub shape-is : (bytes : List ℕ) → Shaped bytes (shape_of bytes)
shape-is [] = (refl, refl)
shape-is (b ∷ more) = elim (cases_Bool (is_letter b)) [
  | inl letter ↦ subst (λ (s : Shape). Shaped (b ∷ more) s) (sym (of_letter b more letter)) (named b more _ letter refl)
  | inr no_letter ↦ elim (cases_Bool (is_digit b)) [
    | inl digit ↦ subst (λ (s : Shape). Shaped (b ∷ more) s) (sym (of_digit b more no_letter digit))
        (record { digit = digit; whole = refl })
    | inr no_digit ↦ subst (λ (s : Shape). Shaped (b ∷ more) s) (sym (of_other b more no_letter no_digit))
        (signed b more no_letter no_digit)
  ]
]

sign-only : (bytes : List ℕ) (n : ℕ) → IsLongestSign bytes n → n ≡ sign_len bytes
sign-only bytes n h = elim (sign_len-found bytes) [
  | inl none ↦ absurd (omega (arith, none, h.all, listed-some h.sign h.listed, sign_len-longest bytes h.sign h.listed h.here))
  | inr found ↦ omega (arith, found.all, h.all, h.longest found.text found.listed found.here, sign_len-longest bytes h.sign h.listed h.here)
]

sign-none : (bytes : List ℕ) → BeginsNone bytes → sign_len bytes ≡ 0
sign-none bytes h = elim (sign_len-found bytes) [
  | inl none ↦ none
  | inr found ↦ absurd (h.sign found.text found.listed found.here)
]

-- and no other shape is one of these bytes
pub shape-only : (kind : TokenKind) (bytes : List ℕ) (n : ℕ) → IsShape kind bytes n → ◌≡◌ {A = Shape} (kind, n) (shape_of bytes)
shape-only Name [] n h = absurd h.0.letter
shape-only Name (b ∷ more) n h =
    sym (as_name (b ∷ more) n h.1) ∙ ap (name_shape (b ∷ more)) h.0.whole ∙ sym (of_letter b more h.0.letter)
shape-only Word [] n h = absurd h.0.letter
shape-only Word (b ∷ more) n h =
    sym (as_word (b ∷ more) n h.1) ∙ ap (name_shape (b ∷ more)) h.0.whole ∙ sym (of_letter b more h.0.letter)
shape-only Number [] n h = absurd h.digit
shape-only Number (b ∷ more) n h =
    let same : ◌≡◌ {A = Shape} (Number, n) (Number, prefix_len is_digit (b ∷ more)) = λ i. (Number, h.whole i) in
    same ∙ sym (of_digit b more (digit-no_letter b h.digit) h.digit)
shape-only Sign [] n h = absurd (free-sign [] h.sign h.listed h.here)
shape-only Sign (b ∷ more) n h =
    let free = free-sign (b ∷ more) h.sign h.listed h.here in
    sym (as_sign n (omega (arith, h.all, listed-some h.sign h.listed))) ∙ ap sign_shape (sign-only (b ∷ more) n h)
    ∙ sym (of_other b more free.0 free.1)
shape-only End bytes n h =
    let same : ◌≡◌ {A = Shape} (End, n) (End, 0) = λ i. (End, h.1 i) in
    same ∙ ap shape_of (sym h.0)
shape-only Bad [] n h = absurd (omega (arith, h.0.some))
shape-only Bad (b ∷ more) n h =
    let same : ◌≡◌ {A = Shape} (Bad, n) (Bad, 1) = λ i. (Bad, h.1 i) in
    same ∙ ap sign_shape (sym (sign-none (b ∷ more) h.0)) ∙ sym (of_other b more (not_true (is_letter b) h.0.letter)
    (not_true (is_digit b) h.0.digit))

starts-within : (bytes text : List ℕ) → StartsWith bytes text → length text ≤ length bytes
starts-within bytes text h = omega (arith, ap length h, length-take (length text) bytes)

-- a token lies within the bytes
pub shape-within : (kind : TokenKind) (bytes : List ℕ) (n : ℕ) → IsShape kind bytes n → n ≤ length bytes
shape-within Name bytes n h = omega (arith, h.0.whole, prefix_len-le-length is_name_byte bytes)
shape-within Word bytes n h = omega (arith, h.0.whole, prefix_len-le-length is_name_byte bytes)
shape-within Number bytes n h = omega (arith, h.whole, prefix_len-le-length is_digit bytes)
shape-within Sign bytes n h = omega (arith, h.all, starts-within bytes h.sign h.here)
shape-within End bytes n h = omega (arith, h.1)
shape-within Bad bytes n h = omega (arith, h.1, h.0.some)

run-some : (test : ℕ → Bool) (b : ℕ) (more : List ℕ) → test b ≡ true → 0 < prefix_len test (b ∷ more)
run-some test b more h = rw h (omega arith)

letter-is_name_byte : (b : ℕ) → is_letter b ≡ true → is_name_byte b ≡ true
letter-is_name_byte b h = rw h refl

name-some : (bytes : List ℕ) (n : ℕ) → IsNameShape bytes n → 0 < n
name-some [] n h = absurd h.letter
name-some (b ∷ more) n h = omega (arith, h.whole, run-some is_name_byte b more (letter-is_name_byte b h.letter))

-- a token that another follows has some bytes
pub shape-some : (kind : TokenKind) (bytes : List ℕ) (n : ℕ) → IsShape kind bytes n → is_last kind ≡ false → 0 < n
shape-some Name bytes n h goes = name-some bytes n h.0
shape-some Word bytes n h goes = name-some bytes n h.0
shape-some Number [] n h goes = absurd h.digit
shape-some Number (b ∷ more) n h goes = omega (arith, h.whole, run-some is_digit b more h.digit)
shape-some Sign bytes n h goes = omega (arith, h.all, listed-some h.sign h.listed)
shape-some End bytes n h goes = absurd (true≢false goes)
shape-some Bad bytes n h goes = absurd (true≢false goes)
