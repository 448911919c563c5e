-- The first text of a table that the bytes begin with is the longest, where the table falls in length.
use Rattle.std.proofs.Common.{◌≡◌, ◌∙◌, sym, refl, ℕ, ◌≤◌, List, [], ◌∷◌, ◌&&◌, ◌⊎◌, inl, inr, Bool, true, false, length, take, arith}
use Rattle.std.specs.Prelude.{nat_eq, nat_le}
use Rattle.std.specs.Io.{StartsWith}
use Rattle.std.specs.List.{All, Contains, list_all, starts_with}
use Rattle.std.proofs.lemmas.Bool.{true≢false, cases_Bool}
use Rattle.std.proofs.lemmas.Bool.Decides.{nat_tests}
use Rattle.std.proofs.lemmas.List.Elements.{All-nil, All-cons, All-weaker, All-contains, Contains-push, Contains-append_left}
use Rattle.std.proofs.lemmas.List.Elements.{Contains-append_right}
use Rattle.std.proofs.lemmas.Slice.Eq.{bytes_eq-Decides}
use Rattle.ft_lex.specs.meaning.Signs.{signs}
use Rattle.ft_lex.specs.lexing.Lexing.{first_len, sign_len}

abbrev table_len : List (List ℕ) → List ℕ → ℕ
table_len table bytes = first_len (λ text. text) table bytes

len-begins : (text : List ℕ) (more : List (List ℕ)) (bytes : List ℕ) → starts_with nat_eq bytes text ≡ true → table_len (text ∷ more) bytes
    ≡ length text
unfolding first_len
len-begins text more bytes h = rw h refl

len-skips : (text : List ℕ) (more : List (List ℕ)) (bytes : List ℕ) → starts_with nat_eq bytes text ≡ false → table_len (text ∷ more) bytes
    ≡ table_len more bytes
unfolding first_len
len-skips text more bytes h = rw h refl

len-nil : (bytes : List ℕ) → table_len [] bytes ≡ 0
unfolding first_len
len-nil bytes = refl

begins : (bytes text : List ℕ) → starts_with nat_eq bytes text ≡ true → StartsWith bytes text
begins bytes text h = sym ((bytes_eq-Decides text (take (length text) bytes)).0 h)

tests : (bytes text : List ℕ) → StartsWith bytes text → starts_with nat_eq bytes text ≡ true
tests bytes text h = (bytes_eq-Decides text (take (length text) bytes)).1 (sym h)

-- no text of a table is longer than one before it
is_falling : List (List ℕ) → Bool
is_falling [] = true
is_falling (text ∷ more) = list_all (λ other. nat_le (length other) (length text)) more && is_falling more

and-left : (a b : Bool) → (a && b) ≡ true → a ≡ true
and-left true b h = refl
and-left false b h = h

and-right : (a b : Bool) → (a && b) ≡ true → b ≡ true
and-right true b h = h
and-right false b h = absurd (true≢false (sym h))

-- what a test of each element says
pub all-tested : {X : Type 0} (test : X → Bool) (xs : List X) → list_all test xs ≡ true → All (λ x. test x ≡ true) xs
all-tested test [] h = All-nil (λ x. test x ≡ true)
all-tested test (x ∷ xs) h = All-cons (λ x. test x ≡ true) x xs (and-left (test x) (list_all test xs) h)
    (all-tested test xs (and-right (test x) (list_all test xs) h))

abbrev NoLonger : List ℕ → ℕ → List ℕ → Type 0
NoLonger bytes n other = StartsWith bytes other → length other ≤ n

longest-in : (table : List (List ℕ)) (bytes : List ℕ) → is_falling table ≡ true → All (NoLonger bytes (table_len table bytes)) table
unfolding is_falling
longest-in [] bytes h = All-nil (NoLonger bytes (table_len [] bytes))
longest-in (text ∷ more) bytes h =
    let falls = all-tested (λ other. nat_le (length other) (length text)) more (and-left _ (is_falling more) h) in
    let later = longest-in more bytes (and-right (list_all (λ other. nat_le (length other) (length text)) more) (is_falling more) h) in
    elim (cases_Bool (starts_with nat_eq bytes text)) [
      | inl starts ↦
          let here = len-begins text more bytes starts in
          All-cons (NoLonger bytes (table_len (text ∷ more) bytes)) text more (λ _. omega (arith, here))
          (All-weaker _ (NoLonger bytes (table_len (text ∷ more) bytes))
          (λ other (shorter : nat_le (length other) (length text) ≡ true) _. grind (arith, nat_tests, here)) more falls)
      | inr skips ↦
          let here = len-skips text more bytes skips in
          All-cons (NoLonger bytes (table_len (text ∷ more) bytes)) text more
          (λ starts. absurd (true≢false (sym (tests bytes text starts) ∙ skips)))
          (All-weaker (NoLonger bytes (table_len more bytes)) (NoLonger bytes (table_len (text ∷ more) bytes))
          (λ other (shorter : NoLonger bytes (table_len more bytes) other) starts. omega (arith, here, shorter starts)) more later)
    ]

-- a text of the table that the bytes begin with
pub record Found (table : List (List ℕ)) (bytes : List ℕ) (n : ℕ) : Type 0 where
  pub text : List ℕ
  pub listed : Contains table text
  pub here : StartsWith bytes text
  pub all : n ≡ length text

found-in : (table : List (List ℕ)) (bytes : List ℕ) → (table_len table bytes ≡ 0) ⊎ Found table bytes (table_len table bytes)
found-in [] bytes = inl (len-nil bytes)
found-in (text ∷ more) bytes = elim (cases_Bool (starts_with nat_eq bytes text)) [
  | inl starts ↦ inr (record {
    text = text;
    listed = Contains-append_left (text ∷ []) more text (Contains-push [] text);
    here =
        begins bytes text starts;
    all = len-begins text more bytes starts;
  })
  | inr skips ↦ elim (found-in more bytes) [
    | inl none ↦ inl (len-skips text more bytes skips ∙ none)
    | inr found ↦ inr (record {
      text = found.text;
      listed = Contains-append_right (text ∷ []) more found.text found.listed;
      here = found.here;
      all = len-skips text more bytes skips ∙ found.all;
    })
  ]
]

signs-fall : is_falling signs ≡ true
unfolding is_falling signs
signs-fall = refl

-- no sign that the bytes begin with is longer than the one that is found
pub sign_len-longest : (bytes other : List ℕ) → Contains signs other → StartsWith bytes other → length other ≤ sign_len bytes
sign_len-longest bytes other listed here = All-contains (NoLonger bytes (sign_len bytes)) signs other (longest-in signs bytes signs-fall)
    listed here

-- a length above 0 is that of a sign
pub sign_len-found : (bytes : List ℕ) → (sign_len bytes ≡ 0) ⊎ Found signs bytes (sign_len bytes)
sign_len-found bytes = found-in signs bytes
