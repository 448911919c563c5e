-- The pieces of words, signs, names and numbers, and what their tokens are read as.
use Rattle.std.proofs.Common.{◌≡◌, ◌∙◌, sym, refl, ℕ, ◌+◌, ◌*◌, ◌-◌, ◌%◌, ◌^◌, ◌<◌, Bool, true, false, not, ◌&&◌, List, [], ◌∷◌, decimal}
use Rattle.std.proofs.Common.{length, nat_le, Option, Some, None}
use native.Mathlib.Omega.{arith}
use Rattle.std.specs.List.{list_all}
use Rattle.std.proofs.lemmas.Bool.{and_parts, leb-true, not-true, false_from_ne_true, both_ways}
use Rattle.std.proofs.lemmas.Bool.Decides.{nat_tests}
use Rattle.std.proofs.lemmas.Fmt.{decimal_by_steps}
use Rattle.std.proofs.lemmas.List.Sums.{fold-append}
use Rattle.ft_base.specs.declared.place.Place.{Place}
use Rattle.ft_lex.specs.declared.token.TokenKind.{TokenKind}
use Rattle.ft_lex.specs.declared.token.TokenKind.TheVariants as kind
use Rattle.ft_base.specs.Digits.{begins_by_digit, begins-push, decimal_value}
use Rattle.ft_base.specs.Names.{begins_by_letter, is_name, is_name_byte, is_reserved_word}
use Rattle.ft_base.specs.Reserved.{reserved-begins}
use Rattle.ft_tree.specs.meaning.Limits.{is_number}
use Rattle.ft_tree.specs.laws.Tokens.{kind_of}
use Rattle.ft_read.specs.meaning.Lexeme.{Lexeme, as_sign, as_word}
use Rattle.ft_read.specs.meaning.Limit.{Passes, lexical_pass}
use Rattle.ft_parse.specs.meaning.Language.{token}
use Rattle.ft_parse.proofs.Forms.{itself-bytes}
use Rattle.ft_parse.proofs.Writes.{Writes, lexeme_at, one, shaped}

-- a token of known bytes and kind
pub mark : {A : Type 0} {read : Lexeme → Option A} {passes : Passes} {at : ℕ} {G : A → Type 0} (t : List ℕ) (k : TokenKind)
    → kind_of t ≡ k
    → ((place : Place) → (a : A) × (read (lexeme_at (k, t) place) ≡ Some a) × (passes at (lexeme_at (k, t) place) ≡ None) × G a)
    → Writes (token read passes) at ((kind_of t, t) ∷ []) G
mark t k is each = shaped (λ i. (sym is i, t) ∷ []) (one (k, t) each)

pub reads-word : (w : List ℕ) (place : Place) → as_word w (lexeme_at (kind.Word, w) place) ≡ Some place
reads-word w place = rw (itself-bytes w) refl

pub reads-sign : (w : List ℕ) (place : Place) → as_sign w (lexeme_at (kind.Sign, w) place) ≡ Some place
reads-sign w place = rw (itself-bytes w) refl

pub name-kind : (name : List ℕ) → is_name name ≡ true → kind_of name ≡ kind.Name
name-kind name h =
    let bytes : Bool = begins_by_letter name && list_all is_name_byte name in
    let (short, free) = and_parts (bytes && nat_le (length name) 40) (not (is_reserved_word name)) h in
    let (word, _) = and_parts bytes (nat_le (length name) 40) short in
    let (letter, _) = and_parts (begins_by_letter name) (list_all is_name_byte name) word in
    rw (not-true _ free, letter) refl

pub name-lexical : (name : List ℕ) → is_name name ≡ true → (place : Place) → lexical_pass (lexeme_at (kind.Name, name) place) ≡ None
name-lexical name h place =
    let bytes : Bool = begins_by_letter name && list_all is_name_byte name in
    let (short, free) = and_parts (bytes && nat_le (length name) 40) (not (is_reserved_word name)) h in
    let (_, few) = and_parts bytes (nat_le (length name) 40) short in
    rw few refl

-- decimal digits, and their value
record IsDecimal (n : ℕ) (bytes : List ℕ) : Type 0 where
  first : begins_by_digit bytes ≡ true
  value : decimal_value bytes ≡ n

decimal-is : (n : ℕ) → n < 2 ^ 64 → IsDecimal n (decimal n)
decimal-is n small = decimal_by_steps IsDecimal
    (λ m below. record { first = grind (arith, nat_tests, below); value = omega arith })
    (λ m bytes large before. record {
      first = begins-push bytes (48 + m % 10) before.first;
      value = fold-append (λ value digit. value * 10 + (digit - 48)) 0 bytes ((48 + m % 10) ∷ []) ∙ omega (arith, before.value);
    }) n small

small : (value : ℕ) → is_number value ≡ true → value < 2 ^ 64
small value h = omega (arith, leb-true value 1000000000 h)

pub value-back : (value : ℕ) → is_number value ≡ true → decimal_value (decimal value) ≡ value
value-back value h = (decimal-is value (small value h)).value

pub number-lexical : (value : ℕ) → is_number value ≡ true → (place : Place) → lexical_pass (lexeme_at (kind.Number, decimal value) place)
    ≡ None
number-lexical value h place = rw (value-back value h, h) refl

digits-no_word : (bytes : List ℕ) → begins_by_digit bytes ≡ true → begins_by_letter bytes ≡ false
digits-no_word [] h = refl
digits-no_word (b ∷ more) h = grind (arith, nat_tests)

pub number-kind : (value : ℕ) → is_number value ≡ true → kind_of (decimal value) ≡ kind.Number
number-kind value h =
    let bytes : List ℕ = decimal value in
    let digit = (decimal-is value (small value h)).first in
    let no_letter = digits-no_word bytes digit in
    let free = false_from_ne_true (is_reserved_word bytes)
    (λ reserved. both_ways (begins_by_letter bytes) no_letter (reserved-begins bytes reserved)) in
    rw (free, no_letter, digit) refl
