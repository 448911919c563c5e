-- The tokens of a line are read as they were written: what stands after one, a space or not, doesn't lengthen it.
use Rattle.std.proofs.Common.{◌≡◌, ◌∙◌, sym, ap, subst, refl, ℕ, ◌==◌, ◌≤◌, nat_le, List, [], ◌∷◌, ◌++◌, ◌&&◌, ◌||◌, inl, inr, not, Bool}
use Rattle.std.proofs.Common.{true, false, codes, length, take, map, append_assoc, arith}
use Rattle.std.specs.List.{Contains, list_all, list_any, prefix_len}
use Rattle.std.specs.Io.{StartsWith}
use Rattle.std.specs.Str.{bytes_eq}
use Rattle.std.proofs.lemmas.Bool.{and_parts, cases_Bool, cases_lt, leb-true, false_from_ne_true, not-true, or_cases, true≢false, both_ways}
use Rattle.std.proofs.lemmas.Bool.Decides.{nat_tests}
use Rattle.std.proofs.lemmas.List.{append-nil, take-take}
use Rattle.std.proofs.lemmas.List.Elements.{All-contains}
use Rattle.std.proofs.lemmas.List.Sums.{AllPass-from_list_all}
use Rattle.std.proofs.lemmas.Map.Views.{Contains-from_any}
use Rattle.std.proofs.lemmas.Slice.Eq.{bytes_eq-Decides}
use Rattle.std.proofs.Math.Seq.{take-append_seam}
use Rattle.ft_lex.specs.declared.token.TokenKind.{TokenKind}
use Rattle.ft_lex.specs.declared.token.TokenKind.TheVariants.{Name, Number, Word, Sign}
use Rattle.ft_base.specs.Digits.{begins_by_digit, is_digit}
use Rattle.ft_base.specs.Names.{begins_by_letter, is_letter, is_name_byte, is_reserved_word, reserved_words}
use Rattle.ft_lex.specs.meaning.Bytes.{begins_space, is_blank}
use Rattle.ft_lex.specs.lexing.Lexing.{SignsLongest, first_len, sign_len}
use Rattle.ft_lex.specs.meaning.Tokens.{Begins, IsShape, is_last}
use Rattle.ft_lex.specs.meaning.Signs.{signs}
use Rattle.ft_base.specs.Reserved.{found-passes, reserved-begins}
use Rattle.ft_tree.specs.meaning.Line.{Piece, token, minus, gap, hugs_after, hugs_before, is_history, is_open, piece_text, text_after}
use Rattle.ft_tree.specs.laws.Tokens.{Shape, kind_of, piece_shape}
use Rattle.ft_tree.proofs.MadeLemmas.{IsMade, Stands, made-after_blanks, made-more}

-- a name or a reserved word
abbrev pub is_word_text : List ℕ → Bool
is_word_text bytes = begins_by_letter bytes && list_all is_name_byte bytes

-- one digit or more
abbrev pub is_digits : List ℕ → Bool
is_digits bytes = begins_by_digit bytes && list_all is_digit bytes

abbrev pub is_sign_text : List ℕ → Bool
is_sign_text bytes = list_any (bytes_eq bytes) signs

-- the bytes of one token
unfoldable pub is_token : List ℕ → Bool
is_token bytes = is_word_text bytes || (is_digits bytes || is_sign_text bytes)

unfoldable pub is_sound : Piece → Bool
is_sound (token bytes) = is_token bytes
is_sound minus = true

-- the byte lengthens no token
abbrev ends_token : ℕ → Bool
ends_token b = not (is_name_byte b || ((b == 61) || (b == 62)))

ends-word : (b : ℕ) → ends_token b ≡ true → is_name_byte b ≡ false
ends-word b h = grind (arith, nat_tests)

ends-digits : (b : ℕ) → ends_token b ≡ true → is_digit b ≡ false
ends-digits b h = grind (arith, nat_tests)

ends-equal : (b : ℕ) → ends_token b ≡ true → (61 == b) ≡ false
ends-equal b h = grind (arith, nat_tests)

ends-greater : (b : ℕ) → ends_token b ≡ true → (62 == b) ≡ false
ends-greater b h = grind (arith, nat_tests)

letter-no_space : (b : ℕ) → is_letter b ≡ true → begins_space b ≡ false
letter-no_space b h = grind (arith, nat_tests)

digit-no_space : (b : ℕ) → is_digit b ≡ true → begins_space b ≡ false
digit-no_space b h = grind (arith, nat_tests)

-- bytes that pass, up to one that doesn't
run-ends : (test : ℕ → Bool) (bytes rest : List ℕ) → list_all test bytes ≡ true → (Begins test rest → ⊥)
    → length bytes ≡ prefix_len test (bytes ++ rest)
run-ends test [] [] h ends = refl
run-ends test [] (b ∷ rest) h ends = rw (false_from_ne_true (test b) ends) refl
run-ends test (b ∷ bytes) rest h ends =
    let (first, later) = and_parts (test b) (list_all test bytes) h in
    rw first (omega (arith, run-ends test bytes rest later ends))

as_word : (bytes : List ℕ) → is_reserved_word bytes ≡ true → kind_of bytes ≡ Word
as_word bytes h = rw h refl

as_name : (bytes : List ℕ) → is_reserved_word bytes ≡ false → begins_by_letter bytes ≡ true → kind_of bytes ≡ Name
as_name bytes h k = rw (h, k) refl

as_number : (bytes : List ℕ) → is_reserved_word bytes ≡ false → begins_by_letter bytes ≡ false
    → begins_by_digit bytes ≡ true → kind_of bytes ≡ Number
as_number bytes h k j = rw (h, k, j) refl

as_sign : (bytes : List ℕ) → is_reserved_word bytes ≡ false → begins_by_letter bytes ≡ false → begins_by_digit bytes ≡ false
    → kind_of bytes ≡ Sign
as_sign bytes h k j = rw (h, k, j) refl

-- no token is the last
kind-goes_on : (bytes : List ℕ) → is_last (kind_of bytes) ≡ false
kind-goes_on bytes = elim (cases_Bool (is_reserved_word bytes)) [
  | inl reserved ↦ rw reserved refl
  | inr free ↦ elim (cases_Bool (begins_by_letter bytes)) [
    | inl letter ↦ rw (free, letter) refl
    | inr other ↦ elim (cases_Bool (begins_by_digit bytes)) [
      | inl digit ↦ rw (free, other, digit) refl
      | inr none ↦ rw (free, other, none) refl
    ]
  ]
]

ends-run : (test : ℕ → Bool) (rest : List ℕ) → ((b : ℕ) → ends_token b ≡ true → test b ≡ false) → Begins ends_token rest
    → Begins test rest → ⊥
ends-run test [] none h k = h
ends-run test (b ∷ rest) none h k = both_ways (test b) (none b h) k

word-stands : (bytes rest : List ℕ) → is_word_text bytes ≡ true → Begins ends_token rest → Stands (kind_of bytes, bytes) rest
word-stands [] rest h ends = absurd (true≢false (sym h))
word-stands (b ∷ more) rest h ends =
    let bytes : List ℕ = b ∷ more in
    let (letter, names) = and_parts (is_letter b) (list_all is_name_byte bytes) h in
    let whole = run-ends is_name_byte bytes rest names (ends-run is_name_byte rest ends-word ends) in
    let own : take (length bytes) (bytes ++ rest) ≡ bytes = take-append_seam bytes rest in
    record {
      no_space = both_ways (begins_space b) (letter-no_space b letter);
      shaped = elim (cases_Bool (is_reserved_word bytes)) [
        | inl reserved ↦ subst (λ (k : TokenKind). IsShape k (bytes ++ rest) (length bytes)) (sym (as_word bytes reserved))
            (record { letter = letter; whole = whole }, ap is_reserved_word own ∙ reserved)
        | inr free ↦ subst (λ (k : TokenKind). IsShape k (bytes ++ rest) (length bytes)) (sym (as_name bytes free letter))
            (record { letter = letter; whole = whole }, ap is_reserved_word own ∙ free)
      ];
    }

digits-stand : (bytes rest : List ℕ) → is_digits bytes ≡ true → Begins ends_token rest → Stands (kind_of bytes, bytes) rest
digits-stand [] rest h ends = absurd (true≢false (sym h))
digits-stand (b ∷ more) rest h ends =
    let bytes : List ℕ = b ∷ more in
    let (digit, digits) = and_parts (is_digit b) (list_all is_digit bytes) h in
    let no_letter : is_letter b ≡ false = grind (arith, nat_tests, digit) in
    let free = false_from_ne_true (is_reserved_word bytes)
    (λ reserved. both_ways (is_letter b) no_letter (reserved-begins bytes reserved)) in
    let number = as_number bytes free no_letter digit in
    record {
      no_space = both_ways (begins_space b) (digit-no_space b digit);
      shaped = subst (λ (k : TokenKind). IsShape k (bytes ++ rest) (length bytes)) (sym number) (record {
        digit = digit;
        whole = run-ends is_digit bytes rest digits (ends-run is_digit rest ends-digits ends);
      });
    }

-- there is a first byte, and it begins no space
abbrev begins_no_space : List ℕ → Bool
begins_no_space [] = false
begins_no_space (b ∷ _) = not (begins_space b)

-- the bytes are neither a word nor a number, and no space stands before them
abbrev is_only_sign : List ℕ → Bool
is_only_sign bytes =
    not (is_reserved_word bytes) && (not (begins_by_letter bytes) && (not (begins_by_digit bytes) && begins_no_space bytes))

signs-only : list_all is_only_sign signs ≡ true
unfolding signs is_reserved_word reserved_words
signs-only = refl

no_space-before : (bytes rest : List ℕ) → begins_no_space bytes ≡ true → Begins begins_space (bytes ++ rest) → ⊥
no_space-before [] rest h k = true≢false (sym h)
no_space-before (b ∷ more) rest h k = both_ways (begins_space b) (not-true (begins_space b) h) k

-- no sign that they begin with is longer than the bytes before the rest
abbrev IsLongestOf : List ℕ → List ℕ → Type 0
IsLongestOf bytes rest = (other : List ℕ) → Contains signs other → StartsWith (bytes ++ rest) other → length other ≤ length bytes

sign-stands : (bytes rest : List ℕ) → is_sign_text bytes ≡ true → IsLongestOf bytes rest → Stands (kind_of bytes, bytes) rest
sign-stands bytes rest h longest =
    let only = found-passes is_only_sign signs bytes signs-only h in
    let (free, others) = and_parts (not (is_reserved_word bytes)) _ only in
    let (no_letter, more) = and_parts (not (begins_by_letter bytes)) _ others in
    let (no_digit, apart) = and_parts (not (begins_by_digit bytes)) _ more in
    let sign = as_sign bytes (not-true _ free) (not-true _ no_letter) (not-true _ no_digit) in
    record {
      no_space = no_space-before bytes rest apart;
      shaped = subst (λ (k : TokenKind). IsShape k (bytes ++ rest) (length bytes)) (sym sign) (record {
        sign = bytes;
        listed = Contains-from_any (λ x y e. (bytes_eq-Decides x y).0 e) bytes signs h;
        here = take-append_seam bytes rest;
        all = refl;
        longest = longest;
      });
    }

abbrev is_no_longer : List ℕ → List ℕ → Bool
is_no_longer bytes other = nat_le (length other) (length bytes) || not (bytes_eq (take (length bytes) other) bytes)

-- no longer sign begins with the bytes
abbrev is_alone : List ℕ → Bool
is_alone bytes = list_all (is_no_longer bytes) signs

-- then nothing lengthens them
alone-longest : (bytes rest : List ℕ) → is_alone bytes ≡ true → IsLongestOf bytes rest
alone-longest bytes rest alone other listed here = elim (cases_lt (length bytes) (length other)) [
  | inr short ↦ short
  | inl long ↦
      let all = AllPass-from_list_all (is_no_longer bytes) signs alone in
      let passes = All-contains (λ (x : List ℕ). is_no_longer bytes x ≡ true) signs other all listed in
      let begins : take (length bytes) other ≡ bytes = ap (take (length bytes)) (sym here)
      ∙ take-take (length bytes) (length other) (bytes ++ rest) (omega arith)
      ∙ take-append_seam bytes rest in
      elim (or_cases (nat_le (length other) (length bytes)) _ passes) [
        | inl short ↦ leb-true (length other) (length bytes) short
        | inr differs ↦ absurd (both_ways _ (not-true _ differs) ((bytes_eq-Decides (take (length bytes) other) bytes).1 begins))
      ]
]

less-longest : (rest : List ℕ) → Begins ends_token rest → sign_len (codes "<" ++ rest) ≡ 1
unfolding signs first_len
less-longest [] ends = absurd ends
less-longest (b ∷ rest) ends = rw (ends-equal b ends, ends-greater b ends) refl

greater-longest : (rest : List ℕ) → Begins ends_token rest → sign_len (codes ">" ++ rest) ≡ 1
unfolding signs first_len
greater-longest [] ends = absurd ends
greater-longest (b ∷ rest) ends = rw (ends-equal b ends) refl

longest-at : SignsLongest → (bytes rest : List ℕ) → sign_len (bytes ++ rest) ≡ length bytes → IsLongestOf bytes rest
longest-at law bytes rest len other listed here = omega (arith, len, law (bytes ++ rest) other listed here)

longest-as : SignsLongest → (bytes sign rest : List ℕ) → bytes_eq bytes sign ≡ true → sign_len (sign ++ rest) ≡ length sign
    → IsLongestOf bytes rest
longest-as law bytes sign rest same len =
    subst (λ (x : List ℕ). IsLongestOf x rest) (sym ((bytes_eq-Decides bytes sign).0 same)) (longest-at law sign rest len)

abbrev is_angle : List ℕ → Bool
is_angle bytes = bytes_eq bytes (codes "<") || bytes_eq bytes (codes ">")

-- `<` and `>` are the only signs that longer ones begin with
signs-alone : list_all (λ bytes. is_alone bytes || is_angle bytes) signs ≡ true
unfolding signs
signs-alone = refl

-- a byte that lengthens no token lengthens no sign
sign-longest : SignsLongest → (bytes rest : List ℕ) → is_sign_text bytes ≡ true → Begins ends_token rest → IsLongestOf bytes rest
sign-longest law bytes rest h ends =
    elim (or_cases (is_alone bytes) (is_angle bytes) (found-passes (λ x. is_alone x || is_angle x) signs bytes signs-alone h)) [
      | inl alone ↦ alone-longest bytes rest alone
      | inr angle ↦ elim (or_cases (bytes_eq bytes (codes "<")) _ angle) [
        | inl less ↦ longest-as law bytes (codes "<") rest less (less-longest rest ends)
        | inr greater ↦ longest-as law bytes (codes ">") rest greater (greater-longest rest ends)
      ]
    ]

-- before a byte that lengthens no token
token-stands : SignsLongest → (bytes rest : List ℕ) → is_token bytes ≡ true → Begins ends_token rest → Stands (kind_of bytes, bytes) rest
unfolding is_token
token-stands law bytes rest h ends = elim (or_cases (is_word_text bytes) _ h) [
  | inl word ↦ word-stands bytes rest word ends
  | inr other ↦ elim (or_cases (is_digits bytes) _ other) [
    | inl digits ↦ digits-stand bytes rest digits ends
    | inr sign ↦ sign-stands bytes rest sign (sign-longest law bytes rest sign ends)
  ]
]

-- a sign that nothing lengthens
abbrev is_closed : List ℕ → Bool
is_closed bytes = is_sign_text bytes && is_alone bytes

closed-stands : (bytes rest : List ℕ) → is_closed bytes ≡ true → Stands (kind_of bytes, bytes) rest
closed-stands bytes rest h =
    let (sign, alone) = and_parts (is_sign_text bytes) (is_alone bytes) h in
    sign-stands bytes rest sign (alone-longest bytes rest alone)

open-closed : is_closed (codes "(") ≡ true
unfolding signs
open-closed = refl

dots-closed : is_closed (codes "..") ≡ true
unfolding signs
dots-closed = refl

minus-closed : is_closed (codes "-") ≡ true
unfolding signs
minus-closed = refl

-- what no space stands after
hugging-closed : (piece : Piece) → hugs_after piece ≡ true → is_closed (piece_text piece) ≡ true
unfolding hugs_after
hugging-closed minus h = minus-closed
hugging-closed (token bytes) h = elim (or_cases (bytes_eq bytes (codes "(")) _ h) [
  | inl is ↦ subst (λ (x : List ℕ). is_closed x ≡ true) (sym ((bytes_eq-Decides bytes (codes "(")).0 is)) open-closed
  | inr is ↦ subst (λ (x : List ℕ). is_closed x ≡ true) (sym ((bytes_eq-Decides bytes (codes "..")).0 is)) dots-closed
]

sound-token : (bytes : List ℕ) → is_sound (token bytes) ≡ is_token bytes
unfolding is_sound
sound-token bytes = refl

-- a token that no space stands after, or before a byte that lengthens no token
piece-stands : SignsLongest → (piece : Piece) (rest : List ℕ) → is_sound piece ≡ true → (hugs_after piece ≡ false → Begins ends_token rest)
    → Stands (piece_shape piece) rest
piece-stands law minus rest h ends = closed-stands (codes "-") rest minus-closed
piece-stands law (token bytes) rest h ends = elim (cases_Bool (hugs_after (token bytes))) [
  | inl hugs ↦ closed-stands bytes rest (hugging-closed (token bytes) hugs)
  | inr free ↦ token-stands law bytes rest (sym (sound-token bytes) ∙ h) (ends free)
]

-- the first byte lengthens no token
abbrev begins_end : List ℕ → Bool
begins_end [] = false
begins_end (b ∷ _) = ends_token b

ends-begins : (bytes rest : List ℕ) → begins_end bytes ≡ true → Begins ends_token (bytes ++ rest)
ends-begins [] rest h = absurd (true≢false (sym h))
ends-begins (b ∷ more) rest h = h

end-at : (bytes other : List ℕ) → begins_end other ≡ true → bytes_eq bytes other ≡ true → begins_end bytes ≡ true
end-at bytes other h same = ap begins_end ((bytes_eq-Decides bytes other).0 same) ∙ h

-- what no space stands before
hugged-ends : (piece : Piece) → hugs_before piece ≡ true → begins_end (piece_text piece) ≡ true
unfolding hugs_before
hugged-ends minus h = absurd (true≢false (sym h))
hugged-ends (token bytes) h = elim (or_cases _ (bytes_eq bytes (codes "..")) h) [
  | inr dots ↦ end-at bytes (codes "..") refl dots
  | inl others ↦ elim (or_cases _ (bytes_eq bytes (codes ")")) others) [
    | inr close ↦ end-at bytes (codes ")") refl close
    | inl more ↦ elim (or_cases (bytes_eq bytes (codes ";")) (bytes_eq bytes (codes ",")) more) [
      | inl semicolon ↦ end-at bytes (codes ";") refl semicolon
      | inr comma ↦ end-at bytes (codes ",") refl comma
    ]
  ]
]

opened-ends : (piece : Piece) → is_open piece ≡ true → begins_end (piece_text piece) ≡ true
unfolding is_open
opened-ends minus h = absurd (true≢false (sym h))
opened-ends (token bytes) h = end-at bytes (codes "(") refl h

-- after a token that takes a space, what follows it lengthens no token
gap-ends : (before next : Piece) (rest : List ℕ) → hugs_after before ≡ false
    → Begins ends_token (gap before next ++ (piece_text next ++ rest))
gap-ends before next rest free = elim (cases_Bool (hugs_before next)) [
  | inl hugs ↦ rw (free, hugs) (ends-begins (piece_text next) rest (hugged-ends next hugs))
  | inr no_hug ↦ elim (cases_Bool (is_history before && is_open next)) [
    | inl calls ↦
        let (_, opens) = and_parts (is_history before) (is_open next) calls in
        rw (free, no_hug, calls) (ends-begins (piece_text next) rest (opened-ends next opens))
    | inr apart ↦ rw (free, no_hug, apart) refl
  ]
]

gap-blank : (before next : Piece) → list_all is_blank (gap before next) ≡ true
gap-blank before next = elim (cases_Bool (hugs_after before || hugs_before next || (is_history before && is_open next))) [
  | inl near ↦ rw near refl
  | inr apart ↦ rw apart refl
]

-- a token and those after it in its line are read as they were written
pub made-after : SignsLongest → (before : Piece) (pieces : List Piece) (rest : List ℕ) (shapes : List Shape)
    → list_all is_sound (before ∷ pieces) ≡ true → Begins ends_token rest → IsMade rest shapes
    → IsMade ((piece_text before ++ text_after before pieces) ++ rest) (map piece_shape (before ∷ pieces) ++ shapes)
made-after law before [] rest shapes h ends made =
    let (sound, _) = and_parts (is_sound before) true h in
    let stands = piece-stands law before rest sound (λ _. ends) in
    subst (λ (l : List ℕ). IsMade (l ++ rest) (piece_shape before ∷ shapes)) (sym (append-nil (piece_text before)))
    (made-more (piece_shape before) shapes rest stands (kind-goes_on (piece_text before)) made)
made-after law before (next ∷ more) rest shapes h ends made =
    let (sound, sounds) = and_parts (is_sound before) (list_all is_sound (next ∷ more)) h in
    let later : List ℕ = piece_text next ++ text_after next more in
    let after : List ℕ = gap before next ++ (later ++ rest) in
    let tail : List Shape = map piece_shape (next ∷ more) ++ shapes in
    let parts = append_assoc (piece_text next) (text_after next more) rest in
    let stands = piece-stands law before after sound
    (λ free. subst (λ (l : List ℕ). Begins ends_token (gap before next ++ l)) (sym parts)
    (gap-ends before next (text_after next more ++ rest) free)) in
    let made_later = made-after_blanks tail (gap before next) (later ++ rest) (gap-blank before next)
    (made-after law next more rest shapes sounds ends made) in
    let whole : piece_text before ++ after ≡ (piece_text before ++ text_after before (next ∷ more)) ++ rest =
    ap (λ (l : List ℕ). piece_text before ++ l) (sym (append_assoc (gap before next) later rest))
    ∙ sym (append_assoc (piece_text before) (gap before next ++ later) rest) in
    subst (λ (l : List ℕ). IsMade l (piece_shape before ∷ tail)) whole
    (made-more (piece_shape before) tail after stands (kind-goes_on (piece_text before)) made_later)
