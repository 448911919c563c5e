-- Places, byte by byte.
use Rattle.std.proofs.Common.{◌≡◌, ◌∙◌, sym, ap, refl, ℕ, ◌+◌, ◌-◌, ◌<◌, ◌≤◌, ◌==◌, inl, inr, List, true, false, length, take, get_or}
use Rattle.std.proofs.Common.{arith}
use Rattle.std.specs.List.{suffix_len}
use Rattle.std.proofs.lemmas.List.Sums.{count_by_more_yes, count_by_more_no, count_by-le-length, suffix_len-take_no, suffix_len-take_yes}
use Rattle.std.proofs.lemmas.List.Sums.{suffix_len-le-length}
use Rattle.std.proofs.lemmas.List.{length-take-le}
use Rattle.std.proofs.lemmas.Bool.{cases_Bool}
use Rattle.ft_base.specs.declared.place.Place.{Place}
use Rattle.ft_lex.specs.meaning.Bytes.{is_within_line}
use Rattle.ft_lex.specs.meaning.Place.{place_after}
use Rattle.ft_lex.specs.lexing.Lexing.{next_place}

same_place : (p q : Place) → p.line ≡ q.line → p.column ≡ q.column → p ≡ q
same_place p q lines columns = λ i. record { line = lines i; column = columns i }

-- the place after one byte more
pub next_place-is : (text : List ℕ) (n b : ℕ) → n < length text → b ≡ get_or text n 0 → next_place (place_after (take n text)) b
    ≡ place_after (take (n + 1) text)
next_place-is text n b h is =
    let back : n + 1 - 1 ≡ n = omega arith in
    let last : is_within_line (get_or text (n + 1 - 1) 0) ≡ is_within_line b = ap (λ (k : ℕ). is_within_line (get_or text k 0)) back
    ∙ ap is_within_line (sym is) in
    elim (cases_Bool (b == 10)) [
      | inl feed ↦
          let in_line : is_within_line b ≡ false = rw feed refl in
          let lines = count_by_more_yes (λ x. x == 10) text n 0 h (ap (λ (x : ℕ). x == 10) (sym is) ∙ feed) in
          let columns = suffix_len-take_no is_within_line text (n + 1) 0 (omega arith) (omega arith) (last ∙ in_line) in
          rw feed (same_place _ _ (omega (arith, lines)) (omega (arith, columns)))
      | inr other ↦
          let in_line : is_within_line b ≡ true = rw other refl in
          let lines = count_by_more_no (λ x. x == 10) text n 0 h (ap (λ (x : ℕ). x == 10) (sym is) ∙ other) in
          let columns = suffix_len-take_yes is_within_line text (n + 1) 0 (omega arith) (omega arith) (last ∙ in_line) in
          let before : suffix_len is_within_line (take (n + 1 - 1) text) ≡ suffix_len is_within_line (take n text) =
          ap (λ (k : ℕ). suffix_len is_within_line (take k text)) back in
          rw other (same_place _ _ (omega (arith, lines)) (omega (arith, columns, before)))
    ]

pub line-small : (text : List ℕ) (n : ℕ) → n ≤ length text → (place_after (take n text)).line ≤ 1 + n
line-small text n h = omega (arith, count_by-le-length (λ x. x == 10) (take n text), length-take-le n text h)

pub column-small : (text : List ℕ) (n : ℕ) → n ≤ length text → (place_after (take n text)).column ≤ 1 + n
column-small text n h = omega (arith, suffix_len-le-length is_within_line (take n text), length-take-le n text h)
