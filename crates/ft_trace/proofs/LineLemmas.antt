-- A line of plain fields.
use Rattle.std.proofs.Common.{◌≡◌, ◌∙◌, sym, ap, refl, ℕ, suc, ◌<◌, ◌^◌, ℤ, pos, negsuc, Bool, true, false, ◌==◌, ◌||◌, ◌&&◌, cond, List}
use Rattle.std.proofs.Common.{[], ◌∷◌, ◌++◌, length, map, slice_get, Some, arith, inl, inr, unsigned_abs}
use Rattle.std.specs.List.{filter, join_with_byte, list_all, list_any}
use Rattle.std.specs.Fmt.{decimal, signed_decimal}
use Rattle.std.proofs.lemmas.List.{append-nil}
use Rattle.std.proofs.lemmas.Bool.{cases_Bool, eqb-true, ne_eqb, true≢false}
use Rattle.csv.specs.Writing.{default_writer, field_text, fields_text, is_blank, needs_byte, needs_quotes, quoted, row_body, row_text}
use Rattle.ft_core.specs.declared.tables.Var.{Var}
use Rattle.ft_base.specs.Digits.{is_digit}
use Rattle.ft_base.specs.Names.{is_letter}
use Rattle.ft_core.specs.checked.Names.{is_lettered, is_mark, is_set_name, is_set_name_byte}
use Rattle.ft_trace.specs.rows.Row.{is_monitored}
use Rattle.ft_trace.specs.meaning.Writing.{fields_by, line_of}
use Rattle.ft_trace.proofs.NumberLemmas.{decimal-is}

-- a field with at least one byte, and none that calls for quotes
pub record IsPlain (field : List ℕ) : Type 0 where
  pub first : ℕ
  pub rest : List ℕ
  pub parts : field ≡ first ∷ rest
  pub plain : needs_quotes default_writer field ≡ false

unfoldable pub ArePlain : List (List ℕ) → Type 0
ArePlain [] = Unit
ArePlain (field ∷ fields) = IsPlain field × ArePlain fields

plain-text : (field : List ℕ) → IsPlain field → field_text default_writer field ≡ field
plain-text field p = ap (λ b. cond b (quoted default_writer field) field) p.plain

not-empty : (field : List ℕ) → IsPlain field → (length (field_text default_writer field) == 0) ≡ false
not-empty field p = ap (λ (f : List ℕ). length f == 0) (plain-text field p ∙ p.parts)
    ∙ ne_eqb (length (p.first ∷ p.rest)) 0 (λ z. omega (arith, z))

body : (x : List ℕ) (rest : List (List ℕ)) → ArePlain (x ∷ rest) → row_body default_writer (x ∷ rest) ≡ join_with_byte 44 (x ∷ rest)
unfolding ArePlain fields_text
body x [] p = append-nil (field_text default_writer x) ∙ plain-text x p.0
body x (y ∷ rest) p = ap (λ (f : List ℕ). f ++ 44 ∷ row_body default_writer (y ∷ rest)) (plain-text x p.0)
    ∙ ap (λ (f : List ℕ). x ++ 44 ∷ f) (body y rest p.1)

blank : (x : List ℕ) (rest : List (List ℕ)) → ArePlain (x ∷ rest) → is_blank default_writer (x ∷ rest) ≡ false
unfolding ArePlain is_blank
blank x [] p = not-empty x p.0
blank x (y ∷ rest) p = refl

-- a record of plain fields is written as its line
line-is : (x : List ℕ) (rest : List (List ℕ)) → ArePlain (x ∷ rest) → row_text default_writer (x ∷ rest) ≡ line_of (x ∷ rest)
line-is x rest p =
    ap (λ b. row_body default_writer (x ∷ rest) ++ (cond b (34 ∷ 34 ∷ []) [] ++ 10 ∷ [])) (blank x rest p)
    ∙ ap (λ (f : List ℕ). f ++ 10 ∷ []) (body x rest p)

pub line-of-fields : (fields : List (List ℕ)) → ArePlain fields → (fields ≡ [] → ⊥) → row_text default_writer fields ≡ line_of fields
line-of-fields [] p some = absurd (some refl)
line-of-fields (x ∷ rest) p some = line-is x rest p

-- the fields of the monitored variables are plain where each is
pub plain-by : (field : Var → List ℕ) (vars : List Var)
    → ((k : ℕ) (v : Var) → slice_get vars k ≡ Some v → is_monitored v ≡ true → IsPlain (field v)) → ArePlain (fields_by field vars)
unfolding ArePlain
plain-by field [] each = tt
plain-by field (v ∷ vars) each =
    let rest = plain-by field vars (λ k. each (suc k)) in
    elim (is_monitored v) as (λ b. (is_monitored v ≡ b) → ArePlain (map field
    (cond b (v ∷ filter is_monitored vars) (filter is_monitored vars)))) [
      | true ↦ (λ e. (each 0 v refl e, rest))
      | false ↦ (λ e. rest)
    ] refl

-- a byte that passes a test is none that fails it
other-byte : (test : ℕ → Bool) (b k : ℕ) → test b ≡ true → test k ≡ false → (b == k) ≡ false
other-byte test b k passes fails = elim (cases_Bool (b == k)) [
  | inl same ↦ absurd (true≢false (sym passes ∙ ap test (eqb-true b k same) ∙ fails))
  | inr other ↦ other
]

byte-plain : (b : ℕ) → is_set_name_byte b ≡ true → needs_byte default_writer b ≡ false
byte-plain b e =
    let c = other-byte is_set_name_byte b 44 e refl in
    let q = other-byte is_set_name_byte b 34 e refl in
    let r = other-byte is_set_name_byte b 13 e refl in
    let n = other-byte is_set_name_byte b 10 e refl in
    rw (c, q, r, n) refl

more-plain : (b : ℕ) (bs : List ℕ) → list_any (needs_byte default_writer) bs ≡ false → is_set_name_byte b ≡ true
    → list_any (needs_byte default_writer) (b ∷ bs) ≡ false
more-plain b bs rest is = ap (λ x. x || list_any (needs_byte default_writer) bs) (byte-plain b is) ∙ rest

pub and-first : (a b : Bool) → (a && b) ≡ true → a ≡ true
and-first true b e = refl
and-first false b e = e

pub and-second : (a b : Bool) → (a && b) ≡ true → b ≡ true
and-second true b e = e
and-second false b e = absurd (true≢false (sym e))

bytes-plain : (bs : List ℕ) → list_all is_set_name_byte bs ≡ true → list_any (needs_byte default_writer) bs ≡ false
bytes-plain [] e = refl
bytes-plain (b ∷ bs) e = more-plain b bs (bytes-plain bs (and-second (is_set_name_byte b) _ e)) (and-first (is_set_name_byte b) _ e)

letter-byte : (b : ℕ) → is_letter b ≡ true → is_set_name_byte b ≡ true
letter-byte b e = ap (λ x. x || is_digit b || is_mark b) e

-- a name is plain, and begins by a letter
pub name-plain : (name : List ℕ) → is_set_name name ≡ true → IsPlain name
name-plain [] e = absurd (true≢false (sym e))
name-plain (b ∷ bs) e =
    let letters = and-first (is_lettered (b ∷ bs)) _ e in
    record {
      first = b;
      rest = bs;
      parts = refl;
      plain = more-plain b bs (bytes-plain bs (and-second (is_letter b) _ letters)) (letter-byte b (and-first (is_letter b) _ letters));
    }

name-letter : (b : ℕ) (bs : List ℕ) → is_set_name (b ∷ bs) ≡ true → (b == 0xEF) ≡ false
name-letter b bs e = other-byte is_letter b 0xEF (and-first (is_letter b) _ (and-first (is_lettered (b ∷ bs)) _ e)) refl

-- a number is plain
pub number-plain : (z : ℤ) → unsigned_abs z < 2 ^ 64 → IsPlain (signed_decimal z)
number-plain (pos n) small = let d = decimal-is n small in record { first = d.first; rest = d.rest; parts = d.parts; plain = d.plain }
number-plain (negsuc n) small = let d = decimal-is (suc n) small in record
    { first = 45; rest = decimal (suc n); parts = refl; plain = d.plain }

-- a line that begins by a name begins by no byte order mark
pub named-line : (fields : List (List ℕ)) → (fields ≡ [] → ⊥) → list_all is_set_name fields ≡ true
    → (b : ℕ) × (bs : List ℕ) × (line_of fields ≡ b ∷ bs) × ((b == 0xEF) ≡ false)
named-line [] some named = absurd (some refl)
named-line ([] ∷ rest) some named = absurd (true≢false (sym (and-first (is_set_name []) (list_all is_set_name rest) named)))
named-line ((b ∷ bs) ∷ []) some named = (b, bs ++ 10 ∷ [], refl, name-letter b bs (and-first (is_set_name (b ∷ bs)) _ named))
named-line ((b ∷ bs) ∷ y ∷ rest) some named = (
  b,
  (bs ++ 44 ∷ join_with_byte 44 (y ∷ rest)) ++ 10 ∷ [],
  refl,
  name-letter b bs (and-first (is_set_name (b ∷ bs)) _ named),
)
