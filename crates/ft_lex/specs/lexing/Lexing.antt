-- The reading of one token from left to right.
use Rattle.std.specs.Prelude.{ℕ, suc, zero, ◌+◌, ◌==◌, ◌≤◌, List, [], ◌∷◌, Bool, true, length, take, if◌then◌else◌, nat_eq}
use Rattle.std.specs.Io.{StartsWith}
use Rattle.std.specs.List.{prefix_len, starts_with, Contains}
use Rattle.ft_lex.specs.declared.token.TokenKind.{TokenKind}
use Rattle.ft_lex.specs.declared.token.TokenKind.TheVariants.{Name, Number, Word, Sign, End, Bad}
use Rattle.ft_lex.specs.declared.space.Within.{Within}
use Rattle.ft_lex.specs.declared.space.Within.TheVariants.{Blanks, Comment}
use Rattle.ft_base.specs.declared.place.Place.{Place}
use Rattle.ft_base.specs.Names.{is_letter, is_name_byte, is_reserved_word}
use Rattle.ft_base.specs.Digits.{is_digit}
use Rattle.ft_lex.specs.meaning.Bytes.{begins_space}
use Rattle.ft_lex.specs.meaning.Signs.{signs}

-- whether the byte belongs to the space
abbrev pub goes_on : Within → ℕ → Bool
goes_on Comment b = true
goes_on Blanks b = begins_space b

-- what the bytes after this one stand in
abbrev pub after_byte : Within → ℕ → Within
after_byte Comment b = if b == 10 then Blanks else Comment
after_byte Blanks b = if b == 35 then Comment else Blanks

-- how many bytes of space the bytes begin with
unfoldable pub space_from : Within → List ℕ → ℕ
space_from within [] = 0
space_from within (b ∷ more) = if goes_on within b then suc (space_from (after_byte within b) more) else 0

abbrev pub space_len : List ℕ → ℕ
space_len bytes = space_from Blanks bytes

-- the length of the first text of a table that the bytes begin with, or 0
unfoldable pub first_len : {X : Type 0} → (X → List ℕ) → List X → List ℕ → ℕ
first_len text [] bytes = 0
first_len text (x ∷ more) bytes = if starts_with nat_eq bytes (text x) then length (text x) else first_len text more bytes

-- the length of the longest sign that the bytes begin with, or 0
abbrev pub sign_len : List ℕ → ℕ
sign_len bytes = first_len (λ text. text) signs bytes

-- no sign that the bytes begin with is longer than that
abbrev pub SignsLongest : Type 0
SignsLongest = (bytes sign : List ℕ) → Contains signs sign → StartsWith bytes sign → length sign ≤ sign_len bytes

-- a kind, and a number of bytes
abbrev pub Shape : Type 0
Shape = TokenKind × ℕ

abbrev pub name_shape : List ℕ → ℕ → Shape
name_shape bytes n = ((if is_reserved_word (take n bytes) then Word else Name), n)

abbrev pub sign_shape : ℕ → Shape
sign_shape zero = (Bad, 1)
sign_shape (suc n) = (Sign, suc n)

abbrev pub first_shape : ℕ → List ℕ → Shape
first_shape b bytes =
    if is_letter b then name_shape bytes (prefix_len is_name_byte bytes)
    else if is_digit b then (Number, prefix_len is_digit bytes)
    else sign_shape (sign_len bytes)

-- the token that the bytes begin with, and its length
abbrev pub shape_of : List ℕ → Shape
shape_of [] = (End, 0)
shape_of (b ∷ more) = first_shape b (b ∷ more)

-- the place after one byte more
abbrev pub next_place : Place → ℕ → Place
next_place place b = if b == 10 then record { line = place.line + 1; column = 1 } else record
    { line = place.line; column = place.column + 1 }
