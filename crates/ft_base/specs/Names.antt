-- Names, and the words that no name may be.
use Rattle.std.specs.Prelude.{ℕ, Bool, false, not, nat_le, ◌==◌, ◌&&◌, ◌||◌, List, [], ◌∷◌, codes, length}
use Rattle.std.specs.Char.{is_ascii_alphabetic}
use Rattle.std.specs.List.{list_all, list_any}
use Rattle.std.specs.Str.{bytes_eq}
use Rattle.ft_base.specs.Digits.{is_digit}

-- what a name begins with
abbrev pub is_letter : ℕ → Bool
is_letter b = is_ascii_alphabetic b

-- what a name goes on with: a letter, a digit or `_`
abbrev pub is_name_byte : ℕ → Bool
is_name_byte b = is_letter b || is_digit b || (b == 95)

abbrev pub begins_by_letter : List ℕ → Bool
begins_by_letter [] = false
begins_by_letter (b ∷ _) = is_letter b

-- the words that no name may be
unfoldable pub reserved_words : List (List ℕ)
reserved_words =
    codes "set" ∷ codes "period" ∷ codes "splits" ∷ codes "depth" ∷ codes "ms" ∷ codes "const" ∷ codes "type"
    ∷ codes "bool" ∷ codes "true" ∷ codes "false" ∷ codes "mon" ∷ codes "con" ∷ codes "input" ∷ codes "output"
    ∷ codes "init" ∷ codes "req" ∷ codes "sof" ∷ codes "in" ∷ codes "out" ∷ codes "var" ∷ codes "held"
    ∷ codes "hyst" ∷ codes "normal" ∷ codes "inverted" ∷ codes "vector" ∷ codes "columns" ∷ codes "terms"
    ∷ codes "row" ∷ codes "nat" ∷ codes "first" ∷ codes "always" ∷ codes "step" ∷ codes "block" ∷ codes "takes"
    ∷ codes "uses" ∷ codes "shows" ∷ codes "goal" ∷ codes "and" ∷ codes "or" ∷ codes "not" ∷ codes "div"
    ∷ codes "prev" ∷ codes "age" ∷ []

-- whether the bytes are a reserved word
unfoldable pub is_reserved_word : List ℕ → Bool
is_reserved_word word = list_any (bytes_eq word) reserved_words

-- a letter with letters, digits and `_` after it, at most 40 bytes, and no reserved word
abbrev pub is_name : List ℕ → Bool
is_name name = begins_by_letter name && list_all is_name_byte name && nat_le (length name) 40 && not (is_reserved_word name)
