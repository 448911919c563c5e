-- The limits that tokens pass.
use Rattle.std.specs.Prelude.{ℕ, ◌+◌, ◌&&◌, Bool, true, false, not, length, nat_eq, nat_le, Option, Some, None}
use Rattle.ft_base.specs.declared.place.Place.{Place}
use Rattle.ft_base.specs.Digits.{decimal_value}
use Rattle.ft_lex.specs.declared.token.TokenKind.{TokenKind}
use Rattle.ft_lex.specs.declared.token.TokenKind.TheVariants as kind
use Rattle.ft_read.specs.meaning.Lexeme.{Lexeme, or_else}
use Rattle.ft_read.specs.declared.parts.Site.{Site}
use Rattle.ft_read.specs.declared.stop.LimitWord.{LimitWord}
use Rattle.ft_read.specs.declared.stop.Pass.{Pass}
use Rattle.ft_read.specs.declared.stop.LimitWord.TheVariants as limit

-- the limit that a token passes, by the number of tokens before it
abbrev pub Passes : Type 0
Passes = ℕ → Lexeme → Option Pass

abbrev pub no_pass : Passes
no_pass at lexeme = None

abbrev pub pass : LimitWord → Place → Pass
pass which place = record { which = which; place = place }

abbrev pub where_so : Bool → LimitWord → Place → Option Pass
where_so true which place = Some (pass which place)
where_so false which place = None

abbrev pub is_name_kind : TokenKind → Bool
is_name_kind kind.Name = true
is_name_kind kind.Number = false
is_name_kind kind.Word = false
is_name_kind kind.Sign = false
is_name_kind kind.End = false
is_name_kind kind.Bad = false

abbrev pub is_number_kind : TokenKind → Bool
is_number_kind kind.Name = false
is_number_kind kind.Number = true
is_number_kind kind.Word = false
is_number_kind kind.Sign = false
is_number_kind kind.End = false
is_number_kind kind.Bad = false

-- a name has at most 40 bytes
abbrev pub is_long_name : Lexeme → Bool
is_long_name lexeme = is_name_kind lexeme.kind && not (nat_le (length lexeme.text) 40)

-- a number is at most 1,000,000,000
abbrev pub is_great_number : Lexeme → Bool
is_great_number lexeme = is_number_kind lexeme.kind && not (nat_le (decimal_value lexeme.text) 1000000000)

-- of the token by itself
abbrev pub lexical_pass : Lexeme → Option Pass
lexical_pass lexeme =
    or_else (where_so (is_long_name lexeme) limit.Name lexeme.place) (where_so (is_great_number lexeme) limit.Number lexeme.place)

-- a token that passes no limit but those of names and numbers
abbrev pub lexical_passes : Passes
lexical_passes at lexeme = lexical_pass lexeme

-- a token that passes this limit, where there is no room for what it begins or names
abbrev pub counted : Bool → LimitWord → Passes
counted is_full which at lexeme = or_else (lexical_pass lexeme) (where_so is_full which lexeme.place)

-- the same, where the limit is told at another place
abbrev pub counted_at : Bool → LimitWord → Place → Passes
counted_at is_full which place at lexeme = or_else (lexical_pass lexeme) (where_so is_full which place)

-- the first token of an entry too many
abbrev pub is_extra : Site → ℕ → Bool
is_extra site at = site.is_beyond && nat_eq at site.before

-- a token after the first 1,000 of an expression
abbrev pub is_late : Site → ℕ → Bool
is_late site at = nat_le (site.before + 1000) at

-- a token of an expression
abbrev pub within : Site → Passes
within site at lexeme =
    or_else (lexical_pass lexeme)
    (or_else (where_so (is_extra site at) limit.Columns lexeme.place) (where_so (is_late site at) limit.Expression site.start))

-- a `(`, a `not` or a `-` before an operand, where so many more may open
abbrev pub opening : Site → (room : ℕ) → Passes
opening site room at lexeme = or_else (within site at lexeme) (where_so (nat_eq room 0) limit.Nesting lexeme.place)
