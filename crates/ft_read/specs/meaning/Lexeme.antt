-- What the grammar sees of a token.
use Rattle.std.specs.Prelude.{ℕ, ◌&&◌, List, map, Option, Some, None, if◌then◌else◌}
use Rattle.std.specs.Str.{bytes_eq}
use Rattle.ft_base.specs.declared.place.Place.{Place}
use Rattle.ft_base.specs.Digits.{decimal_value}
use Rattle.ft_lex.specs.declared.token.TokenKind.{TokenKind}
use Rattle.ft_lex.specs.declared.token.TokenKind.TheVariants as kind
use Rattle.ft_lex.specs.declared.token.Token.{Token}
use Rattle.ft_lex.specs.meaning.Tokens.{is_sign_kind, is_word_kind, token_text}
use Rattle.ft_tree.specs.declared.item.Number.{Number}
use Rattle.ft_tree.specs.declared.item.Word.{Word}

-- its kind, its bytes and its place
pub record Lexeme : Type 0 where
  pub kind : TokenKind
  pub text : List ℕ
  pub place : Place

abbrev pub lexeme_of : List ℕ → Token → Lexeme
lexeme_of text token = record { kind = token.kind; text = token_text text token; place = token.place }

abbrev pub lexemes_of : List ℕ → List Token → List Lexeme
lexemes_of text tokens = map (lexeme_of text) tokens

-- the place of this reserved word
abbrev pub as_word : List ℕ → Lexeme → Option Place
as_word word lexeme = if is_word_kind lexeme.kind && bytes_eq lexeme.text word then Some lexeme.place else None

-- the place of this sign
abbrev pub as_sign : List ℕ → Lexeme → Option Place
as_sign sign lexeme = if is_sign_kind lexeme.kind && bytes_eq lexeme.text sign then Some lexeme.place else None

-- a name and its place
abbrev pub as_name : Lexeme → Option Word
as_name lexeme = elim lexeme.kind [
  | kind.Name ↦ Some (record { text = lexeme.text; place = lexeme.place })
  | kind.Number ↦ None
  | kind.Word ↦ None
  | kind.Sign ↦ None
  | kind.End ↦ None
  | kind.Bad ↦ None
]

-- a number and its place
abbrev pub as_number : Lexeme → Option Number
as_number lexeme = elim lexeme.kind [
  | kind.Name ↦ None
  | kind.Number ↦ Some (record { value = decimal_value lexeme.text; place = lexeme.place })
  | kind.Word ↦ None
  | kind.Sign ↦ None
  | kind.End ↦ None
  | kind.Bad ↦ None
]

-- the text's end
abbrev pub as_end : Lexeme → Option Place
as_end lexeme = elim lexeme.kind [
  | kind.Name ↦ None
  | kind.Number ↦ None
  | kind.Word ↦ None
  | kind.Sign ↦ None
  | kind.End ↦ Some lexeme.place
  | kind.Bad ↦ None
]

-- the first of two, where there is one
abbrev pub or_else : {A : Type 0} → Option A → Option A → Option A
or_else (Some a) other = Some a
or_else None other = other
