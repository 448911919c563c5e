-- The tokens of a text.
use Rattle.std.specs.Prelude.{ℕ, ◌-◌, ◌<◌, ◌≤◌, ◌≡◌, ◌&&◌, Bool, true, false, List, [], ◌∷◌, length, take, drop}
use Rattle.std.specs.Bool.{MatchBool}
use Rattle.std.specs.Io.{StartsWith}
use Rattle.std.specs.List.{prefix_len, slice_range, Contains}
use Rattle.std.specs.Str.{bytes_eq}
use Rattle.ft_lex.specs.declared.token.TokenKind.{TokenKind}
use Rattle.ft_lex.specs.declared.token.TokenKind.TheVariants.{Name, Number, Word, Sign, End, Bad}
use Rattle.ft_lex.specs.declared.token.Token.{Token}
use Rattle.ft_base.specs.Names.{is_letter, is_name_byte, is_reserved_word}
use Rattle.ft_base.specs.Digits.{is_digit}
use Rattle.ft_lex.specs.meaning.Bytes.{begins_space}
use Rattle.ft_lex.specs.meaning.Place.{place_after}
use Rattle.ft_lex.specs.meaning.Space.{IsSpaceBefore}
use Rattle.ft_lex.specs.meaning.Signs.{signs}

-- the bytes of a token
abbrev pub token_text : List ℕ → Token → List ℕ
token_text text token = slice_range text token.start token.end

-- the token lies within the text
pub record LiesIn (text : List ℕ) (token : Token) : Type 0 where
  pub ordered : token.start ≤ token.end
  pub within : token.end ≤ length text

-- whether the kind is that of a reserved word
abbrev pub is_word_kind : TokenKind → Bool
is_word_kind Word = true
is_word_kind Name = false
is_word_kind Number = false
is_word_kind Sign = false
is_word_kind End = false
is_word_kind Bad = false

-- whether the kind is that of a sign
abbrev pub is_sign_kind : TokenKind → Bool
is_sign_kind Sign = true
is_sign_kind Name = false
is_sign_kind Number = false
is_sign_kind Word = false
is_sign_kind End = false
is_sign_kind Bad = false

-- whether the token is this reserved word
abbrev pub is_word : List ℕ → Token → List ℕ → Bool
is_word text token word = is_word_kind token.kind && bytes_eq (token_text text token) word

-- whether the token is this sign
abbrev pub is_sign : List ℕ → Token → List ℕ → Bool
is_sign text token sign = is_sign_kind token.kind && bytes_eq (token_text text token) sign

-- there is a first byte, and it passes the test
abbrev pub Begins : (ℕ → Bool) → List ℕ → Type 0
Begins test [] = ⊥
Begins test (b ∷ _) = test b ≡ true

-- the first n bytes are a letter with the letters, digits and `_` after it, as far as they go
pub record IsNameShape (bytes : List ℕ) (n : ℕ) : Type 0 where
  pub letter : Begins is_letter bytes
  pub whole : n ≡ prefix_len is_name_byte bytes

-- the first n bytes are digits, as far as they go
pub record IsNumberShape (bytes : List ℕ) (n : ℕ) : Type 0 where
  pub digit : Begins is_digit bytes
  pub whole : n ≡ prefix_len is_digit bytes

-- the first n bytes are the longest of the signs that the bytes begin with
pub record IsLongestSign (bytes : List ℕ) (n : ℕ) : Type 0 where
  pub sign : List ℕ
  pub listed : Contains signs sign
  pub here : StartsWith bytes sign
  pub all : n ≡ length sign
  pub longest : (other : List ℕ) → Contains signs other → StartsWith bytes other → length other ≤ n

-- there is a first byte, and it begins no token
pub record BeginsNone (bytes : List ℕ) : Type 0 where
  pub some : 0 < length bytes
  pub letter : Begins is_letter bytes → ⊥
  pub digit : Begins is_digit bytes → ⊥
  pub sign : (other : List ℕ) → Contains signs other → StartsWith bytes other → ⊥

-- the first n bytes are a token of this kind. End is empty, and Bad is one byte
abbrev pub IsShape : TokenKind → List ℕ → ℕ → Type 0
IsShape Name bytes n = IsNameShape bytes n × (is_reserved_word (take n bytes) ≡ false)
IsShape Word bytes n = IsNameShape bytes n × (is_reserved_word (take n bytes) ≡ true)
IsShape Number bytes n = IsNumberShape bytes n
IsShape Sign bytes n = IsLongestSign bytes n
IsShape End bytes n = (bytes ≡ []) × (n ≡ 0)
IsShape Bad bytes n = BeginsNone bytes × (n ≡ 1)

-- it is the first token of the text from a place on: space as far as it goes, and then the token
pub record IsNext (text : List ℕ) (from : ℕ) (token : Token) : Type 0 where
  pub follows : from ≤ token.start
  pub lies : LiesIn text token
  pub space : IsSpaceBefore (drop from text) (drop token.start text)
  pub no_space : Begins begins_space (drop token.start text) → ⊥
  pub shape : IsShape token.kind (drop token.start text) (token.end - token.start)
  pub place : token.place ≡ place_after (take token.start text)

-- no token follows one of this kind
abbrev pub is_last : TokenKind → Bool
is_last End = true
is_last Bad = true
is_last Name = false
is_last Word = false
is_last Number = false
is_last Sign = false

-- they are the tokens of the text from a place on. The last, and no other, is End or Bad
abbrev pub AreTokensFrom : List ℕ → ℕ → List Token → Type 0
AreTokensFrom text from [] = ⊥
AreTokensFrom text from (token ∷ more) = IsNext text from token × MatchBool (is_last token.kind) (more ≡ [])
    (AreTokensFrom text token.end more)

-- they are the tokens of the text
abbrev pub IsTokens : List ℕ → List Token → Type 0
IsTokens text tokens = AreTokensFrom text 0 tokens

-- a text has one list of tokens
abbrev pub OneTokens : Type 0
OneTokens = (text : List ℕ) (tokens others : List Token) → IsTokens text tokens → IsTokens text others → tokens ≡ others
