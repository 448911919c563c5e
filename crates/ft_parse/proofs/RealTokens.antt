-- Names of a text are spelled as names are, and a token that passes no limit is a lawful name or number.
use Rattle.std.proofs.Common.{◌≡◌, ◌∙◌, ℕ, suc, ◌+◌, ◌-◌, Bool, true, false, not, ◌&&◌, cond, List, [], ◌∷◌, ◌++◌, drop, length, nat_le}
use Rattle.std.proofs.Common.{take, Option, Some, None, refl, sym, ap, subst}
use native.Mathlib.Omega.{arith}
use Rattle.std.specs.Bool.{MatchBool}
use Rattle.std.specs.List.{list_all, prefix_len}
use Rattle.std.proofs.lemmas.Bool.{and_parts}
use Rattle.ft_base.specs.declared.place.Place.{Place}
use Rattle.ft_lex.specs.declared.token.Token.{Token}
use Rattle.ft_lex.specs.declared.token.TokenKind.{TokenKind}
use Rattle.ft_lex.specs.declared.token.TokenKind.TheVariants as kind
use Rattle.ft_base.specs.Names.{begins_by_letter, is_letter, is_name, is_name_byte, is_reserved_word}
use Rattle.ft_lex.specs.meaning.Tokens.{AreTokensFrom, IsNameShape, IsShape, is_last}
use Rattle.ft_tree.specs.declared.item.Number.{Number}
use Rattle.ft_tree.specs.declared.item.Word.{Word}
use Rattle.ft_tree.specs.meaning.Limits.{is_number}
use Rattle.ft_base.specs.Digits.{decimal_value}
use Rattle.ft_read.specs.meaning.Lexeme.{Lexeme, as_name, as_number, lexemes_of, or_else}
use Rattle.ft_read.specs.meaning.Limit.{Passes, is_great_number, is_long_name, is_name_kind, is_number_kind, lexical_pass, where_so}
use Rattle.ft_parse.specs.meaning.Language.{PassNoLimit, Step, lexemes}
use Rattle.ft_parse.specs.meaning.Parse.{AreLexemes}
use Rattle.ft_read.specs.declared.stop.LimitWord.{LimitWord}
use Rattle.ft_read.specs.declared.stop.Pass.{Pass}

-- a letter with letters, digits and `_` after it, and no reserved word
abbrev pub is_spelled : List ℕ → Bool
is_spelled text = begins_by_letter text && list_all is_name_byte text && not (is_reserved_word text)

-- where it is a name, it is spelled as one
abbrev pub IsReal : Lexeme → Type 0
IsReal l = is_name_kind l.kind ≡ true → is_spelled l.text ≡ true

abbrev AllReal : List Lexeme → Type 0
AllReal [] = Unit {0}
AllReal (l ∷ ls) = IsReal l × AllReal ls

all-taken : (p : ℕ → Bool) (xs : List ℕ) → list_all p (take (prefix_len p xs) xs) ≡ true
all-taken p [] = refl
all-taken p (x ∷ xs) = by-first (p x) refl (all-taken p xs) where
  by-first : (b : Bool) → p x ≡ b → list_all p (take (prefix_len p xs) xs) ≡ true
      → list_all p (take (cond b (1 + prefix_len p xs) 0) (x ∷ xs)) ≡ true
  by-first true e later =
      let one : 1 + prefix_len p xs ≡ suc (prefix_len p xs) = omega arith in
      rw (one, e) later
  by-first false e later = refl

begins-taken : (b : ℕ) (bs : List ℕ) → is_letter b ≡ true
    → begins_by_letter (take (prefix_len is_name_byte (b ∷ bs)) (b ∷ bs)) ≡ true
begins-taken b bs e =
    let one : 1 + prefix_len is_name_byte bs ≡ suc (prefix_len is_name_byte bs) = omega arith in
    rw (e, one) e

all-three : (x y z : Bool) → x ≡ true → y ≡ true → z ≡ false → (x && y && not z) ≡ true
all-three x y z e f g = rw (e, f, g) refl

name-spelled : (bytes : List ℕ) (n : ℕ) → IsNameShape bytes n → is_reserved_word (take n bytes) ≡ false
    → is_spelled (take n bytes) ≡ true
name-spelled [] n shape free = absurd shape.letter
name-spelled (b ∷ bs) n shape free = by-length n shape.whole free where
  by-length : (n : ℕ) → n ≡ prefix_len is_name_byte (b ∷ bs) → is_reserved_word (take n (b ∷ bs)) ≡ false
      → is_spelled (take n (b ∷ bs)) ≡ true
  by-length n whole free =
      let first : begins_by_letter (take n (b ∷ bs)) ≡ true = rw whole (begins-taken b bs shape.letter) in
      let all : list_all is_name_byte (take n (b ∷ bs)) ≡ true = rw whole (all-taken is_name_byte (b ∷ bs)) in
      all-three (begins_by_letter (take n (b ∷ bs))) (list_all is_name_byte (take n (b ∷ bs)))
      (is_reserved_word (take n (b ∷ bs))) first all free

of-shape : (k : TokenKind) (bytes : List ℕ) (n : ℕ) → IsShape k bytes n → is_name_kind k ≡ true → is_spelled (take n bytes) ≡ true
of-shape kind.Name bytes n h e = name-spelled bytes n h.0 h.1
of-shape kind.Word bytes n h e = cc e
of-shape kind.Number bytes n h e = cc e
of-shape kind.Sign bytes n h e = cc e
of-shape kind.End bytes n h e = cc e
of-shape kind.Bad bytes n h e = cc e

real-tokens : (text : List ℕ) (from : ℕ) (tokens : List Token) → AreTokensFrom text from tokens → AllReal (lexemes_of text tokens)
real-tokens text from [] h = absurd h
real-tokens text from (t ∷ ts) h = (
  λ e. of-shape t.kind (drop t.start text) (t.end - t.start) h.0.shape e,
  after (is_last t.kind) h.1 (λ x. real-tokens text t.end ts x),
) where
  after : (b : Bool) → MatchBool b (ts ≡ []) (AreTokensFrom text t.end ts)
      → (AreTokensFrom text t.end ts → AllReal (lexemes_of text ts)) → AllReal (lexemes_of text ts)
  after true x later = rw x tt
  after false x later = later x

-- each is a token of a text, and passes no limit
abbrev pub AllGood : List Step → Type 0
AllGood [] = Unit {0}
AllGood (s ∷ more) = IsReal s.lexeme × (s.pass ≡ None) × AllGood more

of-no_limit : (steps : List Step) → AllReal (lexemes steps) → PassNoLimit steps → AllGood steps
of-no_limit [] real no_limit = tt
of-no_limit (s ∷ more) (r, real) (p, no_limit) = (r, p, of-no_limit more real no_limit)

pub good-steps : (text : List ℕ) (steps : List Step) → AreLexemes text (lexemes steps) → PassNoLimit steps → AllGood steps
good-steps text steps are no_limit = of-no_limit steps (rw (← are.2) (real-tokens text 0 are.0 are.1)) no_limit

pub good-parts : (us vs : List Step) → AllGood (us ++ vs) → AllGood us × AllGood vs
good-parts [] vs h = (tt, h)
good-parts (u ∷ us) vs (r, p, h) = let (x, y) = good-parts us vs h in ((r, p, x), y)

pub first-none : (o q : Option Pass) → or_else o q ≡ None → (o ≡ None) × (q ≡ None)
first-none (Some p) q e = cc e
first-none None q e = (refl, e)

pub so-none : (b : Bool) (which : LimitWord) (place : Place) → where_so b which place ≡ None → b ≡ false
so-none true which place e = cc e
so-none false which place e = refl

kept : (b c : Bool) → (b && not c) ≡ false → b ≡ true → c ≡ true
kept true true e f = refl
kept true false e f = cc e
kept false c e f = cc f

pub lexical-name : (l : Lexeme) → IsReal l → lexical_pass l ≡ None → is_name_kind l.kind ≡ true → is_name l.text ≡ true
lexical-name l real lexical e =
    let (long, great) = first-none _ _ lexical in
    let (start, free) =
    and_parts (begins_by_letter l.text && list_all is_name_byte l.text) (not (is_reserved_word l.text)) (real e) in
    let short = kept (is_name_kind l.kind) (nat_le (length l.text) 40) (so-none (is_long_name l) _ _ long) e in
    joined (begins_by_letter l.text && list_all is_name_byte l.text) (nat_le (length l.text) 40)
    (not (is_reserved_word l.text)) start short free where
      joined : (x y z : Bool) → x ≡ true → y ≡ true → z ≡ true → (x && y && z) ≡ true
      joined x y z e f g = rw (e, f, g) refl

pub lexical-number : (l : Lexeme) → lexical_pass l ≡ None → is_number_kind l.kind ≡ true → is_number (decimal_value l.text) ≡ true
lexical-number l lexical e =
    let (long, great) = first-none _ _ lexical in
    kept (is_number_kind l.kind) (is_number (decimal_value l.text)) (so-none (is_great_number l) _ _ great) e

-- what is read of a token that passes no such limit
pub record ReadsLawful {A : Type 0} (passes : Passes) (read : Lexeme → Option A) (P : A → Type 0) : Type 0 where
  pub gives : (at : ℕ) (l : Lexeme) (a : A) → IsReal l → passes at l ≡ None → read l ≡ Some a → P a

-- a token that passes none of these limits passes none of those of names and numbers
pub record IncludesLexical (passes : Passes) : Type 0 where
  pub lexical : (at : ℕ) (l : Lexeme) → passes at l ≡ None → lexical_pass l ≡ None

pub reads-any : {A : Type 0} {passes : Passes} (read : Lexeme → Option A) → ReadsLawful passes read (λ a. Unit {0})
reads-any {A} {passes} read = record { gives = λ at l a real p e. tt }

name-kind : (k : TokenKind) (text : List ℕ) (place : Place) (w : Word)
    → as_name (record { kind = k; text = text; place = place }) ≡ Some w → (is_name_kind k ≡ true) × (w.text ≡ text)
name-kind kind.Name text place w e =
    let same : record { text = text; place = place } ≡ w = cc e in
    (refl, ap (λ (x : Word). x.text) (sym same))
name-kind kind.Number text place w e = cc e
name-kind kind.Word text place w e = cc e
name-kind kind.Sign text place w e = cc e
name-kind kind.End text place w e = cc e
name-kind kind.Bad text place w e = cc e

number-kind : (k : TokenKind) (text : List ℕ) (place : Place) (n : Number)
    → as_number (record { kind = k; text = text; place = place }) ≡ Some n
    → (is_number_kind k ≡ true) × (n.value ≡ decimal_value text)
number-kind kind.Name text place n e = cc e
number-kind kind.Number text place n e =
    let same : record { value = decimal_value text; place = place } ≡ n = cc e in
    (refl, ap (λ (x : Number). x.value) (sym same))
number-kind kind.Word text place n e = cc e
number-kind kind.Sign text place n e = cc e
number-kind kind.End text place n e = cc e
number-kind kind.Bad text place n e = cc e

pub reads-name : {passes : Passes} → IncludesLexical passes → ReadsLawful passes as_name (λ w. is_name w.text ≡ true)
reads-name {passes} includes =
    record {
      gives = λ at l w real p e.
          let (named, same) = name-kind l.kind l.text l.place w e in
          rw same (lexical-name l real (includes.lexical at l p) named);
    }

pub reads-number : {passes : Passes} → IncludesLexical passes → ReadsLawful passes as_number (λ n. is_number n.value ≡ true)
reads-number {passes} includes =
    record {
      gives = λ at l n real p e.
          let (named, same) = number-kind l.kind l.text l.place n e in
          rw same (lexical-number l (includes.lexical at l p) named);
    }

pub reads-or : {A : Type 0} {passes : Passes} {f g : Lexeme → Option A} {P : A → Type 0} → ReadsLawful passes f P → ReadsLawful passes g P
    → ReadsLawful passes (λ l. or_else (f l) (g l)) P
reads-or {A} {passes} {f} {g} {P} one other = record { gives = λ at l a real p e. by-value at l a real p (f l) refl e } where
  by-value : (at : ℕ) (l : Lexeme) (a : A) → IsReal l → passes at l ≡ None → (o : Option A) → f l ≡ o → or_else o (g l) ≡ Some a
      → P a
  by-value at l a real p (Some b) same e = one.gives at l a real p (same ∙ e)
  by-value at l a real p None same e = other.gives at l a real p e

pub reads-map : {A B : Type 0} {passes : Passes} {f : Lexeme → Option A} {P : A → Type 0} {Q : B → Type 0} (h : A → B)
    → ReadsLawful passes f P → ((a : A) → P a → Q (h a))
    → ReadsLawful passes (λ l. elim (f l) [ None ↦ None | Some a ↦ Some (h a) ]) Q
reads-map {A} {B} {passes} {f} {P} {Q} h one then = record { gives = λ at l b real p e. by-value at l b real p (f l) refl e } where
  by-value : (at : ℕ) (l : Lexeme) (b : B) → IsReal l → passes at l ≡ None → (o : Option A) → f l ≡ o
      → elim o [ None ↦ None | Some a ↦ Some (h a) ] ≡ Some b → Q b
  by-value at l b real p (Some a) same e = let made : h a ≡ b = cc e in subst Q made (then a (one.gives at l a real p same))
  by-value at l b real p None same e = cc e
