-- Which tokens a part begins with, and that they are told apart.
use Rattle.std.proofs.Common.{◌≡◌, inl, inr, ℕ, Bool, true, false, not, ◌&&◌, ◌||◌, List, [], ◌∷◌, ◌++◌, Option, Some, None, refl}
use Rattle.std.proofs.Common.{if◌then◌else◌}
use Rattle.std.proofs.lemmas.Bool.{and_parts, or_cases}
use Rattle.std.proofs.Math.Bool.{or-true}
use Rattle.std.proofs.lemmas.List.Folds.{list_any-append}
use Rattle.std.proofs.lemmas.Slice.Eq.{bytes_eq-Decides}
use Rattle.std.specs.List.{list_all, list_any}
use Rattle.std.specs.Str.{bytes_eq}
use Rattle.ft_lex.specs.declared.token.TokenKind.{TokenKind}
use Rattle.ft_lex.specs.declared.token.TokenKind.TheVariants as kind
use Rattle.ft_lex.specs.meaning.Tokens.{is_sign_kind, is_word_kind}
use Rattle.ft_read.specs.meaning.Lexeme.{Lexeme, as_end, as_name, as_number, as_sign, as_word, or_else}
use Rattle.ft_read.specs.meaning.Limit.{is_name_kind, is_number_kind}
use Rattle.ft_read.specs.parsers.Combinators.{can, is_some}
use Rattle.ft_parse.proofs.Whole.{Apart, Under}

-- a reserved word, a sign, or any token of a kind
pub data Form : Type 0 where
  word : List ℕ → Form
  sign : List ℕ → Form
  some_name : Form
  some_number : Form
  some_end : Form

abbrev pub is_end_kind : TokenKind → Bool
is_end_kind kind.Name = false
is_end_kind kind.Number = false
is_end_kind kind.Word = false
is_end_kind kind.Sign = false
is_end_kind kind.End = true
is_end_kind kind.Bad = false

abbrev pub is_form : TokenKind → List ℕ → Form → Bool
is_form k text (word w) = is_word_kind k && bytes_eq text w
is_form k text (sign w) = is_sign_kind k && bytes_eq text w
is_form k text some_name = is_name_kind k
is_form k text some_number = is_number_kind k
is_form k text some_end = is_end_kind k

-- the token has one of these forms
abbrev pub any : List Form → Lexeme → Bool
any forms l = list_any (is_form l.kind l.text) forms

abbrev pub differ : Form → Form → Bool
differ (word v) (word w) = not (bytes_eq v w)
differ (word v) (sign w) = true
differ (word v) some_name = true
differ (word v) some_number = true
differ (word v) some_end = true
differ (sign v) (word w) = true
differ (sign v) (sign w) = not (bytes_eq v w)
differ (sign v) some_name = true
differ (sign v) some_number = true
differ (sign v) some_end = true
differ some_name (word w) = true
differ some_name (sign w) = true
differ some_name some_name = false
differ some_name some_number = true
differ some_name some_end = true
differ some_number (word w) = true
differ some_number (sign w) = true
differ some_number some_name = true
differ some_number some_number = false
differ some_number some_end = true
differ some_end (word w) = true
differ some_end (sign w) = true
differ some_end some_name = true
differ some_end some_number = true
differ some_end some_end = false

-- no form is in both lists
abbrev pub all_differ : List Form → List Form → Bool
all_differ [] ys = true
all_differ (x ∷ xs) ys = list_all (differ x) ys && all_differ xs ys

of-word : (k : TokenKind) (x : Bool) → (is_word_kind k && x) ≡ true → k ≡ kind.Word
of-word kind.Name x e = cc e
of-word kind.Number x e = cc e
of-word kind.Word x e = refl
of-word kind.Sign x e = cc e
of-word kind.End x e = cc e
of-word kind.Bad x e = cc e

of-sign : (k : TokenKind) (x : Bool) → (is_sign_kind k && x) ≡ true → k ≡ kind.Sign
of-sign kind.Name x e = cc e
of-sign kind.Number x e = cc e
of-sign kind.Word x e = cc e
of-sign kind.Sign x e = refl
of-sign kind.End x e = cc e
of-sign kind.Bad x e = cc e

of-name : (k : TokenKind) → is_name_kind k ≡ true → k ≡ kind.Name
of-name kind.Name e = refl
of-name kind.Number e = cc e
of-name kind.Word e = cc e
of-name kind.Sign e = cc e
of-name kind.End e = cc e
of-name kind.Bad e = cc e

of-number : (k : TokenKind) → is_number_kind k ≡ true → k ≡ kind.Number
of-number kind.Name e = cc e
of-number kind.Number e = refl
of-number kind.Word e = cc e
of-number kind.Sign e = cc e
of-number kind.End e = cc e
of-number kind.Bad e = cc e

of-end : (k : TokenKind) → is_end_kind k ≡ true → k ≡ kind.End
of-end kind.Name e = cc e
of-end kind.Number e = cc e
of-end kind.Word e = cc e
of-end kind.Sign e = cc e
of-end kind.End e = refl
of-end kind.Bad e = cc e

other-text : (b : Bool) (text v w : List ℕ) → not (bytes_eq v w) ≡ true → (b && bytes_eq text v) ≡ true → (b && bytes_eq text w) ≡ false
other-text false text v w d e = refl
other-text true text v w d e = let same : text ≡ v = (bytes_eq-Decides text v).0 e in by-value (bytes_eq v w) refl d same where
  by-value : (x : Bool) → bytes_eq v w ≡ x → not x ≡ true → text ≡ v → bytes_eq text w ≡ false
  by-value true f g same = cc g
  by-value false f g same = rw same f

one-form : (k : TokenKind) (text : List ℕ) (f g : Form) → differ f g ≡ true → is_form k text f ≡ true → is_form k text g ≡ false
one-form k text (word v) (word w) d e = other-text (is_word_kind k) text v w d e
one-form k text (word v) (sign w) d e = rw (of-word k _ e) refl
one-form k text (word v) some_name d e = rw (of-word k _ e) refl
one-form k text (word v) some_number d e = rw (of-word k _ e) refl
one-form k text (word v) some_end d e = rw (of-word k _ e) refl
one-form k text (sign v) (word w) d e = rw (of-sign k _ e) refl
one-form k text (sign v) (sign w) d e = other-text (is_sign_kind k) text v w d e
one-form k text (sign v) some_name d e = rw (of-sign k _ e) refl
one-form k text (sign v) some_number d e = rw (of-sign k _ e) refl
one-form k text (sign v) some_end d e = rw (of-sign k _ e) refl
one-form k text some_name (word w) d e = rw (of-name k e) refl
one-form k text some_name (sign w) d e = rw (of-name k e) refl
one-form k text some_name some_name d e = cc d
one-form k text some_name some_number d e = rw (of-name k e) refl
one-form k text some_name some_end d e = rw (of-name k e) refl
one-form k text some_number (word w) d e = rw (of-number k e) refl
one-form k text some_number (sign w) d e = rw (of-number k e) refl
one-form k text some_number some_name d e = rw (of-number k e) refl
one-form k text some_number some_number d e = cc d
one-form k text some_number some_end d e = rw (of-number k e) refl
one-form k text some_end (word w) d e = rw (of-end k e) refl
one-form k text some_end (sign w) d e = rw (of-end k e) refl
one-form k text some_end some_name d e = rw (of-end k e) refl
one-form k text some_end some_number d e = rw (of-end k e) refl
one-form k text some_end some_end d e = cc d

one-list : (k : TokenKind) (text : List ℕ) (f : Form) (ys : List Form) → list_all (differ f) ys ≡ true → is_form k text f ≡ true
    → list_any (is_form k text) ys ≡ false
one-list k text f [] d e = refl
one-list k text f (y ∷ ys) d e =
    let (first, rest) = and_parts (differ f y) (list_all (differ f) ys) d in
    rw (one-form k text f y first e) (one-list k text f ys rest e)

-- tokens of these forms are told apart
pub apart : (xs ys : List Form) → all_differ xs ys ≡ true → Apart (any xs) (any ys)
apart [] ys d l e = cc e
apart (x ∷ xs) ys d l e =
    let (first, rest) = and_parts (list_all (differ x) ys) (all_differ xs ys) d in
    elim (or_cases (is_form l.kind l.text x) (any xs l) e) [
      | inl f ↦ one-list l.kind l.text x ys first f
      | inr f ↦ apart xs ys rest l f
    ]

pub apart-under : (one other big : Lexeme → Bool) → Apart one big → Under other big → Apart one other
apart-under one other big d under l e = by-value (other l) refl (d l e) where
  by-value : (b : Bool) → other l ≡ b → big l ≡ false → other l ≡ false
  by-value true f g = let h = under l f in cc (g, h)
  by-value false f g = f

pub under-both : (small big bigger : Lexeme → Bool) → Under small big → Under big bigger → Under small bigger
under-both small big bigger one other l e = other l (one l e)

some-if : {A : Type 0} (b : Bool) (a : A) → is_some (if b then Some a else None) ≡ true → (b || false) ≡ true
some-if true a e = refl
some-if false a e = cc e

pub under-word : (w : List ℕ) → Under (can (as_word w)) (any (word w ∷ []))
under-word w l e = some-if (is_word_kind l.kind && bytes_eq l.text w) l.place e

pub under-sign : (w : List ℕ) → Under (can (as_sign w)) (any (sign w ∷ []))
under-sign w l e = some-if (is_sign_kind l.kind && bytes_eq l.text w) l.place e

pub under-name : Under (can as_name) (any (some_name ∷ []))
under-name l e = by-kind l.kind e where
  by-kind : (k : TokenKind) → is_some (as_name (record { kind = k; text = l.text; place = l.place })) ≡ true → (is_name_kind k || false)
      ≡ true
  by-kind kind.Name e = refl
  by-kind kind.Number e = cc e
  by-kind kind.Word e = cc e
  by-kind kind.Sign e = cc e
  by-kind kind.End e = cc e
  by-kind kind.Bad e = cc e

pub under-number : Under (can as_number) (any (some_number ∷ []))
under-number l e = by-kind l.kind e where
  by-kind : (k : TokenKind) → is_some (as_number (record { kind = k; text = l.text; place = l.place })) ≡ true → (is_number_kind k || false)
      ≡ true
  by-kind kind.Name e = cc e
  by-kind kind.Number e = refl
  by-kind kind.Word e = cc e
  by-kind kind.Sign e = cc e
  by-kind kind.End e = cc e
  by-kind kind.Bad e = cc e

pub under-end : Under (can as_end) (any (some_end ∷ []))
under-end l e = by-kind l.kind e where
  by-kind : (k : TokenKind) → is_some (as_end (record { kind = k; text = l.text; place = l.place })) ≡ true → (is_end_kind k || false)
      ≡ true
  by-kind kind.Name e = cc e
  by-kind kind.Number e = cc e
  by-kind kind.Word e = cc e
  by-kind kind.Sign e = cc e
  by-kind kind.End e = refl
  by-kind kind.Bad e = cc e

-- what is read by the one or else by the other
pub under-or : {A : Type 0} (f g : Lexeme → Option A) (xs ys : List Form) → Under (can f) (any xs) → Under (can g) (any ys)
    → Under (can (λ l. or_else (f l) (g l))) (any (xs ++ ys))
under-or f g xs ys one other l e = rw (list_any-append (is_form l.kind l.text) xs ys) (by-value (f l) refl e) where
  by-value : (o : Option _) → f l ≡ o → is_some (or_else o (g l)) ≡ true → (any xs l || any ys l) ≡ true
  by-value (Some a) p e = rw (one l (rw p refl)) refl
  by-value None p e = rw (other l e) (or-true (any xs l))

-- what is read and changed
pub under-map : {A B : Type 0} (f : Lexeme → Option A) (h : A → B) (xs : List Form) → Under (can f) (any xs)
    → Under (λ l. is_some (elim (f l) [ None ↦ None | Some a ↦ Some (h a) ])) (any xs)
under-map f h xs one l e = by-value (f l) refl e where
  by-value : (o : Option _) → f l ≡ o → is_some (elim o [ None ↦ None | Some a ↦ Some (h a) ]) ≡ true → any xs l ≡ true
  by-value (Some a) p e = one l (rw p refl)
  by-value None p e = cc e

-- what is read so has one of these forms
pub record Looks {A : Type 0} (read : Lexeme → Option A) (forms : List Form) : Type 0 where
  pub under : Under (can read) (any forms)

pub looks-word : (w : List ℕ) → Looks (as_word w) (word w ∷ [])
looks-word w = record { under = under-word w }

pub looks-sign : (w : List ℕ) → Looks (as_sign w) (sign w ∷ [])
looks-sign w = record { under = under-sign w }

pub looks-name : Looks as_name (some_name ∷ [])
looks-name = record { under = under-name }

pub looks-number : Looks as_number (some_number ∷ [])
looks-number = record { under = under-number }

pub looks-end : Looks as_end (some_end ∷ [])
looks-end = record { under = under-end }

pub looks-or : {A : Type 0} {f g : Lexeme → Option A} {xs ys : List Form} → Looks f xs → Looks g ys
    → Looks (λ l. or_else (f l) (g l)) (xs ++ ys)
looks-or {A} {f} {g} {xs} {ys} one other = record { under = under-or f g xs ys one.under other.under }

pub looks-map : {A B : Type 0} {f : Lexeme → Option A} {xs : List Form} (h : A → B) → Looks f xs
    → Looks (λ l. elim (f l) [ None ↦ None | Some a ↦ Some (h a) ]) xs
looks-map {A} {B} {f} {xs} h one = record { under = under-map f h xs one.under }

pub itself-bytes : (w : List ℕ) → bytes_eq w w ≡ true
itself-bytes w = (bytes_eq-Decides w w).1 refl
