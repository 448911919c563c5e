-- Each piece of an expression and of a part of a line is the text of one token.
use Rattle.std.proofs.Common.{◌≡◌, ◌∙◌, sym, subst, refl, ℕ, ◌+◌, ◌%◌, ◌^◌, ◌<◌, List, [], ◌∷◌, ◌++◌, ◌&&◌, inl, inr, not, nat_le, Bool}
use Rattle.std.proofs.Common.{true, false, codes, decimal, length, arith}
use Rattle.std.specs.List.{flat_map, list_all}
use Rattle.std.proofs.lemmas.Bool.{and_parts, and_from, cases_Bool, leb-true, or_left, or_right}
use Rattle.std.proofs.lemmas.Bool.Decides.{nat_tests}
use Rattle.std.proofs.lemmas.Fmt.{decimal_by_steps}
use Rattle.std.proofs.lemmas.List.Concat.{flat_map-cons}
use Rattle.std.proofs.lemmas.List.Folds.{list_all-append}
use Rattle.ft_base.specs.declared.place.Place.{Place}
use Rattle.ft_base.specs.Digits.{begins_by_digit, begins-push, is_digit}
use Rattle.ft_base.specs.Names.{begins_by_letter, is_name, is_name_byte, is_reserved_word}
use Rattle.ft_lex.specs.meaning.Signs.{signs}
use Rattle.ft_tree.specs.declared.expr.Op.{Op}
use Rattle.ft_tree.specs.declared.expr.Op.TheVariants.{Or, And, Eq, Ne, Lt, Le, Gt, Ge, Add, Sub, Mul, Div}
use Rattle.ft_tree.specs.declared.expr.Expr.{Expr}
use Rattle.ft_tree.specs.declared.expr.Expr.TheVariants.{Two}
use Rattle.ft_tree.specs.declared.level.Level.{Level}
use Rattle.ft_tree.specs.declared.level.Level.TheVariants.{Negation, Unary}
use Rattle.ft_tree.specs.meaning.Expression.{Spelled, expr_pieces, history, operand, spelled, truth_word}
use Rattle.ft_tree.specs.meaning.Level.{is_looser, left_level, op_sign, right_level}
use Rattle.ft_tree.specs.meaning.Limits.{is_lawful, is_number}
use Rattle.ft_tree.specs.meaning.Line.{Piece, token, minus}
use Rattle.ft_tree.specs.meaning.Lines.{listed}
use Rattle.ft_tree.specs.laws.ExprParts.{ExprInductive, expr_induction, lawful-Num, lawful-Name, lawful-Prev, lawful-Age, lawful-Not}
use Rattle.ft_tree.specs.laws.ExprParts.{lawful-Neg, lawful-Two, spelled-Num, spelled-Name, spelled-Truth, spelled-Prev, spelled-Age}
use Rattle.ft_tree.specs.laws.ExprParts.{spelled-Not, spelled-Neg, spelled-Two}
use Rattle.ft_tree.proofs.PieceLemmas.{is_digits, is_sign_text, is_sound, is_token, is_word_text}

-- a name is the text of a token
pub name-token : (name : List ℕ) → is_name name ≡ true → is_token name ≡ true
unfolding is_token
name-token name h =
    let bytes : Bool = begins_by_letter name && list_all is_name_byte name in
    let (short, _) = and_parts (bytes && nat_le (length name) 40) (not (is_reserved_word name)) h in
    let (word, _) = and_parts bytes (nat_le (length name) 40) short in
    or_left (is_word_text name) _ word

digit-is : (n : ℕ) → n < 10 → is_digit (48 + n) ≡ true
digit-is n h = grind (arith, nat_tests)

digits-push : (bytes : List ℕ) (b : ℕ) → is_digits bytes ≡ true → is_digit b ≡ true → is_digits (bytes ++ b ∷ []) ≡ true
digits-push bytes b h digit =
    let (first, all) = and_parts (begins_by_digit bytes) (list_all is_digit bytes) h in
    let digits : list_all is_digit (bytes ++ b ∷ []) ≡ true = list_all-append is_digit bytes (b ∷ []) ∙ rw (all, digit) refl in
    and_from (begins_by_digit (bytes ++ b ∷ [])) _ (begins-push bytes b first) digits

-- and so is a number
pub number-token : (value : ℕ) → is_number value ≡ true → is_token (decimal value) ≡ true
unfolding is_token
number-token value h =
    let small : value < 2 ^ 64 = omega (arith, leb-true value 1000000000 h) in
    let digits = decimal_by_steps (λ _ bytes. is_digits bytes ≡ true) (λ n below. rw (digit-is n below) refl)
    (λ n bytes _ before. digits-push bytes (48 + n % 10) before (digit-is (n % 10) (omega arith))) value small in
    or_right (is_word_text (decimal value)) _ (or_left (is_digits (decimal value)) (is_sign_text (decimal value)) digits)

pub truth-token : (value : Bool) → is_token (truth_word value) ≡ true
unfolding is_token
truth-token true = refl
truth-token false = refl

op-token : (op : Op) → is_token (op_sign op) ≡ true
unfolding is_token signs
op-token Or = refl
op-token And = refl
op-token Eq = refl
op-token Ne = refl
op-token Lt = refl
op-token Le = refl
op-token Gt = refl
op-token Ge = refl
op-token Add = refl
op-token Sub = refl
op-token Mul = refl
op-token Div = refl

-- each piece is the text of a token
pub record AreSound (pieces : List Piece) : Type 0 where
  pub all : list_all is_sound pieces ≡ true

pub no-pieces : AreSound []
no-pieces = record { all = refl }

-- a token more
pub more-token : (bytes : List ℕ) (pieces : List Piece) → is_token bytes ≡ true → AreSound pieces
    → AreSound (token bytes ∷ pieces)
unfolding is_sound
more-token bytes pieces h later = record { all = and_from (is_token bytes) (list_all is_sound pieces) h later.all }

pub one-token : (bytes : List ℕ) → is_token bytes ≡ true → AreSound (token bytes ∷ [])
one-token bytes h = more-token bytes [] h no-pieces

pub more-minus : (pieces : List Piece) → AreSound pieces → AreSound (minus ∷ pieces)
unfolding is_sound
more-minus pieces later = record { all = later.all }

pub more-pieces : (pieces more : List Piece) → AreSound pieces → AreSound more → AreSound (pieces ++ more)
more-pieces pieces more h later = record { all = list_all-append is_sound pieces more ∙ and_from _ _ h.all later.all }

comma-token : is_token (codes ",") ≡ true
unfolding is_token signs
comma-token = refl

open-token : is_token (codes "(") ≡ true
unfolding is_token signs
open-token = refl

close-token : is_token (codes ")") ≡ true
unfolding is_token signs
close-token = refl

-- a list of parts
commas-sound : {X : Type 0} (parts : X → List Piece) (test : X → Bool) → ((x : X) → test x ≡ true → AreSound (parts x))
    → (xs : List X) → list_all test xs ≡ true → AreSound (flat_map (λ x. token (codes ",") ∷ parts x) xs)
commas-sound parts test each [] h = no-pieces
commas-sound parts test each (x ∷ xs) h =
    let (first, later) = and_parts (test x) (list_all test xs) h in
    let split = flat_map-cons (λ y. token (codes ",") ∷ parts y) x xs in
    let sound = more-pieces (parts x) _ (each x first) (commas-sound parts test each xs later) in
    subst AreSound (sym split) (more-token (codes ",") _ comma-token sound)

pub listed-sound : {X : Type 0} (parts : X → List Piece) (test : X → Bool) → ((x : X) → test x ≡ true → AreSound (parts x))
    → (xs : List X) → list_all test xs ≡ true → AreSound (listed parts xs)
listed-sound parts test each [] h = no-pieces
listed-sound parts test each (x ∷ xs) h =
    let (first, later) = and_parts (test x) (list_all test xs) h in
    more-pieces (parts x) _ (each x first) (commas-sound parts test each xs later)

operand-sound : (needed : Level) (part : Spelled) → AreSound part.pieces → AreSound (operand needed part)
unfolding operand
operand-sound needed part h = elim (cases_Bool (is_looser part.level needed)) [
  | inl looser ↦
      let closed = more-pieces part.pieces _ h (one-token (codes ")") close-token) in
      rw looser (more-token (codes "(") _ open-token closed)
  | inr tight ↦ rw tight h
]

history-sound : (word name : List ℕ) → is_token word ≡ true → is_name name ≡ true → AreSound (history word name)
history-sound word name h k =
    let closed = more-token name _ (name-token name k) (one-token (codes ")") close-token) in
    more-token word _ h (more-token (codes "(") _ open-token closed)

abbrev Sounds : Expr → Type 0
Sounds expr = is_lawful expr ≡ true → AreSound (expr_pieces expr)

from-spelled : (expr : Expr) (part : Spelled) → spelled expr ≡ part → AreSound part.pieces → AreSound (expr_pieces expr)
from-spelled expr part e h = subst (λ (s : Spelled). AreSound s.pieces) (sym e) h

prev-token : is_token (codes "prev") ≡ true
unfolding is_token
prev-token = refl

age-token : is_token (codes "age") ≡ true
unfolding is_token
age-token = refl

not-token : is_token (codes "not") ≡ true
unfolding is_token
not-token = refl

two-sound : (op : Op) (left right : Expr) (place : Place) → Sounds left → Sounds right → Sounds (Two op left right place)
two-sound op left right place h k lawful =
    let (on_left, on_right) = and_parts (is_lawful left) (is_lawful right) (sym (lawful-Two op left right place) ∙ lawful) in
    let sound = operand-sound (left_level op) (spelled left) (h on_left) in
    let later = operand-sound (right_level op) (spelled right) (k on_right) in
    from-spelled _ _ (spelled-Two op left right place)
    (more-pieces (operand (left_level op) (spelled left)) _ sound (more-token (op_sign op) _ (op-token op) later))

exprs-inductive : ExprInductive Sounds
exprs-inductive = record {
  number = λ value place h. from-spelled _ _ (spelled-Num value place)
      (one-token _ (number-token value (sym (lawful-Num value place) ∙ h)));
  name = λ name place h. from-spelled _ _ (spelled-Name name place)
      (one-token name (name-token name (sym (lawful-Name name place) ∙ h)));
  truth = λ value place h. from-spelled _ _ (spelled-Truth value place) (one-token _ (truth-token value));
  prev = λ name place h. from-spelled _ _ (spelled-Prev name place)
      (history-sound (codes "prev") name prev-token (sym (lawful-Prev name place) ∙ h));
  aged = λ name place h. from-spelled _ _ (spelled-Age name place)
      (history-sound (codes "age") name age-token (sym (lawful-Age name place) ∙ h));
  denied = λ part place before h. from-spelled _ _ (spelled-Not part place)
      (more-token (codes "not") _ not-token (operand-sound Negation (spelled part) (before (sym (lawful-Not part place) ∙ h))));
  negated = λ part place before h. from-spelled _ _ (spelled-Neg part place)
      (more-minus _ (operand-sound Unary (spelled part) (before (sym (lawful-Neg part place) ∙ h))));
  two = two-sound;
}

pub expr-sound : (expr : Expr) → is_lawful expr ≡ true → AreSound (expr_pieces expr)
expr-sound = expr_induction Sounds exprs-inductive
