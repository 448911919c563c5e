-- The pieces of an expression are spelled as the same expression but for places.
use Rattle.std.proofs.Common.{◌≡◌, ◌∙◌, inl, inr, ℕ, zero, suc, ◌+◌, ◌-◌, ◌≤◌, ◌<◌, ◌&&◌, max, Bool, true, false, List, [], ◌∷◌, ◌++◌}
use Rattle.std.proofs.Common.{codes, decimal, length, map, nat_eq, nat_le, Option, Some, None, refl, sym, ap, subst}
use Rattle.std.proofs.lemmas.List.{length-append, length-map, map-append}
use Rattle.std.proofs.lemmas.Bool.{and_parts, cases_Bool, leb-true, lt-leb, ltb-false}
use Rattle.std.proofs.lemmas.Bool.Decides.{nat_tests}
use Rattle.std.proofs.Math.Nat.{le-max_left, le-max_right}
use native.Mathlib.Omega.{arith}
use Rattle.ft_base.specs.declared.place.Place.{Place}
use Rattle.ft_lex.specs.declared.token.TokenKind.{TokenKind}
use Rattle.ft_lex.specs.declared.token.TokenKind.TheVariants as kind
use Rattle.ft_base.specs.Names.{is_name, is_reserved_word, reserved_words}
use Rattle.ft_tree.specs.declared.expr.Op.{Op}
use Rattle.ft_tree.specs.declared.expr.Op.TheVariants.{Or, And, Eq, Ne, Lt, Le, Gt, Ge, Add, Sub, Mul, Div}
use Rattle.ft_tree.specs.declared.expr.Expr.{Expr}
use Rattle.ft_tree.specs.declared.expr.Expr.TheVariants as expr
use Rattle.ft_tree.specs.declared.level.Level.{Level}
use Rattle.ft_tree.specs.declared.level.Level.TheVariants.{Disjunction, Conjunction, Negation, Comparison, Sum, Product, Unary, Atom}
use Rattle.ft_tree.specs.meaning.Expression.{Spelled, expr_pieces, operand, spelled, spells, truth_word}
use Rattle.ft_tree.specs.meaning.Expression
use Rattle.ft_tree.specs.meaning.Level.{is_looser, left_level, op_level, op_sign, rank, right_level}
use Rattle.ft_tree.specs.meaning.Limits.{Nested, is_expr, is_lawful, nested, nests, operand_depth}
use Rattle.ft_tree.specs.meaning.Line
use Rattle.ft_tree.specs.meaning.Line.{Piece}
use Rattle.ft_tree.specs.laws.Tokens.{Shape, kind_of, piece_shape}
use Rattle.ft_tree.specs.laws.ExprParts.{expr_induction, lawful-Num, lawful-Name, lawful-Prev, lawful-Age, lawful-Not, lawful-Neg}
use Rattle.ft_tree.specs.laws.ExprParts.{lawful-Two, spelled-Num, spelled-Name, spelled-Truth, spelled-Prev, spelled-Age, spelled-Not}
use Rattle.ft_tree.specs.laws.ExprParts.{spelled-Neg, spelled-Two}
use Rattle.ft_read.specs.meaning.Lexeme.{Lexeme, as_name, as_sign, as_word}
use Rattle.ft_parse.specs.meaning.Language.{Language, Step, alternative, lexemes, nothing, token}
use Rattle.ft_read.specs.meaning.Limit.{opening, lexical_pass, within}
use Rattle.ft_parse.specs.meaning.Expressions.{Nest, atom, chain, comparison, conjunction, disjunction, expression, group, history}
use Rattle.ft_parse.specs.meaning.Expressions.{negation, negated, prefixed, product, right_of, signed, sum, unary, whole}
use Rattle.ft_read.specs.meaning.Operators.{as_and, as_or, as_product, as_relation, as_simple, as_sum, two}
use Rattle.ft_parse.specs.meaning.Expressions
use Rattle.ft_tree.specs.meaning.Bare.{bare_expr, start}
use Rattle.ft_read.specs.declared.parts.Site.{Site}
use Rattle.ft_read.specs.declared.parts.Operator.{Operator}
use Rattle.ft_parse.proofs.Loosening.{tighter_by, tighter_by-is, chain-more, loosen, part_at}
use Rattle.ft_parse.proofs.Marks.{mark, name-kind, name-lexical, number-kind, number-lexical, reads-sign, reads-word, value-back}
use Rattle.ft_parse.proofs.SameLemmas.{bare-Num, bare-Name, bare-Truth, bare-Prev, bare-Age, bare-Not, bare-Neg, bare-Two, nested-Num}
use Rattle.ft_parse.proofs.SameLemmas.{nested-Name, nested-Truth, nested-Prev, nested-Age, nested-Not, nested-Neg, nested-Two}
use Rattle.ft_parse.proofs.Writes.{Spelt, Writes, head_or, left, lexeme_at, made, next, none, right, shape, shaped, shapes, and_then}
use Rattle.ft_parse.proofs.Writes.{weaker, wider, Within}

rank-small : (ℓ : Level) → rank ℓ ≤ 7
rank-small Disjunction = omega arith
rank-small Conjunction = omega arith
rank-small Negation = omega arith
rank-small Comparison = omega arith
rank-small Sum = omega arith
rank-small Product = omega arith
rank-small Unary = omega arith
rank-small Atom = omega arith

-- the same but for places
abbrev pub Same : Expr → Expr → Type 0
Same e made = bare_expr made ≡ bare_expr e

abbrev op-kind : Op → TokenKind
op-kind Or = kind.Word
op-kind And = kind.Word
op-kind Eq = kind.Sign
op-kind Ne = kind.Sign
op-kind Lt = kind.Sign
op-kind Le = kind.Sign
op-kind Gt = kind.Sign
op-kind Ge = kind.Sign
op-kind Add = kind.Sign
op-kind Sub = kind.Sign
op-kind Mul = kind.Sign
op-kind Div = kind.Word

op-kind-is : (op : Op) → kind_of (op_sign op) ≡ op-kind op
unfolding is_reserved_word reserved_words
op-kind-is Or = refl
op-kind-is And = refl
op-kind-is Eq = refl
op-kind-is Ne = refl
op-kind-is Lt = refl
op-kind-is Le = refl
op-kind-is Gt = refl
op-kind-is Ge = refl
op-kind-is Add = refl
op-kind-is Sub = refl
op-kind-is Mul = refl
op-kind-is Div = refl

op-lexical : (op : Op) (place : Place) → lexical_pass (lexeme_at (op-kind op, op_sign op) place) ≡ None
op-lexical Or place = refl
op-lexical And place = refl
op-lexical Eq place = refl
op-lexical Ne place = refl
op-lexical Lt place = refl
op-lexical Le place = refl
op-lexical Gt place = refl
op-lexical Ge place = refl
op-lexical Add place = refl
op-lexical Sub place = refl
op-lexical Mul place = refl
op-lexical Div place = refl

-- the operators of each level
abbrev ops_at : Level → Lexeme → Option Operator
ops_at Disjunction l = as_or l
ops_at Conjunction l = as_and l
ops_at Comparison l = as_relation l
ops_at Sum l = as_sum l
ops_at Product l = as_product l
ops_at Negation l = None
ops_at Unary l = None
ops_at Atom l = None

op-reads : (op : Op) (place : Place) → ops_at (op_level op) (lexeme_at (op-kind op, op_sign op) place)
    ≡ Some (record { op = op; place = place })
op-reads Or place = refl
op-reads And place = refl
op-reads Eq place = refl
op-reads Ne place = refl
op-reads Lt place = refl
op-reads Le place = refl
op-reads Gt place = refl
op-reads Ge place = refl
op-reads Add place = refl
op-reads Sub place = refl
op-reads Mul place = refl
op-reads Div place = refl

open-kind : kind_of (codes "(") ≡ kind.Sign
unfolding is_reserved_word reserved_words
open-kind = refl

close-kind : kind_of (codes ")") ≡ kind.Sign
unfolding is_reserved_word reserved_words
close-kind = refl

minus-kind : kind_of (codes "-") ≡ kind.Sign
unfolding is_reserved_word reserved_words
minus-kind = refl

not-kind : kind_of (codes "not") ≡ kind.Word
unfolding is_reserved_word reserved_words
not-kind = refl

prev-kind : kind_of (codes "prev") ≡ kind.Word
unfolding is_reserved_word reserved_words
prev-kind = refl

age-kind : kind_of (codes "age") ≡ kind.Word
unfolding is_reserved_word reserved_words
age-kind = refl

truth-kind : (value : Bool) → kind_of (truth_word value) ≡ kind.Word
unfolding is_reserved_word reserved_words
truth-kind true = refl
truth-kind false = refl

truth-reads : (value : Bool) (place : Place) → as_simple (lexeme_at (kind.Word, truth_word value) place)
    ≡ Some (expr.Truth value place)
truth-reads true place = refl
truth-reads false place = refl

same-level : (e : Expr) → (nested e).level ≡ (spelled e).level
same-level = expr_induction (λ e. (nested e).level ≡ (spelled e).level) (record {
  number =
      λ value place. ap (λ (s : Nested). s.level) (nested-Num value place)
      ∙ sym (ap (λ (s : Spelled). s.level) (spelled-Num value place));
  name =
      λ name place. ap (λ (s : Nested). s.level) (nested-Name name place)
      ∙ sym (ap (λ (s : Spelled). s.level) (spelled-Name name place));
  truth =
      λ value place. ap (λ (s : Nested). s.level) (nested-Truth value place)
      ∙ sym (ap (λ (s : Spelled). s.level) (spelled-Truth value place));
  prev =
      λ name place. ap (λ (s : Nested). s.level) (nested-Prev name place)
      ∙ sym (ap (λ (s : Spelled). s.level) (spelled-Prev name place));
  aged =
      λ name place. ap (λ (s : Nested). s.level) (nested-Age name place)
      ∙ sym (ap (λ (s : Spelled). s.level) (spelled-Age name place));
  denied =
      λ part place h. ap (λ (s : Nested). s.level) (nested-Not part place)
      ∙ sym (ap (λ (s : Spelled). s.level) (spelled-Not part place));
  negated =
      λ part place h. ap (λ (s : Nested). s.level) (nested-Neg part place)
      ∙ sym (ap (λ (s : Spelled). s.level) (spelled-Neg part place));
  two =
      λ op l r place h k. ap (λ (s : Nested). s.level) (nested-Two op l r place)
      ∙ sym (ap (λ (s : Spelled). s.level) (spelled-Two op l r place));
})

module _ (site : Site) (beyond : site.is_beyond ≡ false) where
  -- the tokens are among the first 1,000 of the expression
  Fits : ℕ → List Shape → Type 0
  Fits at ss = at + length ss ≤ site.before + 1000

  fits-first : (at : ℕ) (s : Shape) (ss : List Shape) → Fits at (s ∷ ss) → at < site.before + 1000
  unfolding Fits
  fits-first at s ss h = omega arith

  fits-more : (at : ℕ) (xs ys : List Shape) → Fits at (xs ++ ys) → Fits (at + length xs) ys
  unfolding Fits
  fits-more at xs ys h = omega (arith, length-append xs ys)

  fits-front : (at : ℕ) (xs ys : List Shape) → Fits at (xs ++ ys) → Fits at xs
  unfolding Fits
  fits-front at xs ys h = omega (arith, length-append xs ys)

  no-within : (at : ℕ) (l : Lexeme) → lexical_pass l ≡ None → at < site.before + 1000 → within site at l ≡ None
  no-within at l lexical early = rw (lexical, beyond, lt-leb (site.before + 1000) at early) refl

  no-opening : (at room : ℕ) (l : Lexeme) → lexical_pass l ≡ None → at < site.before + 1000 → 0 < room
      → opening site room at l ≡ None
  no-opening at zero l lexical early some = absurd (omega arith)
  no-opening at (suc room) l lexical early some =
      let free : nat_eq (suc room) 0 ≡ false = grind (arith, nat_tests) in
      rw (no-within at l lexical early, free) refl

  -- what may stand within, and the part of a rank
  abbrev inside : (n room : ℕ) → Nest → Language Expr
  inside n room nest = Expressions.nested n site (room - 1) nest

  abbrev part : (n room r : ℕ) → Language Expr
  part n room r = part_at site (inside n room) room r

  abbrev rest_of_atom : (n room : ℕ) → Language Expr
  rest_of_atom n room =
      alternative (history site room (codes "prev") expr.Prev) (alternative (history site room (codes "age") expr.Age)
      (group site (inside n room) room))

  word-mark : (w : List ℕ) → kind_of w ≡ kind.Word → (at : ℕ) → at < site.before + 1000
      → Writes (token (as_word w) (within site)) at ((kind_of w, w) ∷ []) (λ _. Unit {0})
  word-mark w is at early =
      mark w kind.Word is (λ place. (place, reads-word w place, no-within at (lexeme_at (kind.Word, w) place) refl early, tt))

  close-mark : (at : ℕ) → at < site.before + 1000
      → Writes (token (as_sign (codes ")")) (within site)) at ((kind_of (codes ")"), codes ")") ∷ []) (λ _. Unit {0})
  close-mark at early =
      mark (codes ")") kind.Sign close-kind
      (λ place. (place, reads-sign (codes ")") place, no-within at (lexeme_at (kind.Sign, codes ")") place) refl early, tt))

  open-mark : (at room : ℕ) → at < site.before + 1000 → 0 < room
      → Writes (token (as_sign (codes "(")) (opening site room)) at ((kind_of (codes "("), codes "(") ∷ []) (λ _. Unit {0})
  open-mark at room early some =
      mark (codes "(") kind.Sign open-kind
      (λ place. (
        place,
        reads-sign (codes "(") place,
        no-opening at room
            (lexeme_at (kind.Sign, codes "(") place) refl early some,
        tt,
      ))

  name-mark : (name : List ℕ) → is_name name ≡ true → (at : ℕ) → at < site.before + 1000
      → Writes (token as_name (within site)) at ((kind_of name, name) ∷ []) (λ w. w.text ≡ name)
  name-mark name h at early =
      mark name kind.Name (name-kind name h)
      (λ place. (
        record { text = name; place = place },
        refl,
        no-within at (lexeme_at (kind.Name, name) place)
            (name-lexical name h place) early,
        refl,
      ))

  -- `prev` or `age` of a name
  history-written : (w name : List ℕ) (make : List ℕ → Place → Expr) (e : Expr) → kind_of w ≡ kind.Word → is_name name ≡ true
      → ((place : Place) → Same e (make name place)) → (room at : ℕ) → 0 < room → Fits at (shapes (Expression.history w name))
      → Writes (history site room w make) at (shapes (Expression.history w name)) (Same e)
  unfolding Fits
  history-written w name make e is h same room at some fits =
      next (word-mark w is at (omega arith)) (λ place _. next (open-mark (at + 1) room (omega arith) some)
      (λ _ _. next (name-mark name h (at + 1 + 1) (omega arith))
      (λ word text. next (close-mark (at + 1 + 1 + 1) (omega arith))
      (λ _ _. none (ap (λ (t : List ℕ). bare_expr (make t place)) text ∙ same place)))))

  -- "(" expr ")"
  grouped : (e : Expr) (inner : Nest → Language Expr) (room at : ℕ) (ss : List Shape)
      → Fits at ((kind_of (codes "("), codes "(") ∷ (ss ++ (kind_of (codes ")"), codes ")") ∷ [])) → 0 < room
      → Writes (inner whole) (at + 1) ss (Same e)
      → Writes (group site inner room) at ((kind_of (codes "("), codes "(") ∷ (ss ++ (kind_of (codes ")"), codes ")") ∷ []))
      (Same e)
  unfolding Fits
  grouped e inner room at ss fits some written =
      let long : length (ss ++ (kind_of (codes ")"), codes ")") ∷ []) ≡ length ss + 1 = length-append ss _ in
      next (open-mark at room (omega arith) some)
      (λ _ _. and_then written (λ a same. next (close-mark (at + 1 + length ss) (omega (arith, long))) (λ _ _. none same)))

  -- the expression is spelled where it may stand with no parentheses
  Printed : Expr → Spelled → Nested → Type 0
  Printed e s d =
      (n room at : ℕ) → d.depth ≤ n → d.depth ≤ room → Fits at (shapes s.pieces)
      → Writes (part n room (rank s.level)) at (shapes s.pieces) (Same e)

  Prints : Expr → Type 0
  Prints e = is_lawful e ≡ true → Printed e (spelled e) (nested e)

  as-forms : (e : Expr) (s : Spelled) (d : Nested) → spelled e ≡ s → nested e ≡ d → Printed e s d
      → Printed e (spelled e) (nested e)
  as-forms e s d f g h = subst (λ (x : Spelled). Printed e x (nested e)) (sym f) (subst (λ (x : Nested). Printed e s x) (sym g) h)

  number-written : (value : ℕ) (place : Place) → Prints (expr.Num value place)
  unfolding Prints Printed Fits
  number-written value place lawful =
      let h = sym (lawful-Num value place) ∙ lawful in
      as-forms _ _ _ (spelled-Num value place) (nested-Num value place) (λ n room at deep enough fits.
      left (rest_of_atom n room) (mark (decimal value) kind.Number (number-kind value h) (λ p. (
        expr.Num value p,
        ap (λ (x : ℕ). Some (expr.Num x p)) (value-back value h),
        no-within at (lexeme_at (kind.Number, decimal value) p) (number-lexical value h p) (omega arith),
        bare-Num value p ∙ sym (bare-Num value place),
      ))))

  name-written : (name : List ℕ) (place : Place) → Prints (expr.Name name place)
  unfolding Prints Printed Fits
  name-written name place lawful =
      let h = sym (lawful-Name name place) ∙ lawful in
      as-forms _ _ _ (spelled-Name name place) (nested-Name name place) (λ n room at deep enough fits.
      left (rest_of_atom n room) (mark name kind.Name (name-kind name h) (λ p. (
        expr.Name name p,
        refl,
        no-within at (lexeme_at (kind.Name, name) p) (name-lexical name h p) (omega arith),
        bare-Name name p ∙ sym (bare-Name name place),
      ))))

  truth-written : (value : Bool) (place : Place) → Prints (expr.Truth value place)
  unfolding Prints Printed Fits
  truth-written value place lawful =
      as-forms _ _ _ (spelled-Truth value place) (nested-Truth value place) (λ n room at deep enough fits.
      left (rest_of_atom n room) (mark (truth_word value) kind.Word (truth-kind value) (λ p. (
        expr.Truth value p,
        truth-reads value p,
        no-within at (lexeme_at (kind.Word, truth_word value) p) refl (omega arith),
        bare-Truth value p ∙ sym (bare-Truth value place),
      ))))

  prev-written : (name : List ℕ) (place : Place) → Prints (expr.Prev name place)
  unfolding Prints Printed
  prev-written name place lawful =
      as-forms _ _ _ (spelled-Prev name place) (nested-Prev name place) (λ n room at deep enough fits.
      right (token as_simple (within site))
      (left (alternative (history site room (codes "age") expr.Age) (group site (inside n room) room))
      (history-written (codes "prev") name expr.Prev (expr.Prev name place) prev-kind (sym (lawful-Prev name place) ∙ lawful)
      (λ p. bare-Prev name p ∙ sym (bare-Prev name place)) room at (omega arith) fits)))

  age-written : (name : List ℕ) (place : Place) → Prints (expr.Age name place)
  unfolding Prints Printed
  age-written name place lawful =
      as-forms _ _ _ (spelled-Age name place) (nested-Age name place) (λ n room at deep enough fits.
      right (token as_simple (within site)) (right (history site room (codes "prev") expr.Prev)
      (left (group site (inside n room) room) (history-written (codes "age") name expr.Age (expr.Age name place) age-kind
      (sym (lawful-Age name place) ∙ lawful)
      (λ p. bare-Age name p ∙ sym (bare-Age name place)) room at (omega arith) fits))))

  tight-within : (n room r s : ℕ) → s ≤ r → Within (part n room r) (part n room s)
  tight-within n room r s h =
      let same : tighter_by (r - s) s ≡ r = tighter_by-is (r - s) s ∙ omega arith in
      subst (λ (k : ℕ). Within (part n room k) (part n room s)) same (loosen site (inside n room) room (r - s) s)

  -- what stands within an opened construct, where one less may open
  within-whole : (m room : ℕ) → Within (part m (room - 1) 0) (inside (suc m) room whole)
  unfolding Expressions.nested
  within-whole m room = record { up = λ at steps e h. h }

  within-negated : (m room : ℕ) → Within (part m (room - 1) 2) (inside (suc m) room negated)
  unfolding Expressions.nested
  within-negated m room = record { up = λ at steps e h. h }

  within-signed : (m room : ℕ) → Within (part m (room - 1) 6) (inside (suc m) room signed)
  unfolding Expressions.nested
  within-signed m room = record { up = λ at steps e h. h }

  -- an operand, in parentheses or not
  Stands : Level → Expr → Spelled → Nested → Type 0
  Stands ℓ e s d = (n room at : ℕ) → operand_depth ℓ d ≤ n → operand_depth ℓ d ≤ room → Fits at (shapes (operand ℓ s))
      → Writes (part n room (rank ℓ)) at (shapes (operand ℓ s)) (Same e)

  in-parentheses : (ℓ : Level) (e : Expr) (s : Spelled) (d : Nested) → Printed e s d → (n room at : ℕ) → suc d.depth ≤ n
      → suc d.depth ≤ room
      → Fits at ((kind_of (codes "("), codes "(") ∷ (shapes s.pieces ++ (kind_of (codes ")"), codes ")") ∷ []))
      → Writes (part n room (rank ℓ)) at
      ((kind_of (codes "("), codes "(") ∷ (shapes s.pieces ++ (kind_of (codes ")"), codes ")") ∷ [])) (Same e)
  unfolding Printed Fits
  in-parentheses ℓ e s d h zero room at deep enough fits = absurd (omega arith)
  in-parentheses ℓ e s d h (suc m) room at deep enough fits =
      let long : length (shapes s.pieces ++ (kind_of (codes ")"), codes ")") ∷ [])
      ≡ length (shapes s.pieces) + 1 = length-append (shapes s.pieces) _ in
      let inner = h m (room - 1) (at + 1) (omega arith) (omega arith) (omega (arith, long)) in
      let wide = wider (within-whole m room) (wider (tight-within m (room - 1) (rank s.level) 0 (omega arith)) inner) in
      wider (tight-within (suc m) room 7 (rank ℓ) (rank-small ℓ))
      (right (token as_simple (within site)) (right (history site room (codes "prev") expr.Prev)
      (right (history site room (codes "age") expr.Age) (grouped e (inside (suc m) room) room at (shapes s.pieces) fits
      (omega arith) wide))))

  stands : (ℓ : Level) (e : Expr) (s : Spelled) (d : Nested) → d.level ≡ s.level → Printed e s d → Stands ℓ e s d
  unfolding operand Stands Printed
  stands ℓ e s d same h n room at deep enough fits = elim (cases_Bool (is_looser s.level ℓ)) [
    | inl looser ↦
        let looser_too : is_looser d.level ℓ ≡ true = ap (λ (x : Level). is_looser x ℓ) same ∙ looser in
        let split = map-append piece_shape s.pieces (Line.token (codes ")") ∷ []) in
        rw looser (shaped (ap (λ (ss : List Shape). (kind_of (codes "("), codes "(") ∷ ss) (sym split))
        (in-parentheses ℓ e s d h n room at (rw looser_too at deep) (rw looser_too at enough) (rw (looser, split) at fits)))
    | inr tight ↦
        let tight_too : is_looser d.level ℓ ≡ false = ap (λ (x : Level). is_looser x ℓ) same ∙ tight in
        rw tight (wider (tight-within n room (rank s.level) (rank ℓ) (ltb-false (rank s.level) (rank ℓ) tight))
        (h n room at (rw tight_too at deep) (rw tight_too at enough) (rw tight at fits)))
  ]

  operand-stands : (ℓ : Level) (e : Expr) → Printed e (spelled e) (nested e) → Stands ℓ e (spelled e) (nested e)
  operand-stands ℓ e h = stands ℓ e (spelled e) (nested e) (same-level e) h

  denied-in : (e : Expr) (place : Place) → Stands Negation e (spelled e) (nested e)
      → Printed (expr.Not e place) (spells Negation (Line.token (codes "not") ∷ operand Negation (spelled e)))
      (nests Negation (suc (operand_depth Negation (nested e))))
  unfolding Stands Printed Fits
  denied-in e place h zero room at deep enough fits = absurd (omega arith)
  denied-in e place h (suc m) room at deep enough fits =
      let inner = wider (within-negated m room) (h m (room - 1) (at + 1) (omega arith) (omega arith) (omega arith)) in
      left (comparison site (inside (suc m) room) room) (next {G = λ _. Unit {0}} (mark (codes "not") kind.Word not-kind
      (λ p. (p, refl, no-opening at room (lexeme_at (kind.Word, codes "not") p) refl (omega arith) (omega arith), tt)))
      (λ p _. made {G = Same e} (λ a. expr.Not a p) inner (λ a same. bare-Not a p ∙ (λ i. expr.Not (same i) start)
      ∙ sym (bare-Not e place))))

  denied-written : (e : Expr) (place : Place) → Prints e → Prints (expr.Not e place)
  unfolding Prints
  denied-written e place h lawful =
      as-forms _ _ _ (spelled-Not e place) (nested-Not e place)
      (denied-in e place (operand-stands Negation e (h (sym (lawful-Not e place) ∙ lawful))))

  negated-in : (e : Expr) (place : Place) → Stands Unary e (spelled e) (nested e)
      → Printed (expr.Neg e place) (spells Unary (Line.minus ∷ operand Unary (spelled e)))
      (nests Unary (suc (operand_depth Unary (nested e))))
  unfolding Stands Printed Fits
  negated-in e place h zero room at deep enough fits = absurd (omega arith)
  negated-in e place h (suc m) room at deep enough fits =
      let inner = wider (within-signed m room) (h m (room - 1) (at + 1) (omega arith) (omega arith) (omega arith)) in
      left (atom site (inside (suc m) room) room) (next {G = λ _. Unit {0}} (mark (codes "-") kind.Sign minus-kind
      (λ p. (p, refl, no-opening at room (lexeme_at (kind.Sign, codes "-") p) refl (omega arith) (omega arith), tt)))
      (λ p _. made {G = Same e} (λ a. expr.Neg a p) inner (λ a same. bare-Neg a p ∙ (λ i. expr.Neg (same i) start)
      ∙ sym (bare-Neg e place))))

  negated-written : (e : Expr) (place : Place) → Prints e → Prints (expr.Neg e place)
  unfolding Prints
  negated-written e place h lawful =
      as-forms _ _ _ (spelled-Neg e place) (nested-Neg e place)
      (negated-in e place (operand-stands Unary e (h (sym (lawful-Neg e place) ∙ lawful))))

  -- an operator and its right operand
  right-written : (op : Op) (ops : Lexeme → Option Operator) (operand : Language Expr) (e : Expr) (at : ℕ) (ys : List Shape)
      → ((p : Place) → ops (lexeme_at (op-kind op, op_sign op) p) ≡ Some (record { op = op; place = p }))
      → at < site.before + 1000
      → Writes operand (at + 1) ys (Same e) → (l : Expr)
      → Writes (right_of site ops operand l) at ((kind_of (op_sign op), op_sign op) ∷ ys) (λ a. bare_expr a
      ≡ expr.Two op (bare_expr l) (bare_expr e) start)
  right-written op ops operand e at ys reads early written l =
      next {G = λ o. o.op ≡ op} (mark (op_sign op) (op-kind op) (op-kind-is op)
      (λ p. (
        record { op = op; place = p },
        reads p,
        no-within at (lexeme_at (op-kind op, op_sign op) p)
            (op-lexical op p) early,
        refl,
      )))
      (λ o is. made {G = Same e} (two o l) written (λ a same. bare-Two o.op l a o.place
      ∙ (λ i. expr.Two (is i) (bare_expr l) (same i) start)))

  chain-written : (op : Op) (ops : Lexeme → Option Operator) (operand : Language Expr) (l r : Expr) (place : Place) (at : ℕ)
      (xs ys : List Shape)
      → ((p : Place) → ops (lexeme_at (op-kind op, op_sign op) p) ≡ Some (record { op = op; place = p }))
      → at + length xs < site.before + 1000
      → Writes (chain site ops operand) at xs (Same l) → Writes operand (at + length xs + 1) ys (Same r)
      → Writes (chain site ops operand) at (xs ++ (kind_of (op_sign op), op_sign op) ∷ ys) (Same (expr.Two op l r place))
  chain-written op ops operand l r place at xs ys reads early on_left on_right =
      wider (chain-more site ops operand) (and_then {G = Same l} on_left (λ a same.
      weaker (λ b e. e ∙ (λ i. expr.Two op (same i) (bare_expr r) start) ∙ sym (bare-Two op l r place))
      (right-written op ops operand r (at + length xs) ys reads early on_right a)))

  compared-written : (op : Op) (n room : ℕ) (l r : Expr) (place : Place) (at : ℕ) (xs ys : List Shape)
      → ((p : Place) → as_relation (lexeme_at (op-kind op, op_sign op) p) ≡ Some (record { op = op; place = p }))
      → at + length xs < site.before + 1000
      → Writes (part n room 4) at xs (Same l) → Writes (part n room 4) (at + length xs + 1) ys (Same r)
      → Writes (part n room 3) at (xs ++ (kind_of (op_sign op), op_sign op) ∷ ys) (Same (expr.Two op l r place))
  compared-written op n room l r place at xs ys reads early on_left on_right =
      and_then {G = Same l} on_left (λ a same. left (nothing a)
      (weaker (λ b e. e ∙ (λ i. expr.Two op (same i) (bare_expr r) start) ∙ sym (bare-Two op l r place))
      (right-written op as_relation (part n room 4) r (at + length xs) ys reads early on_right a)))

  both-written : (op : Op) (n room : ℕ) (l r : Expr) (place : Place) (at : ℕ) (xs ys : List Shape)
      → at + length xs < site.before + 1000
      → Writes (part n room (rank (left_level op))) at xs (Same l)
      → Writes (part n room (rank (right_level op))) (at + length xs + 1) ys (Same r)
      → Writes (part n room (rank (op_level op))) at (xs ++ (kind_of (op_sign op), op_sign op) ∷ ys)
      (Same (expr.Two op l r place))
  both-written Or n room l r place at xs ys early h k =
      chain-written Or as_or (part n room 1) l r place at xs ys (λ p. refl) early h k
  both-written And n room l r place at xs ys early h k =
      chain-written And as_and (part n room 2) l r place at xs ys (λ p. refl) early h k
  both-written Eq n room l r place at xs ys early h k = compared-written Eq n room l r place at xs ys (λ p. refl) early h k
  both-written Ne n room l r place at xs ys early h k = compared-written Ne n room l r place at xs ys (λ p. refl) early h k
  both-written Lt n room l r place at xs ys early h k = compared-written Lt n room l r place at xs ys (λ p. refl) early h k
  both-written Le n room l r place at xs ys early h k = compared-written Le n room l r place at xs ys (λ p. refl) early h k
  both-written Gt n room l r place at xs ys early h k = compared-written Gt n room l r place at xs ys (λ p. refl) early h k
  both-written Ge n room l r place at xs ys early h k = compared-written Ge n room l r place at xs ys (λ p. refl) early h k
  both-written Add n room l r place at xs ys early h k =
      chain-written Add as_sum (part n room 5) l r place at xs ys (λ p. refl) early h k
  both-written Sub n room l r place at xs ys early h k =
      chain-written Sub as_sum (part n room 5) l r place at xs ys (λ p. refl) early h k
  both-written Mul n room l r place at xs ys early h k =
      chain-written Mul as_product (part n room 6) l r place at xs ys (λ p. refl) early h k
  both-written Div n room l r place at xs ys early h k =
      chain-written Div as_product (part n room 6) l r place at xs ys (λ p. refl) early h k

  two-in : (op : Op) (l r : Expr) (place : Place) → Stands (left_level op) l (spelled l) (nested l)
      → Stands (right_level op) r (spelled r) (nested r)
      → Printed (expr.Two op l r place)
      (spells (op_level op) (operand (left_level op) (spelled l) ++ Line.token (op_sign op) ∷ operand (right_level op)
      (spelled r)))
      (nests (op_level op) (max (operand_depth (left_level op) (nested l)) (operand_depth (right_level op) (nested r))))
  unfolding Stands Printed Fits
  two-in op l r place h k n room at deep enough fits =
      let dl : ℕ = operand_depth (left_level op) (nested l) in
      let dr : ℕ = operand_depth (right_level op) (nested r) in
      let xs : List Piece = operand (left_level op) (spelled l) in
      let ys : List Piece = operand (right_level op) (spelled r) in
      let split = map-append piece_shape xs (Line.token (op_sign op) ∷ ys) in
      let long : length (shapes (xs ++ Line.token (op_sign op) ∷ ys))
      ≡ length (shapes xs) + suc (length (shapes ys)) = ap length split ∙ length-append (shapes xs) _ in
      let on_left = h n room at (omega (arith, le-max_left dl dr)) (omega (arith, le-max_left dl dr))
      (omega (arith, long, fits)) in
      let on_right = k n room (at + length (shapes xs) + 1) (omega (arith, le-max_right dl dr))
      (omega (arith, le-max_right dl dr)) (omega (arith, long, fits)) in
      shaped (sym split) (both-written op n room l r place at (shapes xs) (shapes ys)
      (omega (arith, long, fits)) on_left on_right)

  two-written : (op : Op) (l r : Expr) (place : Place) → Prints l → Prints r → Prints (expr.Two op l r place)
  unfolding Prints
  two-written op l r place h k lawful =
      let (on_left, on_right) = and_parts (is_lawful l) (is_lawful r) (sym (lawful-Two op l r place) ∙ lawful) in
      as-forms _ _ _ (spelled-Two op l r place) (nested-Two op l r place)
      (two-in op l r place (operand-stands (left_level op) l (h on_left)) (operand-stands (right_level op) r (k on_right)))

  prints : (e : Expr) → Prints e
  prints = expr_induction Prints (record {
    number = number-written;
    name = name-written;
    truth = truth-written;
    prev = prev-written;
    aged = age-written;
    denied = denied-written;
    negated = negated-written;
    two = two-written;
  })

  as-whole : (n room : ℕ) → Within (part n room 0) (Expressions.nested (suc n) site room whole)
  unfolding Expressions.nested
  as-whole n room = record { up = λ at steps e h. h }

  pub whole-written : (e : Expr) (n room at : ℕ) → is_lawful e ≡ true → (nested e).depth ≤ n → (nested e).depth ≤ room
      → at + length (shapes (expr_pieces e)) ≤ site.before + 1000
      → Writes (Expressions.nested (suc n) site room whole) at (shapes (expr_pieces e)) (Same e)
  unfolding Prints Printed Fits
  whole-written e n room at lawful deep enough fits =
      wider (as-whole n room) (wider (tight-within n room (rank (spelled e).level) 0 (omega arith))
      (prints e lawful n room at deep enough fits))

some-pieces : (e : Expr) → 0 < length (expr_pieces e)
some-pieces = expr_induction (λ e. 0 < length (expr_pieces e)) (record {
  number = λ value place. omega (arith, ap (λ (s : Spelled). length s.pieces) (spelled-Num value place));
  name = λ name place. omega (arith, ap (λ (s : Spelled). length s.pieces) (spelled-Name name place));
  truth = λ value place. omega (arith, ap (λ (s : Spelled). length s.pieces) (spelled-Truth value place));
  prev = λ name place. omega (arith, ap (λ (s : Spelled). length s.pieces) (spelled-Prev name place));
  aged = λ name place. omega (arith, ap (λ (s : Spelled). length s.pieces) (spelled-Age name place));
  denied = λ part place h. omega (arith, ap (λ (s : Spelled). length s.pieces) (spelled-Not part place));
  negated = λ part place h. omega (arith, ap (λ (s : Spelled). length s.pieces) (spelled-Neg part place));
  two = λ op l r place h k. omega (
    arith,
    ap (λ (s : Spelled). length s.pieces) (spelled-Two op l r place),
    length-append (operand (left_level op) (spelled l)) (Line.token (op_sign op) ∷ operand (right_level op) (spelled r)),
  );
})

abbrev site_at : ℕ → Place → Site
site_at at place = record { before = at; start = place; is_beyond = false }

begins-there : (n at : ℕ) (steps : List Step) (l : Lexeme) (ls : List Lexeme) (e : Expr) → lexemes steps ≡ l ∷ ls
    → Expressions.nested n (site_at at l.place) 64 whole at steps e → expression false at steps e
begins-there n at [] l ls e same h = absurd (cc same)
begins-there n at (s ∷ more) l ls e same h =
    let first : s.lexeme ≡ l = ap (head_or l) same in
    (s, more, n, refl, subst (λ (k : Lexeme). Expressions.nested n (site_at at k.place) 64 whole at (s ∷ more) e) (sym first) h)

-- an expression, where an entry more may stand
pub expr-written : {at : ℕ} (e : Expr) (is_beyond : Bool) → is_beyond ≡ false → is_expr e ≡ true
    → Writes (expression is_beyond) at (shapes (expr_pieces e)) (Same e)
expr-written {at} e is_beyond room h =
    subst (λ (b : Bool). Writes (expression b) at (shapes (expr_pieces e)) (Same e)) (sym room) (record { all = go }) where
      go : (ls : List Lexeme) → map shape ls ≡ shapes (expr_pieces e) → Spelt (expression false) at ls (Same e)
      go [] same = absurd (omega (arith, some-pieces e, ap length same, length-map (expr_pieces e) piece_shape))
      go (l ∷ ls) same =
          let (most, shallow) = and_parts (is_lawful e && nat_le (length (expr_pieces e)) 1000) (nat_le (nested e).depth 64) h in
          let (lawful, few) = and_parts (is_lawful e) (nat_le (length (expr_pieces e)) 1000) most in
          let deep : (nested e).depth ≤ 64 = leb-true (nested e).depth 64 shallow in
          let short : length (expr_pieces e) ≤ 1000 = leb-true (length (expr_pieces e)) 1000 few in
          let fits : at + length (shapes (expr_pieces e)) ≤ at + 1000 = omega
          (arith, short, length-map (expr_pieces e) piece_shape) in
          let s = (whole-written
          (record { before = at; start = l.place; is_beyond = false }) refl e 64 64 at lawful deep deep fits).all (l ∷ ls) same in
          record {
            steps = s.steps;
            value = s.value;
            same = s.same;
            no_limit = s.no_limit;
            means =
                begins-there 65 at s.steps l ls s.value s.same s.means;
            good = s.good;
          }
