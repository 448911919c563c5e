-- The term of an expression has at most as many leaves as the expression has tokens.
use Rattle.std.proofs.Common.{◌≡◌, Bool, true, false, ◌∙◌, sym, ap, subst, ℕ, ◌+◌, ◌≤◌, le_trans, ℤ, pos, List, [], ◌∷◌, ◌++◌, length}
use Rattle.std.proofs.Common.{Option, Some, None, arith, length-append, codes, if◌then◌else◌}
use Rattle.ft_base.specs.declared.place.Place.{Place}
use Rattle.ft_tree.specs.declared.expr.Op.{Op}
use Rattle.ft_tree.specs.declared.expr.Op.TheVariants as op
use Rattle.ft_tree.specs.declared.expr.Expr.{Expr}
use Rattle.ft_tree.specs.declared.expr.Expr.TheVariants.{Not, Neg, Two}
use Rattle.ft_tree.specs.declared.level.Level.{Level}
use Rattle.ft_tree.specs.declared.level.Level.TheVariants.{Negation, Unary}
use Rattle.ft_tree.specs.meaning.Expression.{Spelled, expr_pieces, operand, spelled}
use Rattle.ft_tree.specs.meaning.Level.{is_looser, left_level, op_sign, right_level}
use Rattle.ft_tree.specs.meaning.Line.{Piece, token}
use Rattle.ft_tree.specs.laws.ExprParts.{expr_induction, spelled-Num, spelled-Name, spelled-Truth, spelled-Prev, spelled-Age, spelled-Not}
use Rattle.ft_tree.specs.laws.ExprParts.{spelled-Neg, spelled-Two}
use Rattle.ft_core.specs.declared.term.Term.{Term}
use Rattle.ft_core.specs.declared.term.Term.TheVariants as term
use Rattle.ft_core.specs.checked.Short.{leaves}
use Rattle.ft_core.specs.laws.SizeEquations.{leaves-Num, leaves-Now, leaves-Prev, leaves-Age, leaves-Neg, leaves-Add, leaves-Sub}
use Rattle.ft_core.specs.laws.SizeEquations.{leaves-Times, leaves-Div}
use Rattle.ft_names.specs.declared.card.Card.{Card}
use Rattle.ft_names.specs.declared.card.Card.TheVariants as card
use Rattle.ft_names.specs.meaning.Cards.{Env}
use Rattle.ft_build.specs.meaning.Terms.{age_term, folded, kept, name_term, negated, operator_term, operator_value, prev_term, product_term}
use Rattle.ft_build.specs.meaning.Terms.{quotient_term, term_of, truth_value, value_of}
use Rattle.ft_build.specs.laws.Terms.{term-Num, term-Name, term-Truth, term-Prev, term-Age, term-Not, term-Neg, term-Two}

abbrev long : Spelled → ℕ
long s = length s.pieces

wrapped : (pieces : List Piece) (first last : Piece) → length pieces ≤ length (first ∷ (pieces ++ last ∷ []))
wrapped pieces first last = let same = length-append pieces (last ∷ []) in omega (arith, same)

abbrev in_parentheses : Bool → List Piece → List Piece
in_parentheses b pieces = if b then token (codes "(") ∷ (pieces ++ token (codes ")") ∷ []) else pieces

no-shorter : (b : Bool) (pieces : List Piece) → length pieces ≤ length (in_parentheses b pieces)
no-shorter true pieces = wrapped pieces (token (codes "(")) (token (codes ")"))
no-shorter false pieces = omega arith

operand-long : (needed : Level) (part : Spelled) → length part.pieces ≤ length (operand needed part)
unfolding operand
operand-long needed part = no-shorter (is_looser part.level needed) part.pieces

pub longer-not : (of : Expr) (place : Place) → length (expr_pieces of) + 1 ≤ length (expr_pieces (Not of place))
longer-not of place =
    let same = ap long (spelled-Not of place) in
    let inner = operand-long Negation (spelled of) in
    subst (λ n. length (expr_pieces of) + 1 ≤ n) (sym same) (omega (arith, inner))

pub longer-neg : (of : Expr) (place : Place) → length (expr_pieces of) + 1 ≤ length (expr_pieces (Neg of place))
longer-neg of place =
    let same = ap long (spelled-Neg of place) in
    let inner = operand-long Unary (spelled of) in
    subst (λ n. length (expr_pieces of) + 1 ≤ n) (sym same) (omega (arith, inner))

pub longer-two : (o : Op) (left right : Expr) (place : Place)
    → length (expr_pieces left) + length (expr_pieces right) + 1 ≤ length (expr_pieces (Two o left right place))
longer-two o left right place =
    let first = operand-long (left_level o) (spelled left) in
    let second = operand-long (right_level o) (spelled right) in
    let whole = ap long (spelled-Two o left right place)
    ∙ length-append (operand (left_level o) (spelled left)) (token (op_sign o) ∷ operand (right_level o) (spelled right)) in
    subst (λ n. length (expr_pieces left) + length (expr_pieces right) + 1 ≤ n) (sym whole) (omega (arith, first, second))

one-leaf : (z : ℤ) (n : ℕ) → 1 ≤ n → leaves (term.Num z) ≤ n
one-leaf z n h = subst (λ k. k ≤ n) (sym (leaves-Num z)) h

fold-leaves : (v : Option ℤ) (t : Term) (n : ℕ) → 1 ≤ n → leaves t ≤ n → leaves (folded v t) ≤ n
fold-leaves None t n some h = h
fold-leaves (Some z) t n some h = one-leaf z n some

name-leaves : (c : Option Card) → leaves (name_term c) ≤ 1
name-leaves None = one-leaf _ 1 (omega arith)
name-leaves (Some (card.Constant value)) = one-leaf _ 1 (omega arith)
name-leaves (Some (card.TypeName values)) = one-leaf _ 1 (omega arith)
name-leaves (Some (card.Member item position)) = one-leaf _ 1 (omega arith)
name-leaves (Some (card.Variable place word values)) = subst (λ k. k ≤ 1) (sym (leaves-Now place)) (omega arith)
name-leaves (Some (card.Memory place side hold)) = one-leaf _ 1 (omega arith)
name-leaves (Some (card.Block place)) = one-leaf _ 1 (omega arith)
name-leaves (Some (card.Invariant block fact)) = one-leaf _ 1 (omega arith)

prev-leaves : (c : Option Card) → leaves (prev_term c) ≤ 1
prev-leaves None = one-leaf _ 1 (omega arith)
prev-leaves (Some (card.Constant value)) = one-leaf _ 1 (omega arith)
prev-leaves (Some (card.TypeName values)) = one-leaf _ 1 (omega arith)
prev-leaves (Some (card.Member item position)) = one-leaf _ 1 (omega arith)
prev-leaves (Some (card.Variable place word values)) = subst (λ k. k ≤ 1) (sym (leaves-Prev place)) (omega arith)
prev-leaves (Some (card.Memory place side hold)) = one-leaf _ 1 (omega arith)
prev-leaves (Some (card.Block place)) = one-leaf _ 1 (omega arith)
prev-leaves (Some (card.Invariant block fact)) = one-leaf _ 1 (omega arith)

age-leaves : (c : Option Card) → leaves (age_term c) ≤ 1
age-leaves None = one-leaf _ 1 (omega arith)
age-leaves (Some (card.Constant value)) = one-leaf _ 1 (omega arith)
age-leaves (Some (card.TypeName values)) = one-leaf _ 1 (omega arith)
age-leaves (Some (card.Member item position)) = one-leaf _ 1 (omega arith)
age-leaves (Some (card.Variable place word values)) = one-leaf _ 1 (omega arith)
age-leaves (Some (card.Memory place side hold)) = subst (λ k. k ≤ 1) (sym (leaves-Age place)) (omega arith)
age-leaves (Some (card.Block place)) = one-leaf _ 1 (omega arith)
age-leaves (Some (card.Invariant block fact)) = one-leaf _ 1 (omega arith)

module _ (s t : Term) (m n : ℕ) (h : leaves s ≤ m) (k : leaves t ≤ n) where
  abbrev Few : Term → Type 0
  Few x = leaves x ≤ m + n + 1

  few-number : (z : ℤ) → Few (term.Num z)
  few-number z = one-leaf z (m + n + 1) (omega arith)

  few-product : (u w : Option ℤ) → Few (product_term u w s t)
  few-product (Some c) w = let same = leaves-Times c t in omega (arith, same, k)
  few-product None (Some c) = let same = leaves-Times c s in omega (arith, same, h)
  few-product None None = few-number (pos 0)

  few-quotient : (w : Option ℤ) → Few (quotient_term w s)
  few-quotient (Some c) = let same = leaves-Div s c in omega (arith, same, h)
  few-quotient None = few-number (pos 0)

  few-leaves : (o : Op) (u w : Option ℤ) → Few (operator_term o u w s t)
  few-leaves op.Add u w = let same = leaves-Add s t in omega (arith, same, h, k)
  few-leaves op.Sub u w = let same = leaves-Sub s t in omega (arith, same, h, k)
  few-leaves op.Mul u w = few-product u w
  few-leaves op.Div u w = few-quotient w
  few-leaves op.Or u w = few-number (pos 0)
  few-leaves op.And u w = few-number (pos 0)
  few-leaves op.Eq u w = few-number (pos 0)
  few-leaves op.Ne u w = few-number (pos 0)
  few-leaves op.Lt u w = few-number (pos 0)
  few-leaves op.Le u w = few-number (pos 0)
  few-leaves op.Gt u w = few-number (pos 0)
  few-leaves op.Ge u w = few-number (pos 0)

module _ (env : Env) where
  abbrev IsFew : Expr → Type 0
  IsFew e = leaves (term_of env e) ≤ length (expr_pieces e)

  few : (e : Expr) (t : Term) (n : ℕ) → term_of env e ≡ t → n ≤ length (expr_pieces e) → leaves t ≤ n → IsFew e
  few e t n is long h = subst (λ x. leaves x ≤ length (expr_pieces e)) (sym is) (le_trans h long)

  counted : (e : Expr) (s : Spelled) (n : ℕ) → spelled e ≡ s → n ≤ length s.pieces → n ≤ length (expr_pieces e)
  counted e s n is h = subst (λ (x : Spelled). n ≤ length x.pieces) (sym is) h

  -- as many at most
  pub few-terms : (e : Expr) → IsFew e
  few-terms = expr_induction IsFew (record {
    number = λ value place. few _ _ 1 (term-Num env value place) (counted _ _ 1 (spelled-Num value place) (omega arith))
        (fold-leaves (kept (pos value)) (term.Num (pos 0)) 1 (omega arith) (one-leaf (pos 0) 1 (omega arith)));
    name = λ name place. few _ _ 1 (term-Name env name place) (counted _ _ 1 (spelled-Name name place) (omega arith))
        (name-leaves (env name));
    truth = λ value place. few _ _ 1 (term-Truth env value place) (counted _ _ 1 (spelled-Truth value place) (omega arith))
        (one-leaf (truth_value value) 1 (omega arith));
    prev = λ name place. few _ _ 1 (term-Prev env name place) (counted _ _ 1 (spelled-Prev name place) (omega arith))
        (prev-leaves (env name));
    aged = λ name place. few _ _ 1 (term-Age env name place) (counted _ _ 1 (spelled-Age name place) (omega arith)) (age-leaves (env name));
    denied = λ of place h. few _ _ 1 (term-Not env of place) (let l = longer-not of place in omega (arith, l))
        (one-leaf (pos 0) 1 (omega arith));
    negated = λ of place h. few _ _ (length (expr_pieces of) + 1) (term-Neg env of place) (longer-neg of place)
        (fold-leaves (negated (value_of env of)) (term.Neg (term_of env of)) (length (expr_pieces of) + 1) (omega arith)
        (let same = leaves-Neg (term_of env of) in omega (arith, same, h)));
    two = λ o left right place h k. few _ _ (length (expr_pieces left) + length (expr_pieces right) + 1) (term-Two env o left right place)
        (longer-two o left right place)
        (fold-leaves (operator_value o (value_of env left) (value_of env right)) _
        (length (expr_pieces left) + length (expr_pieces right) + 1)
        (omega arith)
        (few-leaves (term_of env left) (term_of env right) (length (expr_pieces left)) (length (expr_pieces right)) h k o
        (value_of env left) (value_of env right)));
  })
