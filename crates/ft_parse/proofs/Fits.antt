-- Expressions that fit a place of the grammar: lawful, with no more tokens than were read, and no deeper than there was room.
use Rattle.std.proofs.Common.{◌≡◌, ◌∙◌, ℕ, suc, ◌+◌, ◌-◌, ◌≤◌, max, nat_le, nat_lt, Bool, true, false, ◌&&◌, List, [], ◌∷◌, ◌++◌, codes}
use Rattle.std.proofs.Common.{length, refl, sym, ap, if◌then◌else◌, le_refl, length-append}
use native.Mathlib.Omega.{arith}
use Rattle.std.proofs.lemmas.Bool.Decides.{nat_tests}
use Rattle.ft_base.specs.declared.place.Place.{Place}
use Rattle.ft_tree.specs.declared.expr.Op.{Op}
use Rattle.ft_tree.specs.declared.expr.Expr.{Expr, fold-roll-Expr}
use Rattle.ft_tree.specs.declared.expr.Expr.TheOpen as layer
use Rattle.ft_tree.specs.declared.expr.Expr.TheVariants.{Num, Name, Truth, Prev, Age, Not, Neg, Two, rolls-Truth}
use Rattle.ft_tree.specs.declared.level.Level.{Level}
use Rattle.ft_tree.specs.declared.level.Level.TheVariants.{Disjunction, Negation, Unary, Atom}
use Rattle.ft_tree.specs.meaning.Expression.{Spelled, operand, spelled, spells}
use Rattle.ft_tree.specs.meaning.Level.{is_looser, left_level, op_level, op_sign, rank, right_level}
use Rattle.ft_base.specs.Names.{is_name}
use Rattle.ft_tree.specs.meaning.Limits.{Nested, is_expr, is_lawful, is_number, lawful_layer, nested, nests, operand_depth}
use Rattle.ft_tree.specs.meaning.Line.{Piece, token}
use Rattle.ft_tree.specs.laws.ExprParts.{lawful-Age, lawful-Name, lawful-Neg, lawful-Not, lawful-Num, lawful-Prev, lawful-Two, spelled-Age}
use Rattle.ft_tree.specs.laws.ExprParts.{spelled-Name, spelled-Neg, spelled-Not, spelled-Num, spelled-Prev, spelled-Truth, spelled-Two}
use Rattle.ft_parse.proofs.SameLemmas.{nested-Num, nested-Name, nested-Truth, nested-Prev, nested-Age, nested-Not, nested-Neg, nested-Two}

lawful-Truth : (value : Bool) (place : Place) → is_lawful (Truth value place) ≡ true
unfolding is_lawful
lawful-Truth value place = ap is_lawful (sym (rolls-Truth value place)) ∙ fold-roll-Expr Bool lawful_layer (layer.Truth value place)

-- it may stand where a level is taken, with so many tokens, and where so many more may open
pub record Fit (level : Level) (room : ℕ) (n : ℕ) (e : Expr) : Type 0 where
  pub lawful : is_lawful e ≡ true
  pub short : length (operand level (spelled e)) ≤ n
  pub low : operand_depth level (nested e) ≤ room

same-level : (level : Level) → is_looser level level ≡ false
same-level level = irrefl (rank level) where
  irrefl : (n : ℕ) → nat_lt n n ≡ false
  irrefl n = grind (arith, nat_tests)

pieces-same : (level : Level) (ps : List Piece) → operand level (spells level ps) ≡ ps
unfolding operand
pieces-same level ps = rw (same-level level) refl

depth-same : (level : Level) (d : ℕ) → operand_depth level (nests level d) ≡ d
depth-same level d = rw (same-level level) refl

-- an expression by its tokens and depth
fit-of : (level : Level) (room n : ℕ) (e : Expr) (ps : List Piece) (d : ℕ) → spelled e ≡ spells level ps → nested e ≡ nests level d
    → is_lawful e ≡ true → length ps ≤ n → d ≤ room → Fit level room n e
fit-of level room n e ps d written deep lawful short low = record {
  lawful = lawful;
  short = rw (written, pieces-same level ps) short;
  low = rw (deep, depth-same level d) low;
}

pub fit-more : {level : Level} {room : ℕ} {n : ℕ} (m : ℕ) {e : Expr} → n ≤ m → Fit level room n e → Fit level room m e
fit-more {level} {room} {n} m {e} le f = record { lawful = f.lawful; short = omega (arith, f.short, le); low = f.low }

looser-below : (a loose tight : ℕ) → nat_le loose tight ≡ true → nat_lt a loose ≡ true → nat_lt a tight ≡ true
looser-below a loose tight e f = grind (arith, nat_tests)

shorter : (x y : Bool) (ps : List Piece) → (x ≡ true → y ≡ true)
    → length (if x then token (codes "(") ∷ (ps ++ token (codes ")") ∷ []) else ps)
    ≤ length (if y then token (codes "(") ∷ (ps ++ token (codes ")") ∷ []) else ps)
shorter true true ps h = le_refl _
shorter true false ps h = cc (h refl)
shorter false true ps h = omega (arith, length-append ps (token (codes ")") ∷ []))
shorter false false ps h = le_refl _

depth-monotone : (x y : Bool) (d : ℕ) → (x ≡ true → y ≡ true) → (if x then suc d else d) ≤ (if y then suc d else d)
depth-monotone true true d h = le_refl _
depth-monotone true false d h = cc (h refl)
depth-monotone false true d h = omega arith
depth-monotone false false d h = le_refl _

shorter-pieces : (tight loose : Level) → nat_le (rank loose) (rank tight) ≡ true → (p : Spelled)
    → length (operand loose p) ≤ length (operand tight p)
unfolding operand
shorter-pieces tight loose e p =
    shorter (is_looser p.level loose) (is_looser p.level tight) p.pieces (looser-below (rank p.level) (rank loose) (rank tight) e)

-- what fits a tighter level fits a looser one
pub fit-looser : (tight loose : Level) {room : ℕ} {n : ℕ} {e : Expr} → nat_le (rank loose) (rank tight) ≡ true → Fit tight room n e
    → Fit loose room n e
fit-looser tight loose {room} {n} {e} le f = record {
  lawful = f.lawful;
  short = omega (arith, f.short, shorter-pieces tight loose le (spelled e));
  low = omega (
    arith,
    f.low,
    depth-monotone (is_looser (nested e).level loose) (is_looser (nested e).level tight) (nested e).depth
        (looser-below (rank (nested e).level) (rank loose) (rank tight) le),
  );
}

pub fit-num : (value : ℕ) (place : Place) (room : ℕ) → is_number value ≡ true → Fit Atom room 1 (Num value place)
fit-num value place room e =
    fit-of Atom room 1 _ _ 0 (spelled-Num value place) (nested-Num value place) (rw (lawful-Num value place) e) (le_refl _)
    (omega arith)

pub fit-name : (name : List ℕ) (place : Place) (room : ℕ) → is_name name ≡ true → Fit Atom room 1 (Name name place)
fit-name name place room e =
    fit-of Atom room 1 _ _ 0 (spelled-Name name place) (nested-Name name place) (rw (lawful-Name name place) e) (le_refl _)
    (omega arith)

pub fit-truth : (value : Bool) (place : Place) (room : ℕ) → Fit Atom room 1 (Truth value place)
fit-truth value place room =
    fit-of Atom room 1 _ _ 0 (spelled-Truth value place) (nested-Truth value place) (lawful-Truth value place) (le_refl _)
    (omega arith)

pub fit-prev : (name : List ℕ) (place : Place) (room : ℕ) → is_name name ≡ true → 1 ≤ room → Fit Atom room 4 (Prev name place)
fit-prev name place room e some =
    fit-of Atom room 4 _ _ 1 (spelled-Prev name place) (nested-Prev name place) (rw (lawful-Prev name place) e) (le_refl _) some

pub fit-age : (name : List ℕ) (place : Place) (room : ℕ) → is_name name ≡ true → 1 ≤ room → Fit Atom room 4 (Age name place)
fit-age name place room e some =
    fit-of Atom room 4 _ _ 1 (spelled-Age name place) (nested-Age name place) (rw (lawful-Age name place) e) (le_refl _) some

pub fit-not : (part : Expr) (place : Place) (room n : ℕ) → 1 ≤ room → Fit Negation (room - 1) n part
    → Fit Negation room (suc n) (Not part place)
fit-not part place room n some f =
    fit-of Negation room (suc n) _ _ _ (spelled-Not part place) (nested-Not part place) (rw (lawful-Not part place) f.lawful)
    (omega (arith, f.short)) (omega (arith, f.low, some))

pub fit-neg : (part : Expr) (place : Place) (room n : ℕ) → 1 ≤ room → Fit Unary (room - 1) n part
    → Fit Unary room (suc n) (Neg part place)
fit-neg part place room n some f =
    fit-of Unary room (suc n) _ _ _ (spelled-Neg part place) (nested-Neg part place) (rw (lawful-Neg part place) f.lawful)
    (omega (arith, f.short)) (omega (arith, f.low, some))

most : (a b room : ℕ) → a ≤ room → b ≤ room → max a b ≤ room
most a b room x y = omega (arith, x, y)

pub fit-two : (op : Op) (left right : Expr) (place : Place) (room n m : ℕ) → Fit (left_level op) room n left
    → Fit (right_level op) room m right
    → Fit (op_level op) room (n + suc m) (Two op left right place)
fit-two op left right place room n m f g =
    fit-of (op_level op) room (n + suc m) _ _ _ (spelled-Two op left right place) (nested-Two op left right place)
    (rw (lawful-Two op left right place, f.lawful, g.lawful) refl)
    (omega (
      arith,
      f.short,
      g.short,
      length-append (operand (left_level op) (spelled left))
          (token (op_sign op) ∷ operand (right_level op) (spelled right)),
    ))
    (most _ _ room f.low g.low)

-- parentheses round it
grouped : (p : Spelled) → length (operand Atom p) ≤ length p.pieces + 2
unfolding operand
grouped p = by-value (is_looser p.level Atom) p.pieces where
  by-value : (x : Bool) (ps : List Piece)
      → length (if x then token (codes "(") ∷ (ps ++ token (codes ")") ∷ []) else ps) ≤ length ps + 2
  by-value true ps = omega (arith, length-append ps (token (codes ")") ∷ []))
  by-value false ps = omega arith

none-looser : (level : Level) → is_looser level Disjunction ≡ false
none-looser level = below (rank level) where
  below : (n : ℕ) → nat_lt n 0 ≡ false
  below n = grind (arith, nat_tests)

pieces-whole : (p : Spelled) → operand Disjunction p ≡ p.pieces
unfolding operand
pieces-whole p = rw (none-looser p.level) refl

depth-whole : (p : Nested) → operand_depth Disjunction p ≡ p.depth
depth-whole p = rw (none-looser p.level) refl

deeper : (x : Bool) (d : ℕ) → (if x then suc d else d) ≤ suc d
deeper true d = le_refl _
deeper false d = omega arith

pub fit-group : (e : Expr) (room n : ℕ) → 1 ≤ room → Fit Disjunction (room - 1) n e → Fit Atom room (n + 2) e
fit-group e room n some f = record {
  lawful = f.lawful;
  short = omega (arith, f.short, grouped (spelled e), ap length (pieces-whole (spelled e)));
  low = omega (arith, f.low, some, depth-whole (nested e), deeper (is_looser (nested e).level Atom) (nested e).depth);
}

-- a whole expression of at most 1,000 tokens with room for 64
pub fit-expr : (e : Expr) (n : ℕ) → n ≤ 1000 → Fit Disjunction 64 n e → is_expr e ≡ true
fit-expr e n le f =
    joined (is_lawful e) (length (spelled e).pieces) (nested e).depth f.lawful
    (omega (arith, f.short, le, ap length (pieces-whole (spelled e)))) (omega (arith, f.low, depth-whole (nested e))) where
      joined : (x : Bool) (a b : ℕ) → x ≡ true → a ≤ 1000 → b ≤ 64 → (x && nat_le a 1000 && nat_le b 64) ≡ true
      joined x a b e f g =
          let p : nat_le a 1000 ≡ true = grind (arith, nat_tests) in
          let q : nat_le b 64 ≡ true = grind (arith, nat_tests) in
          rw (e, p, q) refl
