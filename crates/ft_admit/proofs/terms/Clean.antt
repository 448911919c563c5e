-- Expressions none of whose parts is at fault, and induction over them.
use Rattle.std.proofs.Common.{◌≡◌, ◌∙◌, sym, ℕ, Bool, true, false, ◌||◌, not, List, Option, None}
use Rattle.std.proofs.lemmas.Bool.{or_parts, not-false}
use Rattle.ft_base.specs.declared.place.Place.{Place}
use Rattle.ft_tree.specs.declared.expr.Op.{Op}
use Rattle.ft_tree.specs.declared.expr.Expr.{Expr}
use Rattle.ft_tree.specs.declared.expr.Expr.TheVariants.{Num, Name, Truth, Prev, Age, Not, Neg, Two}
use Rattle.ft_tree.specs.laws.ExprParts.{expr_induction}
use Rattle.ft_names.specs.declared.asked.Asked.{Asked}
use Rattle.ft_names.specs.declared.asked.Asked.TheVariants.{Condition, Term}
use Rattle.ft_names.specs.declared.asked.ExprKind.TheVariants.{Number}
use Rattle.ft_names.specs.declared.site.Site.{Site}
use Rattle.ft_names.specs.meaning.Cards.{Env}
use Rattle.ft_names.specs.meaning.Parts.{first_part, operands}
use Rattle.ft_names.specs.laws.Parts.{first-Num, first-Name, first-Truth, first-Prev, first-Age, first-Not, first-Neg, first-Two}
use Rattle.ft_types.specs.declared.fault.ItemFault.{ItemFault}
use Rattle.ft_types.specs.declared.fault.ItemFault.TheVariants.{TypeMismatch}
use Rattle.ft_types.specs.meaning.Kinds.{is_met}
use Rattle.ft_types.specs.meaning.Mismatch.{is_wrong, kind_of, mismatch, place_of}
use Rattle.ft_types.specs.meaning.Sides.{wrong_side}
use Rattle.ft_measure.specs.declared.slope.Slope.{Slope}
use Rattle.ft_measure.specs.meaning.Slopes.{slope}
use Rattle.ft_admit.proofs.terms.Lists.{if-kept, or-first, or-second}

-- no part of the expression is on the wrong side, of the wrong kind, or not linear, where its place asks this of it
pub record IsClean (env : Env) (site : Site) (asked : Asked) (e : Expr) : Type 0 where
  pub sides : first_part (λ _. wrong_side env site) asked e ≡ None
  pub kinds : first_part (mismatch env) asked e ≡ None
  pub slopes : first_part (λ _. slope env) asked e ≡ None

abbrev Test : Type 0 → Type 0
Test Y = Asked → Expr → Option Y

-- an expression is one of its own parts
pub own-part : {Y : Type 0} (test : Asked → Expr → Option Y) (e : Expr) (asked : Asked)
    → first_part test asked e ≡ None → test asked e ≡ None
own-part test = expr_induction (λ e. (asked : Asked) → first_part test asked e ≡ None → test asked e ≡ None) (record {
  number = λ value place asked h. sym (first-Num test asked value place) ∙ h;
  name = λ name place asked h. sym (first-Name test asked name place) ∙ h;
  truth = λ value place asked h. sym (first-Truth test asked value place) ∙ h;
  prev = λ name place asked h. sym (first-Prev test asked name place) ∙ h;
  aged = λ name place asked h. sym (first-Age test asked name place) ∙ h;
  denied = λ of place k asked h. or-first (test asked (Not of place)) (first_part test Condition of)
      (sym (first-Not test asked of place) ∙ h);
  negated = λ of place k asked h. or-first (test asked (Neg of place)) (first_part test (Term Number) of)
      (sym (first-Neg test asked of place) ∙ h);
  two = λ o left right place k l asked h. or-first (test asked (Two o left right place)) (first_part test (operands o) right)
      (or-second (first_part test (operands o) left) _ (sym (first-Two test asked o left right place) ∙ h));
})

-- a test that asks nothing of the place is the same wherever the expression stands
pub same-asked : {Y : Type 0} (test : Expr → Option Y) (e : Expr) (a b : Asked) → first_part (λ _. test) a e ≡ first_part (λ _. test) b e
same-asked {Y} test = expr_induction (λ e. (a b : Asked) → first_part (λ _. test) a e ≡ first_part (λ _. test) b e) (record {
  number = λ value place a b. first-Num (λ _. test) a value place ∙ sym (first-Num (λ _. test) b value place);
  name = λ name place a b. first-Name (λ _. test) a name place ∙ sym (first-Name (λ _. test) b name place);
  truth = λ value place a b. first-Truth (λ _. test) a value place ∙ sym (first-Truth (λ _. test) b value place);
  prev = λ name place a b. first-Prev (λ _. test) a name place ∙ sym (first-Prev (λ _. test) b name place);
  aged = λ name place a b. first-Age (λ _. test) a name place ∙ sym (first-Age (λ _. test) b name place);
  denied = λ of place k a b. first-Not (λ _. test) a of place ∙ sym (first-Not (λ _. test) b of place);
  negated = λ of place k a b. first-Neg (λ _. test) a of place ∙ sym (first-Neg (λ _. test) b of place);
  two = λ o left right place k l a b. first-Two (λ _. test) a o left right place ∙ sym (first-Two (λ _. test) b o left right place);
})

part-not : {Y : Type 0} (test : Test Y) (asked : Asked) (of : Expr) (place : Place) → first_part test asked (Not of place) ≡ None
    → first_part test Condition of ≡ None
part-not test asked of place h =
    or-second (test asked (Not of place)) (first_part test Condition of) (sym (first-Not test asked of place) ∙ h)

part-neg : {Y : Type 0} (test : Test Y) (asked : Asked) (of : Expr) (place : Place) → first_part test asked (Neg of place) ≡ None
    → first_part test (Term Number) of ≡ None
part-neg test asked of place h =
    or-second (test asked (Neg of place)) (first_part test (Term Number) of) (sym (first-Neg test asked of place) ∙ h)

part-left : {Y : Type 0} (test : Test Y) (asked : Asked) (o : Op) (left right : Expr) (place : Place)
    → first_part test asked (Two o left right place) ≡ None → first_part test (operands o) left ≡ None
part-left test asked o left right place h =
    or-first (first_part test (operands o) left) _ (sym (first-Two test asked o left right place) ∙ h)

part-right : {Y : Type 0} (test : Test Y) (asked : Asked) (o : Op) (left right : Expr) (place : Place)
    → first_part test asked (Two o left right place) ≡ None → first_part test (operands o) right ≡ None
part-right test asked o left right place h =
    or-second (test asked (Two o left right place)) (first_part test (operands o) right)
    (or-second (first_part test (operands o) left) _ (sym (first-Two test asked o left right place) ∙ h))

module _ (env : Env) (site : Site) where
  clean-not : (asked : Asked) (of : Expr) (place : Place) → IsClean env site asked (Not of place) → IsClean env site Condition of
  clean-not asked of place h = record {
    sides = part-not {Y = ItemFault} (λ _. wrong_side env site) asked of place h.sides;
    kinds = part-not (mismatch env) asked of place h.kinds;
    slopes = part-not {Y = Slope} (λ _. slope env) asked of place h.slopes;
  }

  clean-neg : (asked : Asked) (of : Expr) (place : Place) → IsClean env site asked (Neg of place) → IsClean env site (Term Number) of
  clean-neg asked of place h = record {
    sides = part-neg {Y = ItemFault} (λ _. wrong_side env site) asked of place h.sides;
    kinds = part-neg (mismatch env) asked of place h.kinds;
    slopes = part-neg {Y = Slope} (λ _. slope env) asked of place h.slopes;
  }

  clean-left : (asked : Asked) (o : Op) (left right : Expr) (place : Place) → IsClean env site asked (Two o left right place)
      → IsClean env site (operands o) left
  clean-left asked o left right place h = record {
    sides = part-left {Y = ItemFault} (λ _. wrong_side env site) asked o left right place h.sides;
    kinds = part-left (mismatch env) asked o left right place h.kinds;
    slopes = part-left {Y = Slope} (λ _. slope env) asked o left right place h.slopes;
  }

  clean-right : (asked : Asked) (o : Op) (left right : Expr) (place : Place) → IsClean env site asked (Two o left right place)
      → IsClean env site (operands o) right
  clean-right asked o left right place h = record {
    sides = part-right {Y = ItemFault} (λ _. wrong_side env site) asked o left right place h.sides;
    kinds = part-right (mismatch env) asked o left right place h.kinds;
    slopes = part-right {Y = Slope} (λ _. slope env) asked o left right place h.slopes;
  }

  -- what holds of each kind of clean expression where it holds of its parts
  pub record CleanInductive (P : Expr → Type 0) : Type 0 where
    pub number : (value : ℕ) (place : Place) (asked : Asked) → IsClean env site asked (Num value place) → P (Num value place)
    pub name : (name : List ℕ) (place : Place) (asked : Asked) → IsClean env site asked (Name name place) → P (Name name place)
    pub truth : (value : Bool) (place : Place) → P (Truth value place)
    pub prev : (name : List ℕ) (place : Place) (asked : Asked) → IsClean env site asked (Prev name place) → P (Prev name place)
    pub aged : (name : List ℕ) (place : Place) (asked : Asked) → IsClean env site asked (Age name place) → P (Age name place)
    pub denied : (of : Expr) (place : Place) → P of → P (Not of place)
    pub negated : (of : Expr) (place : Place) (asked : Asked) → IsClean env site asked (Neg of place)
        → IsClean env site (Term Number) of → P of → P (Neg of place)
    pub two : (o : Op) (left right : Expr) (place : Place) (asked : Asked) → IsClean env site asked (Two o left right place)
        → IsClean env site (operands o) left → IsClean env site (operands o) right → P left → P right → P (Two o left right place)

  pub clean_induction : (P : Expr → Type 0) → CleanInductive P → (e : Expr) (asked : Asked) → IsClean env site asked e → P e
  clean_induction P h = expr_induction (λ e. (asked : Asked) → IsClean env site asked e → P e) (record {
    number = λ value place asked c. h.number value place asked c;
    name = λ name place asked c. h.name name place asked c;
    truth = λ value place asked c. h.truth value place;
    prev = λ name place asked c. h.prev name place asked c;
    aged = λ name place asked c. h.aged name place asked c;
    denied = λ of place k asked c. h.denied of place (k Condition (clean-not asked of place c));
    negated = λ of place k asked c. let inner = clean-neg asked of place c in h.negated of place asked c inner (k (Term Number) inner);
    two = λ o left right place k l asked c.
        let first = clean-left asked o left right place c in
        let second = clean-right asked o left right place c in
        h.two o left right place asked c first second (k (operands o) first) (l (operands o) second);
  })

  mismatch-none : (asked : Asked) (e : Expr) → mismatch env asked e ≡ None → (is_wrong env e || not (is_met asked (kind_of env e))) ≡ false
  unfolding mismatch
  mismatch-none asked e h = if-kept (is_wrong env e || not (is_met asked (kind_of env e))) (TypeMismatch (place_of e)) h

  -- a clean expression is what its place asks, isn't wrong itself, and reads nothing on the wrong side
  pub is-what-is-asked : (asked : Asked) (e : Expr) → IsClean env site asked e → is_met asked (kind_of env e) ≡ true
  is-what-is-asked asked e h =
      not-false (is_met asked (kind_of env e))
      (or_parts (is_wrong env e) (not (is_met asked (kind_of env e))) (mismatch-none asked e (own-part (mismatch env) e asked h.kinds))).1

  pub is-right : (asked : Asked) (e : Expr) → IsClean env site asked e → is_wrong env e ≡ false
  is-right asked e h =
      (or_parts (is_wrong env e) (not (is_met asked (kind_of env e))) (mismatch-none asked e (own-part (mismatch env) e asked h.kinds))).0

  pub is-on-side : (asked : Asked) (e : Expr) → IsClean env site asked e → wrong_side env site e ≡ None
  is-on-side asked e h = own-part {Y = ItemFault} (λ _. wrong_side env site) e asked h.sides

  pub is-linear : (asked : Asked) (e : Expr) → IsClean env site asked e → slope env e ≡ None
  is-linear asked e h = own-part {Y = Slope} (λ _. slope env) e asked h.slopes
