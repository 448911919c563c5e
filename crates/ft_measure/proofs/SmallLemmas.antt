-- Where no part of an expression is at fault, none is large.
use Rattle.std.proofs.Common.{◌≡◌, ◌∙◌, sym, ap, subst, refl, ℕ, ℤ, pos, Bool, true, false, ◌||◌, List, Option}
use Rattle.std.proofs.Common.{Some, None}
use Rattle.std.proofs.Common.{if◌then◌else◌}
use Rattle.std.specs.Option.{option_or}
use Rattle.ft_base.specs.declared.place.Place.{Place}
use Rattle.ft_tree.specs.declared.expr.Op.{Op}
use Rattle.ft_tree.specs.declared.expr.Op.TheVariants as op
use Rattle.ft_tree.specs.declared.expr.Expr.{Expr, Expr-F, map-Expr, roll-Expr, ind-Expr}
use Rattle.ft_tree.specs.declared.expr.Expr.TheOpen as layer
use Rattle.ft_tree.specs.declared.expr.Expr.TheVariants.{Num, Name, Truth, Prev, Age, Not, Neg, Two, rolls-Num, rolls-Name, rolls-Truth}
use Rattle.ft_tree.specs.declared.expr.Expr.TheVariants.{rolls-Prev, rolls-Age, rolls-Not, rolls-Neg, rolls-Two}
use Rattle.ft_names.specs.declared.asked.Asked.{Asked}
use Rattle.ft_names.specs.declared.asked.Asked.TheVariants.{Term}
use Rattle.ft_names.specs.declared.asked.ExprKind.TheVariants.{Number}
use Rattle.ft_names.specs.declared.card.Card.{Card}
use Rattle.ft_names.specs.declared.card.Card.TheVariants.{Constant, TypeName, Member, Variable, Memory, Block, Invariant}
use Rattle.ft_names.specs.declared.card.Values.{Values}
use Rattle.ft_names.specs.declared.card.Values.TheVariants.{Numbers, Truths, Members, Untyped}
use Rattle.ft_names.specs.meaning.Cards.{Env}
use Rattle.ft_names.specs.meaning.Parts.{first_part, operands}
use Rattle.ft_names.specs.laws.Parts.{first-Num, first-Name, first-Prev, first-Age, first-Neg, first-Two}
use Rattle.ft_measure.specs.declared.measure.Measure.{Measure}
use Rattle.ft_measure.specs.declared.slope.Slope.{Slope}
use Rattle.ft_measure.specs.declared.slope.Why.{Why}
use Rattle.ft_measure.specs.meaning.Measures.{is_above, joined, measure, of_age, of_constant, of_name, of_negation, of_operator, of_prev}
use Rattle.ft_measure.specs.meaning.Measures.{of_values, unmeasured}
use Rattle.ft_measure.specs.meaning.Slopes.{operator_fault, slope, slope_at}
use Rattle.ft_measure.specs.laws.Bounded.{IsSmall}
use Rattle.ft_measure.specs.laws.Layers.{measure-Num, measure-Name, measure-Truth, measure-Prev, measure-Age, measure-Not, measure-Neg}
use Rattle.ft_measure.specs.laws.Layers.{measure-Two, slope-Num, slope-Name, slope-Prev, slope-Age, slope-Two}

or-first : {Y : Type 0} (a b : Option Y) → option_or a b ≡ None → a ≡ None
or-first None b e = refl
or-first (Some y) b e = cc e

or-second : {Y : Type 0} (a b : Option Y) → option_or a b ≡ None → b ≡ None
or-second None b e = e
or-second (Some y) b e = cc e

if-kept : {Y : Type 0} (b : Bool) (y : Y) → (if b then Some y else None) ≡ None → b ≡ false
if-kept true y e = cc e
if-kept false y e = refl

-- where nothing is wrong at a place, the size there is within the limit
low-at : (place : Place) (why : Option Why) (size : Option ℕ) → slope_at place why size ≡ None → is_above size ≡ false
low-at place (Some why) size e = cc e
low-at place None size e = if-kept (is_above size) _ e

joined-small : (constant large : Bool) (v : Option ℤ) (s : Option ℕ) → large ≡ false → is_above s ≡ false
    → IsSmall (joined constant large v s)
joined-small constant large v s h low = record { large = (λ i. h i || low i); size = low }

both-false : (a b : Bool) → a ≡ false → b ≡ false → (a || b) ≡ false
both-false a b p q = λ i. p i || q i

unmeasured-small : IsSmall unmeasured
unmeasured-small = record { large = refl; size = refl }

constant-small : (value : ℤ) → is_above (of_constant value).size ≡ false → IsSmall (of_constant value)
constant-small value low = joined-small true false _ _ refl low

values-small : (values : Values) → is_above (of_values values).size ≡ false → IsSmall (of_values values)
values-small (Numbers lo hi) low = joined-small false false _ _ refl low
values-small Truths low = unmeasured-small
values-small (Members item count) low = unmeasured-small
values-small Untyped low = unmeasured-small

name-small : (c : Option Card) → is_above (of_name c).size ≡ false → IsSmall (of_name c)
name-small None low = unmeasured-small
name-small (Some (Constant value)) low = constant-small value low
name-small (Some (TypeName values)) low = unmeasured-small
name-small (Some (Member item position)) low = unmeasured-small
name-small (Some (Variable place word values)) low = values-small values low
name-small (Some (Memory place side hold)) low = unmeasured-small
name-small (Some (Block place)) low = unmeasured-small
name-small (Some (Invariant block fact)) low = unmeasured-small

prev-small : (c : Option Card) → is_above (of_prev c).size ≡ false → IsSmall (of_prev c)
prev-small None low = unmeasured-small
prev-small (Some (Constant value)) low = unmeasured-small
prev-small (Some (TypeName values)) low = unmeasured-small
prev-small (Some (Member item position)) low = unmeasured-small
prev-small (Some (Variable place word values)) low = values-small values low
prev-small (Some (Memory place side hold)) low = unmeasured-small
prev-small (Some (Block place)) low = unmeasured-small
prev-small (Some (Invariant block fact)) low = unmeasured-small

age-small : (c : Option Card) → is_above (of_age c).size ≡ false → IsSmall (of_age c)
age-small None low = unmeasured-small
age-small (Some (Constant value)) low = unmeasured-small
age-small (Some (TypeName values)) low = unmeasured-small
age-small (Some (Member item position)) low = unmeasured-small
age-small (Some (Variable place word values)) low = unmeasured-small
age-small (Some (Memory place side None)) low = unmeasured-small
age-small (Some (Memory place side (Some hold))) low = joined-small false false _ _ refl low
age-small (Some (Block place)) low = unmeasured-small
age-small (Some (Invariant block fact)) low = unmeasured-small

negation-small : (a : Measure) → IsSmall a → IsSmall (of_negation a)
negation-small a ha = joined-small a.constant a.large _ a.size ha.large ha.size

operator-small : (o : Op) (a b : Measure) → IsSmall a → IsSmall b → is_above (of_operator o a b).size ≡ false → IsSmall (of_operator o a b)
operator-small op.Add a b ha hb low = joined-small _ _ _ _ (both-false a.large b.large ha.large hb.large) low
operator-small op.Sub a b ha hb low = joined-small _ _ _ _ (both-false a.large b.large ha.large hb.large) low
operator-small op.Mul a b ha hb low = joined-small _ _ _ _ (both-false a.large b.large ha.large hb.large) low
operator-small op.Div a b ha hb low = joined-small _ _ _ _ (both-false a.large b.large ha.large hb.large) low
operator-small op.Or a b ha hb low = unmeasured-small
operator-small op.And a b ha hb low = unmeasured-small
operator-small op.Eq a b ha hb low = unmeasured-small
operator-small op.Ne a b ha hb low = unmeasured-small
operator-small op.Lt a b ha hb low = unmeasured-small
operator-small op.Le a b ha hb low = unmeasured-small
operator-small op.Gt a b ha hb low = unmeasured-small
operator-small op.Ge a b ha hb low = unmeasured-small

module _ (env : Env) where
  abbrev Faultless : Asked → Expr → Type 0
  Faultless asked e = first_part (λ _. slope env) asked e ≡ None

  abbrev At : Expr → Type 0
  At e = (asked : Asked) → Faultless asked e → IsSmall (measure env e)

  at-num : (value : ℕ) (place : Place) → At (Num value place)
  at-num value place asked none = subst IsSmall (sym (measure-Num env value place))
      (constant-small (pos value) (ap (λ (m : Measure). is_above m.size) (sym (measure-Num env value place))
      ∙ low-at place None (measure env (Num value place)).size
      (sym (slope-Num env value place) ∙ sym (first-Num {Y = Slope} (λ _. slope env) asked value place) ∙ none)))

  at-name : (name : List ℕ) (place : Place) → At (Name name place)
  at-name name place asked none = subst IsSmall (sym (measure-Name env name place))
      (name-small (env name) (ap (λ (m : Measure). is_above m.size) (sym (measure-Name env name place))
      ∙ low-at place None (measure env (Name name place)).size
      (sym (slope-Name env name place) ∙ sym (first-Name {Y = Slope} (λ _. slope env) asked name place) ∙ none)))

  at-prev : (name : List ℕ) (place : Place) → At (Prev name place)
  at-prev name place asked none = subst IsSmall (sym (measure-Prev env name place))
      (prev-small (env name) (ap (λ (m : Measure). is_above m.size) (sym (measure-Prev env name place))
      ∙ low-at place None (measure env (Prev name place)).size
      (sym (slope-Prev env name place) ∙ sym (first-Prev {Y = Slope} (λ _. slope env) asked name place) ∙ none)))

  at-age : (name : List ℕ) (place : Place) → At (Age name place)
  at-age name place asked none = subst IsSmall (sym (measure-Age env name place))
      (age-small (env name) (ap (λ (m : Measure). is_above m.size) (sym (measure-Age env name place))
      ∙ low-at place None (measure env (Age name place)).size
      (sym (slope-Age env name place) ∙ sym (first-Age {Y = Slope} (λ _. slope env) asked name place) ∙ none)))

  at-neg : (of : Expr) (place : Place) → At of → At (Neg of place)
  at-neg of place h asked none = subst IsSmall (sym (measure-Neg env of place))
      (negation-small (measure env of) (h (Term Number)
      (or-second (slope env (Neg of place)) (first_part (λ _. slope env) (Term Number) of)
      (sym (first-Neg {Y = Slope} (λ _. slope env) asked of place) ∙ none))))

  at-two : (o : Op) (left right : Expr) (place : Place) → At left → At right → At (Two o left right place)
  at-two o left right place h k asked none =
      let all = sym (first-Two {Y = Slope} (λ _. slope env) asked o left right place) ∙ none in
      let before = or-first (first_part (λ _. slope env) (operands o) left) _ all in
      let rest = or-second (first_part (λ _. slope env) (operands o) left) _ all in
      let own = or-first (slope env (Two o left right place)) (first_part (λ _. slope env) (operands o) right) rest in
      let after = or-second (slope env (Two o left right place)) (first_part (λ _. slope env) (operands o) right) rest in
      subst IsSmall (sym (measure-Two env o left right place))
      (operator-small o (measure env left) (measure env right) (h (operands o) before) (k (operands o) after)
      (low-at place (operator_fault o (measure env left) (measure env right)) _ (sym (slope-Two env o left right place) ∙ own)))

  small-layer : (y : Expr-F ((e : Expr) × At e)) → At (roll-Expr (map-Expr ((e : Expr) × At e) Expr (λ e. e.0) y))
  small-layer (layer.Num value place) = subst At (sym (rolls-Num value place)) (at-num value place)
  small-layer (layer.Name name place) = subst At (sym (rolls-Name name place)) (at-name name place)
  small-layer (layer.Truth value place) = subst At (sym (rolls-Truth value place))
      (λ asked none. subst IsSmall (sym (measure-Truth env value place)) unmeasured-small)
  small-layer (layer.Prev name place) = subst At (sym (rolls-Prev name place)) (at-prev name place)
  small-layer (layer.Age name place) = subst At (sym (rolls-Age name place)) (at-age name place)
  small-layer (layer.Not of place) = subst At (sym (rolls-Not of.0 place))
      (λ asked none. subst IsSmall (sym (measure-Not env of.0 place)) unmeasured-small)
  small-layer (layer.Neg of place) = subst At (sym (rolls-Neg of.0 place)) (at-neg of.0 place of.1)
  small-layer (layer.Two o left right place) = subst At (sym (rolls-Two o left.0 right.0 place))
      (at-two o left.0 right.0 place left.1 right.1)

  pub linear-small : (e : Expr) → At e
  linear-small e = ind-Expr At (λ x y is. subst (λ z. At (roll-Expr z)) is (small-layer y)) e
