-- The terms and conditions of clean expressions are sized and short.
use Rattle.std.proofs.Common.{◌≡◌, ◌∙◌, sym, ap, subst, refl, ℕ, ◌≤◌, ℤ, pos, Bool, true, false, List, length, Option, Some, None, arith}
use Rattle.std.proofs.Common.{le-leb, nat_le, if◌then◌else◌, unsigned_abs}
use Rattle.std.proofs.lemmas.Option.{same_Some}
use Rattle.std.proofs.lemmas.Bool.{and_from}
use Rattle.ft_base.specs.declared.place.Place.{Place}
use Rattle.ft_tree.specs.declared.expr.Op.{Op}
use Rattle.ft_tree.specs.declared.expr.Expr.{Expr}
use Rattle.ft_tree.specs.declared.expr.Expr.TheVariants.{Num, Name, Truth, Prev, Age, Not, Neg, Two}
use Rattle.ft_tree.specs.meaning.Expression.{expr_pieces}
use Rattle.ft_core.specs.declared.tables.Memory.{Memory}
use Rattle.ft_core.specs.declared.tables.Var.{Var}
use Rattle.ft_core.specs.declared.term.Cond.{Cond}
use Rattle.ft_core.specs.declared.term.Cond.TheVariants as cond
use Rattle.ft_core.specs.declared.term.Term.{Term}
use Rattle.ft_core.specs.declared.term.Term.TheVariants as term
use Rattle.ft_core.specs.checked.Short.{is_factored, is_short, is_short_term, leaves}
use Rattle.ft_core.specs.checked.Size.{is_sized, is_sized_term}
use Rattle.ft_core.specs.laws.SizeEquations.{sized-Yes, sized-No, sized-Compare, sized-Memory, sized-Not, sized-And, sized-Or, short-Yes}
use Rattle.ft_core.specs.laws.SizeEquations.{short-No, short-Compare, short-Memory, short-Not, short-And, short-Or, small-Num, factored-Num}
use Rattle.ft_core.specs.laws.SizeEquations.{leaves-Num, leaves-Now}
use Rattle.ft_names.specs.declared.asked.Asked.{Asked}
use Rattle.ft_names.specs.declared.asked.Asked.TheVariants as asking
use Rattle.ft_names.specs.declared.asked.ExprKind.{ExprKind}
use Rattle.ft_names.specs.declared.asked.ExprKind.TheVariants.{Number, Truth as Truths, Condition, Nothing}
use Rattle.ft_names.specs.declared.card.Card.{Card}
use Rattle.ft_names.specs.declared.card.Card.TheVariants as card
use Rattle.ft_names.specs.declared.site.Site.{Site}
use Rattle.ft_names.specs.meaning.Cards.{Env}
use Rattle.ft_names.specs.meaning.Parts.{operands}
use Rattle.ft_names.specs.laws.Parts.{out-Num, out-Name, out-Truth, out-Prev, out-Age, out-Not, out-Neg, out-Two}
use Rattle.ft_types.specs.meaning.Kinds.{is_kind, op_kind}
use Rattle.ft_types.specs.meaning.Mismatch.{card_kind, is_timer, is_variable, kind_of, layer_kind}
use Rattle.ft_measure.specs.declared.measure.Measure.{Measure}
use Rattle.ft_measure.specs.declared.slope.Why.{Why}
use Rattle.ft_measure.specs.meaning.Measures.{measure, of_constant, of_name, of_negation, of_operator, unmeasured}
use Rattle.ft_measure.specs.meaning.Slopes.{operator_fault, slope_at}
use Rattle.ft_measure.specs.laws.Bounded.{IsBounded, IsSmall, LinearIsSmall, ValuesBounded}
use Rattle.ft_measure.specs.laws.Layers.{measure-Num, measure-Name, measure-Truth, measure-Prev, measure-Age, measure-Not, measure-Neg}
use Rattle.ft_measure.specs.laws.Layers.{measure-Two, slope-Two}
use Rattle.ft_build.specs.meaning.Conditions.{cond_of, is_one, name_cond}
use Rattle.ft_build.specs.meaning.Terms.{folded, kept, name_term, negated, operator_value, term_of, truth_value, value_of}
use Rattle.ft_build.specs.laws.Terms.{term-Num, term-Name, term-Truth, term-Prev, term-Age, term-Not, term-Neg, term-Two, cond-Num}
use Rattle.ft_build.specs.laws.Terms.{cond-Name, cond-Truth, cond-Prev, cond-Age, cond-Not, cond-Neg, cond-Two, value-Num, value-Name}
use Rattle.ft_build.specs.laws.Terms.{value-Truth, value-Prev, value-Age, value-Not, value-Neg, value-Two}
use Rattle.ft_admit.proofs.terms.Clean.{IsClean, clean_induction, is-linear, is-what-is-asked}
use Rattle.ft_admit.proofs.terms.Cards.{AreThere}
use Rattle.ft_admit.proofs.terms.Compose.{Composes, conds-pass, truth-passes}
use Rattle.ft_admit.proofs.terms.Known.{IsKnown, age-known, constant-known, joined-value, name-known, negation-known, nothing-known}
use Rattle.ft_admit.proofs.terms.Known.{prev-known, two-known}
use Rattle.ft_admit.proofs.terms.Fits.{TermFits, age-fits, constant-fits, fold-fits, name-fits, neg-fits, other-fits, prev-fits, two-fits}
use Rattle.ft_admit.proofs.terms.Fits.{zero-fits}
use Rattle.ft_admit.proofs.terms.Leaves.{few-terms, longer-not, longer-two}

no-why : (place : Place) (why : Option Why) (size : Option ℕ) → slope_at place why size ≡ None → why ≡ None
no-why place None size e = refl
no-why place (Some why) size e = cc e

short-term : (t : Term) → leaves t ≤ 2000 → is_factored t ≡ true → is_short_term t ≡ true
short-term t h k = and_from (nat_le (leaves t) 2000) (is_factored t) (le-leb (leaves t) 2000 h) k

truth-small : (b : Bool) → unsigned_abs (truth_value b) ≤ 1000000000000000
truth-small true = omega arith
truth-small false = omega arith

short-number : (z : ℤ) → is_short_term (term.Num z) ≡ true
short-number z = short-term (term.Num z) (subst (λ n. n ≤ 2000) (sym (leaves-Num z)) (omega arith)) (factored-Num z)

lengths-compose : Composes is_short is_short_term
lengths-compose = record {
  yes = short-Yes;
  no = short-No;
  compare = λ r s t h k. short-Compare r s t ∙ and_from (is_short_term s) (is_short_term t) h k;
  negated = λ a h. short-Not a ∙ h;
  both = λ a b h k. short-And a b ∙ and_from (is_short a) (is_short b) h k;
  either = λ a b h k. short-Or a b ∙ and_from (is_short a) (is_short b) h k;
}

module _ (env : Env) where
  kind-Num : (value : ℕ) (place : Place) → kind_of env (Num value place) ≡ Number
  unfolding kind_of
  kind-Num value place = ap (layer_kind env) (out-Num value place)

  kind-Name : (name : List ℕ) (place : Place) → kind_of env (Name name place) ≡ card_kind (env name)
  unfolding kind_of
  kind-Name name place = ap (layer_kind env) (out-Name name place)

  kind-Truth : (value : Bool) (place : Place) → kind_of env (Truth value place) ≡ Truths
  unfolding kind_of
  kind-Truth value place = ap (layer_kind env) (out-Truth value place)

  kind-Prev : (name : List ℕ) (place : Place)
      → kind_of env (Prev name place) ≡ (if is_variable (env name) then card_kind (env name) else Nothing)
  unfolding kind_of
  kind-Prev name place = ap (layer_kind env) (out-Prev name place)

  kind-Age : (name : List ℕ) (place : Place) → kind_of env (Age name place) ≡ (if is_timer (env name) then Number else Nothing)
  unfolding kind_of
  kind-Age name place = ap (layer_kind env) (out-Age name place)

  kind-Not : (of : Expr) (place : Place) → kind_of env (Not of place) ≡ Condition
  unfolding kind_of
  kind-Not of place = ap (layer_kind env) (out-Not of place)

  kind-Neg : (of : Expr) (place : Place) → kind_of env (Neg of place) ≡ Number
  unfolding kind_of
  kind-Neg of place = ap (layer_kind env) (out-Neg of place)

  kind-Two : (o : Op) (left right : Expr) (place : Place) → kind_of env (Two o left right place) ≡ op_kind o
  unfolding kind_of
  kind-Two o left right place = ap (layer_kind env) (out-Two o left right place)

module _ (bounds : ValuesBounded) (linear : LinearIsSmall) (env : Env) (vars : List Var) (memories : List Memory)
    (there : AreThere env vars memories) (s : Site) where
  sizes-compose : Composes (is_sized vars memories) (is_sized_term vars memories)
  sizes-compose = record {
    yes = sized-Yes vars memories;
    no = sized-No vars memories;
    compare = λ r x y h k. sized-Compare vars memories r x y ∙ and_from (is_sized_term vars memories x) (is_sized_term vars memories y) h k;
    negated = λ a h. sized-Not vars memories a ∙ h;
    both = λ a b h k. sized-And vars memories a b ∙ and_from (is_sized vars memories a) (is_sized vars memories b) h k;
    either = λ a b h k. sized-Or vars memories a b ∙ and_from (is_sized vars memories a) (is_sized vars memories b) h k;
  }

  small-number : (z : ℤ) → unsigned_abs z ≤ 1000000000000000 → is_sized_term vars memories (term.Num z) ≡ true
  small-number z h = small-Num vars memories z ∙ le-leb (unsigned_abs z) 1000000000000000 h

  -- Sized, with the value that is found; the condition is short where the expression is.
  pub record IsSized (e : Expr) : Type 0 where
    pub known : IsKnown (measure env e) (value_of env e)
    pub fits : TermFits vars memories (measure env e) (is_kind (kind_of env e) Number) (term_of env e)
    pub sized : is_sized vars memories (cond_of env e) ≡ true
    pub short : length (expr_pieces e) ≤ 1000 → is_short (cond_of env e) ≡ true

  known-by : (e : Expr) (m : Measure) (v : Option ℤ) → measure env e ≡ m → value_of env e ≡ v → IsKnown m v
      → IsKnown (measure env e) (value_of env e)
  known-by e m v em ev h = subst (λ (x : Measure). IsKnown x (value_of env e)) (sym em) (subst (IsKnown m) (sym ev) h)

  fits-by : (e : Expr) (m : Measure) (k : ExprKind) (t : Term) → measure env e ≡ m → kind_of env e ≡ k → term_of env e ≡ t
      → TermFits vars memories m (is_kind k Number) t
      → TermFits vars memories (measure env e) (is_kind (kind_of env e) Number) (term_of env e)
  fits-by e m k t em ek et h =
      subst (λ (x : Measure). TermFits vars memories x (is_kind (kind_of env e) Number) (term_of env e)) (sym em)
      (subst (λ (x : ExprKind). TermFits vars memories m (is_kind x Number) (term_of env e)) (sym ek)
      (subst (TermFits vars memories m (is_kind k Number)) (sym et) h))

  small-by : (e : Expr) (m : Measure) (asked : Asked) → measure env e ≡ m → IsClean env s asked e → IsSmall m
  small-by e m asked em c = subst IsSmall em (linear env asked e c.slopes)

  bounded-by : (e : Expr) (m : Measure) → measure env e ≡ m → IsBounded m
  bounded-by e m em = subst IsBounded em (bounds env e)

  sized-by : (c d : Cond) → c ≡ d → is_sized vars memories d ≡ true → is_sized vars memories c ≡ true
  sized-by c d e h = ap (is_sized vars memories) e ∙ h

  short-by : (c d : Cond) → c ≡ d → is_short d ≡ true → is_short c ≡ true
  short-by c d e h = ap is_short e ∙ h

  one-sized : (t : Term) → is_sized_term vars memories t ≡ true → is_sized vars memories (is_one t) ≡ true
  one-sized t h = sizes-compose.compare _ t (term.Num (pos 1)) h (small-number (pos 1) (omega arith))

  one-short : (t : Term) → is_short_term t ≡ true → is_short (is_one t) ≡ true
  one-short t h = lengths-compose.compare _ t (term.Num (pos 1)) h (short-number (pos 1))

  -- what spells no condition
  none-sized : (e : Expr) → cond_of env e ≡ cond.No → is_sized vars memories (cond_of env e) ≡ true
  none-sized e is = sized-by _ _ is (sized-No vars memories)

  none-short : (e : Expr) → cond_of env e ≡ cond.No → length (expr_pieces e) ≤ 1000 → is_short (cond_of env e) ≡ true
  none-short e is few = short-by _ _ is short-No

  -- the term of an expression of few tokens is short
  pub term-short : (e : Expr) → length (expr_pieces e) ≤ 1000 → is_factored (term_of env e) ≡ true → is_short_term (term_of env e) ≡ true
  term-short e few factored =
      let least = few-terms env e in
      short-term (term_of env e) (omega (arith, least, few)) factored

  name-conds : (name : List ℕ) (c : Option Card) → env name ≡ c
      → TermFits vars memories (of_name c) (is_kind (card_kind c) Number) (name_term c)
      → (is_sized vars memories (name_cond c) ≡ true) × (is_short (name_cond c) ≡ true)
  name-conds name None e h = (sized-No vars memories, short-No)
  name-conds name (Some (card.Constant value)) e h = (sized-No vars memories, short-No)
  name-conds name (Some (card.TypeName values)) e h = (sized-No vars memories, short-No)
  name-conds name (Some (card.Member item position)) e h = (sized-No vars memories, short-No)
  name-conds name (Some (card.Variable place w values)) e h = (
    one-sized (term.Now place) h.small,
    one-short (term.Now place) (short-term (term.Now place) (subst (λ n. n ≤ 2000) (sym (leaves-Now place)) (omega arith)) h.factored),
  )
  name-conds name (Some (card.Memory place w hold)) e h = (sized-Memory vars memories place, short-Memory place)
  name-conds name (Some (card.Block place)) e h = (sized-No vars memories, short-No)
  name-conds name (Some (card.Invariant block fact)) e h = (sized-No vars memories, short-No)

  of-number : (value : ℕ) (place : Place) (asked : Asked) → IsClean env s asked (Num value place) → IsSized (Num value place)
  of-number value place asked c =
      let small = small-by (Num value place) _ asked (measure-Num env value place) c in
      let bounded = bounded-by (Num value place) _ (measure-Num env value place) in
      let known = constant-known (pos value) small bounded in
      record {
        known = known-by (Num value place) _ _ (measure-Num env value place) (value-Num env value place) known;
        fits = fits-by (Num value place) _ _ _ (measure-Num env value place) (kind-Num env value place) (term-Num env value place)
            (number-fits known small);
        sized = none-sized (Num value place) (cond-Num env value place);
        short = none-short (Num value place) (cond-Num env value place);
      }
    where
      -- its value is known, so it stands for itself
      number-fits : IsKnown (of_constant (pos value)) (kept (pos value)) → IsSmall (of_constant (pos value))
          → TermFits vars memories (of_constant (pos value)) true (folded (kept (pos value)) (term.Num (pos 0)))
      number-fits known small =
          let (z, is) = known.constant refl in
          let same : z ≡ pos value = same-number z is small in
          subst (λ v. TermFits vars memories (of_constant (pos value)) true (folded v (term.Num (pos 0))))
          (sym (known.value ∙ is ∙ ap Some same))
          (constant-fits vars memories (pos value) true small.size)
        where
          same-number : (z : ℤ) → (of_constant (pos value)).value ≡ Some z → IsSmall (of_constant (pos value)) → z ≡ pos value
          same-number z is small = sym (same_Some (pos value) z (sym (joined-value true false (Some (pos value)) _ small) ∙ is))

  of-name : (name : List ℕ) (place : Place) (asked : Asked) → IsClean env s asked (Name name place) → IsSized (Name name place)
  of-name name place asked c =
      let small = small-by (Name name place) _ asked (measure-Name env name place) c in
      let bounded = bounded-by (Name name place) _ (measure-Name env name place) in
      let fits = name-fits vars memories env there name (env name) refl small.size in
      let conds = name-conds name (env name) refl fits in
      record {
        known = known-by (Name name place) _ _ (measure-Name env name place) (value-Name env name place)
            (name-known (env name) small bounded);
        fits = fits-by (Name name place) _ _ _ (measure-Name env name place) (kind-Name env name place) (term-Name env name place) fits;
        sized = sized-by _ _ (cond-Name env name place) conds.0;
        short = λ few. short-by _ _ (cond-Name env name place) conds.1;
      }

  of-truth : (value : Bool) (place : Place) → IsSized (Truth value place)
  of-truth value place = record {
    known = known-by (Truth value place) _ _ (measure-Truth env value place) (value-Truth env value place) nothing-known;
    fits = fits-by (Truth value place) _ _ _ (measure-Truth env value place) (kind-Truth env value place) (term-Truth env value place)
        (other-fits vars memories unmeasured (truth_value value) (truth-small value));
    sized = sized-by _ _ (cond-Truth env value place)
        (truth-passes (is_sized vars memories) (is_sized_term vars memories) sizes-compose value);
    short = λ few. short-by _ _ (cond-Truth env value place) (truth-passes is_short is_short_term lengths-compose value);
  }

  of-before : (name : List ℕ) (place : Place) (asked : Asked) → IsClean env s asked (Prev name place) → IsSized (Prev name place)
  of-before name place asked c =
      let small = small-by (Prev name place) _ asked (measure-Prev env name place) c in
      let fits = prev-fits vars memories env there name (env name) refl small.size in
      let whole = fits-by (Prev name place) _ _ _ (measure-Prev env name place) (kind-Prev env name place)
      (term-Prev env name place) fits in
      let is : cond_of env (Prev name place) ≡ is_one (term_of env (Prev name place)) =
      cond-Prev env name place ∙ ap is_one (sym (term-Prev env name place)) in
      record {
        known = known-by (Prev name place) _ _ (measure-Prev env name place) (value-Prev env name place) (prev-known (env name) small);
        fits = whole;
        sized = sized-by _ _ is (one-sized (term_of env (Prev name place)) whole.small);
        short = λ few. short-by _ _ is (one-short (term_of env (Prev name place)) (term-short (Prev name place) few whole.factored));
      }

  of-aged : (name : List ℕ) (place : Place) (asked : Asked) → IsClean env s asked (Age name place) → IsSized (Age name place)
  of-aged name place asked c =
      let small = small-by (Age name place) _ asked (measure-Age env name place) c in
      record {
        known = known-by (Age name place) _ _ (measure-Age env name place) (value-Age env name place) (age-known (env name) small);
        fits = fits-by (Age name place) _ _ _ (measure-Age env name place) (kind-Age env name place) (term-Age env name place)
            (age-fits vars memories env there name (env name) refl small.size);
        sized = none-sized (Age name place) (cond-Age env name place);
        short = none-short (Age name place) (cond-Age env name place);
      }

  of-denied : (of : Expr) (place : Place) → IsSized of → IsSized (Not of place)
  of-denied of place h = record {
    known = known-by (Not of place) _ _ (measure-Not env of place) (value-Not env of place) nothing-known;
    fits = fits-by (Not of place) _ _ _ (measure-Not env of place) (kind-Not env of place) (term-Not env of place)
        (zero-fits vars memories unmeasured);
    sized = sized-by _ _ (cond-Not env of place) (sizes-compose.negated (cond_of env of) h.sized);
    short = λ few.
        let longer = longer-not of place in
        short-by _ _ (cond-Not env of place) (lengths-compose.negated (cond_of env of) (h.short (omega (arith, longer, few))));
  }

  of-negated : (of : Expr) (place : Place) (asked : Asked) → IsClean env s asked (Neg of place) → IsClean env s (asking.Term Number) of
      → IsSized of → IsSized (Neg of place)
  of-negated of place asked c inner h =
      let small = small-by (Neg of place) _ asked (measure-Neg env of place) c in
      let bounded = bounded-by (Neg of place) _ (measure-Neg env of place) in
      let known = negation-known (measure env of) (value_of env of) small bounded h.known in
      let number = is-what-is-asked env s (asking.Term Number) of inner in
      let part = subst (λ b. TermFits vars memories (measure env of) b (term_of env of)) number h.fits in
      record {
        known = known-by (Neg of place) _ _ (measure-Neg env of place) (value-Neg env of place) known;
        fits = fits-by (Neg of place) _ _ _ (measure-Neg env of place) (kind-Neg env of place) (term-Neg env of place)
            (fold-fits vars memories (of_negation (measure env of)) true (negated (value_of env of)) (term.Neg (term_of env of))
            bounded known.value
            (neg-fits vars memories (measure env of) (term_of env of) (linear env (asking.Term Number) of inner.slopes) part));
        sized = none-sized (Neg of place) (cond-Neg env of place);
        short = none-short (Neg of place) (cond-Neg env of place);
      }

  of-two : (o : Op) (left right : Expr) (place : Place) (asked : Asked) → IsClean env s asked (Two o left right place)
      → IsClean env s (operands o) left → IsClean env s (operands o) right → IsSized left → IsSized right
      → IsSized (Two o left right place)
  of-two o left right place asked c first second h k =
      let small = small-by (Two o left right place) _ asked (measure-Two env o left right place) c in
      let bounded = bounded-by (Two o left right place) _ (measure-Two env o left right place) in
      let right-operator : operator_fault o (measure env left) (measure env right) ≡ None =
      no-why place (operator_fault o (measure env left) (measure env right)) _
      (sym (slope-Two env o left right place) ∙ is-linear env s asked (Two o left right place) c) in
      let known = two-known o (measure env left) (measure env right) (value_of env left) (value_of env right) right-operator small bounded
      h.known k.known in
      let fits = two-fits vars memories o (kind_of env left) (kind_of env right) (measure env left) (measure env right) (value_of env left)
      (value_of env right) (term_of env left) (term_of env right) (is-what-is-asked env s (operands o) left first)
      (is-what-is-asked env s (operands o) right second) (linear env (operands o) left first.slopes)
      (linear env (operands o) right second.slopes) h.known k.known (bounds env left) h.fits k.fits right-operator small in
      let longer = longer-two o left right place in
      record {
        known = known-by (Two o left right place) _ _ (measure-Two env o left right place) (value-Two env o left right place) known;
        fits = fits-by (Two o left right place) _ _ _ (measure-Two env o left right place) (kind-Two env o left right place)
            (term-Two env o left right place)
            (fold-fits vars memories (of_operator o (measure env left) (measure env right)) (is_kind (op_kind o) Number)
            (operator_value o (value_of env left) (value_of env right)) _ bounded known.value fits);
        sized = sized-by _ _ (cond-Two env o left right place)
            (conds-pass (is_sized vars memories) (is_sized_term vars memories) sizes-compose o (cond_of env left) (cond_of env right)
            (term_of env left) (term_of env right) h.sized k.sized h.fits.small k.fits.small);
        short = λ few.
            let less : length (expr_pieces left) ≤ 1000 = omega (arith, longer, few) in
            let least : length (expr_pieces right) ≤ 1000 = omega (arith, longer, few) in
            short-by _ _ (cond-Two env o left right place)
            (conds-pass is_short is_short_term lengths-compose o (cond_of env left) (cond_of env right)
            (term_of env left) (term_of env right)
            (h.short less) (k.short least) (term-short left less h.fits.factored) (term-short right least k.fits.factored));
      }

  -- the term and the condition of a clean expression are sized, and short where the expression has few tokens
  pub sized-allowed : (e : Expr) (asked : Asked) → IsClean env s asked e → IsSized e
  sized-allowed = clean_induction env s IsSized (record {
    number = of-number;
    name = of-name;
    truth = of-truth;
    prev = of-before;
    aged = of-aged;
    denied = of-denied;
    negated = of-negated;
    two = of-two;
  })
