-- What is computed at a view that keeps the sizes of a set is small, and so are its parts.
use Rattle.std.proofs.Common.{◌≡◌, ◌∙◌, sym, ap, subst, ℕ, ◌*◌, ◌≤◌, ℤ, pos, ◌<ℤ◌, ◌+ℤ◌, ◌-ℤ◌, ◌*ℤ◌, neg_ℤ, Bool, true, false, not, ◌&&◌}
use Rattle.std.proofs.Common.{◌||◌, List, arith}
use Rattle.std.specs.Prelude.{IsTrue, unsigned_abs, nat_le, int_le}
use Rattle.std.proofs.lemmas.Int.{ints, unsigned_abs-mul}
use Rattle.std.proofs.lemmas.Bool.{and_parts}
use Rattle.std.proofs.Math.Nat.{mul-le-mul_left}
use Rattle.ft_base.specs.Division.{floor_of}
use Rattle.ft_core.specs.declared.tables.Var.{Var}
use Rattle.ft_core.specs.declared.tables.Memory.{Memory}
use Rattle.ft_core.specs.declared.term.Rel.{Rel}
use Rattle.ft_core.specs.declared.term.Term.{Term}
use Rattle.ft_core.specs.declared.term.Term.TheVariants.{Num, Now, Prev, Age, Neg, Add, Sub, Times, Div}
use Rattle.ft_core.specs.declared.term.Cond.{Cond}
use Rattle.ft_core.specs.declared.term.Cond.TheVariants.{Compare, Not, And, Or}
use Rattle.ft_core.specs.checked.Size.{size_of, is_sized_term, is_sized}
use Rattle.ft_core.specs.laws.Equations.{term_induction}
use Rattle.ft_core.specs.laws.SizeEquations.{size-Num, size-Now, size-Prev, size-Age, size-Neg, size-Add, size-Sub, size-Times, size-Div}
use Rattle.ft_core.specs.laws.SizeEquations.{small-Num, small-Now, small-Prev, small-Age, small-Neg, small-Add, small-Sub, small-Times}
use Rattle.ft_core.specs.laws.SizeEquations.{small-Div, sized-Compare, sized-Not, sized-And, sized-Or}
use Rattle.ft_mean.specs.meaning.Value.{View, value, truth, compares}
use Rattle.ft_mean.proofs.Agree.{value-Num, value-Now, value-Prev, value-Age, value-Neg, value-Add, value-Sub, value-Times, value-Div}
use Rattle.ft_mean.proofs.Agree.{truth-Compare, truth-Not, truth-And, truth-Or}
use Rattle.ft_mean.specs.judge.Safe.{KeepsSizes, IsSafeBy, IsSafe, IsSafeCond}
use Rattle.ft_mean.proofs.BoundLemmas.{abs-neg, abs-add, abs-sub, abs-div}

module _ (vars : List Var) (memories : List Memory) where
  small_neg : (e : Term) → IsTrue (is_sized_term vars memories (Neg e)) → IsTrue (is_sized_term vars memories e)
  small_neg e h = (and_parts (is_sized_term vars memories e) _ (sym (small-Neg vars memories e) ∙ h)).0

  small_add : (a b : Term) → IsTrue (is_sized_term vars memories (Add a b)) → IsTrue (is_sized_term vars memories a)
      × IsTrue (is_sized_term vars memories b)
  small_add a b h = and_parts (is_sized_term vars memories a) (is_sized_term vars memories b)
      (and_parts (is_sized_term vars memories a && is_sized_term vars memories b) _ (sym (small-Add vars memories a b) ∙ h)).0

  small_sub : (a b : Term) → IsTrue (is_sized_term vars memories (Sub a b)) → IsTrue (is_sized_term vars memories a)
      × IsTrue (is_sized_term vars memories b)
  small_sub a b h = and_parts (is_sized_term vars memories a) (is_sized_term vars memories b)
      (and_parts (is_sized_term vars memories a && is_sized_term vars memories b) _ (sym (small-Sub vars memories a b) ∙ h)).0

  small_times : (c : ℤ) (e : Term) → IsTrue (is_sized_term vars memories (Times c e)) → IsTrue (is_sized_term vars memories e)
  small_times c e h = (and_parts (is_sized_term vars memories e) _ (sym (small-Times vars memories c e) ∙ h)).0

  small_div : (e : Term) (k : ℤ) → IsTrue (is_sized_term vars memories (Div e k)) → IsTrue (is_sized_term vars memories e)
      × IsTrue (int_le (pos 1) k)
  small_div e k h = and_parts (is_sized_term vars memories e) (int_le (pos 1) k)
      (and_parts (is_sized_term vars memories e && int_le (pos 1) k) (int_le k (pos 1000000))
      (and_parts (is_sized_term vars memories e && int_le (pos 1) k && int_le k (pos 1000000)) _
      (sym (small-Div vars memories e k) ∙ h)).0).0

  module _ (V : View) (keeps : KeepsSizes vars memories V) where
    abbrev IsBelow : Term → Type 0
    IsBelow e = IsTrue (is_sized_term vars memories e) → unsigned_abs (value V e) ≤ size_of vars memories e

    at_size : (e : Term) (z : ℤ) (n : ℕ) → value V e ≡ z → size_of vars memories e ≡ n → unsigned_abs z ≤ n
        → unsigned_abs (value V e) ≤ size_of vars memories e
    at_size e z n is size below = subst (λ m. unsigned_abs (value V e) ≤ m) (sym size) (subst (λ y. unsigned_abs y ≤ n) (sym is) below)

    -- no value of a term is beyond its size
    pub below_size : (e : Term) → IsBelow e
    below_size = term_induction IsBelow (record {
      num = λ n h. at_size (Num n) n (unsigned_abs n) (value-Num V n) (size-Num vars memories n) (omega arith);
      now = λ x h. at_size (Now x) _ _ (value-Now V x) (size-Now vars memories x) (keeps.now x);
      prev = λ x h. at_size (Prev x) _ _ (value-Prev V x) (size-Prev vars memories x) (keeps.before x);
      aged = λ m h. at_size (Age m) _ _ (value-Age V m) (size-Age vars memories m) (keeps.age m);
      negated = λ e p h. at_size (Neg e) _ _ (value-Neg V e) (size-Neg vars memories e)
          (subst (λ n. n ≤ size_of vars memories e) (sym (abs-neg (value V e))) (p (small_neg e h)));
      added = λ a b p q h. let s = small_add a b h in
          at_size (Add a b) _ _ (value-Add V a b) (size-Add vars memories a b) (abs-add (value V a) (value V b) _ _ (p s.0) (q s.1));
      less = λ a b p q h. let s = small_sub a b h in
          at_size (Sub a b) _ _ (value-Sub V a b) (size-Sub vars memories a b) (abs-sub (value V a) (value V b) _ _ (p s.0) (q s.1));
      scaled = λ c e p h. at_size (Times c e) _ _ (value-Times V c e) (size-Times vars memories c e)
          (subst (λ n. n ≤ unsigned_abs c * size_of vars memories e) (sym (unsigned_abs-mul c (value V e)))
          (mul-le-mul_left (unsigned_abs c) (p (small_times c e h))));
      divided = λ e k p h. let s = small_div e k h in let low = abs-div (value V e) k s.1 in let high = p s.0 in
          at_size (Div e k) _ _ (value-Div V e k) (size-Div vars memories e k) (omega (arith, low, high));
    })

    abbrev IsLimited : Term → Type 0
    IsLimited e = IsTrue (is_sized_term vars memories e) → size_of vars memories e ≤ 1000000000000000

    limited : (e : Term) (n : ℕ) (b : Bool) → size_of vars memories e ≡ n → is_sized_term vars memories e ≡ (b && nat_le n 1000000000000000)
        → IsTrue (is_sized_term vars memories e) → size_of vars memories e ≤ 1000000000000000
    limited e n b size is h =
        let small : nat_le n 1000000000000000 ≡ true = (and_parts b (nat_le n 1000000000000000) (sym is ∙ h)).1 in
        subst (λ m. m ≤ 1000000000000000) (sym size) (grind (arith, small))

    pub size_limited : (e : Term) → IsLimited e
    size_limited = term_induction IsLimited (record {
      num = λ n h. limited (Num n) _ true (size-Num vars memories n) (small-Num vars memories n) h;
      now = λ x h. limited (Now x) _ true (size-Now vars memories x) (small-Now vars memories x) h;
      prev = λ x h. limited (Prev x) _ true (size-Prev vars memories x) (small-Prev vars memories x) h;
      aged = λ m h. limited (Age m) _ true (size-Age vars memories m) (small-Age vars memories m) h;
      negated = λ e p h. limited (Neg e) _ _ (size-Neg vars memories e) (small-Neg vars memories e) h;
      added = λ a b p q h. limited (Add a b) _ _ (size-Add vars memories a b) (small-Add vars memories a b) h;
      less = λ a b p q h. limited (Sub a b) _ _ (size-Sub vars memories a b) (small-Sub vars memories a b) h;
      scaled = λ c e p h. limited (Times c e) _ _ (size-Times vars memories c e) (small-Times vars memories c e) h;
      divided = λ e k p h. limited (Div e k) _ _ (size-Div vars memories e k) (small-Div vars memories e k) h;
    })

module _ (V : View) where
  pub safe_small : (e : Term) → IsSafe V e → unsigned_abs (value V e) ≤ 1000000000000000
  safe_small e s =
      let below = below_size s.vars s.memories V s.keeps e s.small in
      let top = size_limited s.vars s.memories V s.keeps e s.small in
      omega (arith, below, top)

  -- what is safe by one test is safe by another that follows from it
  pub safe_by : {test other : List Var → List Memory → Bool} → ((vars : List Var) (memories : List Memory) → IsTrue (test vars memories)
      → IsTrue (other vars memories))
      → IsSafeBy V test → IsSafeBy V other
  safe_by h s = record { vars = s.vars; memories = s.memories; keeps = s.keeps; small = h s.vars s.memories s.small }

  pub safe_neg : (e : Term) → IsSafe V (Neg e) → IsSafe V e
  safe_neg e = safe_by (λ vs ms h. small_neg vs ms e h)

  pub safe_add_left : (a b : Term) → IsSafe V (Add a b) → IsSafe V a
  safe_add_left a b = safe_by (λ vs ms h. (small_add vs ms a b h).0)

  pub safe_add_right : (a b : Term) → IsSafe V (Add a b) → IsSafe V b
  safe_add_right a b = safe_by (λ vs ms h. (small_add vs ms a b h).1)

  pub safe_sub_left : (a b : Term) → IsSafe V (Sub a b) → IsSafe V a
  safe_sub_left a b = safe_by (λ vs ms h. (small_sub vs ms a b h).0)

  pub safe_sub_right : (a b : Term) → IsSafe V (Sub a b) → IsSafe V b
  safe_sub_right a b = safe_by (λ vs ms h. (small_sub vs ms a b h).1)

  pub safe_times : (c : ℤ) (e : Term) → IsSafe V (Times c e) → IsSafe V e
  safe_times c e = safe_by (λ vs ms h. small_times vs ms c e h)

  pub safe_div : (e : Term) (k : ℤ) → IsSafe V (Div e k) → IsSafe V e
  safe_div e k = safe_by (λ vs ms h. (small_div vs ms e k h).0)

  pub safe_divisor : (e : Term) (k : ℤ) → IsSafe V (Div e k) → pos 0 <ℤ k
  safe_divisor e k s = positive k (small_div s.vars s.memories e k s.small).1
    where
      positive : (k : ℤ) → IsTrue (int_le (pos 1) k) → pos 0 <ℤ k
      positive k up = grind (arith, ints, up)

  pub safe_left : (r : Rel) (a b : Term) → IsSafeCond V (Compare r a b) → IsSafe V a
  safe_left r a b = safe_by (λ vs ms h. (and_parts (is_sized_term vs ms a) (is_sized_term vs ms b) (sym (sized-Compare vs ms r a b) ∙ h)).0)

  pub safe_right : (r : Rel) (a b : Term) → IsSafeCond V (Compare r a b) → IsSafe V b
  safe_right r a b = safe_by (λ vs ms h. (and_parts (is_sized_term vs ms a) (is_sized_term vs ms b)
      (sym (sized-Compare vs ms r a b) ∙ h)).1)

  pub safe_not : (a : Cond) → IsSafeCond V (Not a) → IsSafeCond V a
  safe_not a = safe_by (λ vs ms h. sym (sized-Not vs ms a) ∙ h)

  pub safe_and_left : (a b : Cond) → IsSafeCond V (And a b) → IsSafeCond V a
  safe_and_left a b = safe_by (λ vs ms h. (and_parts (is_sized vs ms a) (is_sized vs ms b) (sym (sized-And vs ms a b) ∙ h)).0)

  pub safe_and_right : (a b : Cond) → IsSafeCond V (And a b) → IsSafeCond V b
  safe_and_right a b = safe_by (λ vs ms h. (and_parts (is_sized vs ms a) (is_sized vs ms b) (sym (sized-And vs ms a b) ∙ h)).1)

  pub safe_or_left : (a b : Cond) → IsSafeCond V (Or a b) → IsSafeCond V a
  safe_or_left a b = safe_by (λ vs ms h. (and_parts (is_sized vs ms a) (is_sized vs ms b) (sym (sized-Or vs ms a b) ∙ h)).0)

  pub safe_or_right : (a b : Cond) → IsSafeCond V (Or a b) → IsSafeCond V b
  safe_or_right a b = safe_by (λ vs ms h. (and_parts (is_sized vs ms a) (is_sized vs ms b) (sym (sized-Or vs ms a b) ∙ h)).1)

  -- the same of what a part of a term was evaluated to
  pub part_small : (e part : Term) (z : ℤ) → part ≡ e → z ≡ value V part → IsSafe V e → unsigned_abs z ≤ 1000000000000000
  part_small e part z is value_is s = subst (λ y. unsigned_abs y ≤ 1000000000000000) (sym (value_is ∙ ap (value V) is)) (safe_small e s)

  pub product_small : (c : ℤ) (e part : Term) (z : ℤ) → part ≡ e → z ≡ value V part → IsSafe V (Times c e)
      → unsigned_abs (c *ℤ z) ≤ 1000000000000000
  product_small c e part z is value_is s =
      subst (λ y. unsigned_abs y ≤ 1000000000000000) (value-Times V c e ∙ ap (λ y. c *ℤ y) (sym (value_is ∙ ap (value V) is)))
      (safe_small (Times c e) s)

  pub neg_value : (term e part : Term) (z r : ℤ) → term ≡ Neg e → part ≡ e → z ≡ value V part → r ≡ neg_ℤ z → r ≡ value V term
  neg_value term e part z r whole is value_is result = result ∙ ap neg_ℤ (value_is ∙ ap (value V) is) ∙ sym (value-Neg V e)
      ∙ ap (value V) (sym whole)

  pub add_value : (term a b left right : Term) (y z r : ℤ) → term ≡ Add a b → left ≡ a → right ≡ b → y ≡ value V left → z ≡ value V right
      → r ≡ (y +ℤ z) → r ≡ value V term
  add_value term a b left right y z r whole is_left is_right left_value right_value result =
      let l = left_value ∙ ap (value V) is_left in let m = right_value ∙ ap (value V) is_right in
      result ∙ (λ i. l i +ℤ m i) ∙ sym (value-Add V a b) ∙ ap (value V) (sym whole)

  pub sub_value : (term a b left right : Term) (y z r : ℤ) → term ≡ Sub a b → left ≡ a → right ≡ b → y ≡ value V left → z ≡ value V right
      → r ≡ (y -ℤ z) → r ≡ value V term
  sub_value term a b left right y z r whole is_left is_right left_value right_value result =
      let l = left_value ∙ ap (value V) is_left in let m = right_value ∙ ap (value V) is_right in
      result ∙ (λ i. l i -ℤ m i) ∙ sym (value-Sub V a b) ∙ ap (value V) (sym whole)

  pub times_value : (term e part : Term) (c z r : ℤ) → term ≡ Times c e → part ≡ e → z ≡ value V part → r ≡ (c *ℤ z) → r ≡ value V term
  times_value term e part c z r whole is value_is result =
      result ∙ ap (λ y. c *ℤ y) (value_is ∙ ap (value V) is) ∙ sym (value-Times V c e) ∙ ap (value V) (sym whole)

  pub div_value : (term e part : Term) (k z r : ℤ) → term ≡ Div e k → part ≡ e → z ≡ value V part → r ≡ floor_of z k → r ≡ value V term
  div_value term e part k z r whole is value_is result =
      result ∙ ap (λ y. floor_of y k) (value_is ∙ ap (value V) is) ∙ sym (value-Div V e k) ∙ ap (value V) (sym whole)

  pub compare_truth : (c : Cond) (r : Rel) (a b : Term) (y z : ℤ) (t : Bool) → c ≡ Compare r a b → y ≡ value V a → z ≡ value V b → t
      ≡ compares r y z → t ≡ truth V c
  compare_truth c r a b y z t whole left right result = result ∙ (λ i. compares r (left i) (right i)) ∙ sym (truth-Compare V r a b)
      ∙ ap (truth V) (sym whole)

  pub not_truth : (c a part : Cond) (t : Bool) → c ≡ Not a → part ≡ a → t ≡ truth V part → not t ≡ truth V c
  not_truth c a part t whole is result = ap not (result ∙ ap (truth V) is) ∙ sym (truth-Not V a) ∙ ap (truth V) (sym whole)

  -- where the left part is true, both are as the right one; where it is false, they are false
  pub and_truth : (c a b left right : Cond) (t u : Bool) → c ≡ And a b → left ≡ a → right ≡ b → t ≡ truth V left → t ≡ true → u
      ≡ truth V right → u ≡ truth V c
  and_truth c a b left right t u whole is_left is_right first is_true second =
      second ∙ ap (truth V) is_right ∙ ap (λ p. p && truth V b) (sym is_true ∙ first ∙ ap (truth V) is_left) ∙ sym (truth-And V a b)
      ∙ ap (truth V) (sym whole)

  pub and_false : (c a b left : Cond) (t : Bool) → c ≡ And a b → left ≡ a → t ≡ truth V left → t ≡ false → false ≡ truth V c
  and_false c a b left t whole is_left first is_false = ap (λ p. p && truth V b) (sym is_false ∙ first ∙ ap (truth V) is_left)
      ∙ sym (truth-And V a b) ∙ ap (truth V) (sym whole)

  pub or_truth : (c a b left right : Cond) (t u : Bool) → c ≡ Or a b → left ≡ a → right ≡ b → t ≡ truth V left → t ≡ false → u
      ≡ truth V right → u ≡ truth V c
  or_truth c a b left right t u whole is_left is_right first is_false second =
      second ∙ ap (truth V) is_right ∙ ap (λ p. p || truth V b) (sym is_false ∙ first ∙ ap (truth V) is_left) ∙ sym (truth-Or V a b)
      ∙ ap (truth V) (sym whole)

  pub or_true : (c a b left : Cond) (t : Bool) → c ≡ Or a b → left ≡ a → t ≡ truth V left → t ≡ true → true ≡ truth V c
  or_true c a b left t whole is_left first is_true = ap (λ p. p || truth V b) (sym is_true ∙ first ∙ ap (truth V) is_left)
      ∙ sym (truth-Or V a b) ∙ ap (truth V) (sym whole)
