-- The size and the length of a term and of a condition by those of their parts.
use Rattle.std.proofs.Common.{◌≡◌, ap, ℕ, ◌+◌, ◌*◌, ℤ, pos, Bool, true, ◌&&◌, List, slice_get}
use Rattle.std.specs.Prelude.{unsigned_abs, nat_le, int_le}
use Rattle.ft_core.specs.declared.tables.Var.{Var}
use Rattle.ft_core.specs.declared.tables.Memory.{Memory}
use Rattle.ft_core.specs.declared.term.Rel.{Rel}
use Rattle.ft_core.specs.declared.term.Term.{Term, Term-F, map-Term, roll-Term}
use Rattle.ft_core.specs.declared.term.Term.TheOpen as tl
use Rattle.ft_core.specs.declared.term.Term.TheVariants.{Num, Now, Prev, Age, Neg, Add, Sub, Times, Div, rolls-Num, rolls-Now, rolls-Prev}
use Rattle.ft_core.specs.declared.term.Term.TheVariants.{rolls-Age, rolls-Neg, rolls-Add, rolls-Sub, rolls-Times, rolls-Div}
use Rattle.ft_core.specs.declared.term.Cond.{Cond, Cond-F, map-Cond, roll-Cond}
use Rattle.ft_core.specs.declared.term.Cond.TheOpen as cl
use Rattle.ft_core.specs.declared.term.Cond.TheVariants.{Yes, No, Compare, Memory as Recalled, Not, And, Or, rolls-Yes, rolls-No}
use Rattle.ft_core.specs.declared.term.Cond.TheVariants.{rolls-Compare, rolls-Memory, rolls-Not, rolls-And, rolls-Or}
use Rattle.ft_core.specs.checked.Size.{Measure, measure, layer_measure, size_of, var_size, age_size, is_sized_term, is_sized, layer_sized}
use Rattle.ft_core.specs.checked.Short.{leaves, layer_leaves, is_factored, layer_factored, is_short_term, is_short, layer_short}
use Rattle.ft_core.specs.laws.Equations.{term_folds, cond_folds}

module _ (vars : List Var) (memories : List Memory) where
  measure-rolled : (t : Term) (a_layer : Term-F Term) → roll-Term a_layer ≡ t
      → measure vars memories t ≡ layer_measure vars memories (map-Term Term Measure (measure vars memories) a_layer)
  unfolding measure
  measure-rolled = term_folds Measure (layer_measure vars memories)

  sized-rolled : (c : Cond) (a_layer : Cond-F Cond) → roll-Cond a_layer ≡ c
      → is_sized vars memories c ≡ layer_sized vars memories (map-Cond Cond Bool (is_sized vars memories) a_layer)
  unfolding is_sized
  sized-rolled = cond_folds Bool (layer_sized vars memories)

  pub size-Num : (n : ℤ) → size_of vars memories (Num n) ≡ unsigned_abs n
  size-Num n = ap (λ (m : Measure). m.size) (measure-rolled _ (tl.Num n) (rolls-Num n))

  pub small-Num : (n : ℤ) → is_sized_term vars memories (Num n)
      ≡ nat_le (unsigned_abs n) 1000000000000000
  small-Num n = ap (λ (m : Measure). m.small) (measure-rolled _ (tl.Num n) (rolls-Num n))

  pub size-Now : (x : ℕ) → size_of vars memories (Now x) ≡ var_size (slice_get vars x)
  size-Now x = ap (λ (m : Measure). m.size) (measure-rolled _ (tl.Now x) (rolls-Now x))

  pub small-Now : (x : ℕ) → is_sized_term vars memories (Now x)
      ≡ nat_le (var_size (slice_get vars x)) 1000000000000000
  small-Now x = ap (λ (m : Measure). m.small) (measure-rolled _ (tl.Now x) (rolls-Now x))

  pub size-Prev : (x : ℕ) → size_of vars memories (Prev x) ≡ var_size (slice_get vars x)
  size-Prev x = ap (λ (m : Measure). m.size) (measure-rolled _ (tl.Prev x) (rolls-Prev x))

  pub small-Prev : (x : ℕ) → is_sized_term vars memories (Prev x)
      ≡ nat_le (var_size (slice_get vars x)) 1000000000000000
  small-Prev x = ap (λ (m : Measure). m.small) (measure-rolled _ (tl.Prev x) (rolls-Prev x))

  pub size-Age : (m : ℕ) → size_of vars memories (Age m) ≡ age_size (slice_get memories m)
  size-Age m = ap (λ (m : Measure). m.size) (measure-rolled _ (tl.Age m) (rolls-Age m))

  pub small-Age : (m : ℕ) → is_sized_term vars memories (Age m)
      ≡ nat_le (age_size (slice_get memories m)) 1000000000000000
  small-Age m = ap (λ (m : Measure). m.small) (measure-rolled _ (tl.Age m) (rolls-Age m))

  pub size-Neg : (e : Term) → size_of vars memories (Neg e) ≡ size_of vars memories e
  size-Neg e = ap (λ (m : Measure). m.size) (measure-rolled _ (tl.Neg e) (rolls-Neg e))

  pub small-Neg : (e : Term) → is_sized_term vars memories (Neg e)
      ≡ (is_sized_term vars memories e && nat_le (size_of vars memories e) 1000000000000000)
  small-Neg e = ap (λ (m : Measure). m.small) (measure-rolled _ (tl.Neg e) (rolls-Neg e))

  pub size-Add : (a b : Term) → size_of vars memories (Add a b) ≡ size_of vars memories a + size_of vars memories b
  size-Add a b = ap (λ (m : Measure). m.size) (measure-rolled _ (tl.Add a b) (rolls-Add a b))

  pub small-Add : (a b : Term) → is_sized_term vars memories (Add a b)
      ≡ ((is_sized_term vars memories a && is_sized_term vars memories b)
      && nat_le (size_of vars memories a + size_of vars memories b) 1000000000000000)
  small-Add a b = ap (λ (m : Measure). m.small) (measure-rolled _ (tl.Add a b) (rolls-Add a b))

  pub size-Sub : (a b : Term) → size_of vars memories (Sub a b) ≡ size_of vars memories a + size_of vars memories b
  size-Sub a b = ap (λ (m : Measure). m.size) (measure-rolled _ (tl.Sub a b) (rolls-Sub a b))

  pub small-Sub : (a b : Term) → is_sized_term vars memories (Sub a b)
      ≡ ((is_sized_term vars memories a && is_sized_term vars memories b)
      && nat_le (size_of vars memories a + size_of vars memories b) 1000000000000000)
  small-Sub a b = ap (λ (m : Measure). m.small) (measure-rolled _ (tl.Sub a b) (rolls-Sub a b))

  pub size-Times : (c : ℤ) (e : Term) → size_of vars memories (Times c e) ≡ unsigned_abs c * size_of vars memories e
  size-Times c e = ap (λ (m : Measure). m.size) (measure-rolled _ (tl.Times c e) (rolls-Times c e))

  pub small-Times : (c : ℤ) (e : Term) → is_sized_term vars memories (Times c e)
      ≡ (is_sized_term vars memories e && nat_le (unsigned_abs c * size_of vars memories e) 1000000000000000)
  small-Times c e = ap (λ (m : Measure). m.small) (measure-rolled _ (tl.Times c e) (rolls-Times c e))

  pub size-Div : (e : Term) (k : ℤ) → size_of vars memories (Div e k) ≡ size_of vars memories e
  size-Div e k = ap (λ (m : Measure). m.size) (measure-rolled _ (tl.Div e k) (rolls-Div e k))

  pub small-Div : (e : Term) (k : ℤ) → is_sized_term vars memories (Div e k)
      ≡ ((is_sized_term vars memories e && int_le (pos 1) k && int_le k (pos 1000000)) && nat_le (size_of vars memories e) 1000000000000000)
  small-Div e k = ap (λ (m : Measure). m.small) (measure-rolled _ (tl.Div e k) (rolls-Div e k))

  pub sized-Yes : is_sized vars memories Yes ≡ true
  sized-Yes = sized-rolled _ cl.Yes rolls-Yes

  pub sized-No : is_sized vars memories No ≡ true
  sized-No = sized-rolled _ cl.No rolls-No

  pub sized-Compare : (r : Rel) (a b : Term) → is_sized vars memories (Compare r a b)
      ≡ (is_sized_term vars memories a && is_sized_term vars memories b)
  sized-Compare r a b = sized-rolled _ (cl.Compare r a b) (rolls-Compare r a b)

  pub sized-Memory : (m : ℕ) → is_sized vars memories (Recalled m) ≡ true
  sized-Memory m = sized-rolled _ (cl.Memory m) (rolls-Memory m)

  pub sized-Not : (a : Cond) → is_sized vars memories (Not a) ≡ is_sized vars memories a
  sized-Not a = sized-rolled _ (cl.Not a) (rolls-Not a)

  pub sized-And : (a b : Cond) → is_sized vars memories (And a b) ≡ (is_sized vars memories a && is_sized vars memories b)
  sized-And a b = sized-rolled _ (cl.And a b) (rolls-And a b)

  pub sized-Or : (a b : Cond) → is_sized vars memories (Or a b) ≡ (is_sized vars memories a && is_sized vars memories b)
  sized-Or a b = sized-rolled _ (cl.Or a b) (rolls-Or a b)

leaves-rolled : (t : Term) (a_layer : Term-F Term) → roll-Term a_layer ≡ t → leaves t ≡ layer_leaves (map-Term Term ℕ leaves a_layer)
unfolding leaves
leaves-rolled = term_folds ℕ layer_leaves

factored-rolled : (t : Term) (a_layer : Term-F Term) → roll-Term a_layer ≡ t → is_factored t
    ≡ layer_factored (map-Term Term Bool is_factored a_layer)
unfolding is_factored
factored-rolled = term_folds Bool layer_factored

short-rolled : (c : Cond) (a_layer : Cond-F Cond) → roll-Cond a_layer ≡ c → is_short c ≡ layer_short (map-Cond Cond Bool is_short a_layer)
unfolding is_short
short-rolled = cond_folds Bool layer_short

pub leaves-Num : (n : ℤ) → leaves (Num n) ≡ 1
leaves-Num n = leaves-rolled _ (tl.Num n) (rolls-Num n)

pub leaves-Now : (x : ℕ) → leaves (Now x) ≡ 1
leaves-Now x = leaves-rolled _ (tl.Now x) (rolls-Now x)

pub leaves-Prev : (x : ℕ) → leaves (Prev x) ≡ 1
leaves-Prev x = leaves-rolled _ (tl.Prev x) (rolls-Prev x)

pub leaves-Age : (m : ℕ) → leaves (Age m) ≡ 1
leaves-Age m = leaves-rolled _ (tl.Age m) (rolls-Age m)

pub leaves-Neg : (e : Term) → leaves (Neg e) ≡ leaves e
leaves-Neg e = leaves-rolled _ (tl.Neg e) (rolls-Neg e)

pub leaves-Add : (a b : Term) → leaves (Add a b) ≡ leaves a + leaves b
leaves-Add a b = leaves-rolled _ (tl.Add a b) (rolls-Add a b)

pub leaves-Sub : (a b : Term) → leaves (Sub a b) ≡ leaves a + leaves b
leaves-Sub a b = leaves-rolled _ (tl.Sub a b) (rolls-Sub a b)

pub leaves-Times : (c : ℤ) (e : Term) → leaves (Times c e) ≡ leaves e
leaves-Times c e = leaves-rolled _ (tl.Times c e) (rolls-Times c e)

pub leaves-Div : (e : Term) (k : ℤ) → leaves (Div e k) ≡ leaves e
leaves-Div e k = leaves-rolled _ (tl.Div e k) (rolls-Div e k)

pub factored-Num : (n : ℤ) → is_factored (Num n) ≡ true
factored-Num n = factored-rolled _ (tl.Num n) (rolls-Num n)

pub factored-Now : (x : ℕ) → is_factored (Now x) ≡ true
factored-Now x = factored-rolled _ (tl.Now x) (rolls-Now x)

pub factored-Prev : (x : ℕ) → is_factored (Prev x) ≡ true
factored-Prev x = factored-rolled _ (tl.Prev x) (rolls-Prev x)

pub factored-Age : (m : ℕ) → is_factored (Age m) ≡ true
factored-Age m = factored-rolled _ (tl.Age m) (rolls-Age m)

pub factored-Neg : (e : Term) → is_factored (Neg e) ≡ is_factored e
factored-Neg e = factored-rolled _ (tl.Neg e) (rolls-Neg e)

pub factored-Add : (a b : Term) → is_factored (Add a b) ≡ (is_factored a && is_factored b)
factored-Add a b = factored-rolled _ (tl.Add a b) (rolls-Add a b)

pub factored-Sub : (a b : Term) → is_factored (Sub a b) ≡ (is_factored a && is_factored b)
factored-Sub a b = factored-rolled _ (tl.Sub a b) (rolls-Sub a b)

pub factored-Times : (c : ℤ) (e : Term) → is_factored (Times c e) ≡ (nat_le (unsigned_abs c) 1000000 && is_factored e)
factored-Times c e = factored-rolled _ (tl.Times c e) (rolls-Times c e)

pub factored-Div : (e : Term) (k : ℤ) → is_factored (Div e k) ≡ (is_factored e && int_le (pos 1) k && int_le k (pos 1000000))
factored-Div e k = factored-rolled _ (tl.Div e k) (rolls-Div e k)

pub short-Yes : is_short Yes ≡ true
short-Yes = short-rolled _ cl.Yes rolls-Yes

pub short-No : is_short No ≡ true
short-No = short-rolled _ cl.No rolls-No

pub short-Compare : (r : Rel) (a b : Term) → is_short (Compare r a b) ≡ (is_short_term a && is_short_term b)
short-Compare r a b = short-rolled _ (cl.Compare r a b) (rolls-Compare r a b)

pub short-Memory : (m : ℕ) → is_short (Recalled m) ≡ true
short-Memory m = short-rolled _ (cl.Memory m) (rolls-Memory m)

pub short-Not : (a : Cond) → is_short (Not a) ≡ is_short a
short-Not a = short-rolled _ (cl.Not a) (rolls-Not a)

pub short-And : (a b : Cond) → is_short (And a b) ≡ (is_short a && is_short b)
short-And a b = short-rolled _ (cl.And a b) (rolls-And a b)

pub short-Or : (a b : Cond) → is_short (Or a b) ≡ (is_short a && is_short b)
short-Or a b = short-rolled _ (cl.Or a b) (rolls-Or a b)

pub ruleset sizes = (
  size-Num,
  size-Now,
  size-Prev,
  size-Age,
  size-Neg,
  size-Add,
  size-Sub,
  size-Times,
  size-Div,
  small-Num,
  small-Now,
  small-Prev,
  small-Age,
  small-Neg,
  small-Add,
  small-Sub,
  small-Times,
  small-Div,
  sized-Yes,
  sized-No,
  sized-Compare,
  sized-Memory,
  sized-Not,
  sized-And,
  sized-Or,
)

pub ruleset lengths = (
  leaves-Num,
  leaves-Now,
  leaves-Prev,
  leaves-Age,
  leaves-Neg,
  leaves-Add,
  leaves-Sub,
  leaves-Times,
  leaves-Div,
  factored-Num,
  factored-Now,
  factored-Prev,
  factored-Age,
  factored-Neg,
  factored-Add,
  factored-Sub,
  factored-Times,
  factored-Div,
  short-Yes,
  short-No,
  short-Compare,
  short-Memory,
  short-Not,
  short-And,
  short-Or,
)
