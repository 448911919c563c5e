-- What a measure tells of a value.
use Rattle.std.specs.Prelude.{◌≡◌, ◌≤◌, ℕ, ℤ, unsigned_abs, true, false, Some, None}
use Rattle.ft_tree.specs.declared.expr.Expr.{Expr}
use Rattle.ft_names.specs.declared.asked.Asked.{Asked}
use Rattle.ft_names.specs.meaning.Cards.{Env}
use Rattle.ft_names.specs.meaning.Parts.{first_part}
use Rattle.ft_measure.specs.declared.measure.Measure.{Measure}
use Rattle.ft_measure.specs.meaning.Measures.{is_above, limit, measure}
use Rattle.ft_measure.specs.meaning.Slopes.{slope}

-- a value is kept of a constant that isn't large, and is at most its size
pub record IsBounded (m : Measure) : Type 0 where
  pub constant : (x : ℤ) → m.value ≡ Some x → m.constant ≡ true
  pub large : (x : ℤ) → m.value ≡ Some x → m.large ≡ false
  pub sized : (x : ℤ) → m.value ≡ Some x → (n : ℕ) × (m.size ≡ Some n) × (unsigned_abs x ≤ n) × (n ≤ limit)

abbrev pub ValuesBounded : Type 0
ValuesBounded = (env : Env) (e : Expr) → IsBounded (measure env e)

-- neither a part of it nor the whole has a size above the limit
pub record IsSmall (m : Measure) : Type 0 where
  pub large : m.large ≡ false
  pub size : is_above m.size ≡ false

-- where no part of an expression is at fault, no constant counts as beyond every bound
abbrev pub LinearIsSmall : Type 0
LinearIsSmall = (env : Env) (asked : Asked) (e : Expr) → first_part (λ _. slope env) asked e ≡ None → IsSmall (measure env e)
