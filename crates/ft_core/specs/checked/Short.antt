-- How long a term may be, and what may stand in it as a factor or a divisor.
use Rattle.std.specs.Prelude.{ℕ, ◌+◌, ◌≡◌, nat_le, pos, unsigned_abs, int_le, Bool, true, ◌&&◌, IsTrue, List, ◌++◌}
use Rattle.std.specs.List.{list_all}
use Rattle.ft_core.specs.declared.tables.Memory.{Memory}
use Rattle.ft_core.specs.declared.tables.Memory.TheVariants.{Held, Hyst}
use Rattle.ft_core.specs.declared.tables.Table.{Table}
use Rattle.ft_core.specs.declared.tables.Grid.{Grid}
use Rattle.ft_core.specs.declared.tables.Grid.TheVariants.{Normal, Inverted, Vector}
use Rattle.ft_core.specs.declared.term.Term.{Term, Term-F, fold-Term}
use Rattle.ft_core.specs.declared.term.Term.TheOpen as term
use Rattle.ft_core.specs.declared.term.Cond.{Cond, Cond-F, fold-Cond}
use Rattle.ft_core.specs.declared.term.Cond.TheOpen as cond

abbrev pub layer_leaves : Term-F ℕ → ℕ
layer_leaves (term.Num n) = 1
layer_leaves (term.Now x) = 1
layer_leaves (term.Prev x) = 1
layer_leaves (term.Age m) = 1
layer_leaves (term.Neg e) = e
layer_leaves (term.Add a b) = a + b
layer_leaves (term.Sub a b) = a + b
layer_leaves (term.Times c e) = e
layer_leaves (term.Div e k) = e

-- how many numbers, variables and ages a term is made of
unfoldable pub leaves : Term → ℕ
leaves = fold-Term ℕ layer_leaves

abbrev pub layer_factored : Term-F Bool → Bool
layer_factored (term.Num n) = true
layer_factored (term.Now x) = true
layer_factored (term.Prev x) = true
layer_factored (term.Age m) = true
layer_factored (term.Neg e) = e
layer_factored (term.Add a b) = a && b
layer_factored (term.Sub a b) = a && b
layer_factored (term.Times c e) = nat_le (unsigned_abs c) 1000000 && e
layer_factored (term.Div e k) = e && int_le (pos 1) k && int_le k (pos 1000000)

-- each factor is at most 1,000,000 either way, and each divisor 1 to 1,000,000
unfoldable pub is_factored : Term → Bool
is_factored = fold-Term Bool layer_factored

-- a term of at most 2,000 leaves, with factors and divisors in their limits
abbrev pub is_short_term : Term → Bool
is_short_term e = nat_le (leaves e) 2000 && is_factored e

abbrev pub layer_short : Cond-F Bool → Bool
layer_short cond.Yes = true
layer_short cond.No = true
layer_short (cond.Compare r a b) = is_short_term a && is_short_term b
layer_short (cond.Memory m) = true
layer_short (cond.Not a) = a
layer_short (cond.And a b) = a && b
layer_short (cond.Or a b) = a && b

-- each term of a condition is short
unfoldable pub is_short : Cond → Bool
is_short = fold-Cond Bool layer_short

abbrev pub is_short_memory : Memory → Bool
is_short_memory (Held name side c hold) = is_short c
is_short_memory (Hyst name side e lo hi start) = is_short_term e

abbrev pub is_short_grid : Grid → Bool
is_short_grid (Normal target columns rows terms) = list_all is_short columns && list_all is_short rows
    && list_all (list_all is_short_term) terms
is_short_grid (Inverted target terms rows grid) = list_all is_short_term terms && list_all is_short rows
    && list_all (list_all is_short) grid
is_short_grid (Vector columns targets terms) = list_all is_short columns && list_all (list_all is_short_term) terms

-- what was checked of the terms of a set beside their sizes; those of invariants are spoken of with the blocks
pub record AreShort (memories : List Memory) (tables : List Table) (first always step : List Cond) : Type 0 where
  pub of_memories : IsTrue (list_all is_short_memory memories)
  pub of_tables : IsTrue (list_all (λ table. is_short_grid table.grid) tables)
  pub of_clauses : IsTrue (list_all is_short (first ++ always ++ step))
