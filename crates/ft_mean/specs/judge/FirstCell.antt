-- The first cell of a table that holds, row by row.
use Rattle.std.specs.Prelude.{ℕ, ◌+◌, Option, Some, None, List, [], ◌∷◌, ◌==◌, if◌then◌else◌}
use Rattle.std.specs.List.{zip}
use Rattle.std.specs.Option.{option_map, option_or}
use Rattle.ft_core.specs.declared.term.Term.{Term}
use Rattle.ft_core.specs.declared.term.Cond.{Cond}
use Rattle.ft_mean.specs.meaning.Value.{View, truth}

-- the first answer among those of the items, each of which is asked with its place; the first has place n
abbrev pub first_answer : {A B : Type 0} → (ℕ → A → Option B) → ℕ → List A → Option B
first_answer ask n [] = None
first_answer ask n (a ∷ items) = option_or (ask n a) (first_answer ask (n + 1) items)

-- this one if the condition is true
abbrev pub place_if : View → ℕ → Cond × Term → Option ℕ
place_if V column c = if truth V c.0 then Some column else None

-- the first column of a row whose condition is true
abbrev pub first_column : View → List Cond → List Term → Option ℕ
first_column V conds terms = first_answer (place_if V) 0 (zip conds terms)

-- the same in a row of a normal or an inverted table: its own condition is true too
abbrev pub headed_column : View → Cond → List Cond → List Term → Option ℕ
headed_column V row conds terms = if truth V row then first_column V conds terms else None

-- the same in a row of a vector table, for variable x
abbrev pub target_column : View → (x target : ℕ) → List Cond → List Term → Option ℕ
target_column V x target conds terms = if target == x then first_column V conds terms else None

-- a row's column, with the row
abbrev pub in_row : {A : Type 0} → (A → Option ℕ) → ℕ → A → Option (ℕ × ℕ)
in_row column row a = option_map (λ k. (row, k)) (column a)

-- the first row that has a column, and the column
abbrev pub first_row : {A : Type 0} → (A → Option ℕ) → List A → Option (ℕ × ℕ)
first_row column rows = first_answer (in_row column) 0 rows
