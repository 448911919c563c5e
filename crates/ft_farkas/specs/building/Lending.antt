-- The lines that a row is the sum of, one after another.
use Rattle.std.specs.Prelude.{ℕ, nat_eq, List, [], ◌∷◌, if◌then◌else◌}
use Rattle.ft_linear.specs.declared.lines.Line.{Line}
use Rattle.ft_farkas.specs.meaning.Rows.{with_times}

-- a line so many times, and no line where that is 0
abbrev pub lent_of : ℕ → Line → List Line
lent_of times line = if nat_eq times 0 then [] else with_times times line ∷ []
