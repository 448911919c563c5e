-- The bytes between tokens.
use Rattle.std.specs.Prelude.{ℕ, Bool, not, ◌==◌, ◌||◌}

-- space, tab, CR and LF
abbrev pub is_blank : ℕ → Bool
is_blank b = (b == 32) || (b == 9) || (b == 13) || (b == 10)

-- the byte begins a piece of space: it is a blank or `#`
abbrev pub begins_space : ℕ → Bool
begins_space b = is_blank b || (b == 35)

-- the byte stands within a line: it is no LF
abbrev pub is_within_line : ℕ → Bool
is_within_line b = not (b == 10)
