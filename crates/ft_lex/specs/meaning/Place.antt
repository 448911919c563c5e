-- Places in a text.
use Rattle.std.specs.Prelude.{ℕ, ◌+◌, ◌==◌, List}
use Rattle.std.specs.List.{count_by, suffix_len}
use Rattle.ft_base.specs.declared.place.Place.{Place}
use Rattle.ft_lex.specs.meaning.Bytes.{is_within_line}

-- the place after these bytes: one more than the LFs among them, and one more than the bytes since the last LF
abbrev pub place_after : List ℕ → Place
place_after bytes = record { line = 1 + count_by (λ b. b == 10) bytes; column = 1 + suffix_len is_within_line bytes }
