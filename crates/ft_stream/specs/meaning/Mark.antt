-- A trace that stands in a longer text: what follows the first line that is exactly `trace:`, and the whole text where no line is.
use Rattle.std.specs.Prelude.{ℕ, ◌≡◌, ◌==◌, List, [], ◌∷◌, ◌++◌, length, drop, codes, Option, Some, None, if◌then◌else◌}
use Rattle.std.specs.List.{last_or, starts_with}
use Rattle.std.specs.Option.{unwrap_or}

-- LF
abbrev pub line_end : ℕ
line_end = 10

-- the line, with the LF that ends it
abbrev pub mark : List ℕ
mark = codes "trace:" ++ line_end ∷ []

-- the first place of a text at which an LF stands and then the mark, told by what follows them
abbrev pub after_first : List ℕ → Option (List ℕ)
after_first [] = None
after_first (byte ∷ rest) =
    if starts_with (λ a b. a == b) (byte ∷ rest) (line_end ∷ mark) then Some (drop (length mark) rest) else after_first rest

-- what follows the mark: the text begins as after an LF
abbrev pub after_mark : List ℕ → List ℕ
after_mark bytes = unwrap_or (after_first (line_end ∷ bytes)) bytes

-- a line of the text is the mark: this stands before the line, nothing or whole lines, and that after it
pub record HasMark (bytes before after : List ℕ) : Type 0 where
  pub cut : bytes ≡ before ++ (mark ++ after)
  pub whole_lines : last_or (Some line_end) before ≡ Some line_end
