-- Lines, and words with something after them.
use Rattle.std.specs.Prelude.{ℕ, List, [], ◌∷◌, ◌++◌, codes}
use Rattle.std.specs.Fmt.{decimal}
use Rattle.ft_core.specs.declared.tables.Section.{Section}
use Rattle.ft_core.specs.declared.tables.Section.TheVariants as section

-- a line ends with LF
abbrev pub line : List ℕ → List ℕ
line text = text ++ 10 ∷ []

-- words with a name after them
abbrev pub named : (words name : List ℕ) → List ℕ
named words name = words ++ codes " " ++ name

-- words with a scan after them
abbrev pub at_scan : (words : List ℕ) → ℕ → List ℕ
at_scan words scan = words ++ codes " at scan " ++ decimal scan

abbrev pub section_word : Section → List ℕ
section_word section.In = codes "in"
section_word section.Req = codes "req"
section_word section.Sof = codes "sof"
section_word section.Out = codes "out"
