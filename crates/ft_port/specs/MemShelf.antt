-- A shelf in memory.
use Rattle.std.specs.Prelude.{◌≡◌, ◌⊎◌, ℕ, List, Option, None}
use Rattle.std.specs.List.{find, Contains}
use Rattle.std.specs.Option.{option_and_then}
use Rattle.std.specs.Str.{bytes_eq}
use Rattle.ft_port.specs.Causes.{one_more}
use Rattle.ft_port.specs.declared.entry.Entry.{Entry}

-- its files, the numbers of the calls that fail, how many calls there were, and the counts of each name
pub record ShelfState : Type 0 where
  pub files : List (List ℕ × Option (List ℕ))
  pub failing : List ℕ
  pub calls : ℕ
  pub counts : List Entry

-- what stands under a name: the first entry of the name counts
abbrev pub content_in : List (List ℕ × Option (List ℕ)) → List ℕ → Option (List ℕ)
content_in files name = option_and_then (λ file. file.1) (find (λ file. bytes_eq file.0 name) files)

-- the next call is listed, or the file isn't there
abbrev pub MustFail : ShelfState → List ℕ → Type 0
MustFail shelf name = Contains shelf.failing (one_more shelf.calls) ⊎ (content_in shelf.files name ≡ None)
