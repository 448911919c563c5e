-- A text spells one set.
use Rattle.std.specs.Prelude.{◌≡◌, ℕ, List}
use Rattle.ft_core.specs.declared.tables.Tables.{Tables}
use Rattle.ft_admit.specs.meaning.SetFaults.{IsSetOfText}

abbrev pub OneSet : Type 0
OneSet = (text : List ℕ) (S T : Tables) → IsSetOfText text S → IsSetOfText text T → S ≡ T
