-- NAT at one scan, after the scan before where there is one.
use Rattle.std.specs.Prelude.{ℤ, Bool, List, [], ◌∷◌, Option, Some, None}
use Rattle.ft_core.specs.declared.tables.Tables.{Tables}
use Rattle.ft_core.specs.meaning.Kinds.{monitored}
use Rattle.ft_mean.specs.meaning.Allowed.{nat_at}
use Rattle.ft_mean.specs.meaning.Reading.{reading_of}

-- as at the only scan of a list, or as at the second of two
abbrev pub nat_after : Tables → (before : Option (List ℤ)) → (now : List ℤ) → Bool
nat_after S None now = nat_at S (reading_of S monitored (now ∷ [])) 0
nat_after S (Some before) now = nat_at S (reading_of S monitored (before ∷ now ∷ [])) 1
