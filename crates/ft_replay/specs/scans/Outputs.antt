-- The outputs of a trace of the design.
use Rattle.std.specs.Prelude.{ℕ, ◌≡◌, ◌<◌, length}
use Rattle.ft_core.specs.declared.tables.Tables.{Tables}
use Rattle.ft_core.specs.declared.tables.Var.{Var}
use Rattle.ft_core.specs.declared.tables.Side.TheVariants as side
use Rattle.ft_core.specs.meaning.Kinds.{outputs}
use Rattle.ft_mean.specs.meaning.Fits.{side_reading}
use Rattle.ft_mean.specs.meaning.Reading.{IsVar, Scans, reading_of}

-- the list of outputs that a trace puts out
abbrev pub AreOutputs : Tables → (trace list : Scans) → Type 0
AreOutputs S trace list = (length list ≡ length trace)
    × ((t x : ℕ) (v : Var) → t < length trace → IsVar S outputs x v → side_reading S side.Sof trace t x ≡ reading_of S outputs list t x)
