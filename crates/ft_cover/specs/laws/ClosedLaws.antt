-- What closed obligations of tables come to, for the crates above.
use Rattle.std.specs.Prelude.{ℕ, ◌*◌, ◌<◌, ◌≤◌, length}
use Rattle.ft_core.specs.declared.tables.Tables.{Tables}
use Rattle.ft_mean.specs.meaning.Proper.{AllProper}
use Rattle.ft_claims.specs.meaning.Areas.{Obliged}
use Rattle.ft_oblige.specs.meaning.Obligations.{IsObligation, Closes}

-- an obligation has this number, and it has no point
pub record IsClosed (S : Tables) (n : ℕ) : Type 0 where
  pub obliged : Obliged
  pub there : IsObligation S n obliged
  pub closes : Closes S n

-- where each obligation of a table is closed, each table is proper
abbrev pub ClosedTablesAreProper : Type 0
ClosedTablesAreProper = (S : Tables) → ((n : ℕ) → 0 < n → n ≤ 3 * length S.tables → IsClosed S n) → AllProper S
