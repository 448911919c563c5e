-- What is learned of one obligation of a table.
use Rattle.std.specs.Prelude.{ℕ, ◌+◌, ◌<◌, Bool, List, Option, Some, None}
use Rattle.ft_core.specs.declared.tables.Tables.{Tables}
use Rattle.ft_cert.specs.meaning.Tree.{Tree}
use Rattle.ft_claims.specs.meaning.Areas.{Obliged}
use Rattle.ft_oblige.specs.meaning.Obligations.{IsObligation, Closes}
use Rattle.ft_cover.specs.declared.trying.Attempt.{Attempt}
use Rattle.ft_cover.specs.declared.trying.Attempt.TheVariants.{Closed, Stopped}
use Rattle.ft_cover.specs.declared.answer.Cover.{Cover}
use Rattle.ft_cover.specs.meaning.Covered.{IsCertOf, AreCerts, IsFound, IsCover}

-- the obligation has no point, and a certificate says so
pub record IsClosedAt (S : Tables) (n : ℕ) (cert : Tree) : Type 0 where
  pub obliged : Obliged
  pub there : IsObligation S n obliged
  pub closes : Closes S n
  pub its : IsCertOf S n cert

abbrev pub IsAttempt : Tables → ℕ → Attempt → Type 0
IsAttempt S n (Closed cert) = IsClosedAt S n cert
IsAttempt S n (Stopped cover) = IsFound S n cover

-- the first n obligations are closed
pub record AreClosed (S : Tables) (keep : Bool) (n : ℕ) (certs : List Tree) : Type 0 where
  pub each : (i : ℕ) → i < n → (cert : Tree) × IsClosedAt S (i + 1) cert
  pub kept : AreCerts S keep n certs

-- after one more obligation: it is closed too, or it is the answer
abbrev pub IsStep : Tables → (keep : Bool) → ℕ → List Tree → Option Cover → Type 0
IsStep S keep n certs None = AreClosed S keep n certs
IsStep S keep n certs (Some cover) = IsCover S keep cover
