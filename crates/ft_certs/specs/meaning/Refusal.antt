-- How a text of certificates is refused.
use Rattle.std.specs.Prelude.{ℕ, ◌≡◌, List}
use Rattle.ft_lex.specs.meaning.Place.{place_after}
use Rattle.ft_certs.specs.declared.fault.CertText.{CertText}
use Rattle.ft_certs.specs.declared.fault.CertText.TheVariants as fault
use Rattle.ft_certs.specs.meaning.Fault.{FaultAfter, Texts}
use Rattle.ft_certs.specs.meaning.Text.{Spelled, Spells}

-- the texts that spell certificates
abbrev pub Whole : Texts
Whole w = (c : Spelled) × Spells w c

-- the place is that of the first byte with which no text of certificates goes on, or the end
abbrev pub IsTextFault : List ℕ → CertText → Type 0
IsTextFault text (fault.Text place) = (front : List ℕ) × FaultAfter Whole text front × (place ≡ place_after front)
IsTextFault text fault.NoMemory = Unit {0}
