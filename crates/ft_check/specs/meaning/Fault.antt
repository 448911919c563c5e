-- What a refusal says of a certificate.
use Rattle.ft_linear.specs.meaning.Formula.{FormulaView}
use Rattle.ft_linear.specs.meaning.Part.{PartView}
use Rattle.ft_cert.specs.meaning.Evidence.{IsFirstRefused}
use Rattle.ft_cert.specs.meaning.Tree.{Tree}
use Rattle.ft_check.specs.declared.fault.CertFault.{CertFault}
use Rattle.ft_check.specs.declared.fault.CertFault.TheVariants as fault

-- the node is the first in prefix order that doesn't hold for its own part; of memory nothing can be said
abbrev pub IsFaultOf : FormulaView → PartView → Tree → CertFault → Type 0
IsFaultOf f p t (fault.Node k) = IsFirstRefused f p t k
IsFaultOf f p t fault.NoMemory = Unit {0}
